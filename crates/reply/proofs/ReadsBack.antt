-- What is written reads back.
use Rattle.answer.proofs.Drafts.{written_first}
use Prim.Native.Nat.{ℕ, ◌<◌}
use mathlib.Core.Path.{◌≡◌, refl, sym, ap, ◌∙◌}
use mathlib.Core.Bool.{Bool}
use mathlib.Core.List.{List, [], ◌∷◌, ◌++◌}
use native.Mathlib.Omega.{arith}
use lib.Dec.{leb}
use lib.ListN.{length, take}
use borrow.Author.Tests.{lt-ltb}
use Rattle.answer.specs.Draft.{draft_answer, draft_out}
use Rattle.answer.specs.Answer.{result, refused, Answer, through}
use Rattle.lists.proofs.Cases.{by_bool}
use Rattle.command.specs.Entries.{Entry, entry, items, entry_bytes, WellFormed, Parsed, unsound, sound, parse, nth_of}
use Rattle.command.specs.Answers.{part_of}
use Rattle.command.proofs.Extents.{parse_last, nth_earlier, data_at}
use Rattle.reply.specs.Status.{status, status_in, StatusParts}
use Rattle.reply.specs.Replies.{reply, head_in, after_status, reply_in, item_of, nth_item, status_draft, with_item}
use Rattle.reply.specs.Replies.{item_bytes, after_reply, item_draft, Reply}

-- a reply's bytes are a status byte and sound items
pub reply_means_lem : (w : List ℕ) (t : Bool) (p s : ℕ) (es : List Entry) → reply_in w ≡ result (reply t p s es)
    → (b : ℕ) × (v : List ℕ) × (w ≡ b ∷ v) × (status_in b ≡ result (status t p s)) × (parse items v 0 ≡ sound es)
unfolding reply_in head_in after_status
reply_means_lem [] t p s es h = let z : ◌≡◌ {A = ℕ} 0 1 = cc in absurd (omega arith)
reply_means_lem (b ∷ v) t p s es h = case (status_in b) (parse items v 0) refl refl h
  where
    case : (a : Answer StatusParts) (q : Parsed) → status_in b ≡ a → parse items v 0 ≡ q
        → after_status a q ≡ result (reply t p s es)
        → (c : ℕ) × (u : List ℕ) × (b ∷ v ≡ c ∷ u) × (status_in c ≡ result (status t p s)) × (parse items u 0 ≡ sound es)
    case (refused k) q e f g = let z : ◌≡◌ {A = ℕ} 0 1 = cc in absurd (omega arith)
    case (result (status t' p' s')) (unsound at) e f g = let z : ◌≡◌ {A = ℕ} 0 1 = cc in absurd (omega arith)
    case (result (status t' p' s')) (sound fs) e f g =
        let i : result (status t' p' s') ≡ result (status t p s) = cc in
        let j : sound fs ≡ sound es = cc in (b, v, refl, e ∙ i, f ∙ j)

reply_of : (b : ℕ) (v : List ℕ) (t : Bool) (p s : ℕ) (es : List Entry) → status_in b ≡ result (status t p s)
    → parse items v 0 ≡ sound es → reply_in (b ∷ v) ≡ result (reply t p s es)
unfolding reply_in head_in after_status
reply_of b v t p s es e f =
    ap (λ (a : Answer StatusParts). after_status a (parse items v 0)) e ∙ ap (after_status (result (status t p s))) f

-- A status alone reads back as that status and no items.
pub status_reads_back : (b : ℕ) (w : List ℕ) → status_draft b ≡ result w
    → (t : Bool) × (p : ℕ) × (s : ℕ) × (status_in b ≡ result (status t p s)) × (reply_in w ≡ result (reply t p s []))
unfolding status_draft parse
status_reads_back b w h = case (status_in b) refl h
  where
    case : (a : Answer StatusParts) → status_in b ≡ a → through (λ t. b ∷ []) a ≡ result w
        → (t : Bool) × (p : ℕ) × (s : ℕ) × (status_in b ≡ result (status t p s)) × (reply_in w ≡ result (reply t p s []))
    case (refused k) e f = let z : ◌≡◌ {A = ℕ} 0 1 = cc in absurd (omega arith)
    case (result (status t p s)) e f =
        let i : b ∷ [] ≡ w = cc in (t, p, s, e, ap reply_in (sym i) ∙ reply_of b [] t p s [] e refl)

-- an item's byte has a count
item_bytes_lem : (b : ℕ) (d : List ℕ) → b < 256 → entry_bytes items (entry b d) ≡ item_bytes b d
unfolding entry_bytes
item_bytes_lem b d h = simp (lt-ltb b 256 h)

with_item_means : (s : List ℕ) (b : ℕ) (d w : List ℕ) → with_item s b d ≡ result w → w ≡ s ++ item_bytes b d
unfolding with_item
with_item_means s b d w h =
    by_bool (leb (length d) 255)
    (λ x. by_bool (leb (length (s ++ item_bytes b d)) 117)
    (λ y. let q : result (s ++ item_bytes b d) ≡ result w = simp (x, y) at h in
    let i : w ≡ s ++ item_bytes b d = cc in i)
    (λ y. let q : refused 2 ≡ result w = simp (x, y) at h in let z : ◌≡◌ {A = ℕ} 0 1 = cc in absurd (omega arith)))
    (λ x. let q : refused 7 ≡ result w = simp x at h in let z : ◌≡◌ {A = ℕ} 0 1 = cc in absurd (omega arith))

-- What is written reads back as the same status, the items so far, and the new one last.
pub item_reads_back : (s : List ℕ) (b : ℕ) (d w : List ℕ) → b < 256 → item_draft s b d ≡ result w
    → (t : Bool) × (p : ℕ) × (x : ℕ) × (es : List Entry) × (reply_in s ≡ result (reply t p x es))
    × (reply_in w ≡ result (reply t p x (es ++ (entry b d ∷ []))))
unfolding item_draft after_reply
item_reads_back s b d w g h = case (reply_in s) refl h
  where
    case : (r : Answer Reply) → reply_in s ≡ r → after_reply r (with_item s b d) ≡ result w
        → (t : Bool) × (p : ℕ) × (x : ℕ) × (es : List Entry) × (reply_in s ≡ result (reply t p x es))
        × (reply_in w ≡ result (reply t p x (es ++ (entry b d ∷ []))))
    case (refused k) e f = let z : ◌≡◌ {A = ℕ} 0 1 = cc in absurd (omega arith)
    case (result (reply t p x es)) e f =
        let m = reply_means_lem s t p x es e in
        let c = m.0 in
        let v = m.1 in
        let formed : WellFormed items (entry b d) = λ k. absurd (omega arith) in
        let last = parse_last items v es (entry b d) m.4 formed in (
          t,
          p,
          x,
          es,
          e,
          ap reply_in
              (with_item_means s b d w f ∙ ap (λ (l : List ℕ). s ++ l) (sym (item_bytes_lem b d g))
              ∙ ap (λ (l : List ℕ). l ++ entry_bytes items (entry b d)) m.2)
              ∙ reply_of c (v ++ entry_bytes items (entry b d)) t p x (es ++ (entry b d ∷ [])) m.3 last,
        )

-- Every earlier item is found as it was.
pub earlier_items : (s w : List ℕ) (t : Bool) (p x : ℕ) (es : List Entry) (e : Entry) (n : ℕ)
    → reply_in s ≡ result (reply t p x es) → reply_in w ≡ result (reply t p x (es ++ (e ∷ []))) → n < length es
    → nth_item w n ≡ nth_item s n
unfolding item_of
earlier_items s w t p x es e n h k l =
    ap (λ (r : Answer Reply). item_of r n) k ∙ nth_earlier items 1 es (e ∷ []) n l
    ∙ sym (ap (λ (r : Answer Reply). item_of r n) h)

-- The n-th item's data, as `nth_item_data` hands it back, is the data of the n-th item.
pub item_data_is : (w : List ℕ) (t : Bool) (p x : ℕ) (before : List Entry) (e : Entry) (rest : List Entry)
    → reply_in w ≡ result (reply t p x (before ++ (e ∷ rest)))
    → part_of w (nth_item w (length before)) ≡ e.body
unfolding item_of
item_data_is w t p x before e rest h =
    let m = reply_means_lem w t p x (before ++ (e ∷ rest)) h in
    ap (λ (r : Answer Reply). part_of w (item_of r (length before))) h
    ∙ ap (λ (l : List ℕ). part_of l (nth_of items 1 (before ++ (e ∷ rest)) (length before))) m.2
    ∙ data_at items (m.0 ∷ []) m.1 before e rest m.4

-- ---- the same of the answers and the lent output

-- What a call of `write_item` left in an output with room, read from there, has the items so far and the new one last.
pub written_item_reads_back : (s : List ℕ) (b : ℕ) (d out : List ℕ) (n : ℕ) → b < 256
    → draft_answer (item_draft s b d) (length out) ≡ result n
    → (t : Bool) × (p : ℕ) × (x : ℕ) × (es : List Entry) × (reply_in s ≡ result (reply t p x es))
    × (reply_in (take n (draft_out (item_draft s b d) out)) ≡ result (reply t p x (es ++ (entry b d ∷ []))))
written_item_reads_back s b d out n h e =
    let k = written_first (item_draft s b d) out n e in
    let r = item_reads_back s b d k.0 h k.1 in
    (r.0, r.1, r.2, r.3, r.4, ap reply_in k.3 ∙ r.5)

-- The same of `write_status`.
pub written_status_reads_back : (b : ℕ) (out : List ℕ) (n : ℕ) → draft_answer (status_draft b) (length out) ≡ result n
    → (t : Bool) × (p : ℕ) × (s : ℕ) × (status_in b ≡ result (status t p s))
    × (reply_in (take n (draft_out (status_draft b) out)) ≡ result (reply t p s []))
written_status_reads_back b out n e =
    let k = written_first (status_draft b) out n e in
    let r = status_reads_back b k.0 k.1 in
    (r.0, r.1, r.2, r.3, ap reply_in k.3 ∙ r.4)
