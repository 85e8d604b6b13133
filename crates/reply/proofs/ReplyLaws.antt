-- Laws of replies that the functions' proofs cite.
use Prim.Native.Nat.{ℕ, ◌+◌, ◌≤◌, ◌<◌}
use mathlib.Core.Path.{◌≡◌, refl, sym, ap, ◌∙◌}
use mathlib.Core.Bool.{Bool}
use mathlib.Core.List.{List, [], ◌∷◌, ◌++◌, append_assoc}
use native.Mathlib.Omega.{arith}
use lib.ListN.{length, get_or, drop, set, length-append, length-set}
use borrow.Author.Tests.{le-leb, lt-leb}
use Rattle.answer.specs.Answer.{result, refused, Answer, through}
use Rattle.answer.specs.Draft.{Writes}
use Rattle.answer.proofs.Drafts.{writes_no_room}
use Rattle.lists.specs.Splice.{splice}
use Rattle.lists.proofs.Splices.{length-splice, splice_next, set-splice}
use Rattle.command.specs.Entries.{items, Parsed, unsound, sound, parse, nth_in, Extent}
use Rattle.command.specs.Answers.{entry_count, fails_at, counted, InContents}
use Rattle.command.proofs.Extents.{within_nth}
use Rattle.reply.specs.Status.{status, status_in, StatusParts}
use Rattle.reply.specs.Replies.{reply, head_in, after_status, reply_in, reply_outline, reply_answer, item_of, nth_item}
use Rattle.reply.specs.Replies.{status_draft, item_bytes, with_item, after_reply, item_draft, Reply}

-- ---- the status at the head

pub head_short : (s : List ℕ) → length s ≡ 0 → refused 4 ≡ head_in s
unfolding head_in
head_short [] h = refl
head_short (b ∷ s) h = absurd (omega arith)

pub head_is : (s : List ℕ) → (length s ≡ 0 → ⊥) → {a : Answer StatusParts} → a ≡ status_in (get_or s 0 0) → a ≡ head_in s
unfolding head_in
head_is [] h e = absurd (h refl)
head_is (b ∷ s) h e = e

-- contents as a reply, by what their head is answered
pub headed : (s : List ℕ) {a : Answer StatusParts} → a ≡ head_in s
    → reply_in s ≡ after_status a (parse items (drop 1 s) 0)
unfolding reply_in
headed s e = ap (λ (a : Answer StatusParts). after_status a (parse items (drop 1 s) 0)) (sym e)

-- ---- reading

pub read_refused : (s : List ℕ) (k : ℕ) → reply_in s ≡ after_status (refused k) (parse items (drop 1 s) 0)
    → refused k ≡ reply_answer (reply_in s)
unfolding after_status reply_answer
read_refused s k h = sym (ap reply_answer h)

pub items_unsound : (t : Bool) (p s from : ℕ) (q : Parsed) (at : ℕ) → counted from q ≡ fails_at 7 at
    → refused 7 ≡ reply_answer (after_status (result (status t p s)) q)
unfolding after_status reply_answer counted
items_unsound t p s from (unsound k) at e = refl
items_unsound t p s from (sound es) at e = let z : ◌≡◌ {A = ℕ} 0 1 = cc in absurd (omega arith)

pub items-counted : (t : Bool) (p s from : ℕ) (q : Parsed) (n : ℕ) → counted from q ≡ entry_count n
    → result (reply_outline t p s n) ≡ reply_answer (after_status (result (status t p s)) q)
unfolding after_status reply_answer counted
items-counted t p s from (unsound k) n e = let z : ◌≡◌ {A = ℕ} 0 1 = cc in absurd (omega arith)
items-counted t p s from (sound es) n e = let m : n ≡ length es = cc in ap (λ (k : ℕ). result (reply_outline t p s k)) m

pub item_refused_lem : (s : List ℕ) (n k : ℕ) → reply_in s ≡ after_status (refused k) (parse items (drop 1 s) 0)
    → refused k ≡ nth_item s n
unfolding after_status item_of
item_refused_lem s n k h = sym (ap (λ (r : Answer Reply). item_of r n) h)

pub item_is : (s : List ℕ) (n : ℕ) (t : Bool) (p x : ℕ)
    → reply_in s ≡ after_status (result (status t p x)) (parse items (drop 1 s) 0)
    → {a : Answer Extent} → a ≡ nth_in items 1 (parse items (drop 1 s) 0) n → a ≡ nth_item s n
unfolding after_status item_of nth_in
item_is s n t p x h e = e ∙ of_parsed (parse items (drop 1 s) 0) ∙ sym (ap (λ (r : Answer Reply). item_of r n) h)
  where
    of_parsed : (q : Parsed) → nth_in items 1 q n ≡ item_of (after_status (result (status t p x)) q) n
    of_parsed (unsound at) = refl
    of_parsed (sound es) = refl

-- An item stands within the contents.
pub item_within : (s : List ℕ) (n : ℕ) → InContents s (nth_item s n)
unfolding reply_in after_status item_of nth_in
item_within s n = case (head_in s) (parse items (drop 1 s) 0) (within_nth items 1 s n)
  where
    case : (h : Answer StatusParts) (q : Parsed) → InContents s (nth_in items 1 q n)
        → InContents s (item_of (after_status h q) n)
    case (refused k) q w = tt
    case (result (status t p x)) (unsound at) w = tt
    case (result (status t p x)) (sound es) w = w

-- ---- the draft of a status byte

pub status_refused : (b k : ℕ) → refused k ≡ status_in b → status_draft b ≡ refused k
unfolding status_draft
status_refused b k e = sym (ap (through (λ t. b ∷ [])) e)

pub status_sound : (b : ℕ) (t : Bool) (p s : ℕ) → result (status t p s) ≡ status_in b → status_draft b ≡ result (b ∷ [])
unfolding status_draft
status_sound b t p s e = sym (ap (through (λ t. b ∷ [])) e)

-- ---- the draft of an item

module _ (s : List ℕ) (b : ℕ) (d : List ℕ) where
  pub whole_length : length (s ++ item_bytes b d) ≡ length s + 2 + length d
  whole_length = length-append s (item_bytes b d) ∙ omega arith

  pub item_count : 255 < length d → with_item s b d ≡ refused 7
  unfolding with_item
  item_count h = simp (lt-leb (length d) 255 h)

  pub item_long : length d ≤ 255 → 117 < length s + 2 + length d → with_item s b d ≡ refused 2
  unfolding with_item
  item_long h k =
      simp (le-leb (length d) 255 h, lt-leb (length (s ++ item_bytes b d)) 117 (omega (arith, whole_length)))

  pub item_fits_lem : length d ≤ 255 → length s + 2 + length d ≤ 117 → with_item s b d ≡ result (s ++ item_bytes b d)
  unfolding with_item
  item_fits_lem h k =
      simp (le-leb (length d) 255 h, le-leb (length (s ++ item_bytes b d)) 117 (omega (arith, whole_length)))

  -- an output that is too short
  pub item_no_room_lem : (out : List ℕ) → length d ≤ 255 → length s + 2 + length d ≤ 117
      → length out < length s + 2 + length d → Writes (with_item s b d) out (refused 1) out
  item_no_room_lem out h k l =
      writes_no_room (with_item s b d) (s ++ item_bytes b d) out (item_fits_lem h k) (omega (arith, whole_length))

-- ---- writing an item after the contents so far

pub put_written : (s d out o₁ o₄ : List ℕ) (b : ℕ) → length s + 2 + length d ≤ length out → o₁ ≡ splice out 0 s
    → o₄ ≡ splice (set (set o₁ (length s) b) (length s + 1) (length d)) (length s + 2) d
    → o₄ ≡ splice out 0 (s ++ (b ∷ length d ∷ d))
put_written s d out o₁ o₄ b room e f =
    let n = length d in
    let l₁ : length o₁ ≡ length out = ap length e ∙ length-splice out 0 s (omega arith) in
    let p = s ++ (b ∷ []) in
    let q = p ++ (n ∷ []) in
    let lp : length p ≡ length s + 1 = length-append s (b ∷ []) in
    let lq : length q ≡ length s + 2 = length-append p (n ∷ []) ∙ omega arith in
    let e₂ : set o₁ (length s) b ≡ splice out 0 p =
    splice_next out 0 s (b ∷ []) (length s) (omega arith) e (omega arith) (set-splice o₁ (length s) b (omega arith)) in
    let l₂ : length (set o₁ (length s) b) ≡ length out = length-set o₁ (length s) b ∙ l₁ in
    let e₃ : set (set o₁ (length s) b) (length s + 1) n ≡ splice out 0 q =
    splice_next out 0 p (n ∷ []) (length s + 1) (omega arith) e₂ (omega arith)
    (set-splice (set o₁ (length s) b) (length s + 1) n (omega arith)) in
    splice_next out 0 q d (length s + 2) (omega arith) e₃ (omega arith) f
    ∙ ap (splice out 0) (append_assoc p (n ∷ []) d ∙ append_assoc s (b ∷ []) (n ∷ d))

-- ---- after the contents so far are read

pub prior_refused : (s : List ℕ) (b : ℕ) (d : List ℕ) (k : ℕ) → refused k ≡ reply_answer (reply_in s)
    → item_draft s b d ≡ refused k
unfolding reply_answer item_draft after_reply
prior_refused s b d k e = of_reply (reply_in s) e
  where
    of_reply : (r : Answer Reply) → refused k ≡ reply_answer r → after_reply r (with_item s b d) ≡ refused k
    of_reply (result (reply t p x es)) e = let z : ◌≡◌ {A = ℕ} 0 1 = cc in absurd (omega arith)
    of_reply (refused m) e = let i : k ≡ m = cc in ap refused (sym i)

pub prior_sound : (s : List ℕ) (b : ℕ) (d : List ℕ) (t : Bool) (p x n : ℕ)
    → result (reply_outline t p x n) ≡ reply_answer (reply_in s) → with_item s b d ≡ item_draft s b d
unfolding reply_answer item_draft after_reply
prior_sound s b d t p x n e = of_reply (reply_in s) e
  where
    of_reply : (r : Answer Reply) → result (reply_outline t p x n) ≡ reply_answer r
        → with_item s b d ≡ after_reply r (with_item s b d)
    of_reply (result (reply t' p' x' es)) e = refl
    of_reply (refused m) e = let z : ◌≡◌ {A = ℕ} 0 1 = cc in absurd (omega arith)
