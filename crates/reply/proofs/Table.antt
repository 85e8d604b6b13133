-- Which answer is given exactly when: document 01's table for replies.
use Prim.Native.Nat.{ℕ, ◌+◌}
use mathlib.Core.Path.{◌≡◌, refl, sym, ap, ◌∙◌, subst}
use mathlib.Core.List.{List, [], ◌∷◌, ◌++◌, append_assoc}
use native.Mathlib.Omega.{arith}
use lib.Dec.{leb}
use lib.ListN.{length, drop}
use borrow.Author.Tests.{leb-true, leb-false}
use Rattle.lists.specs.Choice.{Exactly}
use Rattle.lists.specs.Splice.{splice}
use Rattle.lists.proofs.Cases.{by_bool}
use Rattle.answer.specs.Answer.{Answer, result, refused}
use Rattle.answer.specs.Draft.{Writes}
use Rattle.answer.proofs.Drafts.{writes_refusal, writes_no_room, writes_done}
use Rattle.command.specs.Entries.{items, Parsed, unsound, sound, parse, nth_in, Extent, found}
use Rattle.command.specs.Table.{Nth, bad_count, absent, present}
use Rattle.command.proofs.Sound.{sound_exactly}
use Rattle.command.proofs.Table.{unsound_exactly, list_sound, nth_by_table}
use Rattle.reply.specs.Status.{StatusParts, status, StatusByte, status_in, is_fault}
use Rattle.reply.specs.Replies.{Reply, head_in, after_status, reply_in, ReplyOutline, reply_answer, item_of}
use Rattle.reply.specs.Replies.{nth_item, status_draft, item_bytes, with_item, after_reply, item_draft}
use Rattle.reply.specs.Table.{IsReply, is_reply, NoReply, empty, faulty, unsound_items, ReplyJudged, refused_as}
use Rattle.reply.specs.Table.{read_as, ItemJudged, item_refused, absent_item, present_item, StatusWritten}
use Rattle.reply.specs.Table.{status_fault, status_no_room, status_fits, ItemWritten, no_prior, long_data, long_reply}
use Rattle.reply.specs.Table.{item_no_room, item_fits}
use Rattle.reply.proofs.StatusLaws.{sound_byte, byte_sound, refused_fault, status_by_table}
use Rattle.reply.proofs.ReplyLaws.{item_is, status_refused, status_sound, item_count, item_long, item_fits_lem}
use Rattle.reply.proofs.ReplyLaws.{whole_length}

-- ---- contents as a reply

reply_of : {s : List ℕ} {r : Reply} → IsReply s r → reply_in s ≡ result r
unfolding reply_in head_in after_status
reply_of (is_reply {b = b} {rest = rest} {t = t} {p = p} {x = x} j l) =
    ap (λ (a : Answer StatusParts). after_status a (parse items rest 0)) (byte_sound b (status t p x) j)
    ∙ ap (after_status (result (status t p x))) (list_sound l)

refused_as_lem : {s : List ℕ} {k : ℕ} → NoReply s k → reply_in s ≡ refused k
unfolding reply_in head_in after_status
refused_as_lem empty = refl
refused_as_lem (faulty {b = b} {rest = rest} n) =
    ap (λ (a : Answer StatusParts). after_status a (parse items rest 0)) ((status_by_table b (refused 8)).1 (is_fault n))
refused_as_lem (unsound_items {b = b} {rest = rest} {t = status t p x} {at = at} j u) =
    ap (λ (a : Answer StatusParts). after_status a (parse items rest 0)) (byte_sound b (status t p x) j)
    ∙ ap (after_status (result (status t p x))) ((unsound_exactly items rest at).1 u)

-- contents, and what they are
data Line (s : List ℕ) : Answer Reply → Type 0 where
  refused_line : {k : ℕ} → NoReply s k → Line s (refused k)
  reply_line : {r : Reply} → IsReply s r → Line s (result r)

line_of : (s : List ℕ) → Line s (reply_in s)
unfolding reply_in head_in after_status
line_of [] = refused_line empty
line_of (b ∷ v) = case (status_in b) (parse items v 0) refl refl
  where
    case : (a : Answer StatusParts) (q : Parsed) → status_in b ≡ a → parse items v 0 ≡ q
        → Line (b ∷ v) (after_status a q)
    case (refused k) q e f =
        let n = refused_fault b k e in
        subst (λ (m : ℕ). Line (b ∷ v) (refused m)) (sym n.0) (refused_line (faulty n.1))
    case (result (status t p x)) (unsound at) e f =
        refused_line (unsound_items (sound_byte b (status t p x) e) ((unsound_exactly items v at).0 f))
    case (result (status t p x)) (sound es) e f =
        let m = (sound_exactly items v es).0 f in
        reply_line (is_reply (sound_byte b (status t p x) e) (record { formed = m.1; bytes = sym m.0 }))

-- Contents are a reply exactly when they are the byte of a status and the bytes of items after it.
pub is_reply_lem : (s : List ℕ) (r : Reply) → Exactly (reply_in s ≡ result r) (IsReply s r)
is_reply_lem s r = ((λ e. known (line_of s) e), reply_of)
  where
    known : {a : Answer Reply} → Line s a → a ≡ result r → IsReply s r
    known (refused_line {k = k} n) e = let z : ◌≡◌ {A = ℕ} 0 1 = cc in absurd (omega arith)
    known (reply_line {r = q} j) e = let i : q ≡ r = cc in subst (IsReply s) i j

-- ---- reading

read_line : {s : List ℕ} {a : Answer Reply} → Line s a → ReplyJudged s (reply_answer a)
unfolding reply_answer
read_line (refused_line n) = refused_as n
read_line (reply_line r) = read_as r

line_read : {s : List ℕ} {a : Answer ReplyOutline} → ReplyJudged s a → reply_answer (reply_in s) ≡ a
unfolding reply_answer
line_read (refused_as n) = ap reply_answer (refused_as_lem n)
line_read (read_as r) = ap reply_answer (reply_of r)

-- Every answer to reading a reply is given exactly when the table gives it.
pub read_by_table : (s : List ℕ) (a : Answer ReplyOutline) → Exactly (reply_answer (reply_in s) ≡ a) (ReplyJudged s a)
read_by_table s a = ((λ e. subst (ReplyJudged s) e (read_line (line_of s))), line_read)

-- ---- the n-th item

-- the n-th item of a status byte and bytes after it is the n-th entry of those
item_rest : (b : ℕ) (rest : List ℕ) (t : StatusParts) (n : ℕ) → StatusByte b t
    → nth_item (b ∷ rest) n ≡ nth_in items 1 (parse items rest 0) n
unfolding reply_in head_in
item_rest b rest (status t p x) n j =
    sym (item_is (b ∷ rest) n t p x
    (ap (λ (a : Answer StatusParts). after_status a (parse items rest 0)) (byte_sound b (status t p x) j)) refl)

nth_item_lem : {b : ℕ} {rest : List ℕ} {n : ℕ} {a : Answer Extent} (t : StatusParts) → StatusByte b t
    → Nth items 1 rest n a → ItemJudged (b ∷ rest) n a
nth_item_lem t j (bad_count u) = item_refused (unsound_items j u)
nth_item_lem (status t p x) j (absent l h) = absent_item (is_reply j l) h
nth_item_lem t j (present e) = present_item j e

item_line : (s : List ℕ) (n : ℕ) → ItemJudged s n (nth_item s n)
unfolding reply_in head_in after_status item_of
item_line [] n = item_refused empty
item_line (b ∷ rest) n = case (status_in b) refl
  where
    case : (a : Answer StatusParts) → status_in b ≡ a → ItemJudged (b ∷ rest) n (nth_item (b ∷ rest) n)
    case (refused k) e =
        let r : NoReply (b ∷ rest) 8 = faulty (refused_fault b k e).1 in
        subst (ItemJudged (b ∷ rest) n) (sym (ap (λ (a : Answer Reply). item_of a n) (refused_as_lem r))) (item_refused r)
    case (result t) e =
        let j = sound_byte b t e in
        nth_item_lem t j ((nth_by_table items 1 rest n (nth_item (b ∷ rest) n)).0 (sym (item_rest b rest t n j)))

line_item : {s : List ℕ} {n : ℕ} {a : Answer Extent} → ItemJudged s n a → nth_item s n ≡ a
unfolding item_of
line_item (item_refused {n = n} r) = ap (λ (a : Answer Reply). item_of a n) (refused_as_lem r)
line_item (absent_item {n = n} (is_reply {b = b} {rest = rest} {t = t} {p = p} {x = x} j l) h) =
    item_rest b rest (status t p x) n j ∙ (nth_by_table items 1 rest n (refused 15)).1 (absent l h)
line_item (present_item {b = b} {rest = rest} {t = t} {n = n} {byte = c} {start = start} {len = len} j e) =
    item_rest b rest t n j ∙ (nth_by_table items 1 rest n (result (found c start len))).1 (present e)

-- Every answer to a call for the n-th item is given exactly when the table gives it.
pub item_by_table : (s : List ℕ) (n : ℕ) (a : Answer Extent) → Exactly (nth_item s n ≡ a) (ItemJudged s n a)
item_by_table s n a = ((λ e. subst (ItemJudged s n) e (item_line s n)), line_item)

-- ---- writing a status

status_writes : {b : ℕ} {out : List ℕ} {a : Answer ℕ} {last : List ℕ} → StatusWritten b out a last
    → Writes (status_draft b) out a last
status_writes {b} {out} (status_fault n) =
    writes_refusal (status_draft b) 8 out (status_refused b 8 (sym ((status_by_table b (refused 8)).1 (is_fault n))))
status_writes {b} (status_no_room {t = status t p x} j) =
    writes_no_room (status_draft b) (b ∷ []) []
    (status_sound b t p x (sym (byte_sound b (status t p x) j))) (omega arith)
status_writes {b} (status_fits {t = status t p x} {x = y} {out = out} j) =
    writes_done (status_draft b) (b ∷ []) (y ∷ out) (b ∷ out)
    (status_sound b t p x (sym (byte_sound b (status t p x) j))) (omega arith) refl

some_status : (b : ℕ) (out : List ℕ) → (a : Answer ℕ) × (last : List ℕ) × StatusWritten b out a last
some_status b out = case (status_in b) refl out
  where
    case : (x : Answer StatusParts) → status_in b ≡ x → (out : List ℕ)
        → (a : Answer ℕ) × (last : List ℕ) × StatusWritten b out a last
    case (refused k) e out = (refused 8, out, status_fault (refused_fault b k e).1)
    case (result t) e [] = (refused 1, [], status_no_room (sound_byte b t e))
    case (result t) e (y ∷ out) = (result 1, b ∷ out, status_fits (sound_byte b t e))

-- Every answer to writing a status byte alone is given, and every output left, exactly when the table says so.
pub status_written_by_table : (b : ℕ) (out : List ℕ) (a : Answer ℕ) (last : List ℕ)
    → Exactly (Writes (status_draft b) out a last) (StatusWritten b out a last)
status_written_by_table b out a last = (
  (λ w. let l = some_status b out in
      let k = status_writes l.2 in
      subst (λ (o : List ℕ). StatusWritten b out a o) (k.1 ∙ sym w.1)
      (subst (λ (x : Answer ℕ). StatusWritten b out x l.1) (k.0 ∙ sym w.0) l.2)),
  status_writes,
)

-- ---- writing an item

prior_is : (s : List ℕ) (b : ℕ) (d : List ℕ) {r : Reply} → IsReply s r → item_draft s b d ≡ with_item s b d
unfolding item_draft after_reply
prior_is s b d r = ap (λ (a : Answer Reply). after_reply a (with_item s b d)) (reply_of r)

prior_none : (s : List ℕ) (b : ℕ) (d : List ℕ) {k : ℕ} → NoReply s k → item_draft s b d ≡ refused k
unfolding item_draft after_reply
prior_none s b d r = ap (λ (a : Answer Reply). after_reply a (with_item s b d)) (refused_as_lem r)

-- what stands in an output with room
item_out : (s : List ℕ) (b : ℕ) (d out : List ℕ)
    → s ++ (item_bytes b d ++ drop (length s + 2 + length d) out) ≡ splice out 0 (s ++ item_bytes b d)
item_out s b d out =
    let e : length s + 2 + length d ≡ 0 + length (s ++ item_bytes b d) = omega (arith, whole_length s b d) in
    sym (append_assoc s (item_bytes b d) (drop (length s + 2 + length d) out))
    ∙ ap (λ (n : ℕ). (s ++ item_bytes b d) ++ drop n out) e

item_writes : {s : List ℕ} {b : ℕ} {d out : List ℕ} {a : Answer ℕ} {last : List ℕ} → ItemWritten s b d out a last
    → Writes (item_draft s b d) out a last
item_writes {s} {b} {d} {out} (no_prior {k = k} r) = writes_refusal (item_draft s b d) k out (prior_none s b d r)
item_writes {s} {b} {d} {out} (long_data r h) =
    writes_refusal (item_draft s b d) 7 out (prior_is s b d r ∙ item_count s b d h)
item_writes {s} {b} {d} {out} (long_reply r h k) =
    writes_refusal (item_draft s b d) 2 out (prior_is s b d r ∙ item_long s b d h k)
item_writes {s} {b} {d} {out} (item_no_room r h k l) =
    writes_no_room (item_draft s b d) (s ++ item_bytes b d) out (prior_is s b d r ∙ item_fits_lem s b d h k)
    (omega (arith, whole_length s b d))
item_writes {s} {b} {d} {out} (item_fits r h k l) =
    let w = writes_done (item_draft s b d) (s ++ item_bytes b d) out
    (s ++ (item_bytes b d ++ drop (length s + 2 + length d) out)) (prior_is s b d r ∙ item_fits_lem s b d h k)
    (omega (arith, whole_length s b d)) (item_out s b d out) in
    (ap result (sym (whole_length s b d)) ∙ w.0, w.1)

some_item : (s : List ℕ) (b : ℕ) (d out : List ℕ) → (a : Answer ℕ) × (last : List ℕ) × ItemWritten s b d out a last
some_item s b d out = case (line_of s)
  where
    case : {x : Answer Reply} → Line s x → (a : Answer ℕ) × (last : List ℕ) × ItemWritten s b d out a last
    case (refused_line {k = k} r) = (refused k, out, no_prior r)
    case (reply_line r) =
        by_bool (leb (length d) 255)
        (λ x. by_bool (leb (length s + 2 + length d) 117)
        (λ y. by_bool (leb (length s + 2 + length d) (length out))
        (λ z. (
          result (length s + 2 + length d),
          s ++ (item_bytes b d ++ drop (length s + 2 + length d) out),
          item_fits r (leb-true _ _ x) (leb-true _ _ y) (leb-true _ _ z),
        ))
        (λ z. (refused 1, out, item_no_room r (leb-true _ _ x) (leb-true _ _ y) (leb-false _ _ z))))
        (λ y. (refused 2, out, long_reply r (leb-true _ _ x) (leb-false _ _ y))))
        (λ x. (refused 7, out, long_data r (leb-false _ _ x)))

-- Every answer to writing an item is given, and every output left, exactly when the table says so.
pub item_written_by_table : (s : List ℕ) (b : ℕ) (d out : List ℕ) (a : Answer ℕ) (last : List ℕ)
    → Exactly (Writes (item_draft s b d) out a last) (ItemWritten s b d out a last)
item_written_by_table s b d out a last = (
  (λ w. let l = some_item s b d out in
      let k = item_writes l.2 in
      subst (λ (o : List ℕ). ItemWritten s b d out a o) (k.1 ∙ sym w.1)
      (subst (λ (x : Answer ℕ). ItemWritten s b d out x l.1) (k.0 ∙ sym w.0) l.2)),
  item_writes,
)
