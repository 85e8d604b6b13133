-- The three answers of a writer, a table of them, and a draft that is measured before it is written.
use Prim.Native.Nat.{ℕ, ◌≤◌, ◌<◌}
use mathlib.Core.Path.{◌≡◌, refl, sym, ap, ◌∙◌, subst}
use mathlib.Core.List.{List}
use native.Mathlib.Nat.{zero-add}
use native.Mathlib.Omega.{arith}
use lib.Dec.{leb}
use lib.ListN.{length, take, drop}
use lib.Seq.{take_at}
use borrow.Author.Tests.{lt-leb, le-leb, leb-true, leb-false}
use Rattle.answer.specs.Draft.{Draft, draft_answer, draft_out, Writes, Foretells}
use Rattle.answer.specs.Answer.{Answer, result, refused, through}
use Rattle.lists.specs.Choice.{Exactly}
use Rattle.lists.specs.Splice.{splice}
use Rattle.lists.proofs.Cases.{by_bool}

pub writes_refusal : (d : Draft) (n : ℕ) (out : List ℕ) → d ≡ refused n → Writes d out (refused n) out
unfolding draft_answer draft_out
writes_refusal d n out e =
    (ap (λ (x : Draft). draft_answer x (length out)) (sym e), ap (λ (x : Draft). draft_out x out) (sym e))

pub writes_no_room : (d : Draft) (w out : List ℕ) → d ≡ result w → length out < length w → Writes d out (refused 1) out
unfolding draft_answer draft_out
writes_no_room d w out e h = (
  (simp (lt-leb (length w) (length out) h)) ∙ ap (λ (x : Draft). draft_answer x (length out)) (sym e),
  (simp (lt-leb (length w) (length out) h)) ∙ ap (λ (x : Draft). draft_out x out) (sym e),
)

pub writes_done : (d : Draft) (w out last : List ℕ) → d ≡ result w → length w ≤ length out → last ≡ splice out 0 w
    → Writes d out (result (length w)) last
unfolding draft_answer draft_out
writes_done d w out last e h s = (
  (simp (le-leb (length w) (length out) h)) ∙ ap (λ (x : Draft). draft_answer x (length out)) (sym e),
  s ∙ (simp (le-leb (length w) (length out) h, zero-add)) ∙ ap (λ (x : Draft). draft_out x out) (sym e),
)

-- What was written stands first in the output, whole.
pub written_first : (d : Draft) (out : List ℕ) (n : ℕ) → draft_answer d (length out) ≡ result n
    → (w : List ℕ) × (d ≡ result w) × (length w ≡ n) × (take n (draft_out d out) ≡ w)
unfolding draft_answer draft_out
written_first (refused m) out n e = let z : ◌≡◌ {A = ℕ} 0 1 = cc in absurd (omega arith)
written_first (result w) out n e =
    by_bool (leb (length w) (length out))
    (λ y. let q : result (length w) ≡ result n = simp y at e in
    let l : length w ≡ n = cc in (w, refl, l, simp y (take_at w (drop (length w) out) n l)))
    (λ y. let q : refused 1 ≡ result n = simp y at e in
    let z : ◌≡◌ {A = ℕ} 0 1 = cc in absurd (omega arith))

-- ---- a table of a writer

-- A table whose lines are what a draft's writer does, with a line for every output, says exactly what it does.
pub lines_exactly : (d : Draft) (out : List ℕ) (Line : Answer ℕ → List ℕ → Type 0)
    → ((a : Answer ℕ) (last : List ℕ) → Line a last → Writes d out a last)
    → ((a : Answer ℕ) × (last : List ℕ) × Line a last)
    → (a : Answer ℕ) (last : List ℕ) → Exactly (Writes d out a last) (Line a last)
lines_exactly d out Line line some a last = (
  (λ p. let q = line some.0 some.1 some.2 in
      subst (λ (l : List ℕ). Line a l) (q.1 ∙ sym p.1)
      (subst (λ (x : Answer ℕ). Line x some.1) (q.0 ∙ sym p.0) some.2)),
  line a last,
)

-- ---- a draft that is measured before it is written

apart : (n k : ℕ) → ◌≡◌ {A = Answer ℕ} (result n) (refused k) → ⊥
apart n k e = let z : ◌≡◌ {A = ℕ} 0 1 = cc in omega arith

same_result : {m n : ℕ} → ◌≡◌ {A = Answer ℕ} (result m) (result n) → m ≡ n
same_result e = cc

same_refusal : {j k : ℕ} → ◌≡◌ {A = Answer ℕ} (refused j) (refused k) → j ≡ k
same_refusal e = cc

-- a result that has room
enough : (len room : ℕ) → len ≤ room → Foretells (result len) (result len) room
enough len room h =
    record {
      fits = λ n. ((λ e. (e, omega (arith, same_result e))), (λ e. e.0));
      lacks = (
        (λ e. absurd (apart len 1 e)),
        (λ e. absurd (omega (arith, e.2, same_result e.1))),
      );
      alike = λ k other. ((λ e. e), (λ e. e));
      never_1 = apart len 1;
    }

-- a result that has none
lacking : (len room : ℕ) → room < len → Foretells (result len) (refused 1) room
lacking len room h =
    record {
      fits = λ n. ((λ e. absurd (apart n 1 (sym e))), (λ e. absurd (omega (arith, e.1, same_result e.0))));
      lacks = ((λ e. (len, refl, h)), (λ e. refl));
      alike = λ k other. ((λ e. absurd (other (sym (same_refusal e)))), (λ e. absurd (apart len k e)));
      never_1 = apart len 1;
    }

-- a refusal of the draft's own
refusing : (k room : ℕ) → (k ≡ 1 → ⊥) → Foretells (refused k) (refused k) room
refusing k room other =
    record {
      fits = λ n. ((λ e. absurd (apart n k (sym e))), (λ e. absurd (apart n k (sym e.0))));
      lacks = ((λ e. absurd (other (same_refusal e))), (λ e. absurd (apart e.0 k (sym e.1))));
      alike = λ j h. ((λ e. e), (λ e. e));
      never_1 = λ e. other (same_refusal e);
    }

draft_foretold : (d : Draft) (room : ℕ) → (d ≡ refused 1 → ⊥) → Foretells (through length d) (draft_answer d room) room
unfolding draft_answer
draft_foretold (refused k) room other = refusing k room (λ e. other (ap refused e))
draft_foretold (result w) room other =
    by_bool (leb (length w) room)
    (λ y. simp y (enough (length w) room (leb-true _ _ y)))
    (λ y. simp y (lacking (length w) room (leb-false _ _ y)))

-- What a call that measures a draft answers foretells what a call that writes it does.
pub foretold : (d : Draft) (m a : Answer ℕ) (out last : List ℕ) → (d ≡ refused 1 → ⊥) → m ≡ through length d
    → Writes d out a last → Foretells m a (length out)
foretold d m a out last other e w =
    subst (λ (x : Answer ℕ). Foretells x a (length out)) (sym e)
    (subst (λ (x : Answer ℕ). Foretells (through length d) x (length out)) (sym w.0)
    (draft_foretold d (length out) other))
