-- Laws of reading: the steps of the code, and the answer that they lead to.
use Prim.Native.Nat.{ℕ, zero, suc, ◌+◌, ◌*◌, ◌≤◌}
use mathlib.Core.Path.{◌≡◌, refl, sym, ap, ap₂, ◌∙◌}
use mathlib.Core.Bool.{Bool, true, false}
use mathlib.Core.List.{List, [], ◌∷◌}
use lib.Dec.{leb, eqb}
use native.Mathlib.Omega.{arith}
use lib.ListN.{length, get_or, take, drop}
use lib.Seq.{drop-cons}
use borrow.Author.Tests.{eq-eqb, ne_eqb}
use Rattle.numbers.specs.Number.{number, bytes_of, Bytes}
use Rattle.numbers.proofs.Numbers.{bytes_of-number}
use Rattle.lists.proofs.Cases.{by_bool}
use Rattle.workout.specs.Limits.{Limits}
use Rattle.workout.specs.Workout.{Programmed, distance, time, layout, within_limits}
use Rattle.workout.specs.Form.{goal_kind_in, clock_right, same_bytes, bytes_at, laid_out, workout_as, has_form, in_limits}
use Rattle.lists.specs.Choice.{pick}
use Rattle.answer.specs.Answer.{Answer, result, refused}
use Rattle.answer.specs.Refusals.{number_of}
use Rattle.answer.specs.declared.Refusal.{Refusal}
use Rattle.std.specs.Prelude.{Err}
use Rattle.workout.specs.Answers.{workout_answer}
use Rattle.workout.specs.Private.{metres_said, seconds_said, goal_said, with_watts, workout_said, Admits}
use Rattle.workout.specs.declared.layout.GoalKind.{GoalKind}
use Rattle.workout.specs.declared.layout.GoalKind.TheVariants.{Distance, Time}

-- ---- reading by the kind of goal

-- A workout that was read, or 12.
unfoldable pub limited_read : Limits → Programmed → Answer Programmed
limited_read limits w = pick (within_limits limits w) (result w) (refused 12)

-- The answer of a distance in one of the two units.
unfoldable pub distance_read : Limits → (amount unit split watts : ℕ) → Answer Programmed
distance_read limits amount unit split watts =
    pick (eqb unit 0x21)
    (limited_read limits (distance (1000 * amount) split watts))
    (pick (eqb unit 0x24) (limited_read limits (distance amount split watts)) (refused 13))

-- The answer of hours, minutes and seconds.
unfoldable pub time_read : Limits → (hours minutes seconds split watts : ℕ) → Answer Programmed
time_read limits hours minutes seconds split watts =
    pick (leb minutes 59)
    (pick (leb seconds 59) (limited_read limits (time (3600 * hours + 60 * minutes + seconds) split watts)) (refused 12))
    (refused 12)

pub not_long : (c : List ℕ) → (length c ≡ 23 → ⊥) → laid_out c ≡ false
unfolding laid_out
not_long c n = simp (ne_eqb (length c) 23 n)

-- the bytes at an index, as a part
pub bytes_at_part : (at n : ℕ) (c : List ℕ) → at + n ≤ length c → bytes_at at n c ≡ take n (drop at c)
unfolding bytes_at
bytes_at_part at zero c h = refl
bytes_at_part at (suc n) c h =
    ap (λ (l : List ℕ). get_or c at 0 ∷ l) (bytes_at_part (suc at) n c (omega arith))
    ∙ sym (ap (take (suc n)) (drop-cons c at 0 (omega arith)))

module _ (c : List ℕ) {kind : GoalKind} {split watts : ℕ} (is-kind : kind ≡ goal_kind_in c)
    (is_split : split ≡ number 4 10 c) (is_watts : watts ≡ number 2 16 c) where
  -- contents compared with what the layout gives to the numbers in them
  pub laid_out_same : {expected : List ℕ} {t : Bool} → Bytes c → length c ≡ 23
      → expected ≡ layout kind (get_or c 2 0 ∷ get_or c 3 0 ∷ get_or c 4 0 ∷ []) (bytes_of 4 split) (bytes_of 2 watts)
      → t ≡ same_bytes c expected → laid_out c ≡ t
  unfolding laid_out bytes_at
  laid_out_same b l e q =
      let s : bytes_of 4 split ≡ bytes_at 10 4 c =
      ap (bytes_of 4) is_split ∙ bytes_of-number 4 10 c b (omega arith) ∙ sym (bytes_at_part 10 4 c (omega arith)) in
      let p : bytes_of 2 watts ≡ bytes_at 16 2 c =
      ap (bytes_of 2) is_watts ∙ bytes_of-number 2 16 c b (omega arith) ∙ sym (bytes_at_part 16 2 c (omega arith)) in
      (simp (eq-eqb (length c) 23 l))
      ∙ ap (same_bytes c) (sym (e
      ∙ ap (λ (k : GoalKind). layout k (bytes_at 2 3 c) (bytes_of 4 split) (bytes_of 2 watts)) is-kind
      ∙ ap₂ (layout (goal_kind_in c) (bytes_at 2 3 c)) s p))
      ∙ sym q

  -- the goal and the power in contents that are laid out
  pub goal_is : laid_out c ≡ true
      → with_watts watts (goal_said kind (get_or c 2 0 ∷ get_or c 3 0 ∷ get_or c 4 0 ∷ []) split) ≡ workout_said c
  unfolding metres_said seconds_said workout_said has_form workout_as number
  goal_is laid = of_kind kind is-kind
    where
      of_kind : (k : GoalKind) → k ≡ goal_kind_in c
          → with_watts watts (goal_said k (get_or c 2 0 ∷ get_or c 3 0 ∷ get_or c 4 0 ∷ []) split) ≡ workout_said c
      of_kind Distance k =
          let d : goal_kind_in c ≡ Distance = sym k in
          by_bool (eqb (get_or c 4 0) 0x21)
          (λ y. simp (is_split, is_watts, laid, d, y))
          (λ y. by_bool (eqb (get_or c 4 0) 0x24) (λ z. simp (is_split, is_watts, laid, d, y, z))
          (λ z. simp (is_split, is_watts, laid, d, y, z)))
      of_kind Time k =
          let d : goal_kind_in c ≡ Time = sym k in
          by_bool (leb (get_or c 3 0) 59)
          (λ y. by_bool (leb (get_or c 4 0) 59) (λ z. simp (is_split, is_watts, laid, d, y, z))
          (λ z. simp (is_split, is_watts, laid, d, y, z)))
          (λ y. simp (is_split, is_watts, laid, d, y))

  -- the answer of contents that are laid out, with either goal
  module _ (limits : Limits) (laid : laid_out c ≡ true) where
    pub read_distance_is : {amount : ℕ} → kind ≡ Distance → amount ≡ number 2 2 c
        → distance_read limits amount (get_or c 4 0) split watts ≡ workout_answer limits c
    unfolding distance_read limited_read workout_answer has_form in_limits workout_as
    read_distance_is k a =
        let d : goal_kind_in c ≡ Distance = sym is-kind ∙ k in
        by_bool (eqb (get_or c 4 0) 0x21)
        (λ y. simp (is_split, is_watts, a, laid, d, y))
        (λ y. by_bool (eqb (get_or c 4 0) 0x24) (λ z. simp (is_split, is_watts, a, laid, d, y, z))
        (λ z. simp (is_split, is_watts, a, laid, d, y, z)))

    pub read_time_is : kind ≡ Time
        → time_read limits (get_or c 2 0) (get_or c 3 0) (get_or c 4 0) split watts ≡ workout_answer limits c
    unfolding time_read limited_read workout_answer has_form in_limits workout_as
    read_time_is k =
        let d : goal_kind_in c ≡ Time = sym is-kind ∙ k in
        by_bool (leb (get_or c 3 0) 59)
        (λ y. by_bool (leb (get_or c 4 0) 59) (λ z. simp (is_split, is_watts, laid, d, y, z))
        (λ z. simp (is_split, is_watts, laid, d, y, z)))
        (λ y. simp (is_split, is_watts, laid, d, y))

pub said_formless : (c : List ℕ) → laid_out c ≡ false → workout_said c ≡ refused 13
unfolding workout_said has_form
said_formless c h = simp h

-- ---- the limits on what contents say

abbrev by_limits : Limits → Answer Programmed → Answer Programmed
by_limits limits (result w) = limited_read limits w
by_limits limits (refused n) = refused n

module _ (limits : Limits) (c : List ℕ) where
  answer_said : by_limits limits (workout_said c) ≡ workout_answer limits c
  unfolding workout_said workout_answer in_limits limited_read
  answer_said =
      by_bool (has_form c)
      (λ y. by_bool (clock_right (goal_kind_in c) (get_or c 3 0) (get_or c 4 0)) (λ z. simp (y, z)) (λ z. simp (y, z)))
      (λ y. simp y)

  pub answer_refused : (n : ℕ) → refused n ≡ workout_said c → refused n ≡ workout_answer limits c
  answer_refused n e = ap (by_limits limits) e ∙ answer_said

  pub answer_outside : (w : Programmed) (why : Refusal) → result w ≡ workout_said c → Admits limits w (Err why)
      → refused (number_of why) ≡ workout_answer limits c
  unfolding limited_read
  answer_outside w why e (k, n) =
      ap (λ (r : Refusal). refused (number_of r)) k ∙ (sym (simp n)) ∙ ap (by_limits limits) e ∙ answer_said

  pub answer_inside : (w : Programmed) → result w ≡ workout_said c → within_limits limits w ≡ true
      → result w ≡ workout_answer limits c
  unfolding limited_read
  answer_inside w e y = (sym (simp y)) ∙ ap (by_limits limits) e ∙ answer_said
