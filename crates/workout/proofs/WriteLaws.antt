-- Laws of a workout's value and of writing it.
use Prim.Native.Nat.{ℕ, ◌%◌, ◌≤◌, ◌<◌}
use native.Mathlib.Nat.{zero-add}
use mathlib.Core.Path.{◌≡◌, refl, sym, ap, ap₂, ◌∙◌, subst}
use mathlib.Core.Bool.{true, false}
use mathlib.Core.List.{List, ◌++◌}
use native.Mathlib.Omega.{arith}
use lib.Dec.{eqb}
use lib.ListN.{length, drop}
use Rattle.answer.specs.Answer.{result, refused}
use Rattle.answer.specs.Draft.{Draft, Writes}
use Rattle.numbers.specs.Number.{bytes_of}
use Rattle.lists.proofs.Cases.{by_bool}
use Rattle.answer.proofs.Drafts.{writes_refusal, writes_done}
use Rattle.answer.specs.Refusals.{number_of}
use Rattle.answer.specs.declared.Refusal.{Refusal}
use Rattle.std.specs.Prelude.{Err}
use Rattle.workout.specs.Private.{Admits}
use Rattle.workout.specs.Limits.{Limits}
use Rattle.workout.specs.Workout.{Programmed, distance, time, goal_means, programmed, watts_of, within_limits}
use Rattle.workout.specs.Workout.{layout, distance_bytes, time_bytes, workout_bytes}
use Rattle.workout.specs.Answers.{workout_draft}
use Rattle.workout.specs.declared.Workout.{Workout}
use Rattle.workout.specs.declared.Goal.{Goal}
use Rattle.workout.specs.declared.Goal.TheVariants.{Distance, Time}

-- what is known of a workout's goal, of what the workout means
pub by_goal : {A : Type 0} (f : Programmed → A) (w : Workout) {g : Goal} → w.goal ≡ g
    → f (goal_means g w.watts) ≡ f (programmed w)
by_goal f w e = ap (λ (g : Goal). f (goal_means g w.watts)) (sym e)

-- the watts of what a workout means are its own
pub watts_below : (n : ℕ) (w : Workout) → w.watts < n → watts_of (programmed w) < n
watts_below n w h = of_goal w.goal
  where
    of_goal : (g : Goal) → watts_of (goal_means g w.watts) < n
    of_goal (Distance goal split) = h
    of_goal (Time goal split) = h

pub contents_length : (w : Programmed) → length (workout_bytes w) ≡ 23
unfolding workout_bytes layout distance_bytes time_bytes bytes_of
contents_length (distance goal split watts) = by_bool (eqb (goal % 1000) 0) (λ y. simp y) (λ n. simp n)
contents_length (time goal split watts) = refl

module _ (limits : Limits) (w : Programmed) where
  pub draft_outside : within_limits limits w ≡ false → workout_draft limits w ≡ refused 12
  unfolding workout_draft
  draft_outside e = simp e

  -- a draft of which the limits refuse the workout
  pub outside_written : (d : Draft) (why : Refusal) (out : List ℕ) → Admits limits w (Err why)
      → (within_limits limits w ≡ false → d ≡ refused 12) → Writes d out (refused (number_of why)) out
  outside_written d why out (k, n) r =
      writes_refusal d (number_of why) out (r n ∙ sym (ap (λ (v : Refusal). refused (number_of v)) k))

  pub draft_inside : within_limits limits w ≡ true → workout_draft limits w ≡ result (workout_bytes w)
  unfolding workout_draft
  draft_inside e = simp e

  -- a draft is of the contents, and is made only within the limits
  pub draft_is : (c : List ℕ) → workout_draft limits w ≡ result c → (within_limits limits w ≡ true) × (c ≡ workout_bytes w)
  unfolding workout_draft
  draft_is c e =
      by_bool (within_limits limits w)
      (λ y. let q : result (workout_bytes w) ≡ result c = simp y at e in
      let r : c ≡ workout_bytes w = cc in (y, r))
      (λ y. let q : refused 12 ≡ result c = simp y at e in
      let x : ◌≡◌ {A = ℕ} 0 1 = cc in absurd (omega arith))

-- the 23 bytes at the front of the output, with the answer
pub write_done : (limits : Limits) (w : Programmed) {contents : List ℕ} (out : List ℕ)
    → within_limits limits w ≡ true → 23 ≤ length out → contents ≡ workout_bytes w
    → Writes (workout_draft limits w) out (result 23) (contents ++ drop 23 out)
write_done limits w {contents} out e h p =
    let d = workout_draft limits w in
    let n = contents_length w in
    subst (λ (k : ℕ). Writes d out (result k) (contents ++ drop 23 out)) n
    (writes_done d (workout_bytes w) out (contents ++ drop 23 out) (draft_inside limits w e) (omega arith)
    (ap₂ (λ (c : List ℕ) (k : ℕ). c ++ drop k out) p (sym (zero-add (length (workout_bytes w)) ∙ n))))
