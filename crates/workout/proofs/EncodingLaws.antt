-- Contents are read as a workout exactly when they stand for it and it is within the limits.
use Prim.Native.Nat.{ℕ, ◌+◌, ◌*◌, ◌≤◌}
use mathlib.Core.Path.{◌≡◌, refl, sym, ap, ap₂, ◌∙◌, subst}
use mathlib.Core.Logic.{◌⊎◌, inl, inr}
use mathlib.Core.List.{List, [], ◌∷◌, ◌++◌}
use native.Mathlib.Omega.{arith}
use lib.ListN.{length, get_or}
use Rattle.numbers.specs.Number.{number, bytes_of, Bytes}
use Rattle.numbers.proofs.Numbers.{number_bound, bytes_of-number}
use Rattle.answer.specs.Answer.{result}
use Rattle.workout.specs.Limits.{Limits}
use Rattle.workout.specs.Workout.{Programmed, distance, time, layout}
use Rattle.workout.specs.Form.{bytes_at, metres_of, workout_as}
use Rattle.workout.specs.Answers.{workout_answer}
use Rattle.workout.specs.Conditions.{Formed, WithinLimits, ClockRight}
use Rattle.workout.specs.Encoding.{in_km, in_metres, on_clock, Encoded, distance_in, time_in}
use Rattle.workout.specs.declared.layout.GoalKind.{GoalKind}
use Rattle.workout.specs.declared.layout.GoalKind.TheVariants.{Distance, Time}
use Rattle.workout.proofs.ReadLaws.{distance_read, time_read, bytes_at_part}
use Rattle.workout.proofs.Table.{form_layout, limits_within, read_exactly}
use Rattle.workout.proofs.RoundTrip.{read_laid_distance, read_laid_time, limited_sound}
use borrow.Author.Tests.{le-leb}

-- ---- what stands for a workout is read as it

pub encoded_read : (limits : Limits) (w : Programmed) (c : List ℕ) → Encoded w c → WithinLimits limits w
    → workout_answer limits c ≡ result w
unfolding distance_read time_read
encoded_read limits w c (distance_in {split = split} {watts = watts} (in_km km h) s p) l =
    read_laid_distance limits split watts s p km 0x21 h
    ∙ limited_sound limits (distance (1000 * km) split watts) (distance (1000 * km) split watts) refl
    (limits_within limits (distance (1000 * km) split watts) l)
encoded_read limits w c (distance_in {split = split} {watts = watts} (in_metres m h) s p) l =
    read_laid_distance limits split watts s p m 0x24 h
    ∙ limited_sound limits (distance m split watts) (distance m split watts) refl
    (limits_within limits (distance m split watts) l)
encoded_read limits w c (time_in {goal = goal} {split = split} {watts = watts} (on_clock h m s x y) b p) l =
    read_laid_time limits split watts b p h m s
    ∙ (simp (le-leb m 59 x, le-leb s 59 y))
    ∙ limited_sound limits _ (time goal split watts) refl (limits_within limits (time goal split watts) l)

-- ---- what is read as a workout stands for it

module _ (c : List ℕ) (b : Bytes c) where
  part : (width at : ℕ) → at + width ≤ length c → bytes_of width (number width at c) ≡ bytes_at at width c
  part width at h = bytes_of-number width at c b h ∙ sym (bytes_at_part at width c h)

  -- contents that have the form are laid out from the numbers in them
  whole : (kind : GoalKind) → Formed kind c
      → layout kind (bytes_at 2 3 c) (bytes_of 4 (number 4 10 c)) (bytes_of 2 (number 2 16 c)) ≡ c
  whole kind f =
      ap₂ (layout kind (bytes_at 2 3 c)) (part 4 10 (omega (arith, f.long))) (part 2 16 (omega (arith, f.long)))
      ∙ sym (form_layout kind c f)

  -- those of a distance in a unit
  in_unit : (unit : ℕ) → get_or c 4 0 ≡ unit → Formed Distance c
      → layout Distance (bytes_of 2 (number 2 2 c) ++ (unit ∷ [])) (bytes_of 4 (number 4 10 c))
      (bytes_of 2 (number 2 16 c))
      ≡ c
  unfolding bytes_at
  in_unit unit e f =
      ap (λ (g : List ℕ). layout Distance g (bytes_of 4 (number 4 10 c)) (bytes_of 2 (number 2 16 c)))
      (ap₂ (λ (g : List ℕ) (u : ℕ). g ++ (u ∷ [])) (part 2 2 (omega (arith, f.long))) (sym e))
      ∙ whole Distance f

  distance_encoded : Formed Distance c → Encoded (workout_as Distance c) c
  unfolding workout_as
  distance_encoded f = by_unit f.unit
    where
      in_metres_lem : (u : ℕ) → Encoded (distance (metres_of u (number 2 2 c)) (number 4 10 c) (number 2 16 c)) c
          → get_or c 4 0 ≡ u
          → Encoded (distance (metres_of (get_or c 4 0) (number 2 2 c)) (number 4 10 c) (number 2 16 c)) c
      in_metres_lem u x e =
          subst (λ (v : ℕ). Encoded (distance (metres_of v (number 2 2 c)) (number 4 10 c) (number 2 16 c)) c) (sym e) x

      by_unit : (get_or c 4 0 ≡ 0x21) ⊎ (get_or c 4 0 ≡ 0x24)
          → Encoded (distance (metres_of (get_or c 4 0) (number 2 2 c)) (number 4 10 c) (number 2 16 c)) c
      by_unit (inl e) =
          in_metres_lem 0x21
          (subst (λ (l : List ℕ). Encoded (distance (1000 * number 2 2 c) (number 4 10 c) (number 2 16 c)) l)
          (in_unit 0x21 e f)
          (distance_in (in_km (number 2 2 c) (number_bound 2 2 c b)) (number_bound 4 10 c b) (number_bound 2 16 c b))) e
      by_unit (inr e) =
          in_metres_lem 0x24
          (subst (λ (l : List ℕ). Encoded (distance (number 2 2 c) (number 4 10 c) (number 2 16 c)) l)
          (in_unit 0x24 e f)
          (distance_in (in_metres (number 2 2 c) (number_bound 2 2 c b)) (number_bound 4 10 c b) (number_bound 2 16 c b)))
          e

  time_encoded : Formed Time c → ClockRight Time c → Encoded (workout_as Time c) c
  unfolding workout_as bytes_at
  time_encoded f k =
      subst (λ (l : List ℕ). Encoded (workout_as Time c) l) (whole Time f)
      (time_in (on_clock (get_or c 2 0) (get_or c 3 0) (get_or c 4 0) k.0 k.1) (number_bound 4 10 c b)
      (number_bound 2 16 c b))

  kind_encoded : (kind : GoalKind) → Formed kind c → ClockRight kind c → Encoded (workout_as kind c) c
  kind_encoded Distance f k = distance_encoded f
  kind_encoded Time f k = time_encoded f k

  pub read_encoded : (limits : Limits) (w : Programmed) → workout_answer limits c ≡ result w
      → Encoded w c × WithinLimits limits w
  read_encoded limits w e =
      let r = (read_exactly limits c w).0 e in (
        subst (λ (v : Programmed). Encoded v c) (sym r.workout)
            (kind_encoded r.kind r.form r.limited.clock),
        subst (WithinLimits limits) (sym r.workout) r.limited.within,
      )
