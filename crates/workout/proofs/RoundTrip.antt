-- What is written is read back.
use Prim.Native.Nat.{ℕ, ◌+◌, ◌*◌, ◌/◌, ◌%◌, ◌^◌, ◌≤◌, ◌<◌}
use mathlib.Core.Path.{◌≡◌, refl, sym, ap, ◌∙◌}
use mathlib.Core.Bool.{true, false}
use mathlib.Core.List.{List, [], ◌∷◌, ◌++◌}
use native.Mathlib.Nat.{div-div-eq-div-mul}
use native.Mathlib.Omega.{arith}
use lib.Dec.{leb, eqb}
use lib.ListN.{length, take, drop}
use borrow.Author.Tests.{eqb-true, eqb-false, ne_eqb, leb-true, leb-false, le-leb, lt-leb}
use Rattle.numbers.specs.Number.{number, bytes_of}
use Rattle.answer.specs.Answer.{result}
use Rattle.answer.specs.Draft.{draft_answer, draft_out}
use Rattle.answer.proofs.Drafts.{written_first}
use Rattle.numbers.proofs.Numbers.{number-bytes_of}
use Rattle.lists.specs.Choice.{Exactly}
use Rattle.lists.proofs.Cases.{by_bool}
use Rattle.workout.specs.Limits.{Limits, pm3_limits}
use Rattle.workout.specs.Workout.{Programmed, distance, time, watts_of, within_limits, layout, distance_bytes}
use Rattle.workout.specs.Workout.{time_bytes, workout_bytes, distance_sendable, Sendable}
use Rattle.workout.specs.Form.{bytes_at, laid_out}
use Rattle.workout.specs.Answers.{workout_answer, workout_draft}
use Rattle.workout.specs.declared.layout.GoalKind.{GoalKind}
use Rattle.workout.specs.declared.layout.GoalKind.TheVariants.{Distance, Time}
use Rattle.workout.proofs.SameLaws.{same_refl}
use Rattle.workout.proofs.ReadLaws.{limited_read, distance_read, time_read, read_distance_is, read_time_is}
use Rattle.workout.proofs.WriteLaws.{draft_is}
use Rattle.workout.proofs.Table.{within_limits_lem}

-- ---- bytes that were laid out

abbrev laid : GoalKind → (a b d split watts : ℕ) → List ℕ
laid kind a b d split watts = layout kind (a ∷ b ∷ d ∷ []) (bytes_of 4 split) (bytes_of 2 watts)

laid_out_lem : (kind : GoalKind) (a b d split watts : ℕ) → laid_out (laid kind a b d split watts) ≡ true
unfolding laid_out layout bytes_of bytes_at
laid_out_lem Distance a b d split watts = same_refl (laid Distance a b d split watts)
laid_out_lem Time a b d split watts = same_refl (laid Time a b d split watts)

-- the split and the power in them
module _ (kind : GoalKind) (a b d split watts : ℕ) where
  laid_split : split < 256 ^ 4 → split ≡ number 4 10 (laid kind a b d split watts)
  unfolding layout bytes_of
  laid_split h = let l = laid kind a b d split watts in sym (number-bytes_of 4 split (take 10 l) (drop 14 l) 10 refl h)

  laid_watts : watts < 256 ^ 2 → watts ≡ number 2 16 (laid kind a b d split watts)
  unfolding layout bytes_of
  laid_watts h = let l = laid kind a b d split watts in sym (number-bytes_of 2 watts (take 16 l) (drop 18 l) 16 refl h)

-- what they are read as, by the kind of goal
module _ (limits : Limits) (split watts : ℕ) (s : split < 256 ^ 4) (p : watts < 256 ^ 2) where
  pub read_laid_distance : (amount unit : ℕ) → amount < 256 ^ 2
      → workout_answer limits (layout Distance (bytes_of 2 amount ++ (unit ∷ [])) (bytes_of 4 split) (bytes_of 2 watts))
      ≡ distance_read limits amount unit split watts
  unfolding layout bytes_of
  read_laid_distance amount unit h =
      let a = amount % 256 in
      let b = amount / 256 % 256 in
      let l = laid Distance a b unit split watts in
      sym (read_distance_is l refl (laid_split Distance a b unit split watts s)
      (laid_watts Distance a b unit split watts p) limits (laid_out_lem Distance a b unit split watts) refl
      (sym (number-bytes_of 2 amount (take 2 l) (drop 4 l) 2 refl h)))

  pub read_laid_time : (hours minutes seconds : ℕ)
      → workout_answer limits (laid Time hours minutes seconds split watts)
      ≡ time_read limits hours minutes seconds split watts
  unfolding layout bytes_of
  read_laid_time hours minutes seconds =
      sym (read_time_is (laid Time hours minutes seconds split watts) refl
      (laid_split Time hours minutes seconds split watts s) (laid_watts Time hours minutes seconds split watts p) limits
      (laid_out_lem Time hours minutes seconds split watts) refl)

-- ---- what is written is read back

pub limited_sound : (limits : Limits) (v w : Programmed) → v ≡ w → within_limits limits w ≡ true
    → limited_read limits v ≡ result w
unfolding limited_read
limited_sound limits v w e h = ap (limited_read limits) e ∙ simp h

-- A workout within any limits, if its bytes can hold it, is read back as itself.
pub workout_reads_back : (limits : Limits) (w : Programmed) → within_limits limits w ≡ true → Sendable w
    → watts_of w < 2 ^ 16 → workout_answer limits (workout_bytes w) ≡ result w
unfolding workout_bytes distance_bytes time_bytes distance_read time_read bytes_of distance_sendable
workout_reads_back limits (distance goal split watts) h g p =
    by_bool (eqb (goal % 1000) 0)
    (λ y. let z : goal % 1000 ≡ 0 = eqb-true _ _ y in
    let far : goal / 1000 ≤ 65535 = leb-true (goal / 1000) 65535 (simp y at g) in
    let s : split < 256 ^ 4 = omega (arith, (within_limits_lem limits (distance goal split watts) h).in_goal) in
    let back : 1000 * (goal / 1000) ≡ goal = omega arith in
    (simp y) ∙ read_laid_distance limits split watts s p (goal / 1000) 0x21 (omega arith)
    ∙ limited_sound limits (distance (1000 * (goal / 1000)) split watts) (distance goal split watts)
    (ap (λ (m : ℕ). distance m split watts) back) h)
    (λ n. let near : goal ≤ 65535 = leb-true goal 65535 (simp n at g) in
    let s : split < 256 ^ 4 = omega (arith, (within_limits_lem limits (distance goal split watts) h).in_goal) in
    (simp n) ∙ read_laid_distance limits split watts s p goal 0x24 (omega arith)
    ∙ limited_sound limits (distance goal split watts) (distance goal split watts) refl h)
workout_reads_back limits (time goal split watts) h g p =
    let s : split < 256 ^ 4 = omega (arith, (within_limits_lem limits (time goal split watts) h).in_goal) in
    let minutes : goal / 60 % 60 ≤ 59 = omega arith in
    let seconds : goal % 60 ≤ 59 = omega arith in
    let back : 3600 * (goal / 3600 % 256) + 60 * (goal / 60 % 60) + goal % 60 ≡ goal =
    omega (arith, div-div-eq-div-mul goal 60 60) in
    read_laid_time limits split watts s p (goal / 3600 % 256) (goal / 60 % 60) (goal % 60)
    ∙ (simp (le-leb (goal / 60 % 60) 59 minutes, le-leb (goal % 60) 59 seconds))
    ∙ limited_sound limits _ (time goal split watts) (ap (λ (n : ℕ). time n split watts) back) h

-- Document 01's limits let through only what the bytes can hold.
pub pm3_sendable : (w : Programmed) → within_limits pm3_limits w ≡ true → Sendable w
unfolding distance_sendable
pm3_sendable (distance goal split watts) h =
    let l = (within_limits_lem pm3_limits (distance goal split watts) h).most in
    by_bool (eqb (goal % 1000) 0) (λ y. simp (y, le-leb (goal / 1000) 65535 (omega (arith, l))))
    (λ n. simp (n, le-leb goal 65535 (omega (arith, l))))
pm3_sendable (time goal split watts) h = omega (arith, (within_limits_lem pm3_limits (time goal split watts) h).most)

-- What is written within document 01's limits is read back.
pub pm3_reads_back : (w : Programmed) → within_limits pm3_limits w ≡ true → watts_of w < 2 ^ 16
    → workout_answer pm3_limits (workout_bytes w) ≡ result w
pm3_reads_back w h p = workout_reads_back pm3_limits w h (pm3_sendable w h) p

-- Document 02's No. 6: within 65,535 km, a distance can't be sent exactly when it is above 65,535 m and not whole km.
pub unsendable_exactly : (metres : ℕ) → metres ≤ 65535000
    → Exactly (distance_sendable metres ≡ false) ((65535 < metres) × (metres % 1000 ≡ 0 → ⊥))
unfolding distance_sendable
unsendable_exactly metres h = (
  (λ e. by_bool (eqb (metres % 1000) 0)
      (λ y. let f : leb (metres / 1000) 65535 ≡ false = simp y at e in
      absurd (omega (arith, leb-false (metres / 1000) 65535 f)))
      (λ n. let f : leb metres 65535 ≡ false = simp n at e in (leb-false metres 65535 f, eqb-false _ _ n))),
  (λ (far, part). simp (ne_eqb (metres % 1000) 0 part, lt-leb metres 65535 far)),
)

-- ---- the same of the answer and the lent slice

-- A workout that was written is read back from the bytes that were written, whatever the output held.
pub written_workout_reads_back : (limits : Limits) (w : Programmed) (out : List ℕ) (n : ℕ) → Sendable w
    → watts_of w < 2 ^ 16 → draft_answer (workout_draft limits w) (length out) ≡ result n
    → workout_answer limits (take n (draft_out (workout_draft limits w) out)) ≡ result w
written_workout_reads_back limits w out n g p e =
    let f = written_first (workout_draft limits w) out n e in
    let i = draft_is limits w f.0 f.1 in
    ap (workout_answer limits) (f.3 ∙ i.1) ∙ workout_reads_back limits w i.0 g p
