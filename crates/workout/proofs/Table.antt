-- Which answer is given exactly when: the papers' tables of refusals for workouts, alone and in a frame.
use Prim.Native.Nat.{ℕ}
use mathlib.Core.Path.{◌≡◌, refl, sym, ap, ◌∙◌, subst}
use mathlib.Core.Logic.{◌⊎◌, inl, inr}
use mathlib.Core.Bool.{true, false, true≢false}
use mathlib.Core.List.{List, ◌++◌}
use native.Mathlib.Nat.{zero-add}
use native.Mathlib.Omega.{arith}
use lib.Dec.{leb, eqb}
use lib.ListN.{length, get_or, drop}
use lib.Seq.{take_all}
use borrow.Author.Tests.{leb-true, leb-false, le-leb, eqb-true, eq-eqb}
use Rattle.answer.specs.Draft.{draft_answer, Writes}
use Rattle.answer.proofs.Drafts.{writes_refusal, writes_no_room, writes_done, written_first, lines_exactly}
use Rattle.answer.specs.Answer.{result, refused, Answer}
use Rattle.lists.specs.Choice.{Exactly}
use Rattle.lists.proofs.Cases.{by_bool, both_true, both_exactly}
use Rattle.lists.proofs.Tests.{within_yes, within_true}
use Rattle.frame.specs.Address.{in_range}
use Rattle.frame.specs.Frame.{wire_of}
use Rattle.workout.specs.Limits.{Limits}
use Rattle.workout.specs.Workout.{Programmed, distance, time, command_of, layout, within_limits}
use Rattle.workout.specs.Workout.{workout_bytes, workout_frame}
use Rattle.workout.specs.Form.{goal_kind_for, goal_kind_in, same_bytes, bytes_at, laid_out, unit_known, clock_right}
use Rattle.workout.specs.Form.{workout_as, has_form, in_limits}
use Rattle.workout.specs.Answers.{workout_answer, workout_draft, workout_frame_draft}
use Rattle.workout.specs.Conditions.{UnitKnown, Formed, WithinLimits, ClockRight, Limited, Readable}
use Rattle.workout.specs.Conditions.{WorkoutJudged, formless, over_limit, readable, WorkoutWritten, outside}
use Rattle.workout.specs.Conditions.{no_room, fits, WorkoutFrameWritten, bad_address, outside_limits}
use Rattle.workout.specs.Conditions.{no_room_for_frame, frame_fits}
use Rattle.workout.specs.declared.layout.GoalKind.{GoalKind}
use Rattle.workout.specs.declared.layout.GoalKind.TheVariants.{Distance, Time}
use Rattle.workout.proofs.SameLaws.{same_refl, same_true}
use Rattle.workout.proofs.LimitLaws.{within_goal_lem, goal_within}
use Rattle.workout.proofs.ReadLaws.{bytes_at_part}
use Rattle.workout.proofs.WriteLaws.{contents_length, draft_outside, draft_inside, draft_is, write_done}
use Rattle.workout.proofs.FrameLaws.{frame_bad_address, frame_outside, frame_inside}

-- ---- the form

unit_known_lem : (kind : GoalKind) (unit : ℕ) → unit_known kind unit ≡ true → UnitKnown kind unit
unit_known_lem Distance unit e =
    by_bool (eqb unit 0x21)
    (λ y. inl (eqb-true unit 0x21 y))
    (λ n. inr (eqb-true unit 0x24 (simp n at e)))
unit_known_lem Time unit e = tt

known_unit : (kind : GoalKind) (unit : ℕ) → UnitKnown kind unit → unit_known kind unit ≡ true
known_unit Distance unit (inl e) = simp (eq-eqb unit 0x21 e)
known_unit Distance unit (inr e) = by_bool (eqb unit 0x21) (λ y. simp y) (λ n. simp (n, eq-eqb unit 0x24 e))
known_unit Time unit e = refl

-- the command byte tells the kind
form_kind : (kind : GoalKind) (c : List ℕ) → Formed kind c → goal_kind_in c ≡ kind
unfolding bytes_at
form_kind kind c f = ap (λ (l : List ℕ). goal_kind_for (get_or l 0 0)) f.goal ∙ told kind
  where
    told : (kind : GoalKind) → goal_kind_for (command_of kind) ≡ kind
    told Distance = refl
    told Time = refl

-- bytes that have the form are those of the layout
pub form_layout : (kind : GoalKind) (c : List ℕ) → Formed kind c
    → c ≡ layout kind (bytes_at 2 3 c) (bytes_at 10 4 c) (bytes_at 16 2 c)
unfolding layout bytes_at
form_layout kind c f =
    sym (bytes_at_part 0 23 c (omega (arith, f.long)) ∙ take_all 23 c (omega (arith, f.long)))
    ∙ (λ i. f.goal i ++ (bytes_at 2 3 c
    ++ (f.split i ++ (bytes_at 10 4 c ++ (f.power i ++ (bytes_at 16 2 c ++ (f.watts i ++ f.last i)))))))

form_laid : (kind : GoalKind) (c : List ℕ) → Formed kind c → laid_out c ≡ true
unfolding laid_out
form_laid kind c f =
    simp (eq-eqb (length c) 23 f.long)
    (ap (λ (k : GoalKind). same_bytes c (layout k (bytes_at 2 3 c) (bytes_at 10 4 c) (bytes_at 16 2 c)))
    (form_kind kind c f)
    ∙ ap (same_bytes c) (sym (form_layout kind c f)) ∙ same_refl c)

form_yes : (kind : GoalKind) (c : List ℕ) → Formed kind c → has_form c ≡ true
unfolding has_form
form_yes kind c f =
    simp (form_laid kind c f)
    (ap (λ (k : GoalKind). unit_known k (get_or c 4 0)) (form_kind kind c f) ∙ known_unit kind (get_or c 4 0) f.unit)

form_of : (c : List ℕ) → has_form c ≡ true → Formed (goal_kind_in c) c
unfolding has_form laid_out layout bytes_at
form_of c h =
    let u = both_true (laid_out c) _ h in
    let l = both_true (eqb (length c) 23) _ u.0 in
    let e = same_true c (layout (goal_kind_in c) (bytes_at 2 3 c) (bytes_at 10 4 c) (bytes_at 16 2 c)) l.1 in
    record {
      long = eqb-true _ _ l.0;
      goal = ap (bytes_at 0 2) e;
      unit = unit_known_lem (goal_kind_in c) (get_or c 4 0) u.1;
      split = ap (bytes_at 5 5) e;
      power = ap (bytes_at 14 2) e;
      watts = ap (bytes_at 18 1) e;
      last = ap (bytes_at 19 4) e;
    }

-- ---- the limits

pub within_limits_lem : (limits : Limits) (w : Programmed) → within_limits limits w ≡ true → WithinLimits limits w
unfolding within_limits
within_limits_lem limits (distance goal split watts) e = within_goal_lem limits.distance limits.splits 1 goal split e
within_limits_lem limits (time goal split watts) e = within_goal_lem limits.time limits.splits 100 goal split e

pub limits_within : (limits : Limits) (w : Programmed) → WithinLimits limits w → within_limits limits w ≡ true
unfolding within_limits
limits_within limits (distance goal split watts) l = goal_within limits.distance limits.splits 1 goal split l
limits_within limits (time goal split watts) l = goal_within limits.time limits.splits 100 goal split l

-- where a limit is not kept
limits_outside : (limits : Limits) (w : Programmed) → (WithinLimits limits w → ⊥) → within_limits limits w ≡ false
limits_outside limits w n = by_bool (within_limits limits w) (λ y. absurd (n (within_limits_lem limits w y))) (λ y. y)

clock_right_lem : (kind : GoalKind) (c : List ℕ) → clock_right kind (get_or c 3 0) (get_or c 4 0) ≡ true → ClockRight kind c
clock_right_lem Distance c e = tt
clock_right_lem Time c e = let p = both_true (leb (get_or c 3 0) 59) _ e in (leb-true _ _ p.0, leb-true _ _ p.1)

right_clock : (kind : GoalKind) (c : List ℕ) → ClockRight kind c → clock_right kind (get_or c 3 0) (get_or c 4 0) ≡ true
right_clock Distance c r = refl
right_clock Time c r = simp (le-leb (get_or c 3 0) 59 r.0, le-leb (get_or c 4 0) 59 r.1)

limited_of : (limits : Limits) (c : List ℕ) → in_limits limits c ≡ true → Limited limits (goal_kind_in c) c
unfolding in_limits
limited_of limits c e =
    let p = both_true (clock_right (goal_kind_in c) (get_or c 3 0) (get_or c 4 0)) _ e in
    record {
      clock = clock_right_lem (goal_kind_in c) c p.0;
      within = within_limits_lem limits (workout_as (goal_kind_in c) c) p.1;
    }

limited_yes : (limits : Limits) (c : List ℕ) → Limited limits (goal_kind_in c) c → in_limits limits c ≡ true
unfolding in_limits
limited_yes limits c l =
    simp (right_clock (goal_kind_in c) c l.clock) (limits_within limits (workout_as (goal_kind_in c) c) l.within)

-- ---- the table of reading

module _ (limits : Limits) (c : List ℕ) where
  -- what the table says is the answer
  table_answer_lem : (a : Answer Programmed) → WorkoutJudged limits c a → workout_answer limits c ≡ a
  unfolding workout_answer
  table_answer_lem a (formless n) = by_bool (has_form c) (λ y. absurd (n (goal_kind_in c) (form_of c y))) (λ y. simp y)
  table_answer_lem a (over_limit kind f n) =
      by_bool (in_limits limits c)
      (λ y. absurd (n (subst (λ (k : GoalKind). Limited limits k c) (form_kind kind c f) (limited_of limits c y))))
      (λ y. simp (form_yes kind c f, y))
  table_answer_lem a (readable w r) =
      let k = form_kind r.kind c r.form in
      let l = limited_yes limits c (subst (λ (k : GoalKind). Limited limits k c) (sym k) r.limited) in
      simp (form_yes r.kind c r.form, l)
      (ap (λ (k : GoalKind). result (workout_as k c)) k ∙ ap result (sym r.workout))

  -- all contents have a line of the table
  some_line : (a : Answer Programmed) × WorkoutJudged limits c a
  some_line =
      by_bool (has_form c)
      (λ y. by_bool (in_limits limits c)
      (λ l. (
        result (workout_as (goal_kind_in c) c),
        readable _
            (record { kind = goal_kind_in c; form = form_of c y; limited = limited_of limits c l; workout = refl }),
      ))
      (λ l. (refused 12, over_limit (goal_kind_in c) (form_of c y) (λ r. true≢false (sym (limited_yes limits c r) ∙ l)))))
      (λ y. (refused 13, formless (λ kind f. true≢false (sym (form_yes kind c f) ∙ y))))

  -- Every answer is given exactly when the table gives it: a refusal where the rule that it names fails and all before
  -- it hold.
  pub read_by_table : (a : Answer Programmed) → Exactly (workout_answer limits c ≡ a) (WorkoutJudged limits c a)
  read_by_table a = (
    (λ e. subst (λ (x : Answer Programmed). WorkoutJudged limits c x)
        (sym (table_answer_lem some_line.0 some_line.1) ∙ e) some_line.1),
    table_answer_lem a,
  )

  -- Read exactly when form and limits hold, and then as that workout.
  pub read_exactly : (w : Programmed) → Exactly (workout_answer limits c ≡ result w) (Readable limits c w)
  read_exactly w =
      ((λ e. found (result w) ((read_by_table (result w)).0 e) w refl), (λ r. table_answer_lem (result w) (readable w r)))
    where
      found : (a : Answer Programmed) → WorkoutJudged limits c a → (w : Programmed) → a ≡ result w → Readable limits c w
      found a (formless n) w e = let z : ◌≡◌ {A = ℕ} 0 1 = cc in absurd (omega arith)
      found a (over_limit kind f n) w e = let z : ◌≡◌ {A = ℕ} 0 1 = cc in absurd (omega arith)
      found a (readable v r) w e = let q : v ≡ w = cc in subst (λ (x : Programmed). Readable limits c x) q r

-- ---- the table of writing

module _ (limits : Limits) (w : Programmed) (out : List ℕ) where
  -- what the table says is answered and left
  line_write : (a : Answer ℕ) (last : List ℕ) → WorkoutWritten limits w out a last
      → Writes (workout_draft limits w) out a last
  line_write a last (outside n) =
      writes_refusal (workout_draft limits w) 12 out (draft_outside limits w (limits_outside limits w n))
  line_write a last (no_room l h) =
      writes_no_room (workout_draft limits w) (workout_bytes w) out (draft_inside limits w (limits_within limits w l))
      (omega (arith, h, contents_length w))
  line_write a last (fits l h) =
      write_done limits w out (limits_within limits w l) h refl

  -- every call has a line of the table
  some_write : (a : Answer ℕ) × (last : List ℕ) × WorkoutWritten limits w out a last
  some_write =
      by_bool (within_limits limits w)
      (λ y. by_bool (leb 23 (length out))
      (λ r. (result 23, workout_bytes w ++ drop 23 out, fits (within_limits_lem limits w y) (leb-true _ _ r)))
      (λ r. (refused 1, out, no_room (within_limits_lem limits w y) (leb-false _ _ r))))
      (λ y. (refused 12, out, outside (λ l. true≢false (sym (limits_within limits w l) ∙ y))))

  -- Every answer to writing, with the output afterwards, is given exactly when the table gives it.
  pub written_by_table : (a : Answer ℕ) (last : List ℕ)
      → Exactly (Writes (workout_draft limits w) out a last) (WorkoutWritten limits w out a last)
  written_by_table = lines_exactly (workout_draft limits w) out (WorkoutWritten limits w out) line_write some_write

  -- A call that writes is answered, and leaves its output, exactly as the table says.
  pub writes_exactly : (a b : Answer ℕ) (last left : List ℕ) → Writes (workout_draft limits w) out a last
      → Exactly ((a ≡ b) × (last ≡ left)) (WorkoutWritten limits w out b left)
  writes_exactly a b last left p = both_exactly p (written_by_table b left)

  -- What is written is within the limits.
  pub written_within : (n : ℕ) → draft_answer (workout_draft limits w) (length out) ≡ result n
      → within_limits limits w ≡ true
  written_within n e = let f = written_first (workout_draft limits w) out n e in (draft_is limits w f.0 f.1).0

-- ---- the table of writing in a frame

module _ (limits : Limits) (to : ℕ) (w : Programmed) (out : List ℕ) where
  abbrev wire : List ℕ
  wire = wire_of (workout_frame to w)

  -- what the table says is answered and left
  line_frame : (a : Answer ℕ) (last : List ℕ) → WorkoutFrameWritten limits to w out a last
      → Writes (workout_frame_draft limits to w) out a last
  line_frame a last (bad_address n) =
      writes_refusal (workout_frame_draft limits to w) 9 out
      (frame_bad_address limits to w
      (by_bool (in_range to) (λ y. absurd (n (within_true 0x01 0xFC to y))) (λ y. y)))
  line_frame a last (outside_limits h k n) =
      writes_refusal (workout_frame_draft limits to w) 12 out
      (frame_outside limits to w (within_yes 0x01 0xFC to h k) (limits_outside limits w n))
  line_frame a last (no_room_for_frame h k l r) =
      writes_no_room (workout_frame_draft limits to w) wire out
      (frame_inside limits to w (within_yes 0x01 0xFC to h k) (limits_within limits w l)) r
  line_frame a last (frame_fits h k l r) =
      writes_done (workout_frame_draft limits to w) wire out (wire ++ drop (length wire) out)
      (frame_inside limits to w (within_yes 0x01 0xFC to h k) (limits_within limits w l)) r
      (ap (λ (n : ℕ). wire ++ drop n out) (sym (zero-add (length wire))))

  -- every call has a line of the table
  some_frame : (a : Answer ℕ) × (last : List ℕ) × WorkoutFrameWritten limits to w out a last
  some_frame =
      by_bool (in_range to)
      (λ r. let (h, k) = within_true 0x01 0xFC to r in
      by_bool (within_limits limits w)
      (λ y. let l = within_limits_lem limits w y in
      by_bool (leb (length wire) (length out))
      (λ f. (result (length wire), wire ++ drop (length wire) out, frame_fits h k l (leb-true _ _ f)))
      (λ f. (refused 1, out, no_room_for_frame h k l (leb-false _ _ f))))
      (λ y. (refused 12, out, outside_limits h k (λ l. true≢false (sym (limits_within limits w l) ∙ y)))))
      (λ r. (refused 9, out, bad_address (λ (h, k). true≢false (sym (within_yes 0x01 0xFC to h k) ∙ r))))

  -- A call that writes a workout in a frame is answered, and leaves its output, exactly as the table says.
  pub frame_writes_exactly : (a b : Answer ℕ) (last left : List ℕ) → Writes (workout_frame_draft limits to w) out a last
      → Exactly ((a ≡ b) × (last ≡ left)) (WorkoutFrameWritten limits to w out b left)
  frame_writes_exactly a b last left p =
      both_exactly p
      (lines_exactly (workout_frame_draft limits to w) out (WorkoutFrameWritten limits to w out) line_frame some_frame
      b left)

  -- The table has no refusals but 9, 12 and 1.
  pub frame_refusals : (n : ℕ) (last : List ℕ) → WorkoutFrameWritten limits to w out (refused n) last
      → (n ≡ 9) ⊎ (n ≡ 12) ⊎ (n ≡ 1)
  frame_refusals n last t = numbered (refused n) last t refl
    where
      numbered : (a : Answer ℕ) (last : List ℕ) → WorkoutFrameWritten limits to w out a last → a ≡ refused n
          → (n ≡ 9) ⊎ (n ≡ 12) ⊎ (n ≡ 1)
      numbered a last (bad_address m) e = let q : n ≡ 9 = cc in inl q
      numbered a last (outside_limits h k m) e = let q : n ≡ 12 = cc in inr (inl q)
      numbered a last (no_room_for_frame h k l r) e = let q : n ≡ 1 = cc in inr (inr q)
      numbered a last (frame_fits h k l r) e = let z : ◌≡◌ {A = ℕ} 0 1 = cc in absurd (omega arith)
