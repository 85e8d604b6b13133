-- The reader that calls leave, in any form: after a finish it is as new, after the stop flag as new but for the count. It
-- keeps its origin, and never answers 1.
use mathlib.Core.Path.{◌≡◌, refl, sym, ap, ◌∙◌, subst}
use mathlib.Core.Logic.{inl, inr}
use mathlib.Core.List.{List, [], ◌∷◌, ◌++◌}
use native.Mathlib.Omega.{arith}
use Prim.Native.Nat.{ℕ, ◌+◌, ◌≤◌, ◌<◌}
use lib.ListN.{length}
use Rattle.lists.specs.Choice.{Every}
use Rattle.lists.specs.Machine.{run, left_after, RanBy}
use Rattle.lists.proofs.Machines.{left_append, left_keeps, run_every}
use Rattle.framing.specs.Reference.{Call, byte, finish}
use Rattle.framing.specs.Bounded.{BoundedReader}
use Rattle.framing.proofs.Bounded.{bounded_kept}
use Rattle.framing.specs.Located.{Located, answer_in}
use Rattle.framing.specs.LocatedDemand3.{bytes_since_finish}
use Rattle.frame.specs.Flags.{stop_flag}
use Rattle.frame.specs.declared.Kind.{Kind}
use Rattle.candidate.specs.Outcome.{Outcome, capacity, Not1}
use Rattle.candidate.specs.Rowing.{rowing, rowing_bounds}
use Rattle.candidate.specs.Holder.{Holder, holder, origin_held, seen, next_held, turn_held}
use Rattle.candidate.proofs.HolderLaws.{call_seen}
use Rattle.candidate.proofs.HolderLaws.{origin_kept as held-origin}
use Rattle.candidate.proofs.Follows.{rowing_suits}
use Rattle.candidate.proofs.OutcomeLaws.{OwnNumber, OwnOutcome, own_outcome}
use Rattle.line.specs.Rowing.{most_bytes, full}
use Rattle.line.specs.Reader.{origin_of, ReaderTurn, outcome_at, next_after, ClosedAt, AsNew}
use Rattle.line.specs.Chunks.{AsSingly}
use Rattle.line.specs.declared.LineReader.{LineReader}
use Rattle.line.proofs.StepLaws.{answer_located, step_taken, by_count}
use Rattle.line.proofs.ChunkCalls.{CalledOn, chunks_singly}
use Rattle.line.proofs.FullCalls.{left_count}

-- ---- a reader keeps its origin

-- Every call keeps the reader's origin.
pub origin_kept : (r : LineReader) (c : Call) → origin_of (next_after r c) ≡ origin_of r
origin_kept r (byte b) =
    by_count r b (λ (t : ReaderTurn). origin_of t.next ≡ origin_of r)
    (λ h. held-origin (holder r.bytes r.state.held) (byte b)) (λ h. refl)
origin_kept r finish = held-origin (holder r.bytes r.state.held) finish

pub left_origin : (r : LineReader) (calls : List Call) → origin_of (left_after next_after r calls) ≡ origin_of r
left_origin r calls =
    left_keeps next_after (λ (u : LineReader). origin_of u ≡ origin_of r) (λ u c k. origin_kept u c ∙ k) r calls refl

-- ---- what holds of every outcome of a reader

-- what holds of 16, and of every outcome of what holds the candidate of a sort of readers
module _ (P : Outcome → Type 0) (sort : LineReader → Type 0) (refused : P full)
    (own : (r : LineReader) (c : Call) → sort r → P (turn_held (holder r.bytes r.state.held) c).answer)
    (kept : (r : LineReader) (c : Call) → sort r → sort (next_after r c)) where
  each_outcome : (r : LineReader) (c : Call) → sort r → P (answer_in (outcome_at r c))
  each_outcome r (byte b) s =
      by_count r b (λ (t : ReaderTurn). P (answer_in t.answer))
      (λ h. subst P (sym (answer_located _ r.state.start)) (own r (byte b) s)) (λ h. refused)
  each_outcome r finish s = subst P (sym (answer_located _ r.state.start)) (own r finish s)

  -- Holds of every outcome of such a reader, whatever its other fields are.
  pub every_run : (r : LineReader) → sort r → (calls : List Call)
      → Every (λ (a : Located Outcome). P (answer_in a)) (run outcome_at next_after r calls)
  every_run r s calls =
      run_every outcome_at next_after sort (λ (a : Located Outcome). P (answer_in a))
      (λ u c k. (kept u c k, each_outcome u c k)) r calls s

-- ---- never 1

full_not_1 : Not1 full
full_not_1 e = let q : ◌≡◌ {A = ℕ} 16 1 = cc in omega (arith, q)

own_not_1 : (o : Outcome) → OwnOutcome o → Not1 o
own_not_1 o h e = by_number (h 1 e)
  where
    by_number : OwnNumber 1 → ⊥
    by_number (inl k) = omega (arith, k.0)
    by_number (inr k) = omega (arith, k)

pub run_never_1 : (r : LineReader) (calls : List Call)
    → Every (λ (a : Located Outcome). Not1 (answer_in a)) (run outcome_at next_after r calls)
run_never_1 r =
    every_run Not1 (λ r. Unit {0}) full_not_1
    (λ r c s. own_not_1 _ (own_outcome (holder r.bytes r.state.held) c)) (λ r c s. tt) r tt

-- No call of a row, in whichever form and on whichever reader, is answered 1.
pub calls_never_1 : {r last : LineReader} {calls : List Call} {outcomes : List (Located Outcome)}
    → RanBy CalledOn r calls outcomes last → Every (λ (a : Located Outcome). Not1 (answer_in a)) outcomes
calls_never_1 {r} {last} {calls} k =
    subst (Every (λ (a : Located Outcome). Not1 (answer_in a))) (sym (chunks_singly k).answers_are) (run_never_1 r calls)

-- ---- as new

-- every call on what holds the candidate keeps the array's length
held_kept : (r : Holder) (c : Call) → length r.bytes ≡ capacity → length (next_held r c).bytes ≡ capacity
held_kept r c h =
    let o = origin_held r in
    ap (λ (u : BoundedReader Kind). length u.bytes) (call_seen o r c refl).1
    ∙ bounded_kept (rowing o) (rowing_bounds o) (rowing_suits o) (seen r) c h

abbrev HasArray : LineReader → Type 0
HasArray r = length r.bytes ≡ capacity

call_kept : (r : LineReader) (c : Call) → HasArray r → HasArray (next_after r c)
call_kept r finish h = h
call_kept r (byte b) h =
    by_count r b (λ (t : ReaderTurn). HasArray t.next)
    (λ l. held_kept (holder r.bytes r.state.held) (byte b) h) (λ l. h)

left_kept : (r : LineReader) (calls : List Call) → HasArray r → HasArray (left_after next_after r calls)
left_kept r calls h = left_keeps next_after HasArray call_kept r calls h

-- of what is answered as single calls are
module _ (r last : LineReader) (calls : List Call) (outcomes : List (Located Outcome)) (h : length r.bytes ≡ capacity)
  where
    pub left_new : AsSingly r (calls ++ finish ∷ []) outcomes last → AsNew (origin_of r) last
    left_new k =
        let u = left_after next_after r calls in
        subst (AsNew (origin_of r)) (sym (k.state_is ∙ left_append next_after r calls (finish ∷ [])))
        (record { array = left_kept r calls h; outside_is = refl; origin_is = left_origin r calls; count_is = refl })

    pub left_closed : AsSingly r (calls ++ byte stop_flag ∷ []) outcomes last → r.state.count ≤ most_bytes
        → bytes_since_finish r.state.count calls < most_bytes
        → ClosedAt (bytes_since_finish r.state.count calls + 1) (origin_of r) last
    left_closed k l room =
        let u = left_after next_after r calls in
        let n : u.state.count ≡ bytes_since_finish r.state.count calls =
        (left_count r l calls).0 (omega (arith, room)) in
        subst (ClosedAt (bytes_since_finish r.state.count calls + 1) (origin_of r))
        (sym (k.state_is ∙ left_append next_after r calls (byte stop_flag ∷ [])))
        (subst (λ (t : ReaderTurn). ClosedAt (bytes_since_finish r.state.count calls + 1) (origin_of r) t.next)
        (sym (step_taken u stop_flag (omega (arith, n, room))))
        (record {
          array = held_kept (holder u.bytes u.state.held) (byte stop_flag) (left_kept r calls h);
          outside_is = refl;
          origin_is = left_origin r calls;
          count_is = ap (λ (m : ℕ). m + 1) n;
        }))

    -- The reader that any calls in a row leave, in whichever form, the last a finish, is as a new one of the origin that it
    -- had, whatever else it was before, full or not.
    pub calls_left_new : RanBy CalledOn r (calls ++ finish ∷ []) outcomes last → AsNew (origin_of r) last
    calls_left_new k = left_new (chunks_singly k)

    -- Where the last is the stop flag, and the reader can take it, it is so but for the count.
    pub calls_left_closed : RanBy CalledOn r (calls ++ byte stop_flag ∷ []) outcomes last → r.state.count ≤ most_bytes
        → bytes_since_finish r.state.count calls < most_bytes
        → ClosedAt (bytes_since_finish r.state.count calls + 1) (origin_of r) last
    calls_left_closed k = left_closed (chunks_singly k)
