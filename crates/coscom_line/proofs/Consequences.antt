-- The reader that calls leave, in any form, is as new after a finish and after the stop flag, and it never answers 1. What
-- is told, and to which call, is a table on the calls alone.
use mathlib.Core.Path.{◌≡◌, refl, sym, ◌∙◌, subst}
use mathlib.Core.List.{List, [], ◌∷◌, ◌++◌}
use native.Mathlib.Omega.{arith}
use Prim.Native.Nat.{ℕ}
use lib.ListN.{length}
use Rattle.lists.specs.Choice.{Every}
use Rattle.lists.specs.Machine.{run, left_after, Answered, RanBy, AnsweredBy}
use Rattle.lists.proofs.Machines.{left_append, left_keeps, run_every}
use Rattle.answer.specs.Answer.{refused}
use Rattle.framing.specs.Reference.{Call, byte, finish}
use Rattle.framing.specs.Demand3.{told_by}
use Rattle.framing.specs.Table.{PlainLaws}
use Rattle.framing.proofs.Bounded.{bounded_kept}
use Rattle.framing.proofs.Table.{plain_laws}
use Rattle.coscom.specs.Flags.{stop_flag}
use Rattle.coscom.specs.Verdict.{Verdict, verdict}
use Rattle.coscom.specs.Conditions.{Judged, truncated, long, short, bad_character, bad_sum, sound}
use Rattle.coscom.proofs.Table.{verdict_by_table}
use Rattle.coscom_line.specs.Outcome.{Outcome, nothing, judged, Not1, capacity, value_answer_of}
use Rattle.coscom_line.specs.Reader.{coscom, coscom_bounds, seen, AsNew, outcome_at, next_after}
use Rattle.coscom_line.specs.Chunk.{AsSingly}
use Rattle.coscom_line.specs.declared.LineReader.{LineReader}
use Rattle.framing.specs.declared.Mode.TheVariants.{Outside}
use Rattle.coscom_line.proofs.Follows.{coscom_suits}
use Rattle.coscom_line.proofs.OutcomeLaws.{every_outcome}
use Rattle.coscom_line.proofs.Calls.{New, Called, demand_3, CalledLent, lent_demand_3}
use Rattle.coscom_line.proofs.ChunkCalls.{CalledOn, chunks_singly, chunks_demand_3}

-- ---- never 1

-- no verdict is
verdict_not_1 : (w : List ℕ) → verdict w ≡ refused 1 → ⊥
verdict_not_1 w e = table (refused 1) ((verdict_by_table w (refused 1)).0 e) refl
  where
    apart : (n : ℕ) → (n ≡ 1 → ⊥) → ◌≡◌ {A = Verdict} (refused n) (refused 1) → ⊥
    apart n h e = let q : n ≡ 1 = cc in h q

    table : (v : Verdict) → Judged w v → v ≡ refused 1 → ⊥
    table v (truncated k) e = apart 6 (λ q. omega arith) e
    table v (long t k) e = apart 2 (λ q. omega arith) e
    table v (short t l k) e = apart 4 (λ q. omega arith) e
    table v (bad_character t l g k) e = apart 22 (λ q. omega arith) e
    table v (bad_sum t l g x k) e = apart 5 (λ q. omega arith) e
    table v (sound p s) e = let z : ◌≡◌ {A = ℕ} 0 1 = cc in omega arith

judged_not_1 : (v : Verdict) → (v ≡ refused 1 → ⊥) → Not1 (judged v)
judged_not_1 v h e = let q : v ≡ refused 1 = cc in h q

other_not_1 : (n : ℕ) → (n ≡ 1 → ⊥) → Not1 (judged (refused n))
other_not_1 n h e = let q : n ≡ 1 = cc in h q

silent_not_1 : Not1 nothing
silent_not_1 e = let z : ◌≡◌ {A = ℕ} 0 1 = cc in omega arith

call_not_1 : (r : LineReader) (c : Call) → Not1 (outcome_at r c)
call_not_1 =
    every_outcome Not1 silent_not_1 (other_not_1 6 (λ q. omega arith)) (other_not_1 2 (λ q. omega arith))
    (λ w. judged_not_1 (verdict w) (verdict_not_1 w))

-- No call on a reader is answered 1.
pub run_never_1 : (r : LineReader) (calls : List Call) → Every Not1 (run outcome_at next_after r calls)
run_never_1 r calls = run_every outcome_at next_after (λ u. Unit {0}) Not1 (λ u c k. (tt, call_not_1 u c)) r calls tt

-- No call of a row, in whichever form and on whichever reader, is answered 1.
pub calls_never_1 : {r last : LineReader} {calls : List Call} {outcomes : List Outcome}
    → RanBy CalledOn r calls outcomes last → Every Not1 outcomes
calls_never_1 {r} {last} {calls} k = subst (Every Not1) (sym (chunks_singly k).answers_are) (run_never_1 r calls)

-- ---- as new

abbrev HasArray : LineReader → Type 0
HasArray r = length r.bytes ≡ capacity

call_kept : (r : LineReader) (c : Call) → HasArray r → HasArray (next_after r c)
call_kept r c h = bounded_kept coscom coscom_bounds coscom_suits (seen r) c h

module _ (r last : LineReader) (calls : List Call) (outcomes : List Outcome) (h : HasArray r) where
  -- after a call that leaves it outside of a candidate
  closed_by : (c : Call) → (next_after (left_after next_after r calls) c).state.mode ≡ Outside
      → AsSingly r (calls ++ c ∷ []) outcomes last → AsNew last
  closed_by c e k =
      let u = left_after next_after r calls in
      subst AsNew (sym (k.state_is ∙ left_append next_after r calls (c ∷ [])))
      (record { array = call_kept u c (left_keeps next_after HasArray call_kept r calls h); outside_is = e })

  -- The reader that calls leave which are answered as singly, the last a finish or the stop flag, is as new, whatever
  -- it was before.
  pub left_new : AsSingly r (calls ++ finish ∷ []) outcomes last → AsNew last
  left_new k = closed_by finish refl k

  pub left_closed : AsSingly r (calls ++ byte stop_flag ∷ []) outcomes last → AsNew last
  left_closed k = closed_by (byte stop_flag) refl k

  -- So it is after any calls in a row, in whichever form.
  pub calls_left_new : RanBy CalledOn r (calls ++ finish ∷ []) outcomes last → AsNew last
  calls_left_new k = left_new (chunks_singly k)

  pub calls_left_closed : RanBy CalledOn r (calls ++ byte stop_flag ∷ []) outcomes last → AsNew last
  calls_left_closed k = left_closed (chunks_singly k)

-- ---- the table on the calls alone

-- Of `new`, `step` and `finish`, with every byte of each answer; over a lent array; and by the chunk and the byte in any
-- form: what is told and to which call, and what a finish and the stop flag leave.
pub laws_by_value : PlainLaws (told_by value_answer_of coscom) (Answered Called New)
laws_by_value = plain_laws (told_by value_answer_of coscom) (Answered Called New) demand_3

pub laws_lent : PlainLaws coscom (Answered CalledLent AsNew)
laws_lent = plain_laws coscom (Answered CalledLent AsNew) lent_demand_3

pub laws_by_chunk : PlainLaws coscom (AnsweredBy CalledOn AsNew)
laws_by_chunk = plain_laws coscom (AnsweredBy CalledOn AsNew) chunks_demand_3
