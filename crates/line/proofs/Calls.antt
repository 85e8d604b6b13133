-- Demand 3 of the functions themselves: any calls, known by nothing but what the contracts tell a caller, are answered
-- as the located reference decoder answers.
use mathlib.Core.Path.{◌≡◌, sym, ap, ◌∙◌, subst}
use mathlib.Core.List.{List, map}
use Prim.Native.Nat.{ℕ}
use contract.Lifetimes.{Lfts}
use denote.MutBor.{MutBor}
use Rattle.lists.specs.Machine.{run, Answered}
use Rattle.lists.proofs.Machines.{run_told, ran-run}
use Rattle.framing.specs.Reference.{Call, byte, finish}
use Rattle.framing.specs.Located.{Located, answer_in, position_in, located_by}
use Rattle.framing.specs.LocatedDemand3.{located_told_by, LocatedDemand3}
use Rattle.framing.proofs.Located.{located_demand3_of}
use Rattle.framing.proofs.Counting.{located_told}
use Rattle.frame.specs.declared.Origin.{Origin}
use Rattle.candidate.specs.Outcome.{Outcome, summary_of}
use Rattle.line.specs.Rowing.{located_rowing}
use Rattle.line.specs.Answers.{located_outcome, ValueAnswer, value_answer_of, value_outcome}
use Rattle.line.specs.Reader.{lent_reader, turn_of, outcome_at, lent_outcome, next_after, answer_means, AsNew}
use Rattle.line.specs.Reader.{LentStepIs}
use Rattle.line.specs.Chunks.{FullExactly}
use Rattle.line.specs.declared.State.{State}
use Rattle.line.specs.declared.LineReader.{LineReader}
use Rattle.line.specs.declared.LentStep.{LentStep}
use Rattle.line.specs.declared.Stepped.{Stepped}
use Rattle.line.proofs.ValueLaws.{call_whole, value_outcome_lem}
use Rattle.line.proofs.Follows.{as_new_follows, new_as_new, reader_follows}
use Rattle.line.proofs.ChunkLaws.{full_exactly}
use Rattle.line.proofs.LineReader.new.Reads as new-reads
use Rattle.line.proofs.LineReader.step.Reads as step-reads
use Rattle.line.proofs.LineReader.finish.Reads as finish-reads
use Rattle.line.proofs.step_in.Reads as step-in-reads
use Rattle.line.proofs.finish_in.Reads as finish-in-reads

-- of what is answered and left as the definitions say
full_kept : (r u : LineReader) (c : Call) (a : Located Outcome) → a ≡ outcome_at r c → u ≡ next_after r c
    → FullExactly r c a u
full_kept r u c a e n =
    subst (λ (x : Located Outcome). FullExactly r c x u) (sym e)
    (subst (FullExactly r c (outcome_at r c)) (sym n) (full_exactly r c))

-- ---- by value

-- A reader that `new` returned for an origin.
abbrev pub Made : Origin → LineReader → Type 0
Made o r = new-reads.Learnt tt (o, tt) r (o, tt)

pub made_as_new : {o : Origin} {r : LineReader} → Made o r → AsNew o r
made_as_new {o} k = subst (AsNew o) (sym k) (new_as_new o)

-- A call on a reader, its whole answer and the reader that it left, known by what the function's contract tells a
-- caller.
pub data Called : LineReader → Call → Located ValueAnswer → LineReader → Type 0 where
  stepped : {r : LineReader} {b : ℕ} (s : Stepped) → step-reads.Learnt tt (r, (b, tt)) s (r, (b, tt))
      → Called r (byte b) (answer_means s.answer) s.next
  finished : {r : LineReader} (s : Stepped) → finish-reads.Learnt tt (r, tt) s (r, tt)
      → Called r finish (answer_means s.answer) s.next

pub called_turns : (r u : LineReader) (c : Call) (a : Located ValueAnswer) → Called r c a u
    → (a ≡ located_by value_answer_of (outcome_at r c)) × (u ≡ next_after r c)
called_turns r u c a (stepped s k) = (k.answer_is, k.next_is)
called_turns r u c a (finished s k) = (k.answer_is, k.next_is)

-- Demand 3 of `new`, `step` and `finish` at any origin, whole: every answer, its position and all 118 bytes of its array
-- included, is the one that the reference decoder's outcome is.
pub demand_3 : (o : Origin)
    → LocatedDemand3 (located_told_by value_answer_of (located_rowing o)) (Answered Called (Made o))
demand_3 o =
    located_demand3_of (located_told_by value_answer_of (located_rowing o)) (Answered Called (Made o))
    (λ calls answers k.
    (ran-run Called (λ r c. located_by value_answer_of (outcome_at r c)) next_after (λ r. r) called_turns k.ran).0
    ∙ run_told (located_by value_answer_of) outcome_at next_after k.start calls
    ∙ ap (λ (r : LineReader). map (located_by value_answer_of) (run outcome_at next_after r calls)) k.made
    ∙ ap (map (located_by value_answer_of)) ((reader_follows o).same calls)
    ∙ located_told value_answer_of (located_rowing o) calls)

-- A call of `step` or `finish` is answered 16 exactly where the reader is full, at position 0, and then leaves the reader
-- as it was.
pub called_full_exactly : (r u : LineReader) (c : Call) (a : Located ValueAnswer) → Called r c a u
    → FullExactly r c (value_outcome a) u
called_full_exactly r u c a k =
    let t = called_turns r u c a k in
    full_kept r u c (value_outcome a) (ap value_outcome t.0 ∙ value_outcome_lem (outcome_at r c)) t.1

-- ---- over a lent array

-- the enum, the position and the array that is left tell the outcome
pub lent_outcome_lem : (bytes : List ℕ) (s : LentStep) (r : LineReader) (c : Call) → LentStepIs bytes s (turn_of r c)
    → lent_outcome s bytes ≡ outcome_at r c
lent_outcome_lem bytes s r c k =
    let a = outcome_at r c in
    (λ i. located_outcome (k.told_is i) (k.position_is i) bytes)
    ∙ ap (λ (u : LineReader). located_outcome (summary_of (answer_in a)) (position_in a) u.bytes) k.next_is
    ∙ call_whole r c

-- A call on a reader that is a lent array and a state, its outcome and the reader that it left.
pub data CalledLent : LineReader → Call → Located Outcome → LineReader → Type 0 where
  stepped_lent : (κs : Lfts 1) (ρ ρ' : MutBor (List ℕ)) {state : State} {b : ℕ} (s : LentStep)
      → step-in-reads.Learnt κs (ρ, (state, (b, tt))) s (ρ', (state, (b, tt)))
      → CalledLent (lent_reader ρ.now state) (byte b) (lent_outcome s ρ'.now) (lent_reader ρ'.now s.state)
  finished_lent : {bytes : List ℕ} {state : State} (s : LentStep) → finish-in-reads.Learnt tt (state, tt) s (state, tt)
      → CalledLent (lent_reader bytes state) finish (lent_outcome s bytes) (lent_reader bytes s.state)

pub lent_turns : (r u : LineReader) (c : Call) (o : Located Outcome) → CalledLent r c o u
    → (o ≡ outcome_at r c) × (u ≡ next_after r c)
lent_turns r u c o (stepped_lent κs ρ ρ' s k) = (lent_outcome_lem ρ'.now s r c k, k.next_is)
lent_turns r u c o (finished_lent {bytes = bytes} s k) = (lent_outcome_lem bytes s r c (k bytes), (k bytes).next_is)

-- Demand 3 of `step_in` and `finish_in` at any origin, whole.
pub lent_demand_3 : (o : Origin) → LocatedDemand3 (located_rowing o) (Answered CalledLent (AsNew o))
lent_demand_3 o =
    located_demand3_of (located_rowing o) (Answered CalledLent (AsNew o))
    (λ calls outcomes k. (ran-run CalledLent outcome_at next_after (λ r. r) lent_turns k.ran).0
    ∙ (as_new_follows o k.start k.made).same calls)

-- A call of `step_in` or `finish_in` is answered 16 exactly where the reader is full, at position 0, and then leaves the
-- reader as it was.
pub lent_full_exactly : (r u : LineReader) (c : Call) (a : Located Outcome) → CalledLent r c a u → FullExactly r c a u
lent_full_exactly r u c a k = let t = lent_turns r u c a k in full_kept r u c a t.0 t.1
