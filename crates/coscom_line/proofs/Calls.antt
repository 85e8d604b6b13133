-- Demand 3 of the functions themselves: any calls, known by nothing but what the contracts tell a caller, are answered
-- as the reference decoder answers.
use mathlib.Core.Path.{◌≡◌, sym, ap, ◌∙◌, subst}
use mathlib.Core.List.{List, map}
use Prim.Native.Nat.{ℕ}
use contract.Lifetimes.{Lfts}
use denote.MutBor.{MutBor}
use Rattle.lists.specs.Machine.{run, Answered}
use Rattle.lists.proofs.Machines.{run_told, ran-run}
use Rattle.framing.specs.Reference.{Call, byte, finish}
use Rattle.framing.specs.Demand3.{told_by, Demand3}
use Rattle.framing.proofs.Bounded.{bounded_demand_3}
use Rattle.framing.proofs.Restart.{demand3_of, reference_told}
use Rattle.coscom_line.specs.Outcome.{Outcome, summary_of, outcome_of, ValueAnswer, value_answer_of}
use Rattle.coscom_line.specs.Reader.{coscom, coscom_bounds, lent_reader, AsNew, seen, turn_of, outcome_at}
use Rattle.coscom_line.specs.Reader.{next_after, LentStepIs, answer_means, lent_outcome}
use Rattle.framing.specs.declared.Held.{Held}
use Rattle.coscom_line.specs.declared.LineReader.{LineReader}
use Rattle.coscom_line.specs.declared.LentStep.{LentStep}
use Rattle.coscom_line.specs.declared.Stepped.{Stepped}
use Rattle.coscom_line.proofs.ReaderLaws.{call_seen}
use Rattle.coscom_line.proofs.ValueLaws.{call_whole}
use Rattle.coscom_line.proofs.Follows.{coscom_suits, as_new_follows, new_as_new}
use Rattle.coscom_line.proofs.LineReader.new.Reads as new-reads
use Rattle.coscom_line.proofs.LineReader.step.Reads as step-reads
use Rattle.coscom_line.proofs.LineReader.finish.Reads as finish-reads
use Rattle.coscom_line.proofs.step_in.Reads as step-in-reads
use Rattle.coscom_line.proofs.finish_in.Reads as finish-in-reads

-- ---- by value

-- A reader that `new` returned.
abbrev pub New : LineReader → Type 0
New r = new-reads.Learnt tt tt r tt

pub made_as_new : {r : LineReader} → New r → AsNew r
made_as_new k = subst AsNew (sym k) new_as_new

-- A call on a reader, its whole answer and the reader that it left, known by what the function's contract tells a
-- caller.
pub data Called : LineReader → Call → ValueAnswer → LineReader → Type 0 where
  stepped : {r : LineReader} {b : ℕ} (s : Stepped) → step-reads.Learnt tt (r, (b, tt)) s (r, (b, tt))
      → Called r (byte b) (answer_means s.answer) s.next
  finished : {r : LineReader} (s : Stepped) → finish-reads.Learnt tt (r, tt) s (r, tt)
      → Called r finish (answer_means s.answer) s.next

pub called_turns : (r u : LineReader) (c : Call) (a : ValueAnswer) → Called r c a u
    → (a ≡ value_answer_of (outcome_at r c)) × (u ≡ next_after r c)
called_turns r u c a (stepped s k) = (k.answer_is, k.next_is)
called_turns r u c a (finished s k) = (k.answer_is, k.next_is)

-- Demand 3 of `new`, `step` and `finish`, whole: every answer, all 254 bytes of its array included, is the one that the
-- reference decoder's outcome is.
pub demand_3 : Demand3 (told_by value_answer_of coscom) (Answered Called New)
demand_3 =
    demand3_of (told_by value_answer_of coscom) (Answered Called New)
    (λ calls answers k.
    (ran-run Called (λ r c. value_answer_of (outcome_at r c)) next_after (λ r. r) called_turns k.ran).0
    ∙ run_told value_answer_of outcome_at next_after k.start calls
    ∙ ap (λ (r : LineReader). map value_answer_of (run outcome_at next_after r calls)) k.made
    ∙ ap (map value_answer_of) ((as_new_follows _ new_as_new).same calls)
    ∙ reference_told value_answer_of coscom calls)

-- ---- over a lent array

-- what is told and the array that is left make the outcome
lent_outcome_lem : (bytes : List ℕ) (s : LentStep) (r : LineReader) (c : Call) → LentStepIs bytes s (turn_of r c)
    → lent_outcome s bytes ≡ outcome_at r c
lent_outcome_lem bytes s r c k =
    (λ i. outcome_of (k.told_is i) bytes)
    ∙ ap (λ (u : LineReader). outcome_of (summary_of (outcome_at r c)) u.bytes) k.next_is
    ∙ call_whole r c

-- A call on a reader that is a lent array and a state, its outcome and the reader that it left.
pub data CalledLent : LineReader → Call → Outcome → LineReader → Type 0 where
  stepped_lent : (κs : Lfts 1) (ρ ρ' : MutBor (List ℕ)) {state : Held (Unit {0})} {b : ℕ} (s : LentStep)
      → step-in-reads.Learnt κs (ρ, (state, (b, tt))) s (ρ', (state, (b, tt)))
      → CalledLent (lent_reader ρ.now state) (byte b) (lent_outcome s ρ'.now) (lent_reader ρ'.now s.state)
  finished_lent : {bytes : List ℕ} {state : Held (Unit {0})} (s : LentStep) → finish-in-reads.Learnt tt (state, tt) s (state, tt)
      → CalledLent (lent_reader bytes state) finish (lent_outcome s bytes) (lent_reader bytes s.state)

pub lent_turns : (r u : LineReader) (c : Call) (o : Outcome) → CalledLent r c o u
    → (o ≡ outcome_at r c) × (u ≡ next_after r c)
lent_turns r u c o (stepped_lent κs ρ ρ' s k) = (lent_outcome_lem ρ'.now s r c k, k.next_is)
lent_turns r u c o (finished_lent {bytes = bytes} s k) = (lent_outcome_lem bytes s r c (k bytes), (k bytes).next_is)

-- Demand 3 of `step_in` and `finish_in`, whole.
pub lent_demand_3 : Demand3 coscom (Answered CalledLent AsNew)
lent_demand_3 =
    bounded_demand_3 coscom coscom_bounds coscom_suits CalledLent AsNew seen
    (λ r u c o k. let t = lent_turns r u c o k in (t.0, ap seen t.1 ∙ call_seen r c))
    (λ r n. (n.array, n.outside_is))
