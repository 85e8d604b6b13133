-- Document 02, No. 7, of calls in each form: what is told, and at which position, exactly where the table says so, and
-- what a full reader, a finish and a stop flag leave.
use Rattle.lists.specs.Machine.{Answered, AnsweredBy}
use Rattle.framing.specs.LocatedDemand3.{located_told_by}
use Rattle.framing.specs.LocatedTable.{LocatedLaws}
use Rattle.framing.proofs.LocatedTable.{located_laws}
use Rattle.frame.specs.declared.Origin.{Origin}
use Rattle.line.specs.Rowing.{located_rowing}
use Rattle.line.specs.Answers.{value_answer_of}
use Rattle.line.specs.Reader.{AsNew}
use Rattle.line.proofs.Calls.{Made, Called, demand_3, CalledLent, lent_demand_3}
use Rattle.line.proofs.ChunkCalls.{CalledOn, chunks_demand_3}

-- `step` and `finish`, with all 118 bytes of each answer.
pub laws_by_value : (o : Origin) → LocatedLaws (located_told_by value_answer_of (located_rowing o)) (Answered Called (Made o))
laws_by_value o =
    located_laws (located_told_by value_answer_of (located_rowing o)) (Answered Called (Made o)) (demand_3 o)

-- `step_in` and `finish_in`.
pub laws_lent : (o : Origin) → LocatedLaws (located_rowing o) (Answered CalledLent (AsNew o))
laws_lent o = located_laws (located_rowing o) (Answered CalledLent (AsNew o)) (lent_demand_3 o)

-- All of them and the calls on chunks, in any mix.
pub laws_by_chunk : (o : Origin) → LocatedLaws (located_rowing o) (AnsweredBy CalledOn (AsNew o))
laws_by_chunk o = located_laws (located_rowing o) (AnsweredBy CalledOn (AsNew o)) (chunks_demand_3 o)
