-- What every outcome of a line reader has, by the byte, at the end of input and by the chunk, and the length that a chunk
-- leaves.
use mathlib.Core.List.{List}
use Prim.Native.Nat.{ℕ, ◌<◌}
use Rattle.answer.specs.Answer.{refused}
use Rattle.framing.specs.Reference.{Call, byte}
use Rattle.framing.specs.Chunk.{cut_chunk}
use Rattle.framing.proofs.Bounded.{bounded_answer, bounded_len}
use Rattle.framing.proofs.Chunk.{fed_answer, fed_next}
use Rattle.coscom.specs.Flags.{candidate_of}
use Rattle.coscom.specs.Verdict.{verdict}
use Rattle.coscom_line.specs.Outcome.{Outcome, nothing, judged, capacity, is_answer}
use Rattle.coscom_line.specs.Reader.{coscom, coscom_bounds, seen, turn_of, outcome_at}
use Rattle.coscom_line.specs.Chunk.{chunk_of}
use Rattle.coscom_line.specs.declared.LineReader.{LineReader}

-- What nothing, 6, 2 and every verdict on a slice have, every outcome has.
module _ (P : Outcome → Type 0) (none : P nothing) (cut : P (judged (refused 6))) (long : P (judged (refused 2)))
    (verdicts : (w : List ℕ) → P (judged (verdict w))) where
  pub every_outcome : (r : LineReader) (c : Call) → P (outcome_at r c)
  every_outcome r c =
      bounded_answer coscom coscom_bounds P none cut long (λ kind body. verdicts (candidate_of body)) (seen r) c

  pub chunk_outcome : (r : LineReader) (s : List ℕ) → P (chunk_of r s).answer
  chunk_outcome r s = fed_answer nothing is_answer turn_of P none (λ u b. every_outcome u (byte b)) r (cut_chunk s)

-- A length below a limit above 254 stays below it.
pub chunk_len : (limit : ℕ) → capacity < limit → (r : LineReader) (s : List ℕ) → r.state.len < limit
    → (chunk_of r s).next.state.len < limit
chunk_len limit room r s h =
    fed_next nothing is_answer turn_of (λ (u : LineReader). u.state.len < limit)
    (λ u b k. bounded_len coscom coscom_bounds limit room (seen u) (byte b) k) r (cut_chunk s) h
