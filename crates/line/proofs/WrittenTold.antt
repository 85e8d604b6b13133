-- A frame that was written is told by a reader of its origin that is as new, at position 0, and nothing else is.
use mathlib.Core.Path.{◌≡◌, refl, ap, ◌∙◌}
use mathlib.Core.List.{List, [], ◌∷◌, ◌++◌, map}
use native.Mathlib.Omega.{arith}
use Prim.Native.Nat.{ℕ, suc, ◌≤◌}
use lib.ListN.{length, length-append}
use Rattle.lists.specs.Machine.{AnsweredBy}
use Rattle.framing.specs.Demand3.{feed}
use Rattle.framing.specs.Located.{Located, unlocated, located, located_reference}
use Rattle.framing.proofs.LocatedCandidates.{located_candidate}
use Rattle.answer.specs.Answer.{result}
use Rattle.frame.specs.Stuffing.{stuff}
use Rattle.frame.specs.Flags.{start_flag, stop_flag}
use Rattle.frame.specs.Frame.{Frame, frame_kind, payload, wire_of}
use Rattle.frame.specs.Verdict.{Verdict, verdict}
use Rattle.frame.specs.Conditions.{Sendable}
use Rattle.frame.specs.declared.Origin.{Origin}
use Rattle.frame.proofs.StuffingLaws.{flagless-stuff}
use Rattle.frame.proofs.FlagLaws.{start_role, flagless_free}
use Rattle.frame.proofs.OriginLaws.{admit_result}
use Rattle.frame.proofs.RoundTrip.{reads_back}
use Rattle.candidate.specs.Outcome.{Outcome, nothing, judged}
use Rattle.line.specs.Rowing.{located_rowing}
use Rattle.line.specs.Reader.{AsNew}
use Rattle.line.specs.Chunks.{by_byte, told_alone}
use Rattle.line.proofs.ChunkCalls.{CalledOn, chunks_demand_3}

-- as many as a candidate has bytes
bytes_told : (body : List ℕ) (stop : ℕ) (a : Located Outcome)
    → unlocated nothing ∷ (map (λ (b : ℕ). unlocated nothing) body ++ a ∷ [])
    ≡ by_byte (suc (length (body ++ stop ∷ []))) a
bytes_told [] stop a = refl
bytes_told (b ∷ body) stop a = ap (λ (l : List (Located Outcome)). unlocated nothing ∷ l) (bytes_told body stop a)

module _ (o : Origin) (f : Frame) (sent : Sendable o f) (short : length (wire_of f) ≤ 120) where
  -- The bytes of a frame that may be written to an origin are answered with nothing, but for the last, which is answered
  -- with that frame at position 0.
  pub reference_told_frame : located_reference (located_rowing o) (feed (wire_of f)) ≡ told_alone f
  unfolding wire_of
  reference_told_frame =
      let body = stuff (payload f) in
      located_candidate (located_rowing o) (start_flag (frame_kind f)) body stop_flag (start_role (frame_kind f))
      (flagless_free body (flagless-stuff (payload f))) refl (omega (arith, short, length-append body (stop_flag ∷ [])))
      ∙ ap (λ (v : Verdict). unlocated nothing ∷ (map (λ (b : ℕ). unlocated nothing) body ++ located 0 (judged v) ∷ []))
      (admit_result o (verdict (wire_of f)) f (reads_back f short) sent)
      ∙ bytes_told body stop_flag (located 0 (judged (result f)))

  -- So are calls in a row, in any form, on a reader of that origin that is as new.
  pub written_told : {outcomes : List (Located Outcome)} → AnsweredBy CalledOn (AsNew o) (feed (wire_of f)) outcomes
      → outcomes ≡ told_alone f
  written_told {outcomes} k = (chunks_demand_3 o).same (feed (wire_of f)) outcomes k ∙ reference_told_frame
