-- What a call wrote is read back, and what a call read is written back, at any origin: demand 2.
use Prim.Native.Nat.{ℕ, ◌≤◌}
use mathlib.Core.Path.{◌≡◌, refl, ap, ◌∙◌}
use mathlib.Core.List.{List, ◌++◌}
use native.Mathlib.Omega.{arith}
use lib.ListN.{take, drop, length}
use lib.Seq.{take_at}
use Rattle.answer.specs.Answer.{Answer, result}
use Rattle.answer.specs.Draft.{Writes}
use Rattle.frame.specs.Frame.{Frame, contents_of, wire_of}
use Rattle.frame.specs.Verdict.{verdict}
use Rattle.frame.specs.Answers.{FrameOutline, outline_of, frame_read, Reads}
use Rattle.writer.specs.Answers.{sent_draft}
use Rattle.frame.specs.Conditions.{fits, Sendable}
use Rattle.writer.specs.Conditions.{WriteJudged, not_sent, over_limit, no_room_to_write, written}
use Rattle.frame.specs.declared.Origin.{Origin}
use Rattle.frame.proofs.OriginLaws.{admit_result}
use Rattle.frame.proofs.Table.{accepted_exactly, read_by_table, reads_exactly}
use Rattle.frame.proofs.RoundTrip.{reads_back, accepted_as_written, told_sound}
use Rattle.writer.proofs.Table.{written_by_table, writes_exactly}

-- the bytes of a frame that was written stand first in the output
written_wire : (o : Origin) (f : Frame) (out : List ℕ) (a : Answer ℕ) (last : List ℕ) (n : ℕ)
    → WriteJudged o f out a last → a ≡ result n
    → (take n last ≡ wire_of f) × (length (wire_of f) ≤ 120) × Sendable o f
written_wire o f out a last n (not_sent m) e = let z : ◌≡◌ {A = ℕ} 0 1 = cc in absurd (omega arith)
written_wire o f out a last n (over_limit m l) e = let z : ◌≡◌ {A = ℕ} 0 1 = cc in absurd (omega arith)
written_wire o f out a last n (no_room_to_write m l h) e = let z : ◌≡◌ {A = ℕ} 0 1 = cc in absurd (omega arith)
written_wire o f out a last n (written m l h) e =
    let q : length (wire_of f) ≡ n = cc in (take_at (wire_of f) (drop (length (wire_of f)) out) n q, l, m)

-- A frame that was written to an origin is read back there: a call that reads the bytes that were written, with room for
-- the contents, answers its kind, its addresses and their number, and puts the contents first in its output.
pub written_reads_back : (o : Origin) (f : Frame) (out last : List ℕ) (n : ℕ) (into : List ℕ) (a : Answer FrameOutline)
    (left : List ℕ)
    → Writes (sent_draft o f) out (result n) last → Reads o (take n last) into a left
    → length (contents_of f) ≤ length into
    → (a ≡ result (outline_of f)) × (left ≡ contents_of f ++ drop (length (contents_of f)) into)
written_reads_back o f out last n into a left p q room =
    let w = written_wire o f out (result n) last n ((written_by_table o f out (result n) last).0 p) refl in
    let v : verdict (take n last) ≡ result f = ap verdict w.0 ∙ reads_back f w.1 in
    (reads_exactly o (take n last) into a (result (outline_of f)) left _ q).1
    (fits ((accepted_exactly o (take n last) f).0 (admit_result o (verdict (take n last)) f v w.2)) room)

-- A slice that was read from an origin as a frame is written back there: a call that writes what was told, with room for
-- the slice, answers the slice's length, and puts the slice's bytes first in its output.
pub read_writes_back : (o : Origin) (w out : List ℕ) (a : Answer FrameOutline) (last : List ℕ) (f : Frame)
    (into : List ℕ) (b : Answer ℕ) (left : List ℕ)
    → Reads o w out a last → frame_read a last ≡ result f → Writes (sent_draft o f) into b left → length w ≤ length into
    → (b ≡ result (length w)) × (left ≡ w ++ drop (length w) into)
read_writes_back o w out a last f into b left p e q room =
    let s = told_sound o w out a last f ((read_by_table o w out a last).0 p) e in
    let k = (accepted_as_written o w f).0 ((accepted_exactly o w f).1 s) in
    let m = ap length k.0 in
    let j = (writes_exactly o f into b (result (length (wire_of f))) left _ q).1
    (written k.2 (omega (arith, m, k.1)) (omega (arith, m, room))) in (
      j.0 ∙ ap result m,
      j.1 ∙ ap (λ (l : List ℕ). l ++ drop (length l) into) k.0,
    )
