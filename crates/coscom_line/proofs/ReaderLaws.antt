-- Laws of the line reader, seen as a bounded reader.
use mathlib.Core.Path.{◌≡◌, refl}
use Rattle.framing.specs.Reference.{Call}
use Rattle.framing.specs.Bounded.{BoundedReader, bounded_turn}
use Rattle.coscom_line.specs.Reader.{coscom, coscom_bounds, seen, reader_seen, turn_of}
use Rattle.coscom_line.specs.declared.LineReader.{LineReader}

-- ---- the struct and the bounded reader determine each other

pub seen_again : (r : BoundedReader (Unit {0})) → seen (reader_seen r) ≡ r
seen_again r = refl

-- Each call is the call on the bounded reader.
pub call_seen : (r : LineReader) (c : Call) → seen (turn_of r c).next ≡ (bounded_turn coscom coscom_bounds (seen r) c).next
call_seen r c = refl
