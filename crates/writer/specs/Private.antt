-- Contracts of private functions, which no caller reads.
use Rattle.std.specs.Prelude.{ℕ, ◌≤◌, ◌<◌, ◌≡◌, List, [], ◌∷◌, ◌++◌, length, Result, Ok, Err}
use Rattle.lists.specs.Choice.{count_of}
use Rattle.lists.specs.Splice.{splice}
use Rattle.frame.specs.Flags.{start_flag}
use Rattle.frame.specs.Stuffing.{is_stuffed, stuff_byte}
use Rattle.frame.specs.Checksum.{checksum}
use Rattle.frame.specs.Frame.{frame_of, wire_of}
use Rattle.frame.specs.declared.Kind.TheVariants.{Standard, Extended}
use Rattle.frame.specs.declared.Header.{Header}
use Rattle.frame.specs.declared.Header.TheVariants.{Plain, Addressed}
use Rattle.answer.specs.declared.Refusal.{Refusal}
use Rattle.answer.specs.declared.Refusal.TheVariants.{TooLong}
use Rattle.writer.specs.declared.contents.Counted.{Counted}
use Rattle.writer.specs.declared.measure.Measured.{Measured}

-- The start flag and the stuffed addresses.
abbrev pub header_wire : Header → List ℕ
header_wire Plain = start_flag Standard ∷ []
header_wire (Addressed to from) = start_flag Extended ∷ (stuff_byte to ++ stuff_byte from)

-- What was counted of contents: how many bytes are sent as two, and the exclusive or of all.
pub record Counts (c : List ℕ) (found : Counted) : Type 0 where
  pub escapes : found.escapes ≡ count_of is_stuffed c
  pub sum : found.sum ≡ checksum c

-- What was measured of the frame of a header and contents: what was counted of these, and how long it is; or that it is
-- too long.
abbrev pub Measures : Header → List ℕ → Result Measured Refusal → Type 0
Measures h c (Ok m) = Counts c m.counted × (m.len ≡ length (wire_of (frame_of h c))) × (m.len ≤ 120)
Measures h c (Err why) = (why ≡ TooLong) × (120 < length (wire_of (frame_of h c)))

-- Bytes put in at an index, and at most one more, which whoever writes there next writes over.
abbrev pub PutPair : List ℕ → ℕ → List ℕ → List ℕ → Type 0
PutPair out at w last = (more : List ℕ) × (length (w ++ more) ≡ 2) × (last ≡ splice out at (w ++ more))
