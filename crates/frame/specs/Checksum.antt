-- The checksum of a frame: document 01, "Frames on the wire". It covers the contents alone. Addresses are not covered,
-- so nothing here vouches for the addresses of a frame that was damaged on the line.
use Rattle.std.specs.Prelude.{ℕ, List, [], ◌∷◌}
use Rattle.std.specs.Int.Bits.{bit_xor}

-- The exclusive or of a number and of each byte.
unfoldable pub sum_from : ℕ → List ℕ → ℕ
sum_from acc [] = acc
sum_from acc (b ∷ bs) = sum_from (bit_xor acc b) bs

-- The exclusive or of the unstuffed contents, 00 for empty contents.
abbrev pub checksum : List ℕ → ℕ
checksum contents = sum_from 0 contents
