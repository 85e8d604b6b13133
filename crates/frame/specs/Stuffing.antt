-- Byte stuffing: document 01, "Frames on the wire".
use Rattle.std.specs.Prelude.{ℕ, ◌+◌, ◌-◌, Bool, true, false, List, [], ◌∷◌, ◌++◌, leb, eqb}
use Rattle.lists.specs.Choice.{pick, within}

-- A byte that is sent as two between the flags: a flag, or F3 itself.
abbrev pub is_stuffed : ℕ → Bool
is_stuffed b = within 0xF0 0xF3 b

-- A byte as it is sent between the flags.
unfoldable pub stuff_byte : ℕ → List ℕ
stuff_byte b = pick (is_stuffed b) (0xF3 ∷ (b - 0xF0) ∷ []) (b ∷ [])

-- Bytes as they are sent between the flags.
unfoldable pub stuff : List ℕ → List ℕ
stuff [] = []
stuff (b ∷ bs) = stuff_byte b ++ stuff bs

-- What unstuffing gives: the bytes, or none where an F3 has no 00 to 03 after it.
pub data Unstuffed : Type 0 where
  bad_escape : Unstuffed
  bytes : List ℕ → Unstuffed

unfoldable pub prepend : ℕ → Unstuffed → Unstuffed
prepend b bad_escape = bad_escape
prepend b (bytes bs) = bytes (b ∷ bs)

-- Stuffed bytes with their escapes undone. The test says whether an F3 stands right before them.
unfoldable pub unstuff : Bool → List ℕ → Unstuffed
unstuff false [] = bytes []
unstuff true [] = bad_escape
unstuff false (b ∷ bs) = pick (eqb b 0xF3) (unstuff true bs) (prepend b (unstuff false bs))
unstuff true (b ∷ bs) = pick (leb b 3) (prepend (0xF0 + b) (unstuff false bs)) bad_escape
