-- A treadmill packet and its bytes on the wire: document 02, No. 3; source document 003, "Transmission data packet".
use Rattle.std.specs.Prelude.{ℕ, ◌+◌, ◌/◌, ◌%◌, Bool, true, false, List, [], ◌∷◌, ◌++◌, eqb}
use Rattle.lists.specs.Choice.{pick, within, none_of}
use Rattle.coscom.specs.Flags.{candidate_of}

-- A header of three bytes, a letter and two digits, and a data unit.
pub record Packet : Type 0 where
  pub letter : ℕ
  pub tens : ℕ
  pub ones : ℕ
  pub unit : List ℕ

abbrev pub packet : (letter tens ones : ℕ) → (unit : List ℕ) → Packet
packet letter tens ones unit = record { letter = letter; tens = tens; ones = ones; unit = unit }

-- Whether a byte is a letter A to Z.
abbrev pub is_letter : ℕ → Bool
is_letter b = within 0x41 0x5A b

-- Whether a byte is a digit 0 to 9.
abbrev pub is_digit : ℕ → Bool
is_digit b = within 0x30 0x39 b

-- Whether a byte may not stand in a data unit: any but 20 to 7E and 1D may not.
abbrev pub is_forbidden : ℕ → Bool
is_forbidden b = pick (eqb b 0x1D) false (pick (within 0x20 0x7E b) false true)

-- Whether every byte of the header and of the data unit is allowed at its place.
unfoldable pub is_proper : Packet → Bool
is_proper p =
    pick (is_letter p.letter) (pick (is_digit p.tens) (pick (is_digit p.ones) (none_of is_forbidden p.unit) false)
    false) false

-- The sum of bytes.
unfoldable pub sum_of : List ℕ → ℕ
sum_of [] = 0
sum_of (b ∷ s) = b + sum_of s

-- What the checksum covers: the header and the data unit.
unfoldable pub covered : Packet → List ℕ
covered p = p.letter ∷ p.tens ∷ p.ones ∷ p.unit

-- The sum modulo 100.
abbrev pub checksum : List ℕ → ℕ
checksum s = sum_of s % 100

-- A number below 100 as two digits, the first of them 0 below 10.
abbrev pub tens_digit : ℕ → ℕ
tens_digit n = 0x30 + n / 10

abbrev pub ones_digit : ℕ → ℕ
ones_digit n = 0x30 + n % 10

abbrev pub two_digits : ℕ → List ℕ
two_digits n = tens_digit n ∷ ones_digit n ∷ []

-- What stands between the flags.
unfoldable pub payload : Packet → List ℕ
payload p = covered p ++ two_digits (checksum (covered p))

-- The packet as it is sent.
unfoldable pub wire_of : Packet → List ℕ
wire_of p = candidate_of (payload p)
