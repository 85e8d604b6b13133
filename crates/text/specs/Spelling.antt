-- What the text of a number is, said of any text: it has digits alone, they spell the number, and no other text does.
use Rattle.std.specs.Prelude.{◌≡◌, List, [], ◌∷◌, ◌⊎◌, ℕ, ◌+◌, ◌-◌, ◌*◌, ◌≤◌, ◌<◌, leb, length}
use Rattle.lists.specs.Choice.{pick, Every}
use Rattle.lists.specs.Machine.{left_after}

-- ---- decimal

-- The number that digits spell, after a number that was read before them.
abbrev pub spells : ℕ → List ℕ → ℕ
spells n digits = left_after (λ m d. m * 10 + (d - 48)) n digits

-- Every one is a digit 0 to 9.
abbrev pub AllDigits : List ℕ → Type 0
AllDigits digits = Every (λ d. (48 ≤ d) × (d ≤ 57)) digits

-- The first, 0 where there is none.
abbrev pub first : List ℕ → ℕ
first [] = 0
first (d ∷ ds) = d

-- A text spells a number: it has at least one digit and nothing else, and a first digit 0 only where it is "0".
pub record Spelt (n : ℕ) (text : List ℕ) : Type 0 where
  pub some : 0 < length text
  pub digits : AllDigits text
  pub spelling : spells 0 text ≡ n
  pub no_leading_zero : first text ≡ 48 → text ≡ 48 ∷ []

-- ---- hexadecimal

-- An upper-case digit, 0 to 9 or A to F, and its value.
abbrev pub HexDigit : ℕ → Type 0
HexDigit d = ((48 ≤ d) × (d ≤ 57)) ⊎ ((65 ≤ d) × (d ≤ 70))

abbrev pub hex_value : ℕ → ℕ
hex_value d = pick (leb d 57) (d - 48) (d - 55)

-- Two upper-case digits spell a byte.
pub record SpeltHex (b : ℕ) (text : List ℕ) : Type 0 where
  pub two : length text ≡ 2
  pub digits : Every HexDigit text
  pub spelling : left_after (λ m d. m * 16 + hex_value d) 0 text ≡ b
