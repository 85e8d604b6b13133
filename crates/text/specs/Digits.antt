-- Numbers as text: decimal, and a byte as two hexadecimal digits (document 01, "Listing").
use Rattle.std.specs.Prelude.{List, [], ◌∷◌, ◌++◌, ℕ, zero, suc, ◌+◌, ◌/◌, ◌%◌, ltb}
use Rattle.lists.specs.Choice.{pick}

-- The decimal digits of a number that has at most k of them, the most significant first.
abbrev pub decimal_within : (k n : ℕ) → List ℕ
decimal_within zero n = []
decimal_within (suc k) n = pick (ltb n 10) ((48 + n) ∷ []) (decimal_within k (n / 10) ++ ((48 + n % 10) ∷ []))

-- The decimal digits of a number n, which are at most n + 1. What they spell is said by `Spelt`.
unfoldable pub decimal : ℕ → List ℕ
decimal n = decimal_within (suc n) n

-- A hexadecimal digit, upper case.
abbrev pub hex_digit : ℕ → ℕ
hex_digit d = pick (ltb d 10) (48 + d) (55 + d)

-- The two digits of a byte.
abbrev pub hex : ℕ → List ℕ
hex b = hex_digit (b / 16) ∷ hex_digit (b % 16) ∷ []
