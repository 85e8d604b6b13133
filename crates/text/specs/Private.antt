-- Contracts of private functions, which no caller reads.
use Rattle.std.specs.Prelude.{◌≡◌, ℕ, ◌+◌, ◌-◌, ◌/◌, ◌%◌, ◌≤◌, List, [], ◌∷◌, ◌++◌, length}
use Rattle.lists.specs.Splice.{splice}
use Rattle.text.specs.Writing.{line_room}
use Rattle.text.specs.declared.buffer.Buffer.{Buffer}

-- What a text that is put leaves: it stands in the same output, behind what stood there.
pub record Puts (b b' : Buffer) (w : List ℕ) : Type 0 where
  pub same : b'.bytes.ghost_name ≡ b.bytes.ghost_name
  pub is : b'.bytes.now ≡ splice b.bytes.now b.len w
  pub ends : b'.len ≡ b.len + length w
  pub room : length b'.bytes.now ≡ length b.bytes.now
  pub fits : b'.len ≤ length b'.bytes.now

-- The room in which a head fits, `n=` and 20 digits, ` at=` and 10 digits, and what it leaves of a line for a body.
abbrev pub head_room : ℕ
head_room = 36

abbrev pub body_room : ℕ
body_room = line_room - head_room

-- The two last digits of a number below 100.
abbrev pub pair : ℕ → List ℕ
pair n = (48 + n / 10) ∷ (48 + n % 10) ∷ []

-- The four last digits of a number below 10,000.
abbrev pub four : ℕ → List ℕ
four n = pair (n / 100) ++ pair (n % 100)
