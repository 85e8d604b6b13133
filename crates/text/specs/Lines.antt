-- The lines of a listing (document 01, "Listing"; document 02, No. 7): one for each answer, and one of totals. The line
-- of an answer is a head, with its number and its position, and a body.
use Rattle.std.specs.Prelude.{Bool, true, false, List, [], ◌∷◌, ◌++◌, ℕ, length}
use Prim.Native.Char.{code}
use Prim.Native.String.{String, [] as empty, ◌∷◌ as ◌then◌}
use Rattle.frame.specs.Frame.{standard, extended}
use Rattle.frame.specs.Verdict.{Verdict}
use Rattle.answer.specs.Answer.{result, refused}
use Rattle.command.specs.Stop.{stops_workout}
use Rattle.framing.specs.Located.{Located, answer_in, position_in}
use Rattle.candidate.specs.Outcome.{Outcome, nothing, judged}
use Rattle.text.specs.Digits.{decimal, hex}

-- A text as bytes.
abbrev pub ascii : String → List ℕ
ascii empty = []
ascii (c then s) = code c ∷ ascii s

abbrev pub newline : List ℕ
newline = 0x0A ∷ []

-- A word and a number in decimal, or a byte in hexadecimal.
unfoldable pub field : List ℕ → ℕ → List ℕ
field word n = word ++ decimal n

unfoldable pub hex_field : List ℕ → ℕ → List ℕ
hex_field word b = word ++ hex b

abbrev pub stop_text : Bool → List ℕ
stop_text true = ascii " stop=yes\n"
stop_text false = ascii " stop=no\n"

-- ---- the line of an answer

unfoldable pub head : (n position : ℕ) → List ℕ
head n position = field (ascii "n=") n ++ field (ascii " at=") position

-- The body for a refusal, for a standard frame, for an extended frame.
unfoldable pub refused_body : (number : ℕ) → List ℕ
refused_body number = field (ascii " kind=refused code=") number ++ newline

unfoldable pub standard_body : List ℕ → List ℕ
standard_body contents = field (ascii " kind=std len=") (length contents) ++ stop_text (stops_workout contents)

unfoldable pub extended_body : (to from : ℕ) → List ℕ → List ℕ
extended_body to from contents =
    hex_field (ascii " kind=ext to=") to ++ hex_field (ascii " from=") from ++ field (ascii " len=") (length contents)
    ++ stop_text (stops_workout contents)

abbrev pub body : Verdict → List ℕ
body (refused number) = refused_body number
body (result (standard contents)) = standard_body contents
body (result (extended to from contents)) = extended_body to from contents

-- The line of the n-th answer, whose candidate's start flag stands at a position.
abbrev pub line : (n position : ℕ) → Verdict → List ℕ
line n position v = head n position ++ body v

-- The line of an outcome at a position, where the next answer is the n-th. Nothing has none.
abbrev pub outcome_line : (n position : ℕ) → Outcome → List ℕ
outcome_line n position nothing = []
outcome_line n position (judged v) = line n position v

-- The line of a call.
abbrev pub call_line : (n : ℕ) → Located Outcome → List ℕ
call_line n a = outcome_line n (position_in a) (answer_in a)

-- ---- the last line

unfoldable pub totals : (frames refusals strays : ℕ) → List ℕ
totals frames refusals strays =
    field (ascii "frames=") frames ++ field (ascii " refused=") refusals ++ field (ascii " loose=") strays ++ newline
