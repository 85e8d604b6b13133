-- A trace cut into chunks and outputs of any lengths.
use Rattle.std.specs.Prelude.{◌≡◌, ℕ, ◌<◌, ◌≤◌, List, [], ◌++◌, length, take, drop}
use Rattle.answer.specs.Answer.{result}
use Rattle.answer.specs.Draft.{draft_answer, draft_out}
use Rattle.line.specs.Rowing.{most_bytes}
use Rattle.text.specs.Text.{text}
use Rattle.text.specs.Writing.{line_room}
use Rattle.trace.specs.Machine.{new_listing, last_text, Lists}
use Rattle.trace.specs.declared.Listing.{Listing}
use Rattle.trace.specs.declared.Listed.{Listed}

-- Calls in a row, each on the state that the last one left: the bytes that are still to be taken, all that the calls
-- write, and the state left. Each call is lent a chunk at the front of those bytes and any output, and the next goes on
-- after the last byte taken.
pub data Calls : Listing → (bytes written : List ℕ) → Listing → Type 0 where
  ended : {s : Listing} → Calls s [] [] s
  call : {s s' : Listing} {written : List ℕ} (chunk rest out out' : List ℕ) (r : Listed) → Lists s chunk out out' r
      → Calls r.next (drop r.taken chunk ++ rest) written s'
      → Calls s (chunk ++ rest) (take r.wrote out' ++ written) s'

-- A whole listing: calls from a new state over the whole trace, and a finish that answered a length.
pub record Session (trace written : List ℕ) : Type 0 where
  pub state : Listing
  pub before : List ℕ
  pub calls : Calls new_listing trace before state
  pub out : List ℕ
  pub out' : List ℕ
  pub wrote : ℕ
  pub answered : draft_answer (result (last_text state)) (length out) ≡ result wrote
  pub left : out' ≡ draft_out (result (last_text state)) out
  pub all : written ≡ before ++ take wrote out'

-- However a trace is cut that has no more bytes than a line reader takes, all that is written is its text.
abbrev pub WritesText : Type 0
WritesText = (trace written : List ℕ) → length trace ≤ most_bytes → Session trace written → written ≡ text trace

-- A call with a byte to take and room for the line of any answer takes a byte.
abbrev pub TakesSome : Type 0
TakesSome =
    (s : Listing) (chunk out out' : List ℕ) (r : Listed) → 0 < length chunk → line_room ≤ length out
    → Lists s chunk out out' r → 0 < r.taken
