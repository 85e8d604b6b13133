-- What the listing's calls compute, on every state.
use Rattle.std.specs.Prelude.{◌≡◌, ℕ, ◌+◌, ◌-◌, ◌%◌, ◌^◌, ◌≤◌, Bool, true, false, List, [], ◌∷◌, ◌++◌, length, take, drop, nat_lt}
use Rattle.lists.specs.Choice.{pick}
use Rattle.lists.specs.Machine.{left_after}
use Rattle.frame.specs.declared.Origin.TheVariants.{Trace}
use Rattle.frame.specs.Flags.{role_of}
use Rattle.framing.specs.Located.{answer_in}
use Rattle.frame.specs.declared.Kind.{Kind}
use Rattle.frame.specs.declared.Kind.TheVariants.{Standard, Extended}
use Rattle.framing.specs.declared.Mode.{Mode}
use Rattle.framing.specs.declared.Mode.TheVariants.{Outside, Inside, Overlong}
use Rattle.line.specs.Rowing.{most_bytes}
use Rattle.line.specs.Reader.{new_reader, step_of, finish_of}
use Rattle.line.specs.declared.LineReader.{LineReader}
use Rattle.text.specs.Lines.{call_line, totals}
use Rattle.text.specs.Strays.{stray_at}
use Rattle.text.specs.Text.{frame_one, refused_one}
use Rattle.text.specs.Writing.{line_room, totals_room}
use Rattle.trace.specs.declared.Listing.{Listing}
use Rattle.trace.specs.declared.Listed.{Listed}

-- Whether a candidate is open.
abbrev pub is_open : Mode Kind → Bool
is_open Outside = false
is_open (Inside Standard) = true
is_open (Inside Extended) = true
is_open Overlong = true

-- ---- one byte

-- A count of 64 bits.
abbrev pub add64 : ℕ → ℕ → ℕ
add64 a b = (a + b) % 2 ^ 64

abbrev pub new_listing : Listing
new_listing = record { reader = new_reader Trace; tally = record { frames = 0; refusals = 0; strays = 0 } }

-- The number of the next answer.
abbrev pub number_after : (frames refusals : ℕ) → ℕ
number_after frames refusals = add64 (add64 frames refusals) 1

-- 1 for a byte that is stray. One that a full reader refuses is told as refused, and isn't counted here.
abbrev pub stray_one : LineReader → ℕ → ℕ
stray_one r b = pick (nat_lt r.state.count most_bytes) (stray_at (role_of b) (is_open r.state.held.mode)) 0

-- The state after a byte.
unfoldable pub next_of : Listing → ℕ → Listing
next_of s b = record {
  reader = (step_of s.reader b).next;
  tally = record {
    frames = add64 s.tally.frames (frame_one (answer_in (step_of s.reader b).answer));
    refusals = add64 s.tally.refusals (refused_one (answer_in (step_of s.reader b).answer));
    strays = add64 s.tally.strays (stray_one s.reader b);
  };
}

-- The line of its answer.
unfoldable pub text_of : Listing → ℕ → List ℕ
text_of s b = call_line (number_after s.tally.frames s.tally.refusals) (step_of s.reader b).answer

-- ---- bytes one after the other

abbrev pub listing_after : Listing → List ℕ → Listing
listing_after s bytes = left_after next_of s bytes

abbrev pub texts : Listing → List ℕ → List ℕ
texts s [] = []
texts s (b ∷ bytes) = text_of s b ++ texts (next_of s b) bytes

-- How many bytes of a chunk are taken: a byte is taken where there is room for the line of any answer.
abbrev pub taken_of : Listing → List ℕ → (room : ℕ) → ℕ
taken_of s [] room = 0
taken_of s (b ∷ bytes) room = pick (nat_lt room line_room) 0 (1 + taken_of (next_of s b) bytes (room - length (text_of s b)))

-- ---- what the calls do

-- A chunk: how many bytes are taken, the state afterwards, how many bytes are written, and the output. What stands past
-- them stays.
pub record Lists (s : Listing) (chunk out out' : List ℕ) (r : Listed) : Type 0 where
  pub taken_is : r.taken ≡ taken_of s chunk (length out)
  pub next_is : r.next ≡ listing_after s (take r.taken chunk)
  pub wrote_is : r.wrote ≡ length (texts s (take r.taken chunk))
  pub out_is : out' ≡ texts s (take r.taken chunk) ++ drop r.wrote out
  pub taken_fits : r.taken ≤ length chunk
  pub wrote_fits : r.wrote ≤ length out

-- The room in which the line of the finish and the totals fit.
abbrev pub last_room : ℕ
last_room = line_room + totals_room

-- The text after the last byte, which the finish writes.
unfoldable pub last_text : Listing → List ℕ
last_text s =
    call_line (number_after s.tally.frames s.tally.refusals) (finish_of s.reader).answer
    ++ totals
    (add64 s.tally.frames (frame_one (answer_in (finish_of s.reader).answer)))
    (add64 s.tally.refusals (refused_one (answer_in (finish_of s.reader).answer)))
    s.tally.strays
