-- Contracts of private functions, which no caller reads.
use Rattle.std.specs.Prelude.{ℕ, ◌+◌, ◌-◌, ◌≤◌, ◌≡◌, Bool, true, false, not, List, [], ◌∷◌, ◌++◌, leb, ltb, eqb, length, get_or, take, drop, Option, Some, None, Result, Ok, Err}
use Rattle.std.specs.Int.Bits.{bit_xor}
use Rattle.lists.specs.Choice.{pick, within, none_of, count_of, count_before}
use Rattle.answer.specs.Refusals.{number_of}
use Rattle.answer.specs.declared.Refusal.{Refusal}
use Rattle.answer.specs.declared.Refusal.TheVariants.{BadEscape, TooShort, TooLong, Truncated, Unnamed}
use Rattle.frame.specs.Stuffing.{is_stuffed, unstuff, Unstuffed, bad_escape, bytes, prepend}
use Rattle.frame.specs.Flags.{flagless, stop_flag, is_start, is_flag}
use Rattle.frame.specs.Leading.{is_stop_at}
use Rattle.frame.specs.Checksum.{sum_from, checksum}
use Rattle.frame.specs.Frame.{frame_of}
use Rattle.frame.specs.Verdict.{Verdict, judge, judge_bytes, last_of}
use Rattle.answer.specs.Answer.{result, refused}
use Rattle.frame.specs.declared.Origin.{Origin}
use Rattle.frame.specs.declared.Origin.TheVariants.{Live, Trace}
use Rattle.frame.specs.declared.Kind.{Kind}
use Rattle.frame.specs.declared.Kind.TheVariants.{Standard, Extended}
use Rattle.frame.specs.declared.Header.{Header}
use Rattle.frame.specs.declared.Header.TheVariants.{Plain, Addressed}
use Rattle.frame.specs.declared.candidate.Byte.{Byte}
use Rattle.frame.specs.declared.candidate.Tally.{Tally}
use Rattle.frame.specs.declared.candidate.Counted.{Counted}
use Rattle.frame.specs.declared.candidate.Addresses.{Addresses}
use Rattle.frame.specs.declared.candidate.Sound.{Sound}

abbrev pub header_kind : Header → Kind
header_kind Plain = Standard
header_kind (Addressed to from) = Extended

-- The header's addresses before unstuffed bytes.
abbrev pub headed : Header → Unstuffed → Unstuffed
headed Plain r = r
headed (Addressed to from) r = prepend to (prepend from r)

-- Whether a list begins with a start flag and ends with the stop flag.
unfoldable pub is_bounded : List ℕ → Bool
is_bounded w = pick (leb 2 (length w)) (pick (is_start (get_or w 0 0)) (eqb (last_of w) stop_flag) false) false

-- The unstuffed byte at an index of stuffed bytes, and the index after it.
unfoldable pub next_at : List ℕ → ℕ → Result Byte Refusal
next_at s at =
    pick (ltb at (length s))
    (pick (eqb (get_or s at 0) 0xF3)
    (pick (ltb (at + 1) (length s))
    (pick (leb (get_or s (at + 1) 0) 3) (Ok (record { value = 0xF0 + get_or s (at + 1) 0; next = at + 2 })) (Err BadEscape))
    (Err BadEscape))
    (Ok (record { value = get_or s at 0; next = at + 1 })))
    (Err TooShort)

-- The number of unstuffed bytes and their exclusive or, where `len` bytes with the exclusive or `sum` have gone before.
unfoldable pub scan_from : (len sum : ℕ) → Unstuffed → Result Counted Refusal
scan_from len sum bad_escape = Err BadEscape
scan_from len sum (bytes u) = Ok (record { len = len + length u; sum = sum_from sum u })

-- Whether no escape is bad.
abbrev pub is_sound : Unstuffed → Bool
is_sound bad_escape = false
is_sound (bytes u) = true

-- Whether a byte may stand after another.
abbrev pub good_pair : ℕ → ℕ → Bool
good_pair b after = pick (eqb b 0xF3) (leb after 3) true

-- The first of an escape's two bytes taken as F0, so that both have the exclusive or of the byte that they stand for.
abbrev pub lower_byte : ℕ → ℕ
lower_byte b = pick (eqb b 0xF3) 0xF0 b

unfoldable pub lowered : List ℕ → List ℕ
lowered [] = []
lowered (b ∷ s) = lower_byte b ∷ lowered s

-- The scan of stuffed bytes. A flag among them comes first.
abbrev pub scan_of : List ℕ → Result Counted Refusal
scan_of s = pick (flagless s) (scan_from 0 0 (unstuff false s)) (Err Truncated)

-- Why stuffed bytes that are too many are refused.
abbrev pub long_refusal : List ℕ → Refusal
long_refusal s = pick (flagless s) TooLong Truncated

-- What one pass over all bytes but the last finds, told with the last.
pub record Tallied (s : List ℕ) (t : Tally) : Type 0 where
  pub flagged : t.flags ≡ pick (flagless (take (length s - 1) s)) false true
  pub sound : (get_or s (length s - 1) 0 ≡ 0xF3 → ⊥) → t.unsound ≡ not (is_sound (unstuff false s))
  pub counted : t.escapes + pick (within 0xF3 0xF3 (get_or s (length s - 1) 0)) 1 0 ≡ count_of (within 0xF3 0xF3) s
  pub summed : bit_xor t.sum (lower_byte (get_or s (length s - 1) 0)) ≡ checksum (lowered s)

abbrev pub is_escape : ℕ → Bool
is_escape b = eqb b 0xF3

-- What is added to a byte, as an escape stands right before it or not.
abbrev pub lifts : Bool → ℕ
lifts pending = pick pending 0xF0 0

-- The index of the last unstuffed byte of sound stuffed bytes.
abbrev pub last_at : List ℕ → ℕ
last_at s =
    pick (leb 2 (length s)) (pick (is_escape (get_or s (length s - 2) 0)) (length s - 2) (length s - 1)) 0

-- The bytes, none where an escape is bad.
unfoldable pub unstuffed_bytes : Unstuffed → List ℕ
unstuffed_bytes bad_escape = []
unstuffed_bytes (bytes u) = u

-- The exclusive or of the header's addresses, 0 of none.
abbrev pub sum_of_addresses : Header → ℕ
sum_of_addresses Plain = 0
sum_of_addresses (Addressed to from) = bit_xor to from

-- What was found of the addresses at the start of stuffed bytes, or why the bytes are refused.
abbrev pub AddressesIn : Kind → List ℕ → Result Addresses Refusal → Type 0
AddressesIn kind body (Ok a) =
    (a.next ≤ length body) × (header_kind a.header ≡ kind)
    × (unstuff false body ≡ headed a.header (unstuff false (drop a.next body)))
    × (a.sum ≡ sum_of_addresses a.header)
AddressesIn kind body (Err why) = judge_bytes kind (unstuff false body) ≡ refused (number_of why)

-- How many unstuffed bytes follow the addresses, and their exclusive or.
abbrev pub WithoutHeader : Header → (whole rest : Counted) → Type 0
WithoutHeader Plain c r = (r.len ≡ c.len) × (r.sum ≡ c.sum)
WithoutHeader (Addressed to from) c r = (r.len ≡ c.len - 2) × (r.sum ≡ bit_xor c.sum (bit_xor to from))

-- A body whose verdict is a frame, and where the frame's stuffed contents stand in it.
pub record SoundAt (v : Verdict) (body : List ℕ) (header : Header) (start len : ℕ) : Type 0 where
  pub contents : List ℕ
  pub judged : v ≡ result (frame_of header contents)
  pub counted : length contents ≡ len
  pub follows : unstuff false (drop start body) ≡ bytes (contents ++ (checksum contents ∷ []))
  pub inside : start ≤ length body

-- A body in which no byte is F0 to F3, and its exclusive or.
pub record Unescaped (body : List ℕ) (sum : ℕ) : Type 0 where
  pub limit : length body ≤ 118
  pub clear : none_of is_stuffed body ≡ true
  pub summed : sum ≡ checksum body

-- The exclusive or of a body, where it is known that no byte of it is F0 to F3.
abbrev pub PlainSum : List ℕ → Option ℕ → Type 0
PlainSum body None = Unit {0}
PlainSum body (Some sum) = Unescaped body sum

-- What was found of a body whose verdict is v.
abbrev pub Examines : (v : Verdict) → List ℕ → Result Sound Refusal → Type 0
Examines v body (Ok s) = SoundAt v body s.header s.start s.len
Examines v body (Err why) = v ≡ refused (number_of why)

-- Whether a frame of a kind may come from an origin.
abbrev pub admits : Origin → Kind → Bool
admits Live Standard = false
admits Live Extended = true
admits Trace kind = true

-- What is answered of a frame that may come from its origin, and of one that may not.
abbrev pub Admitted : Bool → Result Unit Refusal → Type 0
Admitted may (Ok _) = may ≡ true
Admitted may (Err why) = (may ≡ false) × (why ≡ Unnamed)

-- The verdict where flags may stand in the body: with one it is no whole candidate.
abbrev pub judge_whole : Kind → List ℕ → Verdict
judge_whole kind body = pick (flagless body) (judge kind body) (refused 6)

-- What was counted of a body, or why it is refused, whatever its kind.
abbrev pub CountsWhole : List ℕ → Result Counted Refusal → Type 0
CountsWhole body (Ok c) = (length body ≤ 118) × (Ok c ≡ scan_of body)
CountsWhole body (Err why) = (kind : Kind) → judge_whole kind body ≡ refused (number_of why)

abbrev pub ExaminesWhole : Kind → List ℕ → Result Sound Refusal → Type 0
ExaminesWhole kind body x = Examines (judge_whole kind body) body x

-- No byte before an index is F0 to F3, and their exclusive or.
pub record PlainTo (s : List ℕ) (at sum : ℕ) : Type 0 where
  pub inside : at ≤ length s
  pub none_before : count_before is_stuffed s ≡ at + count_before is_stuffed (drop at s)
  pub summed : sum ≡ checksum (take at s)

-- The verdict on the candidate of a kind whose start flag stands right before a slice. One that does not end in it is
-- none.
abbrev pub open_verdict : Kind → List ℕ → Verdict
open_verdict kind rest =
    pick (is_stop_at rest (count_before is_flag rest)) (judge_whole kind (take (count_before is_flag rest) rest)) (refused 6)
