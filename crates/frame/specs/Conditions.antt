-- The conditions on a sound frame at an origin, each by itself, and the papers' table of reading over them. None uses
-- the functions `verdict` and `admit` or the steps by which the verdict is computed; the checksum and the flags are those
-- of frames.
use Rattle.std.specs.Prelude.{ℕ, ◌+◌, ◌≤◌, ◌<◌, ◌≡◌, List, [], ◌∷◌, ◌++◌, length, get_or, drop}
use Rattle.frame.specs.Checksum.{checksum}
use Rattle.frame.specs.Frame.{Frame, standard, contents_of, frame_kind, payload}
use Rattle.frame.specs.Verdict.{Verdict}
use Rattle.answer.specs.Answer.{result, refused, Answer}
use Rattle.frame.specs.Answers.{outline_of, FrameOutline}
use Rattle.frame.specs.declared.Origin.{Origin}
use Rattle.frame.specs.declared.Origin.TheVariants.{Live, Trace}
use Rattle.frame.specs.declared.Kind.{Kind}
use Rattle.frame.specs.declared.Kind.TheVariants.{Standard, Extended}
use Rattle.framing.specs.Reference.{FlagFree}
use Rattle.frame.specs.Flags.{start_flag, stop_flag, role_of}

-- One terminated candidate (document 01: one whole closed stretch).
pub record Terminated (w : List ℕ) : Type 0 where
  pub kind : Kind
  pub body : List ℕ
  pub shape : w ≡ start_flag kind ∷ body ++ (stop_flag ∷ [])
  pub inside : FlagFree role_of body

-- At most 120 bytes on the wire, flags and escapes included.
abbrev pub WithinLimit : List ℕ → Type 0
WithinLimit w = length w ≤ 120

-- Every F3 has 00 to 03 right after it.
abbrev pub EscapesSound : List ℕ → Type 0
EscapesSound s = (i : ℕ) → i < length s → get_or s i 0 ≡ 0xF3 → (i + 1 < length s) × (get_or s (i + 1) 0 ≤ 3)

-- The bytes `u` are `s` with each F3 00 to F3 03 put back as F0 to F3.
pub data Unstuffs : List ℕ → List ℕ → Type 0 where
  none : Unstuffs [] []
  plain : {b : ℕ} {s u : List ℕ} → (b ≡ 0xF3 → ⊥) → Unstuffs s u → Unstuffs (b ∷ s) (b ∷ u)
  escape : {k : ℕ} {s u : List ℕ} → k ≤ 3 → Unstuffs s u → Unstuffs (0xF3 ∷ k ∷ s) ((0xF0 + k) ∷ u)

-- The fewest unstuffed bytes: the addresses and the checksum.
abbrev pub fewest : Kind → ℕ
fewest Standard = 1
fewest Extended = 3

abbrev pub LongEnough : Kind → List ℕ → Type 0
LongEnough kind u = fewest kind ≤ length u

-- The last byte is the exclusive or of the contents, which are all that stands before it, but for the two addresses of
-- an extended frame.
abbrev pub ChecksumRight : Kind → List ℕ → Type 0
ChecksumRight Standard u = (contents : List ℕ) × (u ≡ contents ++ (checksum contents ∷ []))
ChecksumRight Extended u =
    (to : ℕ) × (from : ℕ) × (contents : List ℕ) × (u ≡ to ∷ from ∷ contents ++ (checksum contents ∷ []))

-- Live, a frame names its sender: it is an extended one.
abbrev pub SenderNamed : Origin → Kind → Type 0
SenderNamed o kind = o ≡ Live → kind ≡ Extended

-- What demand 2 asks of a slice of an origin that is accepted: its limit, escapes, length and checksum are right, and
-- live it names its sender.
pub record Sound (o : Origin) (w : List ℕ) : Type 0 where
  pub candidate : Terminated w
  pub limit : WithinLimit w
  pub escapes : EscapesSound candidate.body
  pub unstuffed : List ℕ
  pub unstuffs : Unstuffs candidate.body unstuffed
  pub enough : LongEnough candidate.kind unstuffed
  pub sum : ChecksumRight candidate.kind unstuffed
  pub sender : SenderNamed o candidate.kind

-- A slice that demand 2 accepts, and the frame that it is: of the slice's kind, with its unstuffed bytes.
pub record SoundFrame (o : Origin) (w : List ℕ) (f : Frame) : Type 0 where
  pub slice : Sound o w
  pub kind_is : slice.candidate.kind ≡ frame_kind f
  pub bytes_are : slice.unstuffed ≡ payload f

-- A slice that demand 2 does not accept in a trace as a standard frame.
abbrev pub NoStandard : List ℕ → Type 0
NoStandard w = (contents : List ℕ) → SoundFrame Trace w (standard contents) → ⊥

-- The papers' table with its order: each answer with the rule that fails, where every rule before it holds.
pub data Judged (o : Origin) (w : List ℕ) : Verdict → Type 0 where
  truncated : (Terminated w → ⊥) → Judged o w (refused 6)
  long : Terminated w → (WithinLimit w → ⊥) → Judged o w (refused 2)
  bad_escape : (t : Terminated w) → WithinLimit w → (EscapesSound t.body → ⊥) → Judged o w (refused 3)
  short : (t : Terminated w) (u : List ℕ) → WithinLimit w → EscapesSound t.body → Unstuffs t.body u
      → (LongEnough t.kind u → ⊥) → Judged o w (refused 4)
  bad_sum : (t : Terminated w) (u : List ℕ) → WithinLimit w → EscapesSound t.body → Unstuffs t.body u
      → LongEnough t.kind u
      → (ChecksumRight t.kind u → ⊥) → Judged o w (refused 5)
  unnamed : (t : Terminated w) (u : List ℕ) → WithinLimit w → EscapesSound t.body → Unstuffs t.body u
      → LongEnough t.kind u → ChecksumRight t.kind u
      → (SenderNamed o t.kind → ⊥) → Judged o w (refused 17)
  sound : (f : Frame) → SoundFrame o w f → Judged o w (result f)

-- What reading a slice is answered, and the output afterwards. The slice's refusal comes first, and 1 last, where the
-- output has no room. A frame's contents stand first in the output, and all after them is as it was.
pub data ReadJudged (o : Origin) (w out : List ℕ) : Answer FrameOutline → List ℕ → Type 0 where
  refused_by : {n : ℕ} → Judged o w (refused n) → ReadJudged o w out (refused n) out
  no_room : {f : Frame} → SoundFrame o w f → length out < length (contents_of f) → ReadJudged o w out (refused 1) out
  fits : {f : Frame} → SoundFrame o w f → length (contents_of f) ≤ length out
      → ReadJudged o w out (result (outline_of f)) (contents_of f ++ drop (length (contents_of f)) out)

-- A frame that may be written to an origin.
abbrev pub Sendable : Origin → Frame → Type 0
Sendable o f = SenderNamed o (frame_kind f)
