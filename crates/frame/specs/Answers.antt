-- What each case of an answer means, in document 01's numbers, and what each public function answers and leaves in the
-- slice that it is lent.
use Rattle.std.specs.Prelude.{ℕ, ◌≡◌, List, ◌++◌, leb, length, take, drop, Result, Ok, Err}
use Rattle.lists.specs.Choice.{pick}
use Rattle.answer.specs.Answer.{Answer, result, refused, through}
use Rattle.answer.specs.Draft.{draft_out}
use Rattle.answer.specs.Refusals.{number_of}
use Rattle.answer.specs.declared.Refusal.{Refusal}
use Rattle.frame.specs.Frame.{Frame, standard, extended, contents_of}
use Rattle.frame.specs.Verdict.{Verdict, verdict}
use Rattle.frame.specs.Origin.{admit}
use Rattle.frame.specs.declared.Origin.{Origin}
use Rattle.frame.specs.declared.Header.{Header}
use Rattle.frame.specs.declared.Header.TheVariants.{Plain, Addressed}
use Rattle.frame.specs.declared.Outline.{Outline}

-- ---- reading

-- What is told of a frame: its kind, its addresses and the number of its contents bytes.
pub data FrameOutline : Type 0 where
  standard_outline : (len : ℕ) → FrameOutline
  extended_outline : (to from len : ℕ) → FrameOutline

-- The outline of a header and a number of contents bytes.
abbrev pub outline_with : Header → ℕ → FrameOutline
outline_with Plain len = standard_outline len
outline_with (Addressed to from) len = extended_outline to from len

abbrev pub read_means : Result Outline Refusal → Answer FrameOutline
read_means (Ok o) = result (outline_with o.header o.len)
read_means (Err why) = refused (number_of why)

abbrev pub outline_of : Frame → FrameOutline
outline_of (standard c) = standard_outline (length c)
outline_of (extended to from c) = extended_outline to from (length c)

-- The answer of a judge, which has no output.
unfoldable pub judge_answer : Verdict → Answer FrameOutline
judge_answer v = through outline_of v

-- The answer to reading into so much room: the verdict's refusal, then 1, then the frame.
unfoldable pub read_answer : Verdict → ℕ → Answer FrameOutline
read_answer (refused n) room = refused n
read_answer (result f) room = pick (leb (length (contents_of f)) room) (result (outline_of f)) (refused 1)

-- The output afterwards: the contents are written as every writer writes.
unfoldable pub read_out : Verdict → List ℕ → List ℕ
read_out v out = draft_out (through contents_of v) out

-- A call that reads a slice of an origin gives this answer and leaves this output, given the output before.
abbrev pub Reads : Origin → (w out : List ℕ) → Answer FrameOutline → (last : List ℕ) → Type 0
Reads o w out a last = (a ≡ read_answer (admit o (verdict w)) (length out)) × (last ≡ read_out (admit o (verdict w)) out)

-- ---- judging in place

-- The lent bytes afterwards: the contents of an accepted frame stand first, and all after them is as it was.
unfoldable pub left_in : Verdict → List ℕ → List ℕ
left_in (refused n) s = s
left_in (result f) s = contents_of f ++ drop (length (contents_of f)) s

-- ---- what was read, as a whole

-- The frame that an answer and the output tell: its contents are the first bytes of the output.
unfoldable pub frame_read : Answer FrameOutline → List ℕ → Verdict
frame_read (result (standard_outline len)) out = result (standard (take len out))
frame_read (result (extended_outline to from len)) out = result (extended to from (take len out))
frame_read (refused n) out = refused n
