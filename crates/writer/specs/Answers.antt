-- What writing and measuring a frame are answered, in document 01's numbers.
use Rattle.std.specs.Prelude.{ℕ, leb, length, Result}
use Rattle.lists.specs.Choice.{pick}
use Rattle.answer.specs.Answer.{Answer, result, refused, and_then}
use Rattle.answer.specs.Draft.{Draft, written_means}
use Rattle.answer.specs.declared.Refusal.{Refusal}
use Rattle.frame.specs.Frame.{Frame, wire_of}
use Rattle.frame.specs.Origin.{named}
use Rattle.frame.specs.declared.Origin.{Origin}
use Rattle.frame.specs.declared.Origin.TheVariants.{Live, Trace}

-- ---- writing

-- The bytes of a frame, or refusal 2 where they are over 120.
unfoldable pub frame_draft : Frame → Draft
frame_draft f = pick (leb (length (wire_of f)) 120) (result (wire_of f)) (refused 2)

-- The bytes of a frame that is to go to an origin. Live, 17 comes first, for a frame that names no sender.
abbrev pub sent_draft : Origin → Frame → Draft
sent_draft Live f = and_then frame_draft (named f)
sent_draft Trace f = frame_draft f

-- ---- measuring

-- How many bytes a frame takes on the wire, or a refusal: what a call that writes as many would answer.
abbrev pub length_means : Result ℕ Refusal → Answer ℕ
length_means = written_means
