-- Where bytes come from, or are to go (document 02, No. 9: its two modes): the live line, or a trace that was kept.
use Rattle.answer.specs.Answer.{result, refused, and_then}
use Rattle.frame.specs.Frame.{Frame, standard, extended}
use Rattle.frame.specs.Verdict.{Verdict}
use Rattle.frame.specs.declared.Origin.{Origin}
use Rattle.frame.specs.declared.Origin.TheVariants.{Live, Trace}

-- A frame that names its sender, or refusal 17: a standard frame has no addresses.
abbrev pub named : Frame → Verdict
named (standard c) = refused 17
named (extended to from c) = result (extended to from c)

-- A verdict as it is given at an origin. Live, a frame has to name its sender, and every refusal stays. In a trace all
-- is as it was judged.
abbrev pub admit : Origin → Verdict → Verdict
admit Live v = and_then named v
admit Trace v = v
