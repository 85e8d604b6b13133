use mathlib.Core.Path.{sym, ◌∙◌}
use Rattle.frame.proofs.ChecksumLaws.{sum_from_at, sum_from_end}
use Rattle.frame.proofs.bytes.sum_of.Goals as goal

pub loop-b-preserved : goal.loop-b-preserved
loop-b-preserved c = sym (sum_from_at _ _ _ c.loop-b-test.true) ∙ c.loop-b.invariant

pub returns : goal.returns
returns c = sym (sum_from_end _ _ _ c.loop-b-test.false) ∙ c.loop-b.invariant
