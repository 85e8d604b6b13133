use native.Mathlib.Omega.{arith}
use Rattle.coscom.proofs.CodeLaws.{sum_more, sum_end}
use Rattle.coscom.proofs.check.sum_of.Goals as goal

pub loop-b-preserved : goal.loop-b-preserved
loop-b-preserved c = record {
  bounded = omega arith;
  rest = sum_more _ _ _ _ c.from-total.ensures c.loop-b-test.true c.loop-b.invariant.rest;
}

pub returns-clause-value : goal.returns-clause-value
returns-clause-value c = sum_end _ _ _ c.loop-b-test.false c.loop-b.invariant.rest
