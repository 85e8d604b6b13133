use mathlib.Core.Path.{◌≡◌, ◌∙◌}
use native.Mathlib.Omega.{arith}
use lib.ListN.{length}
use Rattle.lists.proofs.Before.{marked, unmarked, before_here, before_more, before_end}
use Rattle.lists.proofs.first_within.Goals as goal

pub returns-then-mark-eq1 : goal.returns-then-mark-eq1
returns-then-mark-eq1 c =
    before_here _ _ c.loop-i.i c.loop-i-test.true (marked _ _ c.mark.ensures c.if-mark-eq1.true) c.loop-i.invariant

pub loop-i-preserved : goal.loop-i-preserved
loop-i-preserved c =
    before_more _ _ c.loop-i.i c.loop-i-test.true (unmarked _ _ c.mark.ensures c.if-mark-eq1.false) c.loop-i.invariant

pub returns : goal.returns
returns c =
    let e : length c.args.s.now ≡ c.loop-i.i = omega arith in
    e ∙ before_end _ _ c.loop-i.i c.loop-i-test.false c.loop-i.invariant
