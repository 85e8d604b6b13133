use mathlib.Core.Path.{refl}
use Rattle.lists.specs.Choice.{within, none_of}
use Rattle.lists.proofs.Tests.{mark_more}
use Rattle.lists.proofs.none_within.Goals as goal

pub loop-b-init : goal.loop-b-init
unfolding none_of
loop-b-init c = refl

pub loop-b-preserved : goal.loop-b-preserved
loop-b-preserved c =
    let a = c.args in mark_more (within a.low a.high) _ _ _ _ c.loop-b-test.true c.loop-b.invariant c.mark-seen.ensures
