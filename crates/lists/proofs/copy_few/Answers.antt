use mathlib.Core.Path.{ap, ◌∙◌}
use native.Mathlib.Omega.{arith}
use lib.ListN.{set, get_or}
use lib.Seq.{drop-cons}
use Rattle.lists.proofs.Lists.{fill}
use Rattle.lists.proofs.copy_few.Goals as goal

pub loop-i-preserved : goal.loop-i-preserved
loop-i-preserved c =
    let a = c.args in
    let f =
    fill a.s.now a.part.now c.loop-i.i _ _ (drop-cons a.s.now c.loop-i.i 0 c.loop-i-test.true)
    (omega (arith, c.requires, c.loop-i-test.true)) in
    ap (λ l. set l c.loop-i.i (get_or a.s.now c.loop-i.i 0)) c.loop-i.invariant ∙ f.1
