use Prim.Native.Nat.{◌*◌, ◌≤◌, ◌<◌}
use mathlib.Core.Path.{◌≡◌}
use mathlib.Core.Bool.{true}
use native.Mathlib.Omega.{arith}
use borrow.Author.Tests.{le-leb}
use Rattle.std.proofs.lemmas.Grind.{common_steps}
use Rattle.lists.specs.Choice.{within}
use Rattle.lists.proofs.Tests.{within_true}
use Rattle.workout.proofs.LimitLaws.{ceil_div_test}
use Rattle.workout.specs.Limits.{within_goal}
use Rattle.workout.proofs.limits.GoalLimits.hold.Goals as goal

pub returns-then-from-length : goal.returns-then-from-length
unfolding within_goal
returns-then-from-length c =
    let a = c.args in
    let e : within a.self.least a.self.most a.goal ≡ true = grind (arith, common_steps) in
    let f : within a.self.shortest a.self.longest a.split ≡ true = grind (arith, common_steps) in
    let some : 0 < a.split = omega (arith, within_true a.self.shortest a.self.longest a.split f, a.self.divisible) in
    let short : a.split ≤ a.scale * a.goal = grind (arith, common_steps) in
    rw (c.product-length.ensures, c.product.ensures)
    (simp (e, f, le-leb a.split (a.scale * a.goal) short, ceil_div_test (a.scale * a.goal) a.split a.splits some))

pub returns-else-from-length : goal.returns-else-from-length
unfolding within_goal
returns-else-from-length c = grind (arith, common_steps)
