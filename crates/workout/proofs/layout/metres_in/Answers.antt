use mathlib.Core.Path.{◌≡◌}
use native.Mathlib.Omega.{arith}
use borrow.Author.Tests.{eq-eqb, ne_eqb}
use Rattle.numbers.specs.Number.{number}
use Rattle.workout.specs.Private.{metres_said}
use Rattle.workout.proofs.layout.metres_in.Goals as goal
use Rattle.workout.proofs.layout.metres_in.Goals.{After-from_le_bytes-amount}

amount : (c : After-from_le_bytes-amount) → c.from_le_bytes-amount.result ≡ number 2 0 c.args.goal
unfolding number
amount c = omega (arith, c.from_le_bytes-amount.ensures)

pub returns-then-goal-eq-KILOMETRES : goal.returns-then-goal-eq-KILOMETRES
unfolding metres_said
returns-then-goal-eq-KILOMETRES c =
    simp (eq-eqb _ _ c.if-goal-eq-KILOMETRES.true, amount (goal.at.returns-then-goal-eq-KILOMETRES c).After-from_le_bytes-amount)

pub returns-then-goal-eq-METRES : goal.returns-then-goal-eq-METRES
unfolding metres_said
returns-then-goal-eq-METRES c =
    simp (
      ne_eqb _ _ c.if-goal-eq-KILOMETRES.false,
      eq-eqb _ _ c.if-goal-eq-METRES.true,
      amount (goal.at.returns-then-goal-eq-METRES c).After-from_le_bytes-amount,
    )

pub returns : goal.returns
unfolding metres_said
returns c = simp (ne_eqb _ _ c.if-goal-eq-KILOMETRES.false, ne_eqb _ _ c.if-goal-eq-METRES.false)
