use native.Mathlib.Omega.{arith}
use lib.Dec.{leb}
use lib.ListN.{get_or}
use borrow.Author.Tests.{le-leb, lt-leb}
use Rattle.lists.proofs.Cases.{by_bool}
use Rattle.workout.specs.Private.{seconds_said}
use Rattle.workout.proofs.layout.seconds_in.Goals as goal
use Rattle.workout.proofs.layout.seconds_in.Goals.{then-clock-gt-CLOCK_LIMIT-via-then-clock-gt-CLOCK_LIMIT, then-clock-gt-CLOCK_LIMIT-via-else-clock-gt-CLOCK_LIMIT+then-clock-gt-CLOCK_LIMIT-2}

pub returns-then-clock-gt-CLOCK_LIMIT : goal.returns-then-clock-gt-CLOCK_LIMIT
unfolding seconds_said
returns-then-clock-gt-CLOCK_LIMIT c =
    elim c.then-clock-gt-CLOCK_LIMIT.branch [
      | then-clock-gt-CLOCK_LIMIT-via-then-clock-gt-CLOCK_LIMIT w ↦
          simp (lt-leb (get_or c.args.clock 1 0) 59 (omega (arith, w.if-clock-gt-CLOCK_LIMIT.true)))
      | then-clock-gt-CLOCK_LIMIT-via-else-clock-gt-CLOCK_LIMIT+then-clock-gt-CLOCK_LIMIT-2 w ↦
          by_bool (leb (get_or c.args.clock 1 0) 59)
          (λ y. simp (y, lt-leb (get_or c.args.clock 2 0) 59 (omega (arith, w.if-clock-gt-CLOCK_LIMIT-2.true))))
          (λ y. simp y)
    ]

pub returns : goal.returns
unfolding seconds_said
returns c =
    simp (
      le-leb (get_or c.args.clock 1 0) 59 (omega (arith, c.if-clock-gt-CLOCK_LIMIT.false)),
      le-leb (get_or c.args.clock 2 0) 59 (omega (arith, c.if-clock-gt-CLOCK_LIMIT-2.false)),
      c.from.ensures,
      c.from-2.ensures,
      c.from-3.ensures,
    )
