use Rattle.std.proofs.Common.{◌≡◌, ◌-◌, ap, ◌∙◌, arith}
use Rattle.command.proofs.Errors.{passed_on}
use Rattle.command.specs.Commands.{nth_command}
use Rattle.command.specs.Traversal.{command_at}
use Rattle.command.proofs.CursorMoves.{nth_from, from_refused, from_next}
use Rattle.command.proofs.cursor.nth_by_steps.Goals as goal

pub loop-init : goal.loop-init
unfolding nth_command
loop-init c = ap (nth_from c.args.contents.now 0) (omega arith)

pub returns-in_err-step : goal.returns-in_err-step
returns-in_err-step c =
    rw (passed_on c.from_residual.result c.from_residual.ensures.1)
    (from_refused _ c.loop.at (c.args.n - c.loop.counter)
    (rw c.in_err-step.was at c.step_from-step.ensures.0) ∙ c.loop.invariant)

pub loop-preserved : goal.loop-preserved
loop-preserved c =
    from_next _ c.loop.at (c.args.n - c.loop.counter) _ _ c.step_from-step.ensures.1 (omega arith) ∙ c.loop.invariant

pub returns : goal.returns
unfolding command_at
returns c =
    let none : 0 ≡ c.args.n - c.loop.counter = omega arith in
    c.step_from.ensures.0 ∙ ap (nth_from c.args.contents.now c.loop.at) none ∙ c.loop.invariant
