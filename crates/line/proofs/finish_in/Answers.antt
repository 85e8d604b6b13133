use mathlib.Core.Path.{refl, sym, subst}
use Rattle.candidate.specs.Holder.{holder, finish_held}
use Rattle.line.specs.Reader.{finish_of, lent_reader, LentStepIs}
use Rattle.line.specs.declared.State.{State}
use Rattle.line.proofs.StepLaws.{located_step}
use Rattle.line.proofs.finish_in.Goals as goal

pub returns : goal.returns
returns c =
    let a = c.args in
    λ bytes. subst (λ (s : State). LentStepIs bytes
    (record { told = c.finish_in-step.result.told; position = c.told_at.result; state = s })
    (finish_of (lent_reader bytes a.state))) (sym c.uncounted.ensures)
    (located_step bytes a.state.start 0 0 c.finish_in-step.result (finish_held (holder bytes a.state.held))
    (c.finish_in-step.ensures bytes) _ 0 c.told_at.ensures refl)
