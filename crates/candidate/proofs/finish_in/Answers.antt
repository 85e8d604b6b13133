use native.Mathlib.Omega.{arith}
use Rattle.candidate.proofs.Handed.{step_handed}
use Rattle.candidate.proofs.finish_in.Goals as goal

pub returns : goal.returns
returns c = λ bytes.
    let h = step_handed c.args.held.origin bytes c.end-ended.result _ (c.end-ended.ensures bytes) in grind (arith, h)
