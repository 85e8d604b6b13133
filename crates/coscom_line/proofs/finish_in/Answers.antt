use native.Mathlib.Omega.{arith}
use Rattle.coscom_line.proofs.Handed.{step_handed}
use Rattle.coscom_line.proofs.finish_in.Goals as goal

pub returns : goal.returns
returns c = λ bytes. let h = step_handed bytes c.end-ended.result _ (c.end-ended.ensures bytes) in grind (arith, h)
