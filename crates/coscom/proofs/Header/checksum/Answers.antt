use native.Mathlib.Omega.{arith}
use Rattle.coscom.proofs.CodeLaws.{sum-packet}
use Rattle.coscom.proofs.Header.checksum.Goals as goal

pub returns-clause-value : goal.returns-clause-value
returns-clause-value c =
    let h = c.args.self in
    sum-packet h.letter h.tens h.ones _ c.args.unit.now (omega (arith, c.sum_of.ensures.value))
