use native.Mathlib.Omega.{arith}
use lib.ListN.{length}
use Rattle.lease.specs.Lease.{stop}
use Rattle.lease.specs.Promises.{Real}
use Rattle.lease.proofs.LeaseLaws.{stop_by, lent_judged}
use Rattle.lease.proofs.stop_lent.Goals as goal
use Rattle.lease.proofs.stop_lent.Goals.{After-token_in}

real : (c : After-token_in) → Real c.args.table.now c.args.token
real c = record { bytes = λ i. (c.type_inv.table i).fits; fits = omega arith }

pub returns : goal.returns
returns c =
    let a = c.args in
    let held =
    lent_judged a.table.now (stop a.address a.token (length a.out.now)) _ c.in_ok-token_in.ensures.0 c.in_ok-token_in.ensures.1 in
    let k = stop_by _ _ a.out.now _ _ held (c.write_stop.ensures.result_value, c.write_stop.ensures.out_after) in
    record { answered = k.0; written = k.1; real = real (goal.at.returns c).After-token_in }
