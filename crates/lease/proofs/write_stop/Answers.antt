-- What the judge found, and what the frame writer answered and wrote, is what a stop does.
use native.Mathlib.Omega.{arith}
use mathlib.Core.List.{[]}
use Rattle.std.proofs.lemmas.Result.{err_from_is_err_and}
use Rattle.lease.proofs.LeaseLaws.{range_means, holder_found, stop_refused, stop_writes, stop_or_no_room}
use Rattle.lease.proofs.write_stop.Goals as goal

pub returns-in_err-judge_holder : goal.returns-in_err-judge_holder
returns-in_err-judge_holder c =
    let a = c.args in
    let p = err_from_is_err_and c.from_residual.result c.from_residual.ensures.1 in
    let t = stop_refused a.holder a.address a.token a.out.now _ c.in_err-judge_holder.ensures in
    record { result_value = rw (p.1, p.2) t.0; out_after = t.1 }

pub overflow_cast-to : goal.overflow_cast-to
overflow_cast-to c =
    let a = c.args in
    let f = holder_found a.holder a.address a.token a.out.now [] c.in_ok-judge_holder.ensures in
    record { fits = omega (arith, range_means a.address f.0) }

pub returns : goal.returns
returns c =
    let a = c.args in
    let f = holder_found a.holder a.address a.token a.out.now [] c.in_ok-judge_holder.ensures in
    let d = c.write_extended_number-written.ensures in
    let w = stop_writes a.holder a.address a.token a.out.now f.0 f.1 _ _ (d.result_value, d.out_after) in
    let t = stop_or_no_room a.holder a.address a.token a.out.now f.0 f.1 c.write_extended_number-written.result _ w in
    record { result_value = rw c.or.ensures t.0; out_after = t.1 }
