use Rattle.std.proofs.Common.{arith}
use Rattle.command.proofs.Errors.{passed_on}
use Rattle.command.proofs.InnerLaws.{outer_none, outer_plain, outer_wrapper, inner_fits}
use Rattle.command.proofs.nth_inside.Goals as goal

pub returns-in_err-outer : goal.returns-in_err-outer
returns-in_err-outer c =
    rw (passed_on c.from_residual.result c.from_residual.ensures.1)
    (outer_none _ _ c.args.n c.in_err-outer.ensures)

pub returns-then-not-is_wrapper : goal.returns-then-not-is_wrapper
returns-then-not-is_wrapper c =
    outer_plain _ _ c.args.n c.in_ok-outer.ensures c.is_wrapper.ensures c.if-not-is_wrapper.true

pub returns-in_err-inner : goal.returns-in_err-inner
returns-in_err-inner c =
    rw (passed_on c.from_residual-in_err-inner.result c.from_residual-in_err-inner.ensures.1)
    (outer_wrapper _ _ c.args.n c.in_ok-outer.ensures c.is_wrapper.ensures c.if-not-is_wrapper.false
    c.data.ensures.holds c.in_err-inner.ensures)

pub overflow_add-start : goal.overflow_add-start
overflow_add-start c =
    let d = c.data.ensures.holds in
    omega (arith, inner_fits _ _ c.args.n c.in_ok-outer.ensures (omega arith) d c.in_ok-inner.ensures)

pub returns : goal.returns
returns c =
    outer_wrapper _ _ c.args.n c.in_ok-outer.ensures c.is_wrapper.ensures c.if-not-is_wrapper.false
    c.data.ensures.holds c.in_ok-inner.ensures
