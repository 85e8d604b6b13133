use mathlib.Core.Path.{sym, ap, ◌∙◌}
use native.Mathlib.Omega.{arith}
use Rattle.std.proofs.Common.{Err}
use Rattle.std.proofs.lemmas.Result.{err_from_is_err_and}
use Rattle.coscom.specs.Answers.{read_means}
use Rattle.coscom.proofs.VerdictLaws.{bounded_long, verdict_unbounded}
use Rattle.coscom.proofs.CodeLaws.{told_and_left, read_refused, read_err, read_ends, read_lacks, read_fits}
use Rattle.coscom.proofs.read_packet.Goals as goal

pub returns-then-not-is_bounded : goal.returns-then-not-is_bounded
returns-then-not-is_bounded c =
    told_and_left (read_refused _ _ 6 (verdict_unbounded _ (sym c.if-not-is_bounded.ensures)))

pub overflow_sub-body : goal.overflow_sub-body
overflow_sub-body c = omega (arith, bounded_long _ (sym c.if-not-is_bounded.ensures))

pub slice_bounds-body-count : goal.slice_bounds-body-count
slice_bounds-body-count c = omega (arith, bounded_long _ (sym c.if-not-is_bounded.ensures))

pub slice_bounds-body-start : goal.slice_bounds-body-start
slice_bounds-body-start c = omega (arith, bounded_long _ (sym c.if-not-is_bounded.ensures))

pub returns-in_err-found : goal.returns-in_err-found
returns-in_err-found c =
    let p = err_from_is_err_and c.from_residual.result c.from_residual.ensures.1 in
    let t = read_err _ c.args.out.now (sym c.if-not-is_bounded.ensures) _ c.in_err-found.ensures in
    record { result_value = ap read_means (p.1 ∙ ap Err p.2) ∙ t.0; out_after = t.1 }

pub returns-then-out-found : goal.returns-then-out-found
returns-then-out-found c =
    told_and_left
    (read_lacks _ _ (sym c.if-not-is_bounded.ensures) _ c.in_ok-found.ensures c.if-out-found.true)

pub slice_bounds-copy-end : goal.slice_bounds-copy-end
slice_bounds-copy-end c = read_ends _ c.args.out.now (sym c.if-not-is_bounded.ensures) _ c.in_ok-found.ensures

pub returns : goal.returns
returns c =
    told_and_left
    (read_fits _ _ (sym c.if-not-is_bounded.ensures) _ c.in_ok-found.ensures _ c.if-out-found.false c.copy.ensures)
