use mathlib.Core.Path.{sym, subst, ◌∙◌}
use Rattle.std.proofs.lemmas.Result.{err_from_is_err_and}
use Rattle.frame.specs.Private.{ExaminesWhole}
use Rattle.frame.specs.declared.Kind.{Kind}
use Rattle.frame.proofs.VerdictLaws.{scan_clean, whole_judged, judge_bytes_lem}
use Rattle.frame.proofs.candidate.examine.Goals as goal

pub returns-in_err-whole : goal.returns-in_err-whole
returns-in_err-whole c =
    let p = err_from_is_err_and c.from_residual.result c.from_residual.ensures.1 in
    rw (p.1, p.2) (c.in_err-whole.ensures c.args.kind)

pub examine_after-requires-clause-limit : goal.examine_after-requires-clause-limit
examine_after-requires-clause-limit c = c.in_ok-whole.ensures.0

pub examine_after-requires-clause-scanned : goal.examine_after-requires-clause-scanned
examine_after-requires-clause-scanned c = c.in_ok-whole.ensures.1

pub returns-in-Standard : goal.returns-in-Standard
returns-in-Standard c =
    subst (λ (k : Kind). ExaminesWhole k c.args.body.now c.examine_after.result) (sym c.in-Standard.is)
    c.examine_after.ensures

pub returns-in_err-found-in-Extended : goal.returns-in_err-found-in-Extended
returns-in_err-found-in-Extended c =
    let p = err_from_is_err_and c.from_residual-in_err-found-in-Extended.result c.from_residual-in_err-found-in-Extended.ensures.1 in
    let w = c.in_ok-whole.ensures in
    rw (p.1, p.2, c.in-Extended.is)
    (whole_judged _ _ (scan_clean _ _ w.1).0 ∙ judge_bytes_lem _ _ w.0 ∙ c.in_err-found-in-Extended.ensures)

pub returns-in_ok-found-in-Extended : goal.returns-in_ok-found-in-Extended
returns-in_ok-found-in-Extended c =
    subst (λ (k : Kind). ExaminesWhole k c.args.body.now c.examine_after-in-Extended.result)
    (c.in_ok-found-in-Extended.ensures.1 ∙ sym c.in-Extended.is) c.examine_after-in-Extended.ensures
