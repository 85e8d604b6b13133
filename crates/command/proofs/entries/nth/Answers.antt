use Rattle.std.proofs.Common.{◌∙◌, arith}
use Rattle.command.proofs.EntryLaws.{told, told_stands, nth_found, nth_unsound, nth_more}
use Rattle.command.proofs.Errors.{passed_on}
use Rattle.command.proofs.StepTable.{nth_refused}
use Rattle.command.proofs.entries.nth.Goals as goal

pub returns-in_err-next : goal.returns-in_err-next
returns-in_err-next c =
    rw (passed_on c.from_residual.result c.from_residual.ensures.1)
    (nth_refused _ _ c.loop.cursor.at _ c.in_err-next.ensures ∙ c.loop.invariant)

pub loop-preserved : goal.loop-preserved
loop-preserved c =
    let e = c.in_ok-next.ensures in
    nth_more (told_stands _ _ _ e) _ _ _ _ (told _ _ _ e) (omega arith) ∙ c.loop.invariant

pub returns-in_err-entry : goal.returns-in_err-entry
returns-in_err-entry c =
    rw (passed_on c.from_residual-in_err-entry.result c.from_residual-in_err-entry.ensures.1)
    (nth_refused _ _ c.loop.cursor.at _ c.in_err-entry.ensures ∙ c.loop.invariant)

pub returns-in_err-count : goal.returns-in_err-count
returns-in_err-count c =
    let e = c.in_ok-entry.ensures in
    rw (passed_on c.from_residual-in_err-count.result c.from_residual-in_err-count.ensures.1)
    (nth_unsound (told_stands _ _ _ e) _ _ _ _ _ (told _ _ _ e) c.in_err-count.ensures ∙ c.loop.invariant)

pub returns : goal.returns
returns c =
    let e = c.in_ok-entry.ensures in
    nth_found (told_stands _ _ _ e) _ _ _ _ (told _ _ _ e) (omega arith) c.in_ok-count.ensures ∙ c.loop.invariant
