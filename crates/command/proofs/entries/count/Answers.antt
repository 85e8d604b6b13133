use Rattle.std.proofs.Common.{◌≡◌, ◌∙◌, sym, subst, ◌+◌, ◌-◌, ◌<◌, ◌≤◌, length, drop, arith}
use Rattle.answer.specs.Answer.{result}
use Rattle.command.specs.Answers.{counted}
use Rattle.command.specs.Entries.{parse}
use Rattle.command.specs.declared.entries.Cursor.{Cursor}
use Rattle.command.specs.Steps.{entry_step, step_at}
use Rattle.command.proofs.EntryLaws.{told, told_stands, counted_plus, count_broken, count_end, count_more}
use Rattle.command.proofs.entries.count.Goals as goal
use Rattle.command.proofs.entries.count.Goals.{In-Ok-Some}

-- what the step answered
step : (c : In-Ok-Some) → (let e = c.in-Ok-Some.field-0-0-0 in result (entry_step e.byte e.start e.len c.in-Ok-Some.next.at)
    ≡ step_at c.args.limit c.args.s.now c.loop-next.cursor.at)
step c = rw c.in-Ok-Some.field-0-is at c.in-Ok-Some.ensures.entry

pub overflow_add-n : goal.overflow_add-n
overflow_add-n c = omega (arith, told_stands _ _ _ (step c), c)

pub loop-next-smaller : goal.loop-next-smaller
loop-next-smaller c =
    let s = c.args.s.now in
    subst (λ (x : Cursor). length s - x.at < length s - c.loop-next.cursor.at) (sym c.in-Ok-Some.next-is)
    (omega (arith, told_stands _ _ _ (step (goal.at.loop-next-smaller c).In-Ok-Some)))

pub loop-next-preserved : goal.loop-next-preserved
loop-next-preserved c =
    let e = step (goal.at.loop-next-preserved c).In-Ok-Some in
    let there = told_stands _ _ _ e in
    let s = c.args.s.now in
    let from = c.args.from.at in
    subst (λ (x : Cursor). (c.loop-next.n + 1 ≤ x.at)
    × (counted_plus (c.loop-next.n + 1) (counted x.at (parse c.args.limit (drop x.at s) 0))
    ≡ counted from (parse c.args.limit (drop from s) 0))) (sym c.in-Ok-Some.next-is)
    (omega (arith, there), count_more there c.loop-next.n _ _ (told _ _ _ e) ∙ c.loop-next.invariant.1)

pub returns-in-Ok-None : goal.returns-in-Ok-None
returns-in-Ok-None c =
    let at = c.loop-next.cursor.at in
    count_end c.loop-next.n at _ (told _ _ at (rw c.in-Ok-None.field-0-is at c.in-Ok-None.ensures.entry))
    ∙ c.loop-next.invariant.1

pub returns-in-Err : goal.returns-in-Err
returns-in-Err c =
    let at = c.loop-next.cursor.at in
    count_broken c.loop-next.n at _ (told _ _ at c.in-Err.ensures.entry) ∙ c.loop-next.invariant.1
