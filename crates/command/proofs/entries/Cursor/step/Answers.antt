-- Each answer of a step is that of `step_at`: what the two look-ups and the two tests tell decides its choices.
use Rattle.std.proofs.Common.{sym}
use borrow.Author.Tests.{lt-ltb, le-ltb, le-leb, lt-leb}
use Rattle.std.proofs.Common.{◌≡◌, ◌+◌, ◌-◌, length}
use Rattle.std.proofs.Math.Dec.{leb}
use Rattle.lists.specs.Choice.{pick}
use Rattle.answer.specs.Answer.{result, refused}
use Rattle.command.specs.Steps.{entry_step, step_at}
use Rattle.command.proofs.entries.Cursor.step.Goals as goal
use Rattle.command.proofs.entries.Cursor.step.Goals.{In-Some-get}

pub returns-in_default-clause-entry : goal.returns-in_default-clause-entry
unfolding step_at
returns-in_default-clause-entry c = simp (sym c.in_default.ensures.lookup.0)

pub returns-then-limit-byte-clause-entry : goal.returns-then-limit-byte-clause-entry
unfolding step_at
returns-then-limit-byte-clause-entry c =
    let first = c.in-Some.ensures.lookup in
    simp (sym first.0, sym (first.3.1 0), le-ltb _ _ c.if-limit-byte.true)

pub returns-in_default-get-clause-entry : goal.returns-in_default-get-clause-entry
unfolding step_at
returns-in_default-get-clause-entry c =
    let first = c.in-Some.ensures.lookup in
    simp (sym first.0, sym (first.3.1 0), lt-ltb _ _ c.if-limit-byte.false, sym c.in_default-get.ensures.lookup.0)

-- where there is a count, the room for the data decides
counted : (c : In-Some-get) → (let b = c.in-Some.field-0.now in let n = c.in-Some-get.field-0.now in
    let at = c.args.self.at in
    pick (leb n (length c.args.s.now - (at + 2))) (result (entry_step b (at + 2) n (at + 2 + n))) (refused 7)
    ≡ step_at c.args.limit c.args.s.now at)
unfolding step_at
counted c =
    let first = c.in-Some.ensures.lookup in
    let second = c.in-Some-get.ensures.lookup in
    simp (sym first.0, sym (first.3.1 0), lt-ltb _ _ c.if-limit-byte.false, sym second.0, sym (second.3.1 0))

pub returns-then-s-start-clause-entry : goal.returns-then-s-start-clause-entry
returns-then-s-start-clause-entry c =
    simp (lt-leb _ _ c.if-s-start.true) at (counted (goal.at.returns-then-s-start-clause-entry c).In-Some-get)

pub returns-clause-entry : goal.returns-clause-entry
returns-clause-entry c =
    simp (le-leb _ _ c.if-s-start.false) at (counted (goal.at.returns-clause-entry c).In-Some-get)
