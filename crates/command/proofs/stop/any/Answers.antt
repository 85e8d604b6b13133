use Rattle.std.proofs.Common.{◌≡◌, ◌∙◌, sym, ap, ℕ, ◌-◌, Bool, ◌||◌, take, drop, arith}
use Rattle.std.proofs.Math.Bool.{or-true, or-false}
use Rattle.answer.specs.Answer.{result}
use Rattle.command.specs.Entries.{Entry, entry, commands}
use Rattle.command.specs.Steps.{entry_step, step_at}
use Rattle.command.proofs.EntryLaws.{told, told_stands}
use Rattle.command.proofs.StopLaws.{found_start, found_end, found_broken, found_next}
use Rattle.command.proofs.stop.any.Goals as goal
use Rattle.command.proofs.stop.any.Goals.{In-Ok-Some}

-- what the step answered
step : (g : _) (c : In-Ok-Some g)
    → (let e = c.in-Ok-Some.entry in result (entry_step e.byte e.start e.len c.in-Ok-Some.next.at)
    ≡ step_at commands c.args.list.now c.loop-entry.cursor.at)
step g c = rw c.in-Ok-Some.field-0-is at c.in-Ok-Some.ensures.entry

-- what the test answered of the data that was cut
tested : (g : _) (c : In-Ok-Some g) (p : Entry → Bool) (r : Bool) → (let e = c.in-Ok-Some.entry in
    let answer = λ (n : ℕ). p (entry e.byte (take n (drop e.start c.args.list.now))) in
    r ≡ answer (c.in-Ok-Some.next.at - e.start) → answer e.len ≡ r)
tested g c p r y =
    let e = c.in-Ok-Some.entry in
    ap (λ (n : ℕ). p (entry e.byte (take n (drop e.start c.args.list.now))))
    (omega (arith, told_stands _ _ _ (step g c))) ∙ sym y

pub loop-entry-init : goal.loop-entry-init
loop-entry-init g c = λ p h. found_start p _

pub slice_bounds-test-count : goal.slice_bounds-test-count
slice_bounds-test-count g c =
    omega (arith, told_stands _ _ _ (step g (goal.at.slice_bounds-test-count g c).In-Ok-Some))

pub slice_bounds-test-start : goal.slice_bounds-test-start
slice_bounds-test-start g c =
    omega (arith, told_stands _ _ _ (step g (goal.at.slice_bounds-test-start g c).In-Ok-Some))

pub slice_bounds-test-end : goal.slice_bounds-test-end
slice_bounds-test-end g c =
    omega (arith, told_stands _ _ _ (step g (goal.at.slice_bounds-test-end g c).In-Ok-Some))

pub loop-entry-smaller-then-test : goal.loop-entry-smaller-then-test
loop-entry-smaller-then-test g c =
    omega (arith, told_stands _ _ _ (step g (goal.at.loop-entry-smaller-then-test g c).In-Ok-Some))

pub loop-entry-preserved-then-test : goal.loop-entry-preserved-then-test
loop-entry-preserved-then-test g c =
    let e = (goal.at.loop-entry-preserved-then-test g c).In-Ok-Some in
    λ p h. found_next p c.loop-entry.is_found _ _ _ _ _ (told _ _ _ (step g e))
    (let y = tested g e p c.test.result (h _ _ c.test.result c.test.ensures) in
    sym (ap (λ (x : Bool). c.loop-entry.is_found || x) (y ∙ c.if-test.true) ∙ or-true c.loop-entry.is_found))
    ∙ c.loop-entry.invariant p h

pub loop-entry-smaller : goal.loop-entry-smaller
loop-entry-smaller g c =
    omega (arith, told_stands _ _ _ (step g (goal.at.loop-entry-smaller g c).In-Ok-Some))

pub loop-entry-preserved : goal.loop-entry-preserved
loop-entry-preserved g c =
    let e = (goal.at.loop-entry-preserved g c).In-Ok-Some in
    λ p h. found_next p c.loop-entry.is_found _ _ _ _ _ (told _ _ _ (step g e))
    (let y = tested g e p c.test.result (h _ _ c.test.result c.test.ensures) in
    sym (ap (λ (x : Bool). c.loop-entry.is_found || x) (y ∙ c.if-test.false) ∙ or-false c.loop-entry.is_found))
    ∙ c.loop-entry.invariant p h

pub returns-in-Ok-None : goal.returns-in-Ok-None
returns-in-Ok-None g c = λ p h. found_end p _ _ (told _ _ c.loop-entry.cursor.at
    (rw c.in-Ok-None.field-0-is at c.in-Ok-None.ensures.entry)) ∙ c.loop-entry.invariant p h

pub returns-in-Err : goal.returns-in-Err
returns-in-Err g c = λ p h. found_broken p c.loop-entry.is_found _
    (told _ _ c.loop-entry.cursor.at c.in-Err.ensures.entry) ∙ c.loop-entry.invariant p h
