use Rattle.std.proofs.Common.{◌≡◌, ◌+◌, ◌-◌, ◌≤◌, Ok, ◌++◌, length, take, drop, ap, sym, ◌∙◌, arith, length-append, length-drop}
use Rattle.candidate.specs.Outcome.{told_means}
use Rattle.line.specs.Answers.{located_outcome}
use Rattle.text.specs.Lines.{call_line, totals}
use Rattle.text.specs.Writing.{totals_room}
use Rattle.trace.specs.Machine.{last_text, last_room}
use Rattle.trace.proofs.AnswerLaws.{writes_length, writes_out, put_both, last_is}
use Rattle.trace.proofs.put_last.Goals as goal
use Rattle.trace.proofs.put_last.Goals.{After-unwrap-at, After-unwrap, After-write_answer, After-write_totals}

-- there is room for the line
first : (c : After-write_answer) → c.write_answer.result
    ≡ Ok (length (call_line c.next_number-n.result
    (located_outcome (told_means c.finish_in-step.result.told) c.finish_in-step.result.position c.args.s.reader.bytes)))
first c =
    writes_length _ (length c.args.out.now) c.write_answer.result
    (omega (arith, c.write_answer.ensures.length_bound, c.requires)) c.write_answer.ensures.result_value

pub unwrap-at-requires : goal.unwrap-at-requires
unwrap-at-requires c = rw (first (goal.at.unwrap-at-requires c).After-write_answer)

line : (c : After-unwrap-at) → c.unwrap-at.result
    ≡ length (call_line c.next_number-n.result
    (located_outcome (told_means c.finish_in-step.result.told) c.finish_in-step.result.position c.args.s.reader.bytes))
line c =
    let e = writes_length (call_line c.next_number-n.result
    (located_outcome (told_means c.finish_in-step.result.told) c.finish_in-step.result.position c.args.s.reader.bytes))
    (length c.args.out.now) c.write_answer.result
    (omega (arith, c.write_answer.ensures.length_bound, c.requires)) c.write_answer.ensures.result_value in
    let same = sym c.unwrap-at.ensures ∙ e in cc same

-- and for the totals after it
room : (c : After-unwrap-at) → c.unwrap-at.result + totals_room ≤ length c.write_answer.new.out
room c =
    omega (arith, line c, c.write_answer.ensures.length_bound, c.write_answer.auto.out, c.requires)

pub slice_bounds-write_totals-count : goal.slice_bounds-write_totals-count
slice_bounds-write_totals-count c = omega (arith, room (goal.at.slice_bounds-write_totals-count c).After-unwrap-at)

pub slice_bounds-write_totals-start : goal.slice_bounds-write_totals-start
slice_bounds-write_totals-start c = omega (arith, room (goal.at.slice_bounds-write_totals-start c).After-unwrap-at)

lent : (c : After-write_totals) → length (totals c.with-all.result.frames c.with-all.result.refusals c.with-all.result.strays)
    ≤ length (take (length c.write_answer.new.out - c.unwrap-at.result) (drop c.unwrap-at.result c.write_answer.new.out))
lent c =
    omega (
      arith,
      room (goal.at.After-write_totals c).After-unwrap-at,
      length-drop c.unwrap-at.result c.write_answer.new.out,
      c.write_totals.ensures.length_bound,
    )

second : (c : After-write_totals) → c.write_totals.result
    ≡ Ok (length (totals c.with-all.result.frames c.with-all.result.refusals c.with-all.result.strays))
second c =
    writes_length _
    (length (take (length c.write_answer.new.out - c.unwrap-at.result) (drop c.unwrap-at.result c.write_answer.new.out)))
    c.write_totals.result (lent c) c.write_totals.ensures.result_value

pub unwrap-requires : goal.unwrap-requires
unwrap-requires c = rw (second (goal.at.unwrap-requires c).After-write_totals)

last : (c : After-unwrap) → c.unwrap.result
    ≡ length (totals c.with-all.result.frames c.with-all.result.refusals c.with-all.result.strays)
last c =
    let same = sym c.unwrap.ensures ∙ second (goal.at.After-unwrap c).After-write_totals in cc same

-- the two of them are the last text
whole : (c : After-unwrap) → call_line c.next_number-n.result
    (located_outcome (told_means c.finish_in-step.result.told) c.finish_in-step.result.position c.args.s.reader.bytes)
    ++ totals c.with-all.result.frames c.with-all.result.refusals c.with-all.result.strays
    ≡ last_text c.args.s
whole c =
    last_is c.args.s c.finish_in-step.result (c.finish_in-step.ensures c.args.s.reader.bytes)
    c.next_number-n.ensures.counts_fit c.next_number-n.result c.next_number-n.ensures.value c.with-all.result
    c.with-all.ensures

length-whole : (c : After-unwrap) → (c.unwrap-at.result + c.unwrap.result ≡ length (last_text c.args.s))
    × (c.unwrap-at.result + c.unwrap.result ≤ last_room)
length-whole c =
    let l = line (goal.at.After-unwrap c).After-unwrap-at in
    let t = last c in
    let v = call_line c.next_number-n.result
    (located_outcome (told_means c.finish_in-step.result.told) c.finish_in-step.result.position c.args.s.reader.bytes) in
    let w = totals c.with-all.result.frames c.with-all.result.refusals c.with-all.result.strays in (
      omega (arith, l, t, length-append v w, ap length (whole c)),
      omega (arith, l, t, c.write_answer.ensures.length_bound, c.write_totals.ensures.length_bound),
    )

pub overflow_add-result : goal.overflow_add-result
overflow_add-result c =
    record { fits = omega (arith, length-whole (goal.at.overflow_add-result c).After-unwrap) }

pub returns-clause-put : goal.returns-clause-put
returns-clause-put c =
    let l = line (goal.at.returns-clause-put c).After-unwrap-at in
    let t = last (goal.at.returns-clause-put c).After-unwrap in
    let v = call_line c.next_number-n.result
    (located_outcome (told_means c.finish_in-step.result.told) c.finish_in-step.result.position c.args.s.reader.bytes) in
    let w = totals c.with-all.result.frames c.with-all.result.refusals c.with-all.result.strays in
    let fits : length v ≤ length c.args.out.now = omega (arith, c.write_answer.ensures.length_bound, c.requires) in
    let out = c.write_answer.new.out in
    let at = c.unwrap-at.result in
    let short = lent (goal.at.returns-clause-put c).After-write_totals in
    put_both v w c.args.out.now out c.write_totals.new.out at c.unwrap.result fits l t
    (writes_out v c.args.out.now out fits c.write_answer.ensures.out_after)
    (writes_out w (take (length out - at) (drop at out)) c.write_totals.new.out short c.write_totals.ensures.out_after)
    ∙ whole (goal.at.returns-clause-put c).After-unwrap

pub returns-clause-value : goal.returns-clause-value
returns-clause-value c = (length-whole (goal.at.returns-clause-value c).After-unwrap).0

pub returns-clause-upper_bound : goal.returns-clause-upper_bound
returns-clause-upper_bound c = (length-whole (goal.at.returns-clause-upper_bound c).After-unwrap).1
