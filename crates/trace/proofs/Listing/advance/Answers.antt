use Rattle.std.proofs.Common.{◌≡◌, Ok, length, sym, ◌∙◌, arith}
use Rattle.candidate.specs.Outcome.{told_means}
use Rattle.line.specs.Answers.{located_outcome}
use Rattle.text.specs.Lines.{call_line}
use Rattle.trace.proofs.AnswerLaws.{writes_length, writes_out}
use Rattle.trace.proofs.FeedLaws.{advances}
use Rattle.trace.proofs.Listing.advance.Goals as goal
use Rattle.trace.proofs.Listing.advance.Goals.{After-write_answer}

-- there is room for the line
answered : (c : After-write_answer) → c.write_answer.result
    ≡ Ok (length (call_line c.next_number-n.result
    (located_outcome (told_means c.feed-fed.result.step.told) c.feed-fed.result.step.position c.feed-fed.new.bytes)))
answered c =
    writes_length _ (length c.args.out.now) c.write_answer.result (omega (arith, c.write_answer.ensures.length_bound, c.requires))
    c.write_answer.ensures.result_value

pub unwrap-wrote-requires : goal.unwrap-wrote-requires
unwrap-wrote-requires c = rw (answered (goal.at.unwrap-wrote-requires c).After-write_answer)

pub returns : goal.returns
returns c =
    let fits = c.requires.line_room_in_bounds in
    let bound = c.write_answer.ensures.length_bound in
    let same = sym c.unwrap-wrote.ensures ∙ answered (goal.at.returns c).After-write_answer in
    let len : c.unwrap-wrote.result ≡ length (call_line c.next_number-n.result
    (located_outcome (told_means c.feed-fed.result.step.told) c.feed-fed.result.step.position c.feed-fed.new.bytes)) = cc same in
    advances c.args.self.now c.args.rest.now c.feed-fed.new.bytes c.requires.rest_nonzero c.feed-fed.result.step
    c.feed-fed.ensures.step_is c.next_number-n.ensures.counts_fit c.next_number-n.result c.feed-fed.result.strays
    c.next_number-n.ensures.value c.feed-fed.ensures.strays_value c.with-self.result c.with-self.ensures
    c.args.out.now c.write_answer.new.out _ c.max.ensures len
    (rw len (writes_out _ c.args.out.now c.write_answer.new.out (omega arith) c.write_answer.ensures.out_after))
    (omega arith)
