use Rattle.frame.proofs.ContentsLaws.{rest_length, judge_first}
use Rattle.frame.proofs.judge_in_place.Goals as goal

pub bring_contents-requires-clause-s_len : goal.bring_contents-requires-clause-s_len
bring_contents-requires-clause-s_len c = rest_length c.in_ok-header.ensures

pub returns : goal.returns
returns c =
    let t = judge_first c.in_ok-header.ensures c.args.body.now _ c.bring_contents.ensures in
    record { result_value = t.0; body_after = t.1 }
