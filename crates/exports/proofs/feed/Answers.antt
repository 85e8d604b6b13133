use native.Mathlib.Omega.{arith}
use Rattle.exports.proofs.LineAnswerLaws.{fed_len_fits, fed_within}
use Rattle.exports.proofs.feed.Goals as goal

pub pack_state-requires : goal.pack_state-requires
pack_state-requires c =
    let a = c.args in
    fed_len_fits a.origin _ a.input.now _ _ _ c.feed_in-fed.ensures a.state.now a.counts.now
    (omega (arith, c.row_known-1)) c.state_in-before.ensures

pub of_told-requires : goal.of_told-requires
of_told-requires c =
    let a = c.args in
    fed_within a.origin _ a.input.now _ _ _ c.feed_in-fed.ensures
