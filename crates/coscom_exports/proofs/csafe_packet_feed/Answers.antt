use native.Mathlib.Omega.{arith}
use Rattle.coscom_exports.proofs.LineAnswerLaws.{fed_len_fits, fed_short}
use Rattle.coscom_exports.proofs.csafe_packet_feed.Goals as goal

pub pack_state-requires : goal.pack_state-requires
pack_state-requires c =
    let a = c.args in
    fed_len_fits _ a.input.now _ _ _ c.feed_in-fed.ensures a.state.now (omega arith)
    c.state_in.ensures

pub of_told-requires : goal.of_told-requires
of_told-requires c =
    let a = c.args in
    fed_short _ a.input.now _ _ _ c.feed_in-fed.ensures
