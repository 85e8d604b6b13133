use native.Mathlib.Omega.{arith}
use Rattle.coscom_exports.proofs.LineAnswerLaws.{finish_len, finish_short, finished_as}
use Rattle.coscom_exports.proofs.csafe_packet_finish.Goals as goal

pub pack_state-requires : goal.pack_state-requires
pack_state-requires c = omega (arith, finish_len c.state_in.result _ c.finish_in-ended.ensures)

pub of_told-requires : goal.of_told-requires
of_told-requires c = finish_short c.state_in.result _ c.finish_in-ended.ensures

pub returns : goal.returns
returns c =
    finished_as c.state_in.result _ c.finish_in-ended.ensures _ c.args.state.now _
    c.state_in.ensures c.pack_state.ensures c.of_told.ensures
