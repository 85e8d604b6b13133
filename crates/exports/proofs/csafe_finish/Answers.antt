use native.Mathlib.Omega.{arith}
use Rattle.frame.specs.declared.Origin.TheVariants.{Live}
use Rattle.exports.proofs.LineAnswerLaws.{finish_len, finish_fits, finished_as}
use Rattle.exports.proofs.csafe_finish.Goals as goal

pub pack_state-requires : goal.pack_state-requires
pack_state-requires c =
    omega (arith, finish_len c.state_in-before.result _ c.finish_in-ended.ensures)

pub of_told-requires : goal.of_told-requires
of_told-requires c =
    finish_fits c.state_in-before.result _ c.finish_in-ended.ensures

pub returns : goal.returns
returns c =
    let a = c.args in
    finished_as c.state_in-before.result _ c.finish_in-ended.ensures Live _ a.state.now a.counts.now _ _
    c.state_in-before.ensures c.pack_state.ensures c.pack_counts.ensures
    c.of_told.ensures
