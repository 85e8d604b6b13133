use Rattle.exports.proofs.AnswerLaws.{stop_fits}
use Rattle.exports.specs.Answers.{WriteShort}
use mathlib.Core.Path.{sym, subst}
use Rattle.exports.proofs.csafe_stop.Goals as goal

pub of_written-requires : goal.of_written-requires
of_written-requires c =
    subst WriteShort (sym c.stop_lent-written.ensures.answered) (stop_fits _ _ _ _)
