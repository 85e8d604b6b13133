use mathlib.Core.Path.{sym, subst}
use Rattle.frame.specs.Frame.{standard}
use Rattle.exports.specs.Answers.{WriteShort}
use Rattle.exports.proofs.AnswerLaws.{length_short}
use Rattle.exports.proofs.standard_length.Goals as goal

pub of_written-requires : goal.of_written-requires
of_written-requires c =
    let a = c.args in
    subst WriteShort (sym c.standard_length-length.ensures) (length_short a.origin (standard a.contents.now))
