use mathlib.Core.Path.{sym, subst}
use Rattle.frame.specs.Frame.{extended}
use Rattle.frame.specs.declared.Origin.TheVariants.{Live}
use Rattle.exports.specs.Answers.{WriteShort}
use Rattle.exports.proofs.AnswerLaws.{length_short}
use Rattle.exports.proofs.csafe_extended_length.Goals as goal

pub of_written-requires : goal.of_written-requires
of_written-requires c =
    let a = c.args in
    subst WriteShort (sym c.extended_length-length.ensures) (length_short Live (extended a.to a.from a.contents.now))
