use Rattle.frame.specs.Frame.{extended}
use lib.ListN.{length}
use Rattle.exports.proofs.AnswerLaws.{frame_short}
use Rattle.exports.specs.Answers.{WriteShort}
use mathlib.Core.Path.{sym, subst}
use Rattle.exports.proofs.csafe_write_extended.Goals as goal

pub of_written-requires : goal.of_written-requires
of_written-requires c =
    let a = c.args in
    subst WriteShort (sym c.write_extended-written.ensures.result_value)
    (frame_short (extended a.to a.from a.contents.now) (length a.out.now))
