use Rattle.frame.specs.Frame.{standard}
use lib.ListN.{length}
use Rattle.exports.proofs.AnswerLaws.{sent_short}
use Rattle.exports.specs.Answers.{WriteShort}
use mathlib.Core.Path.{sym, subst}
use Rattle.exports.proofs.write_standard.Goals as goal

pub of_written-requires : goal.of_written-requires
of_written-requires c =
    let a = c.args in
    subst WriteShort (sym c.write_standard-written.ensures.result_value)
    (sent_short a.origin (standard a.contents.now) (length a.out.now))
