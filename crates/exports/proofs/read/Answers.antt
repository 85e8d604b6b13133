use lib.ListN.{length}
use Rattle.exports.proofs.AnswerLaws.{read_short}
use Rattle.exports.specs.Answers.{ReadShort}
use mathlib.Core.Path.{sym, subst}
use Rattle.exports.proofs.read.Goals as goal

pub of_read-requires : goal.of_read-requires
of_read-requires c =
    let a = c.args in
    subst ReadShort (sym c.read_frame-read.ensures.result_value) (read_short a.origin a.wire.now (length a.out.now))
