use mathlib.Core.Path.{sym, subst}
use lib.ListN.{length}
use Rattle.coscom_exports.specs.Answers.{UnitShort}
use Rattle.coscom_exports.proofs.ToldLaws.{read_short}
use Rattle.coscom_exports.proofs.csafe_packet_read.Goals as goal

pub of_read-requires : goal.of_read-requires
of_read-requires c =
    let a = c.args in
    subst UnitShort (sym c.read_packet.ensures.result_value) (read_short a.wire.now (length a.out.now))
