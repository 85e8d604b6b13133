use mathlib.Core.Path.{sym, subst}
use lib.ListN.{length}
use Rattle.coscom.specs.Packet.{packet}
use Rattle.exports.specs.Answers.{WriteShort}
use Rattle.coscom_exports.proofs.ToldLaws.{packet_short}
use Rattle.coscom_exports.proofs.csafe_packet_write.Goals as goal

pub of_written-requires : goal.of_written-requires
of_written-requires c =
    let a = c.args in
    subst WriteShort (sym c.write_packet.ensures.result_value)
    (packet_short (packet a.letter a.tens a.ones a.unit.now) (length a.out.now))
