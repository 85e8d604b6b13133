use Rattle.coscom.specs.Packet.{is_forbidden}
use Rattle.coscom.proofs.CodeLaws.{seen_more, seen_end}
use Rattle.coscom.proofs.check.none_forbidden.Goals as goal

pub loop-b-preserved : goal.loop-b-preserved
loop-b-preserved c =
    seen_more is_forbidden _ _ _ _ c.loop-b-test.true c.is_forbidden-seen.ensures c.loop-b.invariant

pub returns : goal.returns
returns c = seen_end is_forbidden _ _ _ c.loop-b-test.false c.loop-b.invariant
