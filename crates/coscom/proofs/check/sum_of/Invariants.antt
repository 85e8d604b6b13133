use Rattle.std.proofs.Common.{◌≡◌, ◌+◌, ◌*◌, ◌≤◌, drop}
use Rattle.coscom.specs.Packet.{sum_of}
use Rattle.coscom.proofs.check.sum_of.Given as goal

abbrev pub invariant-loop-b : goal.invariant-loop-b
invariant-loop-b l = record {
  bounded : l.total ≤ 255 * l.b-index;
  rest : l.total + sum_of (drop l.b-index l.s) ≡ sum_of l.s;
}
