use Rattle.std.proofs.Common.{◌≡◌, false, drop}
use Rattle.lists.specs.Choice.{pick, none_of}
use Rattle.coscom.specs.Packet.{is_forbidden}
use Rattle.coscom.proofs.check.none_forbidden.Given as goal

abbrev pub invariant-loop-b : goal.invariant-loop-b
invariant-loop-b l = pick l.seen false (none_of is_forbidden (drop l.b-index l.s)) ≡ none_of is_forbidden l.s
