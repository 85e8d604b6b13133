use mathlib.Core.Path.{◌≡◌}
use lib.ListN.{take}
use Rattle.lists.specs.Choice.{pick, within, none_of}
use Rattle.lists.proofs.none_within.Given as goal

abbrev pub invariant-loop-b : goal.invariant-loop-b
invariant-loop-b l = l.seen ≡ pick (none_of (within l.low l.high) (take l.b-index l.s)) 0 1
