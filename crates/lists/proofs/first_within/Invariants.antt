use mathlib.Core.Path.{◌≡◌}
use lib.ListN.{drop}
use Prim.Native.Nat.{◌+◌}
use Rattle.lists.specs.Choice.{within, count_before}
use Rattle.lists.proofs.first_within.Given as goal

abbrev pub invariant-loop-i : goal.invariant-loop-i
invariant-loop-i l = count_before (within l.low l.high) l.s ≡ l.i + count_before (within l.low l.high) (drop l.i l.s)
