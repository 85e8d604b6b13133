use mathlib.Core.Path.{◌≡◌}
use lib.ListN.{length, drop}
use Prim.Native.Nat.{◌+◌, ◌-◌, ◌%◌, ◌≤◌}
use Rattle.lists.specs.Choice.{within, count_before}
use Rattle.lists.proofs.pass_blocks.Given as goal

abbrev pub invariant-loop-i : goal.invariant-loop-i
invariant-loop-i l =
    (l.i ≤ length l.s) × (count_before (within l.low l.high) l.s ≡ l.i + count_before (within l.low l.high) (drop l.i l.s))
    × (l.i % l.size ≡ l.from % l.size)

abbrev pub decreases-loop-i : goal.decreases-loop-i
decreases-loop-i l = length l.s - l.i
