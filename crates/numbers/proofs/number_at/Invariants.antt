use Rattle.numbers.specs.Number.{number}
use Rattle.lists.specs.Choice.{pick}
use lib.Dec.{leb}
use Prim.Native.Nat.{◌+◌, ◌-◌, ◌≤◌}
use mathlib.Core.Path.{◌≡◌}
use Rattle.numbers.proofs.number_at.Given as goal

abbrev pub invariant-loop-k : goal.invariant-loop-k
invariant-loop-k l =
    (l.k ≤ pick (leb l.width 8) l.width 8) × (l.n ≡ number (pick (leb l.width 8) l.width 8 - l.k) (l.at + l.k) l.s)
