use mathlib.Core.Path.{◌≡◌}
use Prim.Native.Nat.{ℕ, ◌+◌, ◌≤◌}
use mathlib.Core.Bool.{Bool, false}
use mathlib.Core.List.{List}
use lib.ListN.{take, drop}
use Rattle.lists.specs.Choice.{pick}
use Rattle.frame.specs.Stuffing.{unstuff}
use Rattle.frame.specs.Private.{unstuffed_bytes, lifts}
use Rattle.frame.proofs.UndoLaws.{Undone}
use Rattle.frame.proofs.candidate.unstuff_front.Given as goal

abbrev U : List ℕ → ℕ → ℕ → List ℕ
U s from end = unstuffed_bytes (unstuff false (drop from (take end s)))

abbrev pub invariant-loop-i : goal.invariant-loop-i
invariant-loop-i l =
    (pending : Bool) × (l.above ≡ lifts pending) × (l.k + pick pending 1 0 ≤ l.i)
    × Undone (take l.end l.initial.s) (U l.initial.s l.from l.end) l.initial.s pending l.i l.k l.s
