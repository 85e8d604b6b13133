use mathlib.Core.Path.{◌≡◌}
use mathlib.Core.Bool.{Bool}
use Rattle.frame.specs.Stuffing.{unstuff}
use mathlib.Core.Bool.{false}
use Rattle.frame.specs.Private.{unstuffed_bytes, lifts}
use Rattle.frame.proofs.UndoLaws.{Undone}
use Rattle.frame.proofs.candidate.unstuff_into.Given as goal

abbrev pub invariant-loop-b : goal.invariant-loop-b
invariant-loop-b l =
    (pending : Bool) × (l.above ≡ lifts pending)
    × Undone l.s (unstuffed_bytes (unstuff false l.s)) l.initial.out pending l.b-index l.k l.out
