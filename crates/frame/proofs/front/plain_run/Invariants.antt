use mathlib.Core.Path.{◌≡◌}
use Prim.Native.Nat.{◌+◌}
use Rattle.frame.specs.Private.{PlainTo}
use Rattle.frame.proofs.front.plain_run.Given as goal

abbrev pub invariant-loop-b : goal.invariant-loop-b
invariant-loop-b l = record {
  run : PlainTo l.s l.run.len l.run.sum;
  here : l.run.len ≡ l.initial.run.len + l.b-index;
}
