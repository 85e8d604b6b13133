use Rattle.std.proofs.Common.{◌-◌, ◌≤◌, length}
use Rattle.trace.specs.Private.{Going}
use Rattle.trace.proofs.list.Given as goal

abbrev pub invariant-loop-taken : goal.invariant-loop-taken
invariant-loop-taken l = record {
  within : l.taken ≤ length l.chunk;
  fits : l.wrote ≤ length l.initial.out;
  going : Going l.initial.next l.chunk l.initial.out l.next l.out l.wrote l.taken;
}

abbrev pub decreases-loop-taken : goal.decreases-loop-taken
decreases-loop-taken l = length l.chunk - l.taken
