use mathlib.Core.Path.{◌≡◌}
use lib.ListN.{drop}
use Rattle.frame.specs.Private.{PlainTo}
use Rattle.frame.proofs.front.small_blocks.Given as goal

abbrev pub invariant-loop-block : goal.invariant-loop-block
invariant-loop-block l = record {
  run : PlainTo l.s l.run.len l.run.sum;
  eight : l.block-iterator.size ≡ 8;
  left : drop l.run.len l.s ≡ l.block-iterator.rest.now;
}
