use mathlib.Core.Path.{◌∙◌}
use native.Mathlib.Nat.{add-mod_right}
use native.Mathlib.Omega.{arith}
use borrow.Author.Tests.{not-true, not-false}
use Rattle.lists.proofs.Before.{before_block, block_inside, rest_inside}
use Rattle.lists.proofs.pass_blocks.Goals as goal

pub returns-then-not-none_within-clause-s_bound : goal.returns-then-not-none_within-clause-s_bound
returns-then-not-none_within-clause-s_bound c =
    let size = c.args.size in
    let inside = block_inside _ _ c.loop-i.i size _ c.none_within.ensures (not-true _ c.if-not-none_within.true-raw) in
    inside

pub loop-i-preserved : goal.loop-i-preserved
loop-i-preserved c =
    let t = c.loop-i-test.true in (
      omega arith,
      before_block _ _ c.loop-i.i _ _ (omega arith) c.none_within.ensures
          (not-false _ c.if-not-none_within.false-raw) c.loop-i.invariant.1,
      add-mod_right c.loop-i.i c.args.size ∙ c.loop-i.invariant.2,
    )

pub returns-clause-s_bound : goal.returns-clause-s_bound
returns-clause-s_bound c =
    let inside = rest_inside _ _ c.loop-i.i c.args.size c.loop-i.invariant.0 c.loop-i-test.false in
    inside
