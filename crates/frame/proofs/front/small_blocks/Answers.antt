use mathlib.Core.Path.{sym, ap, ◌∙◌}
use Rattle.std.specs.Slice.Iter.{chunks_exact_rest, chunks_exact_size}
use Rattle.lists.proofs.Lists.{rest_part}
use Rattle.frame.proofs.LeadingLaws.{plain_block}
use Rattle.frame.proofs.front.small_blocks.Goals as goal

pub loop-block-init : goal.loop-block-init
loop-block-init c =
    let e = c.into_iter-block-iterator.ensures.into_iter_gives in
    record {
      run = c.requires;
      eight = ap chunks_exact_size e ∙ c.chunks_exact-block-items.ensures.size;
      left =
          sym (ap chunks_exact_rest e ∙ c.chunks_exact-block-items.ensures.rest ∙ rest_part c.args.s.now c.args.from.len);
    }

pub loop-block-preserved : goal.loop-block-preserved
loop-block-preserved c =
    let inv = c.loop-block.invariant in
    let t = c.in-Some.ensures.steps in
    let p = plain_block c.args.s.now c.loop-block.run.len 8 _ _ c.in-Some.block.now _ inv.run (inv.left ∙ t.1.0)
    (t.1.1 ∙ inv.eight) c.in-Some-plain_sum.ensures in
    record { run = p.0; eight = t.0 ∙ inv.eight; left = p.1 }
