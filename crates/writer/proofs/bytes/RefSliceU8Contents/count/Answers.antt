use mathlib.Core.Path.{sym, ◌∙◌}
use native.Mathlib.Omega.{arith}
use Rattle.frame.specs.Stuffing.{is_stuffed}
use Rattle.lists.proofs.Tests.{count_at, count_end, count_most}
use Rattle.frame.proofs.ChecksumLaws.{sum_from_at, sum_from_end}
use Rattle.writer.proofs.bytes.RefSliceU8Contents.count.Goals as goal

pub overflow_add-escapes : goal.overflow_add-escapes
overflow_add-escapes c =
    omega (
      arith,
      c.loop-b.invariant.0,
      c.requires,
      count_most is_stuffed c.args.self.now,
      count_at is_stuffed c.args.self.now c.loop-b.b-index c.loop-b-test.true,
      c.mark-escapes.ensures,
    )

pub loop-b-preserved : goal.loop-b-preserved
loop-b-preserved c =
    let h = c.loop-b-test.true in (
      omega (
        arith,
        c.loop-b.invariant.0,
        count_at is_stuffed c.args.self.now c.loop-b.b-index h,
        c.mark-escapes.ensures,
      ),
      sym (sum_from_at _ _ _ h) ∙ c.loop-b.invariant.1,
    )

pub returns : goal.returns
returns c =
    record {
      escapes =
          omega (arith, c.loop-b.invariant.0, count_end is_stuffed c.args.self.now c.loop-b.b-index c.loop-b-test.false);
      sum = sym (sum_from_end _ _ _ c.loop-b-test.false) ∙ c.loop-b.invariant.1;
    }
