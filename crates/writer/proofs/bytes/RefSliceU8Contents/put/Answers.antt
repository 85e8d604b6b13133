use mathlib.Core.Path.{◌≡◌, sym, ap, ◌∙◌}
use Prim.Native.Nat.{ℕ, ◌+◌}
use native.Mathlib.Omega.{arith}
use lib.ListN.{length}
use Rattle.frame.specs.Stuffing.{stuff}
use Rattle.lists.specs.Splice.{splice}
use Rattle.lists.proofs.Splices.{copied_fits}
use Rattle.writer.proofs.StuffingLaws.{stuff_same, stuff_count}
use Rattle.writer.proofs.bytes.RefSliceU8Contents.put.Goals as goal
use Rattle.writer.proofs.bytes.RefSliceU8Contents.put.Goals.{Then-counted-eq0}

plain : (c : Then-counted-eq0) → stuff c.args.self.now ≡ c.args.self.now
plain c =
    stuff_same c.args.self.now (omega (arith, stuff_count c.args.self.now, c.requires.counts.escapes, c.if-counted-eq0.true))

pub returns-then-counted-eq0 : goal.returns-then-counted-eq0
returns-then-counted-eq0 c =
    let e : stuff c.args.self.now ≡ c.args.self.now = plain (goal.at.returns-then-counted-eq0 c).Then-counted-eq0 in
    record {
      value = ap (λ (n : ℕ). c.args.from + n) (sym (ap length e));
      out_after =
          copied_fits c.args.self.now c.args.out.now _ c.args.from (omega (arith, c.requires.in_bounds, ap length e))
          c.copy.ensures
          ∙ ap (splice c.args.out.now c.args.from) (sym e);
    }
