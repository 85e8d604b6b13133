use mathlib.Core.Path.{sym, ap, ◌∙◌, subst}
use Prim.Native.Nat.{ℕ, ◌+◌}
use native.Mathlib.Omega.{arith}
use lib.Bits.{bit_xor}
use Rattle.lists.proofs.Before.{before_here, before_end}
use Rattle.frame.specs.Stuffing.{is_stuffed}
use Rattle.frame.specs.Private.{PlainTo}
use Rattle.frame.proofs.LeadingLaws.{plain_byte}
use Rattle.frame.proofs.RestLaws.{rest_inside, rest_ended, rest_byte}
use Rattle.frame.proofs.front.plain_run.Goals as goal

pub returns-then-is_stuffed-clause-len_value : goal.returns-then-is_stuffed-clause-len_value
returns-then-is_stuffed-clause-len_value c =
    let s = c.args.s.now in
    let inv = c.loop-b.invariant in
    before_here is_stuffed s c.loop-b.run.len (rest_inside s _ _ _ (sym inv.here) c.loop-b-test.true)
    (ap is_stuffed (sym (rest_byte s _ _ _ (sym inv.here))) ∙ sym c.is_stuffed.ensures ∙ c.if-is_stuffed.true)
    inv.run.none_before

pub loop-b-preserved : goal.loop-b-preserved
loop-b-preserved c =
    let s = c.args.s.now in
    let inv = c.loop-b.invariant in
    let len = c.loop-b.run.len in
    let byte = rest_byte s _ _ _ (sym inv.here) in
    record {
      run =
          subst (λ (b : ℕ). PlainTo s (len + 1) (bit_xor c.loop-b.run.sum b)) (sym byte)
          (plain_byte s len _ inv.run (rest_inside s _ _ _ (sym inv.here) c.loop-b-test.true)
          (ap is_stuffed (sym byte) ∙ sym c.is_stuffed.ensures ∙ c.if-is_stuffed.false));
      here = omega (arith, inv.here);
    }

pub returns-clause-len_value : goal.returns-clause-len_value
returns-clause-len_value c =
    let s = c.args.s.now in
    let inv = c.loop-b.invariant in
    before_end is_stuffed s c.loop-b.run.len (rest_ended s _ _ _ (sym inv.here) c.loop-b-test.false)
    inv.run.none_before
