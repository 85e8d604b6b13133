use mathlib.Core.Path.{refl, sym, subst}
use Prim.Native.Nat.{ℕ, ◌+◌}
use mathlib.Core.Bool.{false}
use native.Mathlib.Omega.{arith}
use lib.ListN.{get_or, set}
use Rattle.frame.specs.Stuffing.{unstuff}
use Rattle.frame.specs.Private.{unstuffed_bytes, is_escape}
use Rattle.frame.proofs.EscapeLaws.{sound_bytes}
use Rattle.frame.proofs.UndoLaws.{Undone, undone_none, undone_place, undone_low, undone_more, undone_all, lift_fits}
use Rattle.frame.proofs.candidate.unstuff_into.Goals as goal

pub loop-b-init : goal.loop-b-init
loop-b-init c = (false, refl, undone_none _ _ _ 0 (sound_bytes (unstuff false c.args.s.now) c.requires.s_value))

pub overflow_add-out : goal.overflow_add-out
overflow_add-out c =
    let inv = c.loop-b.invariant in
    omega (
      arith,
      lift_fits inv.0 _ _ inv.1
          (undone_low c.args.s.now _ _ inv.0 c.loop-b.b-index _ _ inv.2 c.requires.s_in_bounds c.loop-b-test.true)
          (omega (arith, (c.type_inv.s c.loop-b.b-index).fits)),
    )

pub bounds-out-k : goal.bounds-out-k
bounds-out-k c =
    let inv = c.loop-b.invariant in
    omega (
      arith,
      undone_place c.args.s.now _ _ inv.0 c.loop-b.b-index c.loop-b.k _ inv.2 c.requires.s_in_bounds
          c.loop-b-test.true,
      inv.2.size,
      c.requires.s_in_bounds,
    )

pub loop-b-preserved : goal.loop-b-preserved
loop-b-preserved c =
    let inv = c.loop-b.invariant in
    let s = c.args.s.now in
    let b = get_or s c.loop-b.b-index 0 in (
      is_escape b,
      c.lift-above.ensures,
      subst (λ (n : ℕ). Undone s (unstuffed_bytes (unstuff false s)) c.args.out.now (is_escape b)
          (c.loop-b.b-index + 1) (c.loop-b.k + n) (set c.loop-b.out c.loop-b.k (b + c.loop-b.above)))
          (sym c.fills-k.ensures)
          (undone_more s _ _ inv.0 c.loop-b.b-index c.loop-b.k _ inv.2 c.requires.s_in_bounds c.loop-b-test.true _
          inv.1),
    )

pub returns : goal.returns
returns c =
    let inv = c.loop-b.invariant in
    undone_all c.args.s.now _ _ inv.0 c.loop-b.b-index _ _ inv.2 c.requires.s_in_bounds c.loop-b-test.false
