use mathlib.Core.Path.{◌≡◌, refl, ap, ◌∙◌}
use Prim.Native.Nat.{ℕ, ◌+◌}
use native.Mathlib.Omega.{arith}
use mathlib.Core.Bool.{not, ◌||◌}
use lib.ListN.{get_or, length-drop}
use Rattle.frame.specs.Private.{good_pair}
use Rattle.frame.proofs.EscapeLaws.{tallied_none, tallied_more, tallied_all}
use Rattle.frame.proofs.RestLaws.{rest_inside, rest_ended, rest_byte}
use Rattle.frame.proofs.candidate.tally_pairs.Goals as goal

-- the byte after the one at an index
after : (i : ℕ) → 1 + i ≡ i + 1
after i = omega arith

pub loop-i-init : goal.loop-i-init
loop-i-init c = tallied_none _ _ refl refl refl refl

pub with_pair-found-requires : goal.with_pair-found-requires
with_pair-found-requires c =
    let i = c.loop-i.i in
    omega (arith, rest_inside c.args.s.now 1 i (i + 1) (after i) c.loop-i-test.true, c.loop-i.invariant.few)

pub loop-i-preserved : goal.loop-i-preserved
loop-i-preserved c =
    let s = c.args.s.now in
    let i = c.loop-i.i in
    let e = c.with_pair-found.ensures in
    tallied_more s i _ c.loop-i.invariant _ (rest_inside s 1 i (i + 1) (after i) c.loop-i-test.true) e.flags_value
    (e.unsound_value
    ∙ ap (λ (b : ℕ). c.loop-i.found.unsound || not (good_pair (get_or s i 0) b))
    (rest_byte s 1 i (i + 1) (after i)))
    e.escapes_value e.sum_value

pub returns : goal.returns
returns c =
    let s = c.args.s.now in
    let i = c.loop-i.i in
    tallied_all s i _ c.loop-i.invariant
    (omega (arith, rest_ended s 1 i (i + 1) (after i) c.loop-i-test.false, c.loop-i.auto.i-end, length-drop 1 s))
