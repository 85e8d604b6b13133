use mathlib.Core.Path.{◌≡◌, sym, ap, ◌∙◌}
use Prim.Native.Nat.{◌-◌}
use native.Mathlib.Omega.{arith}
use mathlib.Core.List.{[], ◌∷◌}
use lib.ListN.{length, length-set}
use Rattle.frame.specs.Stuffing.{stuff_byte}
use Rattle.frame.proofs.StuffingLaws.{stuff_byte_yes, stuff_byte_no}
use Rattle.lists.specs.Splice.{splice}
use Rattle.lists.proofs.Splices.{set-splice, set2_splice}
use Rattle.writer.proofs.stuffing.put_byte.Goals as goal
use Rattle.writer.proofs.stuffing.put_byte.Goals.{Else-is_stuffed, Then-is_stuffed}

two : (c : Then-is_stuffed) → stuff_byte c.args.b ≡ 0xF3
    ∷ (c.args.b - 0xF0) ∷ []
two c = stuff_byte_yes _ (sym c.is_stuffed.ensures ∙ c.if-is_stuffed.true)

one : (c : Else-is_stuffed) → stuff_byte c.args.b ≡ c.args.b ∷ []
one c = stuff_byte_no _ (sym c.is_stuffed.ensures ∙ c.if-is_stuffed.false)

pub bounds-out-at : goal.bounds-out-at
bounds-out-at c = omega (arith, ap length (two c))

pub bounds-out-at-then-is_stuffed : goal.bounds-out-at-then-is_stuffed
bounds-out-at-then-is_stuffed c = simp length-set (omega (arith, ap length (two c)))

pub returns-then-is_stuffed-clause-value : goal.returns-then-is_stuffed-clause-value
returns-then-is_stuffed-clause-value c =
    let a = c.args in
    omega (arith, ap length (two c))

pub returns-then-is_stuffed-clause-out_after : goal.returns-then-is_stuffed-clause-out_after
returns-then-is_stuffed-clause-out_after c =
    let a = c.args in
    set2_splice a.out.now a.at _ (a.b - 0xF0) (omega (arith, ap length (two c)))
    ∙ ap (splice a.out.now a.at) (sym (two c))

pub bounds-out-at-2 : goal.bounds-out-at-2
bounds-out-at-2 c = omega (arith, ap length (one c))

pub returns-clause-value : goal.returns-clause-value
returns-clause-value c =
    let a = c.args in
    omega (arith, ap length (one c))

pub returns-clause-out_after : goal.returns-clause-out_after
returns-clause-out_after c =
    let a = c.args in
    set-splice a.out.now a.at a.b (omega (arith, ap length (one c)))
    ∙ ap (splice a.out.now a.at) (sym (one c))
