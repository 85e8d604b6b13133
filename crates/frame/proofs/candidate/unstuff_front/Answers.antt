use mathlib.Core.Path.{◌≡◌, refl, sym, ap, ◌∙◌, subst}
use Prim.Native.Nat.{ℕ, ◌+◌, ◌≤◌, ◌<◌}
use native.Mathlib.Nat.{add-zero}
use mathlib.Core.Bool.{Bool, true, false}
use mathlib.Core.List.{List}
use native.Mathlib.Omega.{arith}
use lib.ListN.{length, get_or, set, take, drop, length-drop}
use lib.Seq.{get_or-take, get_or-drop, length-take-le}
use Rattle.lists.specs.Choice.{pick}
use Rattle.frame.specs.Stuffing.{unstuff}
use Rattle.frame.specs.Private.{unstuffed_bytes, is_escape, lifts}
use Rattle.frame.proofs.StuffingLaws.{unstuff_shrinks}
use Rattle.frame.proofs.EscapeLaws.{sound_bytes}
use Rattle.frame.proofs.UndoLaws.{Undone, undone_none, undone_low, undone_more, undone_all}
use Rattle.frame.proofs.UndoLaws.{undone_behind, lift_fits, fill_most}
use Rattle.frame.proofs.candidate.unstuff_front.Goals as goal

module _ (s : List ℕ) (from end : ℕ) (h : end ≤ length s) where
  abbrev part : List ℕ
  part = take end s

  abbrev U : List ℕ
  U = unstuffed_bytes (unstuff false (drop from (take end s)))

  room : length U ≤ length s
  room = omega (arith, unstuff_shrinks false (drop from part), length-drop from part, length-take-le end s h)

  module _ (pending : Bool) (i k : ℕ) (out : List ℕ) (inv : Undone part U s pending i k out) where
    module _ (behind : k + pick pending 1 0 ≤ i) (t : i < end) where
      inside : i < length part
      inside = omega (arith, length-take-le end s h)

      -- a byte that was not taken is as it was
      same : get_or out i 0 ≡ get_or part i 0
      same =
          let z = add-zero i in
          sym (ap (λ (k : ℕ). get_or out k 0) z) ∙ sym (get_or-drop i out 0 0)
          ∙ ap (λ (t : List ℕ). get_or t 0 0) (undone_behind part U s pending i k out inv room i behind)
          ∙ get_or-drop i s 0 0 ∙ ap (λ (k : ℕ). get_or s k 0) z
          ∙ sym (get_or-take end s i 0 t)

      low : pending ≡ true → get_or out i 0 ≤ 3
      low y =
          subst (λ (b : ℕ). b ≤ 3) (sym same) (undone_low part U s pending i k out inv room inside y)

      more : (above : ℕ) → above ≡ lifts pending
          → Undone part U s (is_escape (get_or out i 0)) (i + 1) (k + pick (is_escape (get_or out i 0)) 0 1)
          (set out k (get_or out i 0 + above))
      more above l =
          subst (λ (x : ℕ). Undone part U s (is_escape x) (i + 1) (k + pick (is_escape x) 0 1) (set out k (x + above)))
          (sym same) (undone_more part U s pending i k out inv room inside above l)

pub loop-i-init : goal.loop-i-init
loop-i-init c =
    let a = c.args in (
      false,
      refl,
      omega arith,
      undone_none _ _ _ a.from (sound_bytes (unstuff false (drop a.from (take a.end a.s.now))) c.requires.s_value),
    )

pub overflow_add-s : goal.overflow_add-s
overflow_add-s c =
    let a = c.args in
    let inv = c.loop-i.invariant in
    omega (
      arith,
      lift_fits inv.0 _ _ inv.1
          (low a.s.now a.from a.end c.requires.end_in_bounds inv.0 c.loop-i.i c.loop-i.k c.loop-i.s inv.3 inv.2
          c.loop-i-test.true)
          (omega arith),
    )

pub loop-i-preserved : goal.loop-i-preserved
loop-i-preserved c =
    let a = c.args in
    let inv = c.loop-i.invariant in
    let b = get_or c.loop-i.s c.loop-i.i 0 in
    let f : c.fills-k.result ≡ pick (is_escape b) 0 1 = c.fills-k.ensures in (
      is_escape b,
      c.lift-above.ensures,
      omega (arith, f, (fill_most (is_escape b)).1, inv.2),
      subst (λ (n : ℕ). Undone (take a.end a.s.now) (U a.s.now a.from a.end c.requires.end_in_bounds) a.s.now (is_escape b)
          (c.loop-i.i + 1) (c.loop-i.k + n) (set c.loop-i.s c.loop-i.k (b + c.loop-i.above))) (sym f)
          (more a.s.now a.from a.end c.requires.end_in_bounds inv.0 c.loop-i.i c.loop-i.k c.loop-i.s inv.3 inv.2
          c.loop-i-test.true c.loop-i.above inv.1),
    )

pub returns : goal.returns
returns c =
    let a = c.args in
    let inv = c.loop-i.invariant in
    undone_all (take a.end a.s.now) _ _ inv.0 c.loop-i.i _ _ inv.3
    (room a.s.now a.from a.end c.requires.end_in_bounds)
    (omega (arith, length-take-le a.end a.s.now c.requires.end_in_bounds, c.loop-i-test.false))
