-- Laws of the test whether two lists are the same.
use Prim.Native.Nat.{ℕ}
use Rattle.std.specs.Bool.{Decides}
use mathlib.Core.Path.{◌≡◌, refl, sym, ap, ap₂, ◌∙◌}
use mathlib.Core.Bool.{true, false, true≢false}
use mathlib.Core.List.{List, [], ◌∷◌}
use lib.Dec.{eqb}
use borrow.Author.Tests.{eq-eqb, eqb-true}
use Rattle.lists.proofs.Cases.{both_true}
use Rattle.workout.specs.Form.{same_bytes}

pub same_refl : (s : List ℕ) → same_bytes s s ≡ true
unfolding same_bytes
same_refl [] = refl
same_refl (x ∷ s) = simp (eq-eqb x x refl) (same_refl s)

pub same_true : (s t : List ℕ) → same_bytes s t ≡ true → s ≡ t
unfolding same_bytes
same_true [] [] h = refl
same_true [] (y ∷ t) h = let z : true ≡ false = cc in absurd (true≢false z)
same_true (x ∷ s) [] h = let z : true ≡ false = cc in absurd (true≢false z)
same_true (x ∷ s) (y ∷ t) h =
    let p = both_true (eqb x y) (same_bytes s t) h in
    ap₂ (λ (a : ℕ) (l : List ℕ). a ∷ l) (eqb-true x y p.0) (same_true s t p.1)

-- It is what any other test of equality says.
pub same_decides : (s t : List ℕ) → Decides (same_bytes s t) (s ≡ t)
same_decides s t = (same_true s t, λ e. ap (same_bytes s) (sym e) ∙ same_refl s)
