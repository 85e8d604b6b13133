-- Proofs by cases on a test, and of what is answered exactly when.
use mathlib.Core.Path.{◌≡◌, refl, sym, ◌∙◌}
use mathlib.Core.Bool.{Bool, true, false, false≢true}
use Rattle.lists.specs.Choice.{pick, Exactly}

-- A fact that follows from the test, and from its failing, holds.
pub by_bool : {P : Type 0} (t : Bool) → (t ≡ true → P) → (t ≡ false → P) → P
by_bool true y n = y refl
by_bool false y n = n refl

-- Both tests of a conjunction hold where it does.
pub both_true : (t u : Bool) → pick t u false ≡ true → (t ≡ true) × (u ≡ true)
both_true true u h = (refl, h)
both_true false u h = absurd (false≢true h)

-- An answer that equals another is given exactly when the other is.
pub exactly : {A T : Type 0} {x y a : A} → x ≡ y → Exactly (y ≡ a) T → Exactly (x ≡ a) T
exactly e t = ((λ h. t.0 (sym e ∙ h)), (λ j. e ∙ t.1 j))

-- An answer and an output that equal others are given ones exactly when those are.
pub both_exactly : {A B T : Type 0} {x y a : A} {left right out : B} → (x ≡ y) × (left ≡ right)
    → Exactly ((a ≡ y) × (out ≡ right)) T → Exactly ((x ≡ a) × (left ≡ out)) T
both_exactly e t = (
  (λ h. t.0 (sym h.0 ∙ e.0, sym h.1 ∙ e.1)),
  (λ j. let w = t.1 j in (e.0 ∙ sym w.0, e.1 ∙ sym w.1)),
)
