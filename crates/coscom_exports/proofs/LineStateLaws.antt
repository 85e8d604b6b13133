-- A line reader that was packed is what its number is taken apart to.
use Prim.Native.Nat.{ℕ, ◌/◌, ◌%◌, ◌<◌}
use mathlib.Core.Path.{◌≡◌, refl, ap, ◌∙◌}
use mathlib.Core.List.{List}
use native.Mathlib.Omega.{arith}
use lib.Dec.{eqb}
use borrow.Author.Tests.{eqb-true}
use Rattle.lists.proofs.Cases.{by_bool}
use Rattle.coscom_line.specs.Reader.{lent_reader}
use Rattle.framing.specs.declared.Mode.{Mode}
use Rattle.framing.specs.declared.Mode.TheVariants.{Outside, Inside, Overlong}
use Rattle.framing.specs.declared.Held.{Held}
use Rattle.coscom_exports.specs.LineState.{digit_of, mode_of, packed_state, state_in, reader_in}

digit_small : (m : Mode (Unit {0})) → digit_of m < 4
digit_small Outside = omega arith
digit_small (Inside tt) = omega arith
digit_small Overlong = omega arith

mode_of_digit : (m : Mode (Unit {0})) → mode_of (digit_of m) ≡ m
mode_of_digit Outside = refl
mode_of_digit (Inside tt) = refl
mode_of_digit Overlong = refl

pub state_tells : (bytes : List ℕ) (s : Held (Unit {0})) → reader_in bytes (packed_state s) ≡ lent_reader bytes s
state_tells bytes s =
    let m = s.mode in
    let l : packed_state s / 4 ≡ s.len = omega (arith, digit_small m) in
    let d : packed_state s % 4 ≡ digit_of m = omega (arith, digit_small m) in
    let e : mode_of (packed_state s % 4) ≡ m = ap mode_of d ∙ mode_of_digit m in
    λ i. lent_reader bytes (record { len = l i; mode = e i })

-- only 0 stands for outside
outside_zero : (n : ℕ) → mode_of n ≡ Outside → n ≡ 0
outside_zero n e =
    by_bool (eqb n 0)
    (λ y. eqb-true n 0 y)
    (λ m. by_bool (eqb n 1)
    (λ y. let q : Inside tt ≡ Outside = simp (m, y) at e in let z : ◌≡◌ {A = ℕ} 0 1 = cc in absurd (omega arith))
    (λ k. let q : Overlong ≡ Outside = simp (m, k) at e in let z : ◌≡◌ {A = ℕ} 0 1 = cc in absurd (omega arith)))

-- The number of a reader that is outside of a candidate and holds nothing is 0.
pub new_zero : (n : ℕ) → (state_in n).len ≡ 0 → (state_in n).mode ≡ Outside → n ≡ 0
new_zero n l m = let d = outside_zero (n % 4) m in omega (arith, l, d)
