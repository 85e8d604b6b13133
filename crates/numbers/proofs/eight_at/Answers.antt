use Prim.Native.Nat.{ℕ, ◌+◌, ◌*◌, ◌^◌, ◌<◌}
use mathlib.Core.Path.{sym, ap₂, ◌∙◌}
use native.Mathlib.Omega.{arith}
use Rattle.numbers.proofs.Numbers.{number-add, number_bound}
use Rattle.numbers.proofs.eight_at.Goals as goal
use Rattle.numbers.proofs.eight_at.Goals.{After-four_at-2}

high : (c : After-four_at-2) → c.four_at-2.result < 256 ^ 4
high c =
    rw c.four_at-2.ensures (number_bound 4 _ c.args.s.now (λ i. (c.type_inv.s i).fits))

low : (c : After-four_at-2) → c.four_at.result < 256 ^ 4
low c =
    rw c.four_at.ensures (number_bound 4 _ c.args.s.now (λ i. (c.type_inv.s i).fits))

pub overflow_mul-result : goal.overflow_mul-result
overflow_mul-result c = record { fits = omega (arith, high c) }

pub overflow_add-result : goal.overflow_add-result
overflow_add-result c = record { fits = omega (arith, low c, high c) }

pub returns : goal.returns
returns c =
    let a = c.args in
    ap₂ (λ (x y : ℕ). x + 256 ^ 4 * y) c.four_at.ensures c.four_at-2.ensures
    ∙ sym (number-add 4 4 a.at a.s.now)
