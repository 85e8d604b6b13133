use Rattle.std.proofs.Common.{min}
use borrow.Author.Tests.{leb-true, leb-false}
use native.Mathlib.Nat.{sub_self}
use Rattle.numbers.specs.Number.{Bytes, number}
use Rattle.lists.proofs.Cases.{by_bool}
use Rattle.numbers.proofs.Numbers.{number_down, number_down_bound}
use Rattle.lists.specs.Choice.{pick}
use borrow.Author.Rules.{rules}
use lib.Dec.{leb}
use native.Mathlib.Omega.{arith}
use Prim.Native.Nat.{ℕ, ◌+◌, ◌-◌, ◌^◌, ◌<◌, ◌≤◌}
use mathlib.Core.Path.{◌≡◌, sym, ap, ◌∙◌}
use Rattle.numbers.proofs.number_at.Goals as goal
use Rattle.numbers.proofs.number_at.Goals.{After-byte_at}

at-most-eight : (n : ℕ) → pick (leb n 8) n 8 ≤ 8
at-most-eight n = by_bool (leb n 8) (λ y. simp y (omega (arith, leb-true n 8 y))) (λ y. simp y (omega arith))

the-lesser : (n : ℕ) → min n 8 ≡ pick (leb n 8) n 8
the-lesser n =
    by_bool (leb n 8) (λ y. simp y (omega (arith, leb-true n 8 y))) (λ y. simp y (omega (arith, leb-false n 8 y)))

bytes : (c : After-byte_at) → Bytes c.args.s.now
bytes c i = (c.type_inv.s i).fits

-- what is read so far leaves room for a byte more
below : (c : After-byte_at) → c.loop-k.n < 256 ^ 7
below c =
    let a = c.args in
    number_down_bound (pick (leb a.width 8) a.width 8) a.at c.loop-k.k c.loop-k.n 7 a.s.now
    (bytes c) (omega (arith, c.loop-k-test.true, at-most-eight a.width)) c.loop-k.invariant.1

byte : (c : After-byte_at) → c.byte_at.result < 256
byte c = rw c.byte_at.ensures (bytes c _)

pub loop-k-init : goal.loop-k-init
unfolding number
loop-k-init c =
    let a = c.args in
    let e : c.min-k.result ≡ pick (leb a.width 8) a.width 8 = c.min-k.ensures ∙ the-lesser a.width in (
      omega (arith, e),
      sym
          (ap (λ (k : ℕ). number k (a.at + c.min-k.result) a.s.now)
          (ap (λ (k : ℕ). pick (leb a.width 8) a.width 8 - k) e ∙ sub_self (pick (leb a.width 8) a.width 8))),
    )

pub overflow_mul-n : goal.overflow_mul-n
overflow_mul-n c = record { fits = omega (arith, below c) }

pub overflow_add-n : goal.overflow_add-n
overflow_add-n c = record { fits = omega (arith, below c, byte c) }

pub loop-k-preserved : goal.loop-k-preserved
loop-k-preserved c =
    let a = c.args in (
      search rules,
      number_down (pick (leb a.width 8) a.width 8) a.at c.loop-k.k c.loop-k.n
          c.byte_at.result a.s.now c.loop-k-test.true c.loop-k.invariant.0 c.loop-k.invariant.1
          c.byte_at.ensures,
    )
