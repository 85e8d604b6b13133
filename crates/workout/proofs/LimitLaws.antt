-- Laws of the limits: rounding up, and the tests as facts.
use Prim.Native.Nat.{ℕ, suc, ◌+◌, ◌-◌, ◌*◌, ◌/◌, ◌^◌, ◌≤◌, ◌<◌}
use mathlib.Core.Path.{◌≡◌, sym, ◌∙◌}
use mathlib.Core.Bool.{true, false}
use native.Mathlib.Nat.{div-lt_iff_lt-mul, suc-mul, le_of_lt, lt_of_le_of_lt, mul-le-mul_left, mul-lt-mul_of_pos_right}
use native.Mathlib.Omega.{arith}
use lib.Dec.{leb}
use borrow.Author.Tests.{leb-true, leb-false, le-leb}
use Rattle.lists.specs.Choice.{within, Exactly}
use Rattle.lists.proofs.Cases.{by_bool, both_true}
use Rattle.lists.proofs.Tests.{within_yes, within_true}
use Rattle.workout.specs.Limits.{GoalLimits, ceil_div, RoundedUp, within_goal}
use Rattle.workout.specs.Conditions.{GoalWithin}

-- ---- rounding up

-- A quotient rounded up is at most a number exactly where that many parts reach.
pub ceil_div_product : (n d k : ℕ) → 0 < d → Exactly (ceil_div n d ≤ k) (n ≤ k * d)
unfolding ceil_div
ceil_div_product n d k h =
    let i = div-lt_iff_lt-mul {k = d} {x = n + (d - 1)} {y = suc k} h in (
      (λ l. let m : n + (d - 1) < suc k * d = i.0 (omega arith) in omega (arith, suc-mul k d)),
      (λ l. let m : (n + (d - 1)) / d < suc k = i.1 (omega (arith, suc-mul k d)) in omega arith),
    )

-- The two tests of that.
pub ceil_div_test : (n d k : ℕ) → 0 < d → leb (ceil_div n d) k ≡ leb n (k * d)
ceil_div_test n d k h =
    let i = ceil_div_product n d k h in
    by_bool (leb n (k * d)) (λ y. le-leb (ceil_div n d) k (i.1 (leb-true n (k * d) y)) ∙ sym y)
    (λ y. by_bool (leb (ceil_div n d) k)
    (λ z. absurd (omega (arith, i.0 (leb-true (ceil_div n d) k z), leb-false n (k * d) y)))
    (λ z. z ∙ sym y))

-- It is the least number of parts that reach.
pub ceil_div_rounds_up : (n d : ℕ) → 0 < d → RoundedUp n d (ceil_div n d)
ceil_div_rounds_up n d h =
    record {
      reaches = (ceil_div_product n d (ceil_div n d) h).0 (omega arith);
      least = λ m l. (ceil_div_product n d m h).1 l;
    }

-- The product of two numbers of 32 bits has at most 64.
pub product_below : (a b : ℕ) → a < 2 ^ 32 → b < 2 ^ 32 → a * b < 2 ^ 64
product_below a b h k = lt_of_le_of_lt (mul-le-mul_left a (le_of_lt k)) (mul-lt-mul_of_pos_right h (omega arith))

-- ---- the tests, as facts

module _ (limits : GoalLimits) (splits scale goal split : ℕ) where
  pub within_goal_lem : within_goal limits splits scale goal split ≡ true → GoalWithin limits splits scale goal split
  unfolding within_goal
  within_goal_lem e =
      let a = both_true (within limits.least limits.most goal) _ e in
      let b = both_true (within limits.shortest limits.longest split) _ a.1 in
      let c = both_true (leb split (scale * goal)) _ b.1 in
      let g = within_true limits.least limits.most goal a.0 in
      let s = within_true limits.shortest limits.longest split b.0 in
      record {
        least = g.0;
        most = g.1;
        shortest = s.0;
        longest = s.1;
        in_goal = leb-true split (scale * goal) c.0;
        few = leb-true (ceil_div (scale * goal) split) splits c.1;
      }

  pub goal_within : GoalWithin limits splits scale goal split → within_goal limits splits scale goal split ≡ true
  unfolding within_goal
  goal_within w =
      simp (
        within_yes limits.least limits.most goal w.least w.most,
        within_yes limits.shortest
            limits.longest split w.shortest w.longest,
        le-leb split (scale * goal) w.in_goal,
        le-leb
            (ceil_div (scale * goal) split) splits w.few,
      )

  -- where a limit is not kept
  pub goal_outside : (GoalWithin limits splits scale goal split → ⊥) → within_goal limits splits scale goal split ≡ false
  goal_outside n = by_bool (within_goal limits splits scale goal split) (λ y. absurd (n (within_goal_lem y))) (λ y. y)
