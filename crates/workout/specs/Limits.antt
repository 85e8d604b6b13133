-- The limits on a workout, as numbers that the definitions take: document 01, "Workout card".
use Rattle.std.specs.Prelude.{ℕ, ◌+◌, ◌-◌, ◌*◌, ◌/◌, ◌≤◌, Bool, false, leb}
use Rattle.lists.specs.Choice.{pick, within}

-- The limits on one kind of goal: on the goal in its own unit, and on its split in the split's.
pub record GoalLimits : Type 0 where
  pub least : ℕ
  pub most : ℕ
  pub shortest : ℕ
  pub longest : ℕ

-- The limits of a monitor: on a distance in metres, on a time in seconds with its split in hundredths of a second, and
-- on the number of splits.
pub record Limits : Type 0 where
  pub distance : GoalLimits
  pub time : GoalLimits
  pub splits : ℕ

-- Document 01's limits, which are those of PM3 and PM4. It gives a split no longest length but that of the goal.
abbrev pub pm3_limits : Limits
pm3_limits = record {
  distance = record { least = 100; most = 50000; shortest = 100; longest = 50000 };
  time = record { least = 20; most = 35999; shortest = 2000; longest = 3599900 };
  splits = 30;
}

-- A number divided by another, rounded up.
unfoldable pub ceil_div : ℕ → ℕ → ℕ
ceil_div n d = (n + (d - 1)) / d

-- The least number of parts of length `d` that reach `n`: what rounding up means.
pub record RoundedUp (n d q : ℕ) : Type 0 where
  pub reaches : n ≤ q * d
  pub least : (m : ℕ) → n ≤ m * d → q ≤ m

-- Whether a goal and its split are within the limits on their kind of goal, where `scale` units of the split make one
-- of the goal.
unfoldable pub within_goal : GoalLimits → (splits scale goal split : ℕ) → Bool
within_goal limits splits scale goal split =
    pick (within limits.least limits.most goal)
    (pick (within limits.shortest limits.longest split)
    (pick (leb split (scale * goal)) (leb (ceil_div (scale * goal) split) splits) false)
    false)
    false
