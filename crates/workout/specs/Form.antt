-- What contents say, and whether they have the form of a workout.
use Rattle.std.specs.Prelude.{ℕ, zero, suc, ◌+◌, ◌*◌, Bool, true, false, List, [], ◌∷◌, leb, eqb, length, get_or}
use Rattle.lists.specs.Choice.{pick}
use Rattle.numbers.specs.Number.{number}
use Rattle.workout.specs.Limits.{Limits}
use Rattle.workout.specs.Workout.{Programmed, distance, time, layout, within_limits}
use Rattle.workout.specs.declared.layout.GoalKind.{GoalKind}
use Rattle.workout.specs.declared.layout.GoalKind.TheVariants.{Distance, Time}

-- The kind of goal that a command byte sets.
abbrev pub goal_kind_for : ℕ → GoalKind
goal_kind_for command = pick (eqb command 0x20) Time Distance

abbrev pub goal_kind_in : List ℕ → GoalKind
goal_kind_in c = goal_kind_for (get_or c 0 0)

-- Whether two lists are the same.
unfoldable pub same_bytes : List ℕ → List ℕ → Bool
same_bytes [] [] = true
same_bytes [] (y ∷ t) = false
same_bytes (x ∷ s) [] = false
same_bytes (x ∷ s) (y ∷ t) = pick (eqb x y) (same_bytes s t) false

-- The `count` bytes from index `at` on.
unfoldable pub bytes_at : (at count : ℕ) → List ℕ → List ℕ
bytes_at at zero c = []
bytes_at at (suc n) c = get_or c at 0 ∷ bytes_at (suc at) n c

-- Whether contents are 23 bytes, laid out as the layout lays out the goal, the split and the power in them.
unfoldable pub laid_out : List ℕ → Bool
laid_out c =
    pick (eqb (length c) 23) (same_bytes c (layout (goal_kind_in c) (bytes_at 2 3 c) (bytes_at 10 4 c) (bytes_at 16 2 c)))
    false

-- Whether the unit of a distance is one of the two.
abbrev pub unit_known : GoalKind → ℕ → Bool
unit_known Distance unit = pick (eqb unit 0x21) true (eqb unit 0x24)
unit_known Time unit = true

-- Whether the minutes and seconds of a time are at most 59.
abbrev pub clock_right : GoalKind → (minutes seconds : ℕ) → Bool
clock_right Distance minutes seconds = true
clock_right Time minutes seconds = pick (leb minutes 59) (leb seconds 59) false

-- The metres of a number in a unit.
abbrev pub metres_of : (unit amount : ℕ) → ℕ
metres_of unit amount = pick (eqb unit 0x21) (1000 * amount) amount

-- The workout that contents with a goal of this kind say.
unfoldable pub workout_as : GoalKind → List ℕ → Programmed
workout_as Distance c = distance (metres_of (get_or c 4 0) (number 2 2 c)) (number 4 10 c) (number 2 16 c)
workout_as Time c = time (3600 * get_or c 2 0 + 60 * get_or c 3 0 + get_or c 4 0) (number 4 10 c) (number 2 16 c)

abbrev pub workout_in : List ℕ → Programmed
workout_in c = workout_as (goal_kind_in c) c

-- Whether contents have the form of a workout.
unfoldable pub has_form : List ℕ → Bool
has_form c = pick (laid_out c) (unit_known (goal_kind_in c) (get_or c 4 0)) false

-- Whether contents of that form are within the limits.
unfoldable pub in_limits : Limits → List ℕ → Bool
in_limits limits c = pick (clock_right (goal_kind_in c) (get_or c 3 0) (get_or c 4 0)) (within_limits limits (workout_in c)) false
