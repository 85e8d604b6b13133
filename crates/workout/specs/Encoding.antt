-- Which contents stand for which workout, apart from how they are read: document 01, "Workout card". A distance may
-- stand in km or in metres. The 23 bytes are laid out by `layout`, as the writer lays them out; `Formed` says each of them
-- by itself.
use Rattle.std.specs.Prelude.{ℕ, ◌+◌, ◌*◌, ◌^◌, ◌≤◌, ◌<◌, List, [], ◌∷◌, ◌++◌}
use Rattle.numbers.specs.Number.{bytes_of}
use Rattle.workout.specs.Workout.{Programmed, distance, time, layout}
use Rattle.workout.specs.declared.layout.GoalKind.TheVariants.{Distance, Time}

-- The three bytes of a distance: low, high and the unit.
pub data EncodedDistance : (metres : ℕ) → List ℕ → Type 0 where
  in_km : (km : ℕ) → km < 2 ^ 16 → EncodedDistance (1000 * km) (bytes_of 2 km ++ (0x21 ∷ []))
  in_metres : (metres : ℕ) → metres < 2 ^ 16 → EncodedDistance metres (bytes_of 2 metres ++ (0x24 ∷ []))

-- The three bytes of a time.
pub data EncodedTime : (seconds : ℕ) → List ℕ → Type 0 where
  on_clock : (hours minutes seconds : ℕ) → minutes ≤ 59 → seconds ≤ 59
      → EncodedTime (3600 * hours + 60 * minutes + seconds) (hours ∷ minutes ∷ seconds ∷ [])

-- The 23 bytes of a workout.
pub data Encoded : Programmed → List ℕ → Type 0 where
  distance_in : {goal split watts : ℕ} {g : List ℕ} → EncodedDistance goal g → split < 2 ^ 32 → watts < 2 ^ 16
      → Encoded (distance goal split watts) (layout Distance g (bytes_of 4 split) (bytes_of 2 watts))
  time_in : {goal split watts : ℕ} {g : List ℕ} → EncodedTime goal g → split < 2 ^ 32 → watts < 2 ^ 16
      → Encoded (time goal split watts) (layout Time g (bytes_of 4 split) (bytes_of 2 watts))
