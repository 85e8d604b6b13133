-- Worked examples of document 01 and of 000, computed from the definitions.
use Prim.Native.Nat.{ℕ}
use mathlib.Core.Path.{◌≡◌, refl}
use mathlib.Core.Bool.{true, false}
use mathlib.Core.List.{List, [], ◌∷◌}
use lib.ListN.{take, drop, set}
use Rattle.numbers.specs.Number.{number, bytes_of}
use Rattle.workout.specs.Limits.{pm3_limits, ceil_div, within_goal}
use Rattle.workout.specs.Workout.{distance, time, within_limits, layout, distance_bytes, time_bytes, workout_bytes}
use Rattle.workout.specs.Workout.{distance_sendable}
use Rattle.workout.specs.Form.{same_bytes, bytes_at, laid_out, workout_as, has_form, in_limits}
use Rattle.answer.specs.Answer.{result, refused}
use Rattle.workout.specs.Answers.{workout_answer}

-- 2,000 m with split 500 at 200 W: 000's example.
abbrev pub fixed_distance : List ℕ
fixed_distance =
    0x21 ∷ 0x03 ∷ 0x02 ∷ 0x00 ∷ 0x21 ∷ 0x1A ∷ 0x07 ∷ 0x05 ∷ 0x05 ∷ 0x80 ∷ 0xF4 ∷ 0x01 ∷ 0x00 ∷ 0x00 ∷ 0x34 ∷ 0x03 ∷ 0xC8
    ∷ 0x00 ∷ 0x58 ∷ 0x24 ∷ 0x02 ∷ 0x00 ∷ 0x00 ∷ []

-- 20 minutes with split 4 minutes at 100 W: 000's example.
abbrev pub fixed_time : List ℕ
fixed_time =
    0x20 ∷ 0x03 ∷ 0x00 ∷ 0x14 ∷ 0x00 ∷ 0x1A ∷ 0x07 ∷ 0x05 ∷ 0x05 ∷ 0x00 ∷ 0xC0 ∷ 0x5D ∷ 0x00 ∷ 0x00 ∷ 0x34 ∷ 0x03 ∷ 0x64
    ∷ 0x00 ∷ 0x58 ∷ 0x24 ∷ 0x02 ∷ 0x00 ∷ 0x00 ∷ []

pub written : (workout_bytes (distance 2000 500 200) ≡ fixed_distance)
    × (workout_bytes (time 1200 24000 100) ≡ fixed_time)
    × (take 5 (workout_bytes (distance 2001 500 200)) ≡ 0x21 ∷ 0x03 ∷ 0xD1 ∷ 0x07 ∷ 0x24 ∷ [])
unfolding workout_bytes layout distance_bytes time_bytes bytes_of
written = (refl, refl, refl)

pub read : (workout_answer pm3_limits fixed_distance ≡ result (distance 2000 500 200))
    × (workout_answer pm3_limits fixed_time ≡ result (time 1200 24000 100))
unfolding workout_answer has_form laid_out same_bytes bytes_at layout in_limits workout_as within_limits within_goal ceil_div
    number
read = (refl, refl)

-- Other bytes at the same indices: 2,000 m in metres; 0 km and 51 km; a unit, an identifier and a last byte that no
-- workout has.
pub other_distances : (workout_answer pm3_limits (0x21 ∷ 0x03 ∷ 0xD0 ∷ 0x07 ∷ 0x24 ∷ drop 5 fixed_distance)
    ≡ result (distance 2000 500 200))
    × (workout_answer pm3_limits (set fixed_distance 2 0) ≡ refused 12)
    × (workout_answer pm3_limits (set fixed_distance 2 51) ≡ refused 12)
    × (workout_answer pm3_limits (set fixed_distance 4 0x22) ≡ refused 13)
    × (workout_answer pm3_limits (set fixed_distance 9 0x00) ≡ refused 13)
    × (workout_answer pm3_limits (set fixed_distance 22 0x01) ≡ refused 13)
unfolding workout_answer has_form laid_out same_bytes bytes_at layout in_limits workout_as within_limits within_goal ceil_div
    number
other_distances = (refl, refl, refl, refl, refl, refl)

-- 60 minutes are a limit, and the form of every byte comes before it; so are 10 hours.
pub other_times : (workout_answer pm3_limits (set fixed_time 3 60) ≡ refused 12)
    × (workout_answer pm3_limits (set (set fixed_time 3 60) 22 0x01) ≡ refused 13)
    × (workout_answer pm3_limits (set (set fixed_time 3 0) 2 10) ≡ refused 12)
unfolding workout_answer has_form laid_out same_bytes bytes_at layout in_limits workout_as within_limits within_goal ceil_div
    number
other_times = (refl, refl, refl)

-- 50,000 m make 30 splits of 1,667 m, and 31 of 1,666 m.
pub split_limit : (within_limits pm3_limits (distance 50000 1667 200) ≡ true)
    × (within_limits pm3_limits (distance 50000 1666 200) ≡ false)
unfolding within_limits within_goal ceil_div
split_limit = (refl, refl)

-- 65,535 m can be sent in metres, 66,000 m and 1,000,000 m in km; 65,536 m and 65,001,001 m can't be sent.
pub sent_distances : (distance_sendable 65535 ≡ true)
    × (distance_sendable 66000 ≡ true)
    × (distance_sendable 1000000 ≡ true)
    × (distance_sendable 65536 ≡ false)
    × (distance_sendable 65001001 ≡ false)
unfolding distance_sendable
sent_distances = (refl, refl, refl, refl, refl)
