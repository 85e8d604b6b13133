use mathlib.Core.Path.{◌≡◌, ◌∙◌}
use Prim.Native.Nat.{◌/◌}
use Rattle.numbers.specs.Number.{bytes_of}
use Rattle.writer.proofs.NumberLaws.{le_bytes_of}
use Rattle.workout.specs.Workout.{time_bytes}
use Rattle.workout.proofs.layout.time_bytes.Goals as goal

pub returns : goal.returns
unfolding time_bytes bytes_of
returns c =
    let hours : c.to_le_bytes-hours.result ≡ bytes_of 4 (c.args.time.0 / 3600) =
    c.to_le_bytes-hours.ensures ∙ le_bytes_of 4 (c.args.time.0 / 3600) in
    simp hours
