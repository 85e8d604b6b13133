use mathlib.Core.Path.{◌≡◌, ◌∙◌}
use Prim.Native.Nat.{◌/◌}
use borrow.Author.Tests.{eq-eqb, ne_eqb}
use Rattle.numbers.specs.Number.{bytes_of}
use Rattle.writer.proofs.NumberLaws.{le_bytes_of}
use Rattle.workout.specs.Workout.{distance_bytes}
use Rattle.workout.proofs.layout.distance_bytes.Goals as goal

pub returns-then-metres-eq0 : goal.returns-then-metres-eq0
unfolding distance_bytes bytes_of
returns-then-metres-eq0 c =
    let km : c.to_le_bytes-km.result ≡ bytes_of 4 (c.args.distance.0 / 1000) =
    c.to_le_bytes-km.ensures ∙ le_bytes_of 4 (c.args.distance.0 / 1000) in
    simp (eq-eqb _ _ c.if-metres-eq0.true, km)

pub returns : goal.returns
unfolding distance_bytes bytes_of
returns c =
    let bytes : c.to_le_bytes-bytes.result ≡ bytes_of 4 c.args.distance.0 =
    c.to_le_bytes-bytes.ensures ∙ le_bytes_of 4 c.args.distance.0 in
    simp (ne_eqb _ _ c.if-metres-eq0.false, bytes)
