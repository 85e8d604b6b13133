use mathlib.Core.Path.{◌≡◌, refl}
use Prim.Native.Nat.{◌+◌, ◌≤◌}
use native.Mathlib.Omega.{arith}
use lib.ListN.{length}
use Rattle.frame.specs.Frame.{wire_of, frame_of}
use Rattle.writer.proofs.WireLaws.{contents_long, header_between}
use Rattle.writer.proofs.MeasureLaws.{counted_length, counted_few}
use Rattle.writer.proofs.measure.measure.Given as given
use Rattle.writer.proofs.measure.measure.Goals as goal
use Rattle.writer.proofs.measure.measure.Goals.{After-width}

-- what is added up is the length of the frame
is_length : (g : given.Over) (w : After-width g)
    → w.header_len.result + (w.len-unstuffed.result + w.count-counted.result.escapes) + w.width.result + 1
    ≡ length (wire_of (frame_of w.args.header (g.C.Contents.bytes w.args.contents)))
is_length g w =
    counted_length w.args.header (g.C.Contents.bytes w.args.contents) w.count-counted.result _ _ _ w.count-counted.ensures
    w.len-unstuffed.ensures w.header_len.ensures w.width.ensures

-- and is small
is_small : (g : given.Over) (w : After-width g)
    → w.header_len.result + (w.len-unstuffed.result + w.count-counted.result.escapes) + w.width.result + 1 ≤ 400
is_small g w =
    counted_few w.args.header (g.C.Contents.bytes w.args.contents) w.count-counted.result _ _ _ w.count-counted.ensures
    w.len-unstuffed.ensures w.header_len.ensures w.width.ensures w.if-unstuffed-gt-CONTENTS_LIMIT.false

pub returns-then-unstuffed-gt-CONTENTS_LIMIT : goal.returns-then-unstuffed-gt-CONTENTS_LIMIT
returns-then-unstuffed-gt-CONTENTS_LIMIT g c =
    (refl, contents_long c.args.header (g.C.Contents.bytes c.args.contents) (omega arith))

pub overflow_add-len : goal.overflow_add-len
overflow_add-len g c = omega (arith, header_between c.args.header)

pub overflow_add-len-2 : goal.overflow_add-len-2
overflow_add-len-2 g c = omega (arith, is_small g c)

pub overflow_add-len-3 : goal.overflow_add-len-3
overflow_add-len-3 g c = omega (arith, is_small g c)

pub returns-then-len-gt-WIRE_LIMIT : goal.returns-then-len-gt-WIRE_LIMIT
returns-then-len-gt-WIRE_LIMIT g c =
    (refl, omega (arith, is_length g (goal.at.returns-then-len-gt-WIRE_LIMIT g c).After-width))

pub returns : goal.returns
returns g c = (
  c.count-counted.ensures,
  is_length g (goal.at.returns g c).After-width,
  omega arith,
)
