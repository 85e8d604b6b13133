use mathlib.Core.Path.{◌≡◌}
use Prim.Native.Nat.{◌+◌}
use lib.ListN.{drop}
use Rattle.lists.specs.Choice.{count_of}
use Rattle.frame.specs.Stuffing.{is_stuffed}
use Rattle.frame.specs.Checksum.{sum_from}
use Rattle.writer.proofs.bytes.RefSliceU8Contents.count.Given as goal

abbrev pub invariant-loop-b : goal.invariant-loop-b
invariant-loop-b l =
    (l.escapes + count_of is_stuffed (drop l.b-index l.self) ≡ count_of is_stuffed l.self)
    × (sum_from l.sum (drop l.b-index l.self) ≡ sum_from 0 l.self)
