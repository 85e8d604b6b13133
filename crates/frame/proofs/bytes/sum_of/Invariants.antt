use mathlib.Core.Path.{◌≡◌}
use lib.ListN.{drop}
use Rattle.frame.specs.Checksum.{sum_from}
use Rattle.frame.proofs.bytes.sum_of.Given as goal

abbrev pub invariant-loop-b : goal.invariant-loop-b
invariant-loop-b l = sum_from l.sum (drop l.b-index l.s) ≡ sum_from 0 l.s
