use mathlib.Core.Path.{◌≡◌}
use mathlib.Core.Bool.{true, false}
use lib.ListN.{take, drop}
use Rattle.lists.specs.Choice.{pick, none_of}
use Rattle.frame.specs.Checksum.{sum_from}
use Rattle.frame.specs.Stuffing.{is_stuffed}
use Rattle.frame.proofs.bytes.plain_sum.Given as goal

abbrev pub invariant-loop-b : goal.invariant-loop-b
invariant-loop-b l = record {
  seen_is : l.seen ≡ pick (none_of is_stuffed (take l.b-index l.s)) false true;
  summed : sum_from l.sum (drop l.b-index l.s) ≡ sum_from 0 l.s;
}
