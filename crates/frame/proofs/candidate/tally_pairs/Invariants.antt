use Rattle.frame.proofs.EscapeLaws.{TalliedTo}
use Rattle.frame.proofs.candidate.tally_pairs.Given as goal

abbrev pub invariant-loop-i : goal.invariant-loop-i
invariant-loop-i l = TalliedTo l.s l.i l.found
