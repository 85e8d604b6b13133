-- The bytes read so far are listed, their lines are written, and there are no more than a trace has.
use Rattle.std.proofs.Common.{◌-◌}
use Rattle.line.specs.Rowing.{most_bytes}
use Rattle.listing.proofs.Laws.{Reading}
use Rattle.listing.proofs.StreamLaws.{Flowing}
use Rattle.listing.proofs.run.Given as goal

abbrev pub invariant-loop-read : goal.invariant-loop-read
invariant-loop-read g l =
    Reading l.state l.read l.wrote
    × Flowing (g.R.Read.remaining l.initial.reader) (g.R.Read.remaining l.reader)
    (g.W.Write.contents l.initial.writer) (g.W.Write.contents l.writer) l.state l.read

abbrev pub decreases-loop-read : goal.decreases-loop-read
decreases-loop-read g l = most_bytes - l.read
