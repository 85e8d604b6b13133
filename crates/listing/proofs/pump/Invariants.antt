-- The bytes before the index are taken, and their lines were written.
use Rattle.std.proofs.Common.{◌-◌, length, take}
use Rattle.std.specs.Io.KnownBytes.{Appends}
use Rattle.trace.specs.Machine.{texts}
use Rattle.listing.proofs.Laws.{Pumping}
use Rattle.listing.proofs.pump.Given as goal

abbrev pub invariant-loop-taken : goal.invariant-loop-taken
invariant-loop-taken g l =
    Pumping l.initial.state l.chunk l.state l.wrote l.taken
    × Appends (g.W.Write.contents l.initial.writer) (g.W.Write.contents l.writer) (texts l.initial.state (take l.taken l.chunk))

abbrev pub decreases-loop-taken : goal.decreases-loop-taken
decreases-loop-taken g l = length l.chunk - l.taken
