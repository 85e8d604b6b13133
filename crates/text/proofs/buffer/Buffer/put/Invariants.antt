use Rattle.std.proofs.Common.{◌≡◌, take}
use Rattle.lists.specs.Splice.{splice}
use Rattle.text.proofs.buffer.Buffer.put.Given as goal

abbrev pub invariant-loop-i : goal.invariant-loop-i
invariant-loop-i l = l.bytes ≡ splice l.initial.bytes l.at (take l.i l.s)
