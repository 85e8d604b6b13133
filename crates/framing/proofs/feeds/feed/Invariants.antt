use mathlib.Core.Path.{◌≡◌}
use lib.ListN.{length, take, drop}
use Prim.Native.Nat.{◌≤◌, ◌-◌}
use Rattle.framing.specs.Chunk.{later_by}
use Rattle.framing.specs.Held.{reader}
use Rattle.framing.specs.Fed.{feed_of, last_start}
use Rattle.framing.proofs.feeds.feed.Given as goal

abbrev pub invariant-loop-i : goal.invariant-loop-i
invariant-loop-i g l =
    let p = g.P.LineProtocol in
    record {
      inside : l.i ≤ length l.input;
      place : l.opened ≡ last_start (p.protocol l.protocol).role (take l.i l.input);
      so_far : feed_of (p.protocol l.protocol) (p.bounds l.protocol) p.is_answer (reader l.initial.bytes l.initial.s) l.input ≡ later_by l.i (feed_of (p.protocol l.protocol) (p.bounds l.protocol) p.is_answer (reader l.bytes l.s) (drop l.i l.input));
    }

abbrev pub decreases-loop-i : goal.decreases-loop-i
decreases-loop-i g l = length l.input - l.i
