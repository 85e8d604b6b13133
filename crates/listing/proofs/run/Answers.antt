-- Where the loop stands is what `Reading` and `Flowing` say; a chunk that was listed adds to both.
use Rattle.std.proofs.Common.{◌≡◌, ◌+◌, ◌≤◌, length, take, refl, arith}
use Rattle.line.specs.Rowing.{most_bytes}
use Rattle.listing.proofs.Laws.{part_size, reading_more, write_failed, input_ended, at_limit}
use Rattle.listing.proofs.StreamLaws.{flowing_more, write_failed_flow, input_ended_flow, at_limit_flow, is_whole, is_failed}
use Rattle.listing.proofs.run.Goals as goal

pub returns-then-n-eq0-clause-runs : goal.returns-then-n-eq0-clause-runs
returns-then-n-eq0-clause-runs g c =
    let l = c.loop-read in
    input_ended l.state l.read l.wrote l.invariant.0 c.in-Ok.n c.if-n-eq0.true l.out c.close.new.out _ _ c.close.result
    c.close.ensures

pub returns-then-n-eq0-clause-carries : goal.returns-then-n-eq0-clause-carries
returns-then-n-eq0-clause-carries g c =
    let l = c.loop-read in
    input_ended_flow _ _ _ _ l.state l.read l.invariant.1 _ _ _ l.wrote l.out c.close.new.out c.close.result
    c.close.ensures c.in-Ok.n c.fetch.new.input c.if-n-eq0.true c.in-Ok.ensures.takes refl

pub returns-then-is_err : goal.returns-then-is_err
returns-then-is_err g c =
    let l = c.loop-read in
    let p = c.pump-pumped in
    let size : c.in-Ok.n ≡ length (take c.in-Ok.n c.fetch.new.input) =
    part_size _ (omega (arith, c.in-Ok.ensures.fetches, c.fetch.auto.input, l.auto.input)) in
    let fits : l.read + c.in-Ok.n ≤ most_bytes = omega (arith, c.in-Ok.ensures.fetches) in
    let failed = is_failed p.result.whole _ c.is_err.ensures.value c.if-is_err.true in
    record {
      runs = write_failed l.state l.read l.wrote l.invariant.0 _ c.in-Ok.n size fits p.result p.ensures.pumps p.result.whole failed p.new.out _;
      carries =
          write_failed_flow _ _ _ _ l.state l.read l.invariant.1 _ _ _ c.in-Ok.n size fits c.in-Ok.ensures.takes.0 p.result
          p.ensures.pumps p.ensures.gives failed _;
    }

pub loop-read-preserved : goal.loop-read-preserved
loop-read-preserved g c =
    let l = c.loop-read in
    let p = c.pump-pumped in
    let whole = is_whole p.result.whole _ c.is_err.ensures.value c.if-is_err.false in
    let size : c.in-Ok.n ≡ length (take c.in-Ok.n c.fetch.new.input) =
    part_size _ (omega (arith, c.in-Ok.ensures.fetches, c.fetch.auto.input, l.auto.input)) in
    let fits : l.read + c.in-Ok.n ≤ most_bytes = omega (arith, c.in-Ok.ensures.fetches) in (
      reading_more l.state l.read l.wrote l.invariant.0 _ c.in-Ok.n size fits p.result p.ensures.pumps whole _ refl,
      flowing_more _ _ _ _ l.state l.read l.invariant.1 _ _ _ c.in-Ok.n size fits c.in-Ok.ensures.takes.0 p.result
          p.ensures.pumps p.ensures.gives whole,
    )

pub returns-clause-runs : goal.returns-clause-runs
returns-clause-runs g c =
    let l = c.loop-read in
    at_limit l.state l.read l.wrote l.invariant.0 (omega (arith, l.invariant.0.read_is, l.invariant.0.within)) l.out
    c.close-2.new.out _ _ c.close-2.result c.close-2.ensures

pub returns-clause-carries : goal.returns-clause-carries
returns-clause-carries g c =
    let l = c.loop-read in
    at_limit_flow _ _ _ _ l.state l.read l.invariant.1 _ _ _ l.wrote l.out c.close-2.new.out c.close-2.result
    c.close-2.ensures refl refl
