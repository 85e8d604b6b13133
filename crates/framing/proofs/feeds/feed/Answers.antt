use mathlib.Core.Path.{◌≡◌, sym, ap, ◌∙◌}
use mathlib.Core.Bool.{false}
use mathlib.Core.List.{List}
use native.Mathlib.Omega.{arith}
use lib.ListN.{drop, take, get_or}
use Prim.Native.Nat.{ℕ, ◌+◌}
use Rattle.std.specs.Prelude.{None}
use Rattle.framing.specs.Counting.{start_after}
use Rattle.framing.specs.Chunk.{later_by}
use Rattle.framing.specs.Held.{reader}
use Rattle.framing.specs.Fed.{feed_of, last_start}
use Rattle.framing.proofs.FedLaws.{start_more, run_feeds, run_starts, goes_on, answers, ends, whole_answers}
use Rattle.framing.proofs.feeds.feed.Goals as goal
use Rattle.framing.proofs.feeds.feed.Goals.{Start, After-consume-run}

-- nothing is no answer
silent : (g : _) (c : Start g) → g.P.LineProtocol.is_answer (g.P.LineProtocol.protocol c.args.protocol).nothing ≡ false
silent g c = let laws = g.met.P.LineProtocol in sym (laws.is_told None _ (laws.nothing_told c.args.protocol))

-- what is fed up to the end of a run
so_far : (g : _) (c : After-consume-run g)
    → (let p = g.P.LineProtocol in
    let a = c.args in
    let answer = feed_of (p.protocol a.protocol) (p.bounds a.protocol) p.is_answer in
    answer (reader a.bytes.now a.held) a.input.now
    ≡ later_by c.consume-run.result.at
    (answer (reader c.consume-run.new.bytes c.consume-run.result.held) (drop c.consume-run.result.at a.input.now)))
so_far g c =
    let p = g.P.LineProtocol in
    let laws = g.met.P.LineProtocol in
    let q = c.args.protocol in
    c.loop-i.invariant.so_far
    ∙ run_feeds (p.protocol q) (p.bounds q) p.is_answer (sym (laws.is_told None _ (laws.nothing_told q))) p.ends_run
    (laws.none_in_run q) g.row.ROOM (laws.room q) c.args.input.now c.loop-i.i c.consume-run.result.at c.loop-i-test.true
    c.consume-run.ensures.at _ _ c.consume-run.ensures.held

-- the same over bytes that are what the run left
kept : (g : _) (c : After-consume-run g) (left : List ℕ) → left ≡ c.consume-run.new.bytes
    → (let p = g.P.LineProtocol in
    let a = c.args in
    let answer = feed_of (p.protocol a.protocol) (p.bounds a.protocol) p.is_answer in
    answer (reader a.bytes.now a.held) a.input.now
    ≡ later_by c.consume-run.result.at (answer (reader left c.consume-run.result.held) (drop c.consume-run.result.at a.input.now)))
kept g c left e = rw e (so_far g c)

-- a run has no start flag
place : (g : _) (c : After-consume-run g)
    → c.loop-i.opened
    ≡ last_start (g.P.LineProtocol.protocol c.args.protocol).role (take c.consume-run.result.at c.args.input.now)
place g c =
    let p = g.P.LineProtocol in
    let laws = g.met.P.LineProtocol in
    let q = c.args.protocol in
    c.loop-i.invariant.place
    ∙ sym (run_starts (p.protocol q) (p.bounds q) p.is_answer (sym (laws.is_told None _ (laws.nothing_told q))) p.ends_run
    (laws.none_in_run q) g.row.ROOM (laws.room q) c.args.input.now c.loop-i.i c.consume-run.result.at c.loop-i-test.true
    c.consume-run.ensures.at)

pub returns-then-input-j : goal.returns-then-input-j
returns-then-input-j g c =
    let at = goal.at.returns-then-input-j g c in
    let p = g.P.LineProtocol in
    rw c.ended.ensures
    (ends (p.protocol c.args.protocol) (p.bounds c.args.protocol) p.tells p.is_answer _ _ (silent g at.Start)
    (g.met.P.LineProtocol.nothing_told c.args.protocol) _ _ _ c.if-input-j.true (so_far g at.After-consume-run) _
    (place g at.After-consume-run))

pub returns-in-Some : goal.returns-in-Some
returns-in-Some g c =
    let p = g.P.LineProtocol in
    let w = c.in-Some.ensures.is in
    rw (c.ended-in-Some.ensures, c.outside.ensures)
    (whole_answers (p.protocol c.args.protocol) (p.bounds c.args.protocol) p.tells p.is_answer _ _ g.met.P.LineProtocol.is_told _ _ _ _
    (omega (arith, c.if-input-j.false)) w.0 (so_far g (goal.at.returns-in-Some g c).After-consume-run) c.in-Some.whole w.1)

pub returns-then-is_answer : goal.returns-then-is_answer
returns-then-is_answer g c =
    let e = (goal.at.returns-then-is_answer g c).After-consume-run in
    let p = g.P.LineProtocol in
    rw c.ended-then-is_answer.ensures
    (answers (p.protocol c.args.protocol) (p.bounds c.args.protocol) p.tells p.is_answer _ _ _ _ c.if-input-j.false
    (kept g e _ c.in-None.ensures.is) _ c.step-step.result c.step-step.ensures
    (g.met.P.LineProtocol.is_told c.step-step.result.told _ c.step-step.ensures.told_is)
    (sym c.is_answer.ensures ∙ c.if-is_answer.true) _ _ (place g e) c.opened_by-opened.ensures)

pub loop-i-preserved : goal.loop-i-preserved
loop-i-preserved g c =
    let e = (goal.at.loop-i-preserved g c).After-consume-run in
    let p = g.P.LineProtocol in
    let s = c.args.input.now in
    let at = c.consume-run.result.at in
    let P = p.protocol c.args.protocol in
    record {
      inside = omega (arith, c.if-input-j.false);
      place = c.opened_by-opened.ensures
          ∙ ap (λ (n : ℕ). start_after (P.role (get_or s at 0)) n (at + 1)) (place g e)
          ∙ sym (start_more P.role s at c.if-input-j.false);
      so_far = goes_on P (p.bounds c.args.protocol) p.tells p.is_answer _ s _ at c.if-input-j.false (kept g e _ c.in-None.ensures.is) _
          c.step-step.result c.step-step.ensures
          (g.met.P.LineProtocol.is_told c.step-step.result.told _ c.step-step.ensures.told_is)
          (sym c.is_answer.ensures ∙ c.if-is_answer.false);
    }

pub returns : goal.returns
returns g c =
    let p = g.P.LineProtocol in
    rw c.ended-2.ensures
    (ends (p.protocol c.args.protocol) (p.bounds c.args.protocol) p.tells p.is_answer _ _ (silent g (goal.at.returns g c).Start)
    (g.met.P.LineProtocol.nothing_told c.args.protocol) _ _ _ c.loop-i-test.false c.loop-i.invariant.so_far _ c.loop-i.invariant.place)
