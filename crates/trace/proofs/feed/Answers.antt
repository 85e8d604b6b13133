use Rattle.std.proofs.Common.{◌≡◌, ◌+◌, ◌<◌, ◌≤◌, length, take, ap, ◌∙◌, arith}
use Rattle.line.specs.Rowing.{most_bytes}
use Rattle.line.specs.Feed.{chunk_of, ChunkStepIs}
use Rattle.line.specs.Reader.{lent_reader}
use Rattle.trace.specs.Private.{stray_count, countable}
use Rattle.trace.specs.Machine.{is_open}
use Rattle.trace.proofs.StrayLaws.{full-strays, passed_fit, passed_counted, passed_fed, taken_within}
use Rattle.trace.proofs.StrayLaws.{countable_fits, cut_countable}
use Rattle.trace.proofs.feed.Goals as goal
use Rattle.trace.proofs.feed.Goals.{After-feed_in-step-2, After-min, After-passed_over-passed}

-- the chunk is what can be taken of the rest
part : (t : After-min) → take t.min.result t.args.rest.now ≡ countable t.args.before.count t.args.rest.now
part t = cut_countable t.args.before.count t.min.result t.args.rest.now (omega (arith, t.min.ensures, t.min-most.ensures))

room : (t : After-min) → t.args.before.count < most_bytes
room t = omega (arith, t.if-before-eq-LIMIT.false, t.well_formed)

-- the bytes that are passed over are bytes of the chunk
fits : (c : After-passed_over-passed) → c.passed_over-passed.result ≤ length (take c.min.result c.args.rest.now)
fits c =
    passed_fit (lent_reader c.args.bytes.now c.args.before) _ c.stray_count-strays.result c.passed_over-passed.result
    c.stray_count-strays.ensures c.passed_over-passed.ensures

-- a full reader counts no stray byte
pub returns-then-before-eq-LIMIT-clause-strays_value : goal.returns-then-before-eq-LIMIT-clause-strays_value
returns-then-before-eq-LIMIT-clause-strays_value c =
    full-strays (is_open c.args.before.held.mode) c.args.before.count c.args.rest.now c.if-before-eq-LIMIT.true

-- and they can be counted
counted : (c : After-passed_over-passed) → c.args.before.count + c.passed_over-passed.result ≤ most_bytes
counted c =
    let t = (goal.at.After-passed_over-passed c).After-min in
    passed_counted (lent_reader c.args.bytes.now c.args.before) c.args.rest.now _ (room t) (part t)
    c.stray_count-strays.result c.passed_over-passed.result c.stray_count-strays.ensures c.passed_over-passed.ensures

pub overflow_cast-after : goal.overflow_cast-after
overflow_cast-after c =
    record { fits = omega (arith, counted (goal.at.overflow_cast-after c).After-passed_over-passed) }

pub overflow_add-after : goal.overflow_add-after
overflow_add-after c =
    record { fits = omega (arith, counted (goal.at.overflow_add-after c).After-passed_over-passed) }

pub slice_bounds-feed_in-count : goal.slice_bounds-feed_in-count
slice_bounds-feed_in-count c = fits (goal.at.slice_bounds-feed_in-count c).After-passed_over-passed

pub slice_bounds-feed_in-start : goal.slice_bounds-feed_in-start
slice_bounds-feed_in-start c = fits (goal.at.slice_bounds-feed_in-start c).After-passed_over-passed

-- passing over them and feeding what follows is feeding the rest
fed : (c : After-feed_in-step-2) → ChunkStepIs c.feed_in-step-2.new.bytes
    (record {
      told = c.feed_in-step-2.result.told;
      position = c.feed_in-step-2.result.position;
      state = c.feed_in-step-2.result.state;
      taken = c.passed_over-passed.result + c.feed_in-step-2.result.taken;
    })
    (chunk_of (lent_reader c.args.bytes.now c.args.before) c.args.rest.now)
fed c =
    let a = c.args in
    let t = (goal.at.After-feed_in-step-2 c).After-min in
    passed_fed (lent_reader a.bytes.now a.before) a.rest.now _ (room t) (part t) c.stray_count-strays.result
    c.passed_over-passed.result
    c.stray_count-strays.ensures c.passed_over-passed.ensures c.feed_in-step-2.new.bytes c.feed_in-step-2.result
    c.feed_in-step-2.ensures

pub overflow_add-result : goal.overflow_add-result
overflow_add-result c =
    let a = c.args in
    record {
      fits =
          omega (
            arith,
            (fed (goal.at.overflow_add-result c).After-feed_in-step-2).taken_is,
            taken_within (lent_reader a.bytes.now a.before) a.rest.now (room (goal.at.overflow_add-result c).After-min),
            countable_fits a.before.count a.rest.now,
            c.well_formed,
          );
    }

pub returns-clause-step_is : goal.returns-clause-step_is
returns-clause-step_is c = fed (goal.at.returns-clause-step_is c).After-feed_in-step-2

pub returns-clause-strays_value : goal.returns-clause-strays_value
returns-clause-strays_value c =
    c.stray_count-strays.ensures
    ∙ ap (stray_count (is_open c.args.before.held.mode)) (part (goal.at.returns-clause-strays_value c).After-min)
