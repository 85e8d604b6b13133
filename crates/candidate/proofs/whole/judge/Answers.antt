use mathlib.Core.Path.{◌≡◌, sym, subst, ◌∙◌}
use mathlib.Core.Logic.{inl, inr}
use Prim.Native.Nat.{ℕ, ◌+◌, ◌≤◌, ◌<◌}
use native.Mathlib.Omega.{arith}
use lib.ListN.{length}
use Rattle.frame.specs.Answers.{read_means}
use Rattle.candidate.specs.Outcome.{capacity}
use Rattle.candidate.proofs.WholeLaws.{none_left, long_left}
use Rattle.candidate.proofs.WholeLaws.{wire_judged, wire_inside, wire_left}
use borrow.Author.Rules.{rules}
use Rattle.candidate.proofs.whole.judge.Goals as goal
use Rattle.candidate.proofs.whole.judge.Goals.{After-contents_len-n, Else-taken-gt-WHOLE_LIMIT}
use Rattle.candidate.proofs.whole.judge.Goals.{then-taken-eq0-via-then-taken-eq0, then-taken-eq0-via-else-taken-eq0+then-taken-gt-WHOLE_LIMIT}

-- a candidate was found that the array can hold
found_at_after_contents_len_n : (t : After-contents_len-n) → 0 < t.read_leading-leading.result.taken
found_at_after_contents_len_n t = omega (arith, t.if-taken-eq0.false)

inside : (c : After-contents_len-n) → (c.contents_len-n.result + 2 ≤ c.read_leading-leading.result.taken)
    × (c.read_leading-leading.result.taken
    ≤ length c.args.input.now)
inside c =
    let a : length c.args.bytes.now ≡ capacity = search rules in
    wire_inside c.args.origin c.args.input.now c.args.bytes.now a c.read_leading-leading.result.taken
    c.read_leading-leading.ensures.taken_value (found_at_after_contents_len_n c) c.if-taken-gt-WHOLE_LIMIT.false (read_means c.read_leading-leading.result.read)
    c.read_leading-leading.ensures.read_value c.contents_len-n.result c.contents_len-n.ensures

-- a candidate was found that the array can hold
found : (t : Else-taken-gt-WHOLE_LIMIT) → 0 < t.read_leading-leading.result.taken
found t = omega (arith, t.if-taken-eq0.false)

pub returns-then-taken-eq0 : goal.returns-then-taken-eq0
returns-then-taken-eq0 c =
    let count = c.read_leading-leading.ensures.taken_value in
    elim c.then-taken-eq0.branch [
      | then-taken-eq0-via-then-taken-eq0 w ↦ (
        inl (sym count ∙ w.if-taken-eq0.true),
        none_left c.args.origin c.args.input.now _ _ _ w.if-taken-eq0.true c.read_leading-leading.ensures.out_after,
      )
      | then-taken-eq0-via-else-taken-eq0+then-taken-gt-WHOLE_LIMIT w ↦ (
        inr (subst (λ (n : ℕ). 120 < n) count w.if-taken-gt-WHOLE_LIMIT.true),
        long_left c.args.origin c.args.input.now _ _ _ count w.if-taken-gt-WHOLE_LIMIT.true
            c.read_leading-leading.ensures.out_after,
      )
    ]

pub overflow_add-n : goal.overflow_add-n
overflow_add-n c = record { fits = omega (arith, inside c, c.well_formed) }

pub slice_bounds-copy-count : goal.slice_bounds-copy-count
slice_bounds-copy-count c = omega (arith, inside c)

pub slice_bounds-copy-start : goal.slice_bounds-copy-start
slice_bounds-copy-start c = omega (arith, inside c)

pub slice_bounds-copy-end : goal.slice_bounds-copy-end
slice_bounds-copy-end c = omega (arith, inside c)

pub returns : goal.returns
returns c =
    let a : length c.args.bytes.now ≡ capacity = search rules in
    let s = c.args.input.now in
    let o = c.args.origin in
    let bytes = c.args.bytes.now in
    let taken = c.read_leading-leading.result.taken in
    let means = read_means c.read_leading-leading.result.read in
    let count = c.read_leading-leading.ensures.taken_value in
    let short = c.if-taken-gt-WHOLE_LIMIT.false in
    let h = found (goal.at.returns c).Else-taken-gt-WHOLE_LIMIT in (
      count,
      h,
      short,
      record {
        array = a;
        told_is = wire_judged o s bytes a taken count h short means c.read_leading-leading.ensures.read_value
            c.contents_len-n.result c.contents_len-n.ensures;
        left_is = wire_left o s bytes a taken count h short means c.read_leading-leading.ensures.read_value
            c.contents_len-n.result c.contents_len-n.ensures c.read_leading-leading.new.out _
            c.read_leading-leading.ensures.out_after c.copy.ensures;
      },
    )
