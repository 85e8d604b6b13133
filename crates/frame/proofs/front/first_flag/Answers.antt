use mathlib.Core.Path.{◌≡◌, sym, ap, ◌∙◌}
use Prim.Native.Nat.{ℕ, ◌+◌}
use native.Mathlib.Omega.{arith}
use Rattle.lists.proofs.Lists.{rest_part}
use Rattle.lists.specs.Choice.{count_before}
use Rattle.lists.proofs.Before.{before_fits}
use Rattle.frame.specs.Flags.{is_flag}
use Rattle.frame.proofs.LeadingLaws.{flag_after, stop_here}
use Rattle.frame.proofs.front.first_flag.Goals as goal
use Rattle.frame.proofs.front.first_flag.Goals.{After-count_before}

-- where the search in the rest ends
ends : (c : After-count_before) → c.args.at + c.count_before.result
    ≡ count_before is_flag c.args.s.now
ends c =
    let s = c.args.s.now in
    let at = c.args.at in
    ap (λ (n : ℕ). at + n)
    (c.count_before.ensures
    ∙ ap (count_before is_flag) (rest_part s at))
    ∙ sym (flag_after s at c.requires).1

pub returns-then-is_stop_at : goal.returns-then-is_stop_at
returns-then-is_stop_at c =
    stop_here c.args.s.now c.args.at c.requires (sym c.is_stop_at.ensures ∙ c.if-is_stop_at.true)

pub slice_bounds-count_before-count : goal.slice_bounds-count_before-count
slice_bounds-count_before-count c = (flag_after _ _ c.requires).0

pub slice_bounds-count_before-start : goal.slice_bounds-count_before-start
slice_bounds-count_before-start c = (flag_after _ _ c.requires).0

pub overflow_add-result : goal.overflow_add-result
overflow_add-result c =
    record { fits = omega (arith, ends c, before_fits is_flag c.args.s.now, c.well_formed) }

pub returns : goal.returns
returns c = ends c
