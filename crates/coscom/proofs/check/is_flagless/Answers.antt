use mathlib.Core.Path.{sym, ◌∙◌}
use Rattle.coscom.proofs.FlagLaws.{clear_flagless, flagless_each}
use Rattle.coscom.proofs.check.is_flagless.Goals as goal

pub returns-then-none_within : goal.returns-then-none_within
returns-then-none_within c =
    c.if-none_within.true ∙ sym (clear_flagless _ (sym c.none_within.ensures ∙ c.if-none_within.true))

pub returns-then-none_within-2 : goal.returns-then-none_within-2
returns-then-none_within-2 c =
    c.none_within-then-none_within-2.ensures
    ∙ sym (flagless_each c.args.s.now
    ∙ simp (sym c.none_within-else-none_within.ensures ∙ c.if-none_within-2.true))

pub returns-else-none_within-2 : goal.returns-else-none_within-2
returns-else-none_within-2 c =
    c.if-none_within-2.false
    ∙ sym (flagless_each c.args.s.now
    ∙ simp (sym c.none_within-else-none_within.ensures ∙ c.if-none_within-2.false))
