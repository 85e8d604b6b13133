use Rattle.std.proofs.Common.{ap, ◌∙◌, List, ℕ}
use borrow.Author.Tests.{eq-eqb, ne_eqb}
use Rattle.std.specs.Cmp.Lexicographic.{pointwise}
use Rattle.std.proofs.Math.Dec.{eqb}
use Rattle.command.specs.Stop.{terminates}
use Rattle.command.proofs.StopLaws.{one_two}
use Rattle.command.proofs.stop.terminates.Goals as goal

pub returns-then-byte-eq-TERMINATE : goal.returns-then-byte-eq-TERMINATE
unfolding terminates
returns-then-byte-eq-TERMINATE c =
    simp (eq-eqb _ _ c.if-byte-eq-TERMINATE.true) (c.eq.ensures
    ∙ ap (λ (x : List ℕ). pointwise eqb c.args.body.now x) c.as_slice.ensures ∙ one_two c.args.body.now)

pub returns-else-byte-eq-TERMINATE : goal.returns-else-byte-eq-TERMINATE
unfolding terminates
returns-else-byte-eq-TERMINATE c = simp (ne_eqb _ _ c.if-byte-eq-TERMINATE.false)
