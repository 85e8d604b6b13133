use borrow.Author.Rules.{rules}
use borrow.Author.Tests.{eq-eqb, ne_eqb}
use Rattle.command.specs.Stop.{terminates, stops_within}
use Rattle.command.proofs.stop.stops_within.Goals as goal

pub returns-then-byte-eq-WRAPPER : goal.returns-then-byte-eq-WRAPPER
unfolding stops_within
returns-then-byte-eq-WRAPPER c =
    simp (eq-eqb _ _ c.if-byte-eq-WRAPPER.true) (c.any.ensures terminates (λ byte body r k. search (rules, k)))

pub returns-else-byte-eq-WRAPPER : goal.returns-else-byte-eq-WRAPPER
unfolding stops_within
returns-else-byte-eq-WRAPPER c = simp (ne_eqb _ _ c.if-byte-eq-WRAPPER.false)
