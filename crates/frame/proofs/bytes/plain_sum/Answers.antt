use mathlib.Core.Path.{refl, sym, ap, ◌∙◌}
use mathlib.Core.Bool.{Bool, ◌||◌}
use Rattle.lists.specs.Choice.{none_of}
use Rattle.frame.specs.Stuffing.{is_stuffed}
use Rattle.frame.proofs.ChecksumLaws.{sum_from_at, sum_from_end, plain_found, found_more}
use Rattle.frame.proofs.bytes.plain_sum.Goals as goal

pub loop-b-init : goal.loop-b-init
unfolding none_of
loop-b-init c = record { seen_is = refl; summed = refl }

pub loop-b-preserved : goal.loop-b-preserved
loop-b-preserved c =
    let h = c.loop-b-test.true in
    record {
      seen_is =
          ap (λ (t : Bool). c.loop-b.seen || t) c.is_stuffed-seen.ensures
          ∙ found_more is_stuffed c.args.s.now _ _ h c.loop-b.invariant.seen_is;
      summed = sym (sum_from_at _ _ _ h) ∙ c.loop-b.invariant.summed;
    }

pub returns : goal.returns
returns c =
    let h = c.loop-b-test.false in
    c.then_some.ensures
    ∙ plain_found c.args.s.now _ _ _ h c.loop-b.invariant.seen_is (sym (sum_from_end _ _ _ h) ∙ c.loop-b.invariant.summed)
