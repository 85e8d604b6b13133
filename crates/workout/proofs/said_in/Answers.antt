use mathlib.Core.Path.{◌≡◌, refl, sym, ap, ◌∙◌}
use mathlib.Core.Bool.{true, false}
use native.Mathlib.Omega.{arith}
use Rattle.std.proofs.lemmas.Result.{err_from_is_err_and}
use Rattle.std.proofs.lemmas.Slice.Eq.{slice_eq-Decides}
use Rattle.std.proofs.lemmas.Bool.Decides.{Decides-eqb, same_from_decides}
use lib.Pointwise.{pointwise}
use lib.Dec.{eqb}
use borrow.Author.Tests.{not-true, not-false}
use Rattle.workout.proofs.SameLaws.{same_decides}
use Rattle.numbers.specs.Number.{Bytes}
use Rattle.numbers.proofs.Numbers.{number_bound}
use Rattle.workout.specs.Form.{laid_out}
use Rattle.workout.specs.Private.{with_watts}
use Rattle.workout.proofs.ReadLaws.{not_long, laid_out_same, said_formless, goal_is}
use Rattle.workout.proofs.said_in.Goals as goal
use Rattle.workout.proofs.said_in.Goals.{After-number_at-watts, After-ne}

pub returns-then-contents-ne-LEN : goal.returns-then-contents-ne-LEN
returns-then-contents-ne-LEN c = sym (said_formless c.args.contents.now (not_long c.args.contents.now c.if-contents-ne-LEN.true))

pub overflow_cast-split : goal.overflow_cast-split
overflow_cast-split c =
    record { fits = omega (arith, c.number_at-split.ensures, number_bound 4 10 c.args.contents.now (λ i. (c.type_inv.contents i).fits)) }

pub overflow_cast-watts : goal.overflow_cast-watts
overflow_cast-watts c =
    record { fits = omega (arith, c.number_at-watts.ensures, number_bound 2 16 c.args.contents.now (λ i. (c.type_inv.contents i).fits)) }

bytes : (w : After-number_at-watts) → Bytes w.args.contents.now
bytes w i = (w.type_inv.contents i).fits

-- the test, where the bytes are not those that are laid out, and where they are
module _ (w : After-ne) where
  laid : Bytes w.args.contents.now → laid_out w.args.contents.now ≡ pointwise eqb w.args.contents.now w.as_slice.result.now
  laid b =
      laid_out_same w.args.contents.now w.set_by-kind.ensures w.number_at-split.ensures w.number_at-watts.ensures
      b w.if-contents-ne-LEN.false (w.as_slice.ensures ∙ w.lay_out-expected.ensures)
      (same_from_decides _ _ (slice_eq-Decides Decides-eqb w.args.contents.now w.as_slice.result.now _ refl)
      (same_decides w.args.contents.now w.as_slice.result.now))

  other : Bytes w.args.contents.now → w.ne.result ≡ true → laid_out w.args.contents.now ≡ false
  other b e = laid b ∙ not-true _ (sym w.ne.ensures ∙ e)

  same : Bytes w.args.contents.now → w.ne.result ≡ false → laid_out w.args.contents.now ≡ true
  same b e = laid b ∙ not-false _ (sym w.ne.ensures ∙ e)

pub returns-then-ne : goal.returns-then-ne
returns-then-ne c = sym (said_formless c.args.contents.now (other (goal.at.returns-then-ne c).After-ne (bytes (goal.at.returns-then-ne c).After-number_at-watts) c.if-ne.true))

pub returns-in_err-goal : goal.returns-in_err-goal
returns-in_err-goal c =
    let p = err_from_is_err_and c.from_residual.result c.from_residual.ensures.1 in
    rw (p.1, p.2)
    (ap (with_watts c.number_at-watts.result) (sym c.in_err-goal.was ∙ c.goal_in.ensures)
    ∙ goal_is c.args.contents.now c.set_by-kind.ensures c.number_at-split.ensures c.number_at-watts.ensures
    (same (goal.at.returns-in_err-goal c).After-ne (bytes (goal.at.returns-in_err-goal c).After-number_at-watts) c.if-ne.false))

pub returns : goal.returns
returns c =
    ap (with_watts c.number_at-watts.result) (sym c.in_ok-goal.was ∙ c.goal_in.ensures)
    ∙ goal_is c.args.contents.now c.set_by-kind.ensures c.number_at-split.ensures c.number_at-watts.ensures
    (same (goal.at.returns c).After-ne (bytes (goal.at.returns c).After-number_at-watts) c.if-ne.false)
