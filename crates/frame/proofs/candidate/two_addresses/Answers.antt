use mathlib.Core.Path.{refl, ap, ◌∙◌, subst}
use Prim.Native.Nat.{ℕ}
use Rattle.std.specs.Prelude.{Option}
use Rattle.frame.specs.Private.{PlainSum}
use Rattle.frame.proofs.VerdictLaws.{plain_addressed}
use Rattle.std.proofs.lemmas.Result.{err_from_is_err_and}
use Rattle.frame.specs.declared.Kind.TheVariants.{Extended}
use Rattle.frame.specs.Stuffing.{Unstuffed, prepend}
use Rattle.frame.specs.Verdict.{judge_bytes}
use Rattle.frame.proofs.ScanLaws.{after_next, told, bounds, stopped}
use Rattle.frame.proofs.candidate.two_addresses.Goals as goal

pub returns-in-Some-len2-up : goal.returns-in-Some-len2-up
returns-in-Some-len2-up c =
    plain_addressed c.args.body.now _ (subst (λ (x : Option ℕ). PlainSum c.args.body.now x) c.in-Some-len2-up.is-0 c.requires)
    c.in-Some-len2-up.len_at_least _ _ refl refl

pub returns-in_err-to : goal.returns-in_err-to
unfolding judge_bytes
returns-in_err-to c =
    let p = err_from_is_err_and c.from_residual.result c.from_residual.ensures.1 in
    rw (p.1, p.2) (stopped c.args.body.now 0 (judge_bytes Extended) refl refl _ c.in_err-to.ensures)

pub returns-in_err-from : goal.returns-in_err-from
unfolding judge_bytes prepend after_next
returns-in_err-from c =
    let p = err_from_is_err_and c.from_residual-in_err-from.result c.from_residual-in_err-from.ensures.1 in
    rw (p.1, p.2)
    (ap (judge_bytes Extended) (told c.args.body.now 0 _ c.in_ok-to.ensures)
    ∙ stopped c.args.body.now _ (λ (r : Unstuffed). judge_bytes Extended (prepend c.in_ok-to.to.value r)) refl refl _
    c.in_err-from.ensures)

pub returns : goal.returns
unfolding after_next
returns c =
    let s = c.args.body.now in (
      (bounds s _ _ c.in_ok-from.ensures).1,
      refl,
      told s 0 _ c.in_ok-to.ensures ∙ ap (prepend c.in_ok-to.to.value) (told s _ _ c.in_ok-from.ensures),
      refl,
    )
