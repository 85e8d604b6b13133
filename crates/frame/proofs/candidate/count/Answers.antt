use mathlib.Core.Path.{sym, ap, subst, ◌∙◌}
use Prim.Native.Nat.{ℕ}
use Rattle.std.specs.Prelude.{Option}
use Rattle.answer.specs.Answer.{refused}
use Rattle.answer.specs.Refusals.{number_of}
use Rattle.answer.specs.declared.Refusal.{Refusal}
use Rattle.frame.specs.Private.{PlainSum}
use Rattle.frame.proofs.VerdictLaws.{plain_counted, long_judged, scan_counts}
use Rattle.frame.proofs.candidate.count.Goals as goal

pub returns-in-Some : goal.returns-in-Some
returns-in-Some c =
    plain_counted c.args.body.now _ (subst (λ (x : Option ℕ). PlainSum c.args.body.now x) c.in-Some.is c.requires)

pub returns-then-body-gt-BODY_LIMIT : goal.returns-then-body-gt-BODY_LIMIT
returns-then-body-gt-BODY_LIMIT c =
    λ kind. long_judged kind c.args.body.now c.if-body-gt-BODY_LIMIT.true
    ∙ ap (λ (why : Refusal). refused (number_of why)) (sym c.long_refusal.ensures)

pub returns : goal.returns
returns c = scan_counts c.args.body.now c.if-body-gt-BODY_LIMIT.false _ c.scan_bytes.ensures
