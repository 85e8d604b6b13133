use mathlib.Core.Path.{sym, ap, ◌∙◌}
use Rattle.std.proofs.lemmas.Result.{err_from_is_err_and}
use Rattle.answer.specs.Answer.{refused}
use Rattle.answer.specs.Refusals.{number_of}
use Rattle.answer.specs.declared.Refusal.{Refusal}
use Rattle.frame.proofs.OriginLaws.{admit_refused, sound_admitted, sound_unnamed}
use Rattle.frame.proofs.judge_body.Goals as goal

pub returns-in_err-found : goal.returns-in_err-found
returns-in_err-found c =
    let p = err_from_is_err_and c.from_residual.result c.from_residual.ensures.1 in
    rw (p.1, p.2) (admit_refused c.args.origin _ _ c.in_err-found.ensures)

pub returns-in_err-admit : goal.returns-in_err-admit
returns-in_err-admit c =
    let p = err_from_is_err_and c.from_residual-in_err-admit.result c.from_residual-in_err-admit.ensures.1 in
    let a = c.in_err-admit.ensures in
    rw (p.1, p.2)
    (sound_unnamed c.args.origin c.in_ok-found.found.header c.in_ok-found.ensures a.0
    ∙ ap (λ (why : Refusal). refused (number_of why)) (sym a.1))

pub returns : goal.returns
returns c = sound_admitted c.args.origin c.in_ok-found.found.header c.in_ok-found.ensures c.in_ok-admit.ensures
