use mathlib.Core.Path.{◌≡◌, sym, ap, ◌∙◌}
use mathlib.Core.Bool.{true}
use Rattle.coscom.specs.Flags.{flagless}
use Rattle.coscom.specs.Answers.{judge_answer}
use Rattle.coscom.proofs.VerdictLaws.{whole_flagged, whole_flagless}
use Rattle.coscom.proofs.CodeLaws.{ok_flagless}
use Rattle.coscom.proofs.examine.Goals as goal
use Rattle.coscom.proofs.examine.Goals.{then-is_ok-via-then-is_ok, then-is_ok-via-else-is_ok+then-is_flagless}

pub returns-then-is_ok : goal.returns-then-is_ok
returns-then-is_ok c =
    let body = c.args.body.now in
    let found = c.judge_body-found.ensures in
    let f : flagless body ≡ true =
    elim c.then-is_ok.branch [
      | then-is_ok-via-then-is_ok w ↦ ok_flagless body _ found (sym c.is_ok.ensures.value ∙ w.if-is_ok.true)
      | then-is_ok-via-else-is_ok+then-is_flagless w ↦ sym w.if-is_flagless.ensures
    ] in
    found ∙ ap judge_answer (sym (whole_flagless body f))

pub returns : goal.returns
unfolding judge_answer
returns c = ap judge_answer (sym (whole_flagged _ (sym c.if-is_flagless.ensures)))
