use mathlib.Core.Path.{◌≡◌, refl, sym, ap}
use mathlib.Core.Bool.{true, false}
use Rattle.coscom.specs.Verdict.{is_spelt}
use Rattle.coscom.specs.Answers.{judge_answer}
use Rattle.coscom.proofs.VerdictLaws.{judge_long, judge_short, judge_character, judge-sum, judge_sound}
use Rattle.coscom.proofs.CodeLaws.{part_spelt, part_summed, part_told}
use Rattle.coscom.proofs.judge_body.Goals as goal
use Rattle.coscom.proofs.judge_body.Goals.{then-not-is_proper-via-then-not-is_proper, then-not-is_proper-via-else-not-is_proper+then-not-is_digit, then-not-is_proper-via-else-not-is_proper+else-not-is_digit+then-not-is_digit-2}

pub returns-then-body-gt-BODY_LIMIT : goal.returns-then-body-gt-BODY_LIMIT
unfolding judge_answer
returns-then-body-gt-BODY_LIMIT c = ap judge_answer (sym (judge_long _ c.if-body-gt-BODY_LIMIT.true))

pub returns-in_default : goal.returns-in_default
unfolding judge_answer
returns-in_default c = ap judge_answer (sym (judge_short _ c.if-body-gt-BODY_LIMIT.false c.in_default.len_below))

pub returns-then-not-is_proper : goal.returns-then-not-is_proper
unfolding judge_answer
returns-then-not-is_proper c =
    let body = c.args.body.now in
    let h = c.in-len5-up.len_at_least in
    let n : is_spelt body ≡ false =
    elim c.then-not-is_proper.branch [
      | then-not-is_proper-via-then-not-is_proper w ↦
          sym (part_spelt body h false _ _ w.if-not-is_proper.ensures refl refl)
      | then-not-is_proper-via-else-not-is_proper+then-not-is_digit w ↦
          sym (part_spelt body h true false _ w.if-not-is_proper.ensures w.if-not-is_digit.ensures refl)
      | then-not-is_proper-via-else-not-is_proper+else-not-is_digit+then-not-is_digit-2 w ↦
          sym (part_spelt body h true true false w.if-not-is_proper.ensures w.if-not-is_digit.ensures w.if-not-is_digit-2.ensures)
    ] in
    ap judge_answer (sym (judge_character _ c.if-body-gt-BODY_LIMIT.false h n))

pub returns-then-not-are_digits : goal.returns-then-not-are_digits
unfolding judge_answer
returns-then-not-are_digits c =
    let body = c.args.body.now in
    let h = c.in-len5-up.len_at_least in
    ap judge_answer
    (sym (judge-sum _ c.if-body-gt-BODY_LIMIT.false h
    (sym (part_spelt body h true true true c.if-not-is_proper.ensures c.if-not-is_digit.ensures c.if-not-is_digit-2.ensures))
    (sym (part_summed body h _ false c.checksum-sum.ensures.value c.if-not-are_digits.ensures))))

pub returns : goal.returns
returns c =
    let body = c.args.body.now in
    let h = c.in-len5-up.len_at_least in
    part_told body h
    (judge_sound body c.if-body-gt-BODY_LIMIT.false h
    (sym (part_spelt body h true true true c.if-not-is_proper.ensures c.if-not-is_digit.ensures c.if-not-is_digit-2.ensures))
    (sym (part_summed body h _ true c.checksum-sum.ensures.value c.if-not-are_digits.ensures)))
