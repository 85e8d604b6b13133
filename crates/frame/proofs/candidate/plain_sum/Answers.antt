use mathlib.Core.Path.{sym, ◌∙◌}
use native.Mathlib.Omega.{arith}
use Rattle.frame.proofs.ChecksumLaws.{plain_empty, plain_ends, plain_not, plain_last}
use Rattle.frame.proofs.VerdictLaws.{plain_sum_is}
use Rattle.frame.proofs.candidate.plain_sum.Goals as goal

pub returns-then-body-gt-BODY_LIMIT-clause-finds : goal.returns-then-body-gt-BODY_LIMIT-clause-finds
returns-then-body-gt-BODY_LIMIT-clause-finds c = λ h. absurd (omega (arith, h, c.if-body-gt-BODY_LIMIT.true))

pub returns-in_default-clause-plain : goal.returns-in_default-clause-plain
returns-in_default-clause-plain c = plain_sum_is c.args.body.now c.if-body-gt-BODY_LIMIT.false _ (plain_empty c.args.body.now (omega arith))

pub returns-in_default-clause-finds : goal.returns-in_default-clause-finds
returns-in_default-clause-finds c = λ h. plain_empty c.args.body.now (omega arith)

pub returns-then-is_stuffed-clause-plain : goal.returns-then-is_stuffed-clause-plain
returns-then-is_stuffed-clause-plain c = plain_sum_is c.args.body.now c.if-body-gt-BODY_LIMIT.false _ (plain_ends c.args.body.now c.in-len1-up.len_at_least (sym c.is_stuffed.ensures ∙ c.if-is_stuffed.true))

pub returns-then-is_stuffed-clause-finds : goal.returns-then-is_stuffed-clause-finds
returns-then-is_stuffed-clause-finds c = λ h. plain_ends c.args.body.now c.in-len1-up.len_at_least (sym c.is_stuffed.ensures ∙ c.if-is_stuffed.true)

pub returns-in_default-plain_sum-clause-plain : goal.returns-in_default-plain_sum-clause-plain
returns-in_default-plain_sum-clause-plain c = plain_sum_is c.args.body.now c.if-body-gt-BODY_LIMIT.false _ (plain_not c.args.body.now c.in-len1-up.len_at_least (sym c.is_stuffed.ensures ∙ c.if-is_stuffed.false) c.in_default-plain_sum.ensures)

pub returns-in_default-plain_sum-clause-finds : goal.returns-in_default-plain_sum-clause-finds
returns-in_default-plain_sum-clause-finds c = λ h. plain_not c.args.body.now c.in-len1-up.len_at_least (sym c.is_stuffed.ensures ∙ c.if-is_stuffed.false) c.in_default-plain_sum.ensures

pub returns-clause-plain : goal.returns-clause-plain
returns-clause-plain c = plain_sum_is c.args.body.now c.if-body-gt-BODY_LIMIT.false _ (plain_last c.args.body.now c.in-len1-up.len_at_least (sym c.is_stuffed.ensures ∙ c.if-is_stuffed.false) _ c.in-Some.ensures)

pub returns-clause-finds : goal.returns-clause-finds
returns-clause-finds c = λ h. plain_last c.args.body.now c.in-len1-up.len_at_least (sym c.is_stuffed.ensures ∙ c.if-is_stuffed.false) _ c.in-Some.ensures
