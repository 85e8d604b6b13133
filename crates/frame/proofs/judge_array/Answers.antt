use mathlib.Core.Path.{◌≡◌, ap, ◌∙◌}
use Prim.Native.Nat.{min}
use native.Mathlib.Omega.{arith}
use lib.ListN.{length}
use Rattle.frame.specs.Verdict.{Verdict}
use Rattle.frame.specs.Origin.{admit}
use Rattle.frame.specs.Answers.{judge_answer}
use Rattle.frame.proofs.ContentsLaws.{judged_part, left_first}
use Rattle.frame.proofs.judge_array.Goals as goal

pub returns-clause-result_value : goal.returns-clause-result_value
returns-clause-result_value c =
    let s = c.args.bytes.now in
    let held : c.min-held.result ≡ min c.args.len (length s) = omega arith in
    c.judge_in_place.ensures.result_value
    ∙ ap (λ (v : Verdict). judge_answer (admit c.args.origin v)) (judged_part c.args.kind s c.args.len _ held)

pub returns-clause-bytes_after : goal.returns-clause-bytes_after
returns-clause-bytes_after c =
    let s = c.args.bytes.now in
    let held : c.min-held.result ≡ min c.args.len (length s) = omega arith in
    left_first c.args.origin c.args.kind c.args.len _ s _ held c.judge_in_place.auto.body
    c.judge_in_place.ensures.body_after
