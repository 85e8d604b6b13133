use mathlib.Core.Path.{◌≡◌, sym, ap, ◌∙◌}
use Prim.Native.Nat.{ℕ, ◌-◌}
use native.Mathlib.Omega.{arith}
use lib.ListN.{length, take, drop}
use borrow.Author.Tests.{not-true}
use Rattle.frame.specs.Private.{judge_whole}
use Rattle.frame.specs.Verdict.{Verdict, verdict}
use Rattle.frame.specs.Origin.{admit}
use Rattle.frame.specs.Answers.{read_answer, read_out}
use Rattle.frame.proofs.VerdictLaws.{bounded_no, bounded_judged, answer_refused}
use Rattle.frame.proofs.OriginLaws.{admit_refused}
use Rattle.frame.proofs.read_frame.Goals as goal

pub returns-then-not-is_bounded : goal.returns-then-not-is_bounded
returns-then-not-is_bounded c =
    let none = bounded_no _ (sym c.is_bounded.ensures.value ∙ not-true _ c.if-not-is_bounded.true-raw) in
    let t = answer_refused _ 6 c.args.out.now (admit_refused c.args.origin _ 6 none) in
    record { result_value = t.0; out_after = t.1 }

pub returns : goal.returns
returns c =
    let w = c.args.wire.now in
    let out = c.args.out.now in
    let body = take (length w - 1 - 1) (drop 1 w) in
    let n : length w - 1 - 1 ≡ length w - 2 = omega arith in
    let judged : judge_whole c.kind_of-kind.result body ≡ verdict w =
    ap (λ (k : _). judge_whole k body) c.kind_of-kind.ensures
    ∙ bounded_judged w (sym c.is_bounded.ensures.value ∙ c.if-not-is_bounded.false) body
    (ap (λ (m : ℕ). take m (drop 1 w)) n) in
    record {
      result_value =
          c.read_body.ensures.result_value
          ∙ ap (λ (v : Verdict). read_answer (admit c.args.origin v) (length out)) judged;
      out_after = c.read_body.ensures.out_after ∙ ap (λ (v : Verdict). read_out (admit c.args.origin v) out) judged;
    }
