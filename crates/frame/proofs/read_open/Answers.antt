use mathlib.Core.Path.{sym, ap, ◌∙◌, subst}
use lib.ListN.{length, take}
use borrow.Author.Tests.{not-true}
use Rattle.std.specs.Prelude.{Option}
use Prim.Native.Nat.{ℕ}
use Rattle.frame.specs.Verdict.{Verdict}
use Rattle.frame.specs.Origin.{admit}
use Rattle.frame.specs.Answers.{read_answer, read_out}
use Rattle.frame.specs.Private.{PlainSum}
use Rattle.frame.proofs.VerdictLaws.{answer_refused}
use Rattle.frame.proofs.OriginLaws.{admit_refused}
use Rattle.frame.proofs.LeadingLaws.{open_plain, open_none, open_some}
use Rattle.frame.proofs.read_open.Goals as goal
use Rattle.frame.proofs.read_open.Goals.{then-end-run+then-end-le-BODY_LIMIT, else-end-run}

pub returns-then-not-is_stop_at : goal.returns-then-not-is_stop_at
returns-then-not-is_stop_at c =
    let e = sym c.is_stop_at.ensures ∙ not-true _ c.if-not-is_stop_at.true-raw in
    let k = open_none c.args.kind c.args.rest.now _ c.first_flag-end.ensures e in
    let a = answer_refused _ 6 c.args.out.now (admit_refused c.args.origin _ 6 k.1) in
    record {
      taken_value = c.no_leading.ensures.taken_value ∙ sym k.0;
      read_value = c.no_leading.ensures.read_value ∙ a.0;
      out_after = a.1;
    }

pub read_body-read-requires : goal.read_body-read-requires
read_body-read-requires c =
    let rest = c.args.rest.now in
    let run = c.plain_run-run.ensures in
    let P : Option ℕ → Type 0 = PlainSum (take c.first_flag-end.result rest) in
    elim c.if-end-run.branch [
      | then-end-run+then-end-le-BODY_LIMIT w ↦
          subst P (sym w.plain-is)
          (open_plain rest _ _ _ run.len_value run.sum_value (sym c.is_stop_at.ensures ∙ c.if-not-is_stop_at.false)
          w.if-end-run.true w.if-end-le-BODY_LIMIT.true)
      | else-end-run w ↦ subst P (sym w.plain-is) tt
    ]

pub returns : goal.returns
returns c =
    let out = c.args.out.now in
    let k = open_some c.args.kind c.args.rest.now _ c.first_flag-end.ensures
    (sym c.is_stop_at.ensures ∙ c.if-not-is_stop_at.false) in
    let e = c.read_body-read.ensures in
    record {
      taken_value = k.0;
      read_value = e.result_value ∙ ap (λ (v : Verdict). read_answer (admit c.args.origin v) (length out)) k.1;
      out_after = e.out_after ∙ ap (λ (v : Verdict). read_out (admit c.args.origin v) out) k.1;
    }
