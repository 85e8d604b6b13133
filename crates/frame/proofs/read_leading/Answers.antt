use mathlib.Core.Path.{◌≡◌, sym, ap, ap₂, ◌∙◌}
use mathlib.Core.Bool.{true}
use Prim.Native.Nat.{ℕ, ◌-◌}
use lib.ListN.{length, take, drop, get_or}
use borrow.Author.Tests.{not-true}
use Rattle.lists.proofs.Lists.{rest_part}
use Rattle.frame.specs.Flags.{is_start}
use Rattle.frame.specs.Verdict.{Verdict, verdict}
use Rattle.frame.specs.Origin.{admit}
use Rattle.frame.specs.Answers.{read_answer, read_out}
use Rattle.frame.specs.Leading.{open_count}
use Rattle.frame.specs.Private.{open_verdict}
use Rattle.frame.proofs.VerdictLaws.{answer_refused}
use Rattle.frame.proofs.OriginLaws.{admit_refused}
use Rattle.frame.proofs.LeadingLaws.{leading_none, leading_some, open_verdict_lem}
use Rattle.frame.proofs.read_leading.Goals as goal

pub returns-then-not-starts : goal.returns-then-not-starts
returns-then-not-starts c =
    let s = c.args.s.now in
    let k = leading_none s (sym c.starts.ensures ∙ not-true _ c.if-not-starts.true-raw) in
    let z = c.no_leading.ensures.taken_value in
    let a = answer_refused (admit c.args.origin (verdict (take c.no_leading.result.taken s))) 6 c.args.out.now
    (admit_refused c.args.origin _ 6 (ap (λ (n : ℕ). verdict (take n s)) z ∙ k.1)) in
    record {
      taken_value = z ∙ k.0;
      read_value = c.no_leading.ensures.read_value ∙ a.0;
      out_after = a.1;
    }

pub returns : goal.returns
returns c =
    let s = c.args.s.now in
    let out = c.args.out.now in
    let starts : is_start (get_or s 0 0) ≡ true = sym c.starts.ensures ∙ c.if-not-starts.false in
    let rest : take (length s - 1) (drop 1 s) ≡ drop 1 s = rest_part s 1 in
    let e = c.read_open.ensures in
    let taken : c.read_open.result.taken ≡ open_count (drop 1 s) = e.taken_value ∙ ap open_count rest in
    let same = ap (admit c.args.origin)
    (ap₂ open_verdict c.kind_of-kind.ensures rest ∙ open_verdict_lem s starts
    ∙ ap (λ (n : ℕ). verdict (take n s)) (sym taken)) in
    record {
      taken_value = taken ∙ leading_some s starts;
      read_value = e.read_value ∙ ap (λ (v : Verdict). read_answer v (length out)) same;
      out_after = e.out_after ∙ ap (λ (v : Verdict). read_out v out) same;
    }
