use mathlib.Core.Path.{ap, ◌∙◌}
use Prim.Native.Nat.{ℕ}
use mathlib.Core.Bool.{false}
use mathlib.Core.List.{List, ◌++◌}
use lib.ListN.{length, take, drop}
use Rattle.std.proofs.lemmas.Result.{err_from_is_err_and}
use Rattle.lists.proofs.Lists.{rest_part}
use Rattle.frame.specs.Stuffing.{unstuff}
use Rattle.frame.specs.Private.{unstuffed_bytes}
use Rattle.frame.proofs.VerdictLaws.{answer_refused}
use Rattle.frame.proofs.ContentsLaws.{rest_length, read_no_room, read_first}
use Rattle.frame.proofs.read_judged.Goals as goal

pub returns-in_err-found : goal.returns-in_err-found
returns-in_err-found c =
    let p = err_from_is_err_and c.from_residual.result c.from_residual.ensures.1 in
    let t = answer_refused _ _ c.args.out.now c.in_err-found.ensures in
    record { result_value = rw (p.1, p.2) t.0; out_after = t.1 }

pub returns-then-out-found : goal.returns-then-out-found
returns-then-out-found c =
    let s = c.in_ok-found.ensures in
    let t = read_no_room s _ c.args.out.now s.judged c.if-out-found.true in
    record { result_value = t.0; out_after = t.1 }

pub copy_contents-requires-clause-rest_len : goal.copy_contents-requires-clause-rest_len
copy_contents-requires-clause-rest_len c =
    let s = c.in_ok-found.ensures in
    ap (λ (l : List ℕ). length (unstuffed_bytes (unstuff false l))) (rest_part c.args.body.now c.in_ok-found.found.start)
    ∙ rest_length s

pub returns : goal.returns
returns c =
    let found = c.in_ok-found.found in
    let out = c.args.out.now in
    let s = c.in_ok-found.ensures in
    let t = read_first s _ out _ s.judged c.if-out-found.false
    (c.copy_contents.ensures
    ∙ ap (λ (l : List ℕ). take found.len (unstuffed_bytes (unstuff false l)) ++ drop found.len out)
    (rest_part c.args.body.now found.start)) in
    record { result_value = t.0; out_after = t.1 }
