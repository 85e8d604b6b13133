use native.Mathlib.Omega.{arith}
use mathlib.Core.List.{[]}
use borrow.Author.Rules.{rules}
use Rattle.std.proofs.lemmas.Result.{err_from_is_err_and}
use Rattle.lease.specs.Lease.{hold}
use Rattle.lease.specs.Promises.{Real}
use Rattle.lease.proofs.LeaseLaws.{lent_other_length, lent_refused, lent_accepted, lent_room}
use Rattle.lease.proofs.hold_lent.Goals as goal
use Rattle.lease.proofs.hold_lent.Goals.{After-token_in}

real : (c : After-token_in) → Real c.args.table.now c.args.token
real c = record { bytes = search rules; fits = omega arith }

pub returns-in_err-held : goal.returns-in_err-held
returns-in_err-held c =
    let a = c.args in
    let p = err_from_is_err_and c.from_residual.result c.from_residual.ensures.1 in
    rw (p.1, p.2)
    (lent_other_length a.table.now (hold a.address a.token) (real (goal.at.returns-in_err-held c).After-token_in) _
    c.in_err-held.ensures)

pub returns-in_err-judge_hold : goal.returns-in_err-judge_hold
returns-in_err-judge_hold c =
    let a = c.args in
    let p = err_from_is_err_and c.from_residual-in_err-judge_hold.result c.from_residual-in_err-judge_hold.ensures.1 in
    rw (p.1, p.2)
    (lent_refused a.table.now (hold a.address a.token) (real (goal.at.returns-in_err-judge_hold c).After-token_in) c.in_ok-held.held
    c.in_ok-held.ensures _ c.in_err-judge_hold.ensures)

pub put_token-requires : goal.put_token-requires
put_token-requires c =
    let a = c.args in
    lent_room a.table.now (hold a.address a.token) (real (goal.at.put_token-requires c).After-token_in) c.in_ok-held.held
    c.in_ok-held.ensures [] c.in_ok-judge_hold.ensures

pub returns : goal.returns
returns c =
    let a = c.args in
    lent_accepted a.table.now (hold a.address a.token) (real (goal.at.returns c).After-token_in) c.in_ok-held.held
    c.in_ok-held.ensures [] _ c.in_ok-judge_hold.ensures c.put_token.ensures
