use Rattle.std.proofs.Common.{[], ◌∷◌, sym, arith, ◌<◌, length}
use borrow.Author.Tests.{eqb-true, eqb-false}
use Rattle.command.proofs.Errors.{passed_on}
use Rattle.answer.proofs.Drafts.{writes_refusal, writes_no_room, writes_done}
use Rattle.lists.proofs.Splices.{set-splice}
use Rattle.reply.proofs.ReplyLaws.{status_refused, status_sound}
use Rattle.reply.proofs.write_status.Goals as goal

pub returns-in_err-from_byte-clause-value : goal.returns-in_err-from_byte-clause-value
returns-in_err-from_byte-clause-value c =
    rw (passed_on c.from_residual.result c.from_residual.ensures.1)
    (writes_refusal _ _ c.args.out.now (status_refused c.args.byte _ c.in_err-from_byte.ensures)).0

pub returns-in_err-from_byte-clause-out_after : goal.returns-in_err-from_byte-clause-out_after
returns-in_err-from_byte-clause-out_after c =
    (writes_refusal _ _ c.args.out.now (status_refused c.args.byte _ c.in_err-from_byte.ensures)).1

pub returns-then-is_empty : goal.returns-then-is_empty
returns-then-is_empty c =
    let t = writes_no_room _ (c.args.byte ∷ []) c.args.out.now
    (status_sound c.args.byte _ _ _ c.in_ok-from_byte.ensures)
    (omega (arith, eqb-true _ _ (sym c.if-is_empty.ensures))) in
    record { value = t.0; out_after = t.1 }

pub returns : goal.returns
returns c =
    let some : 0 < length c.args.out.now = let n = eqb-false _ _ (sym c.if-is_empty.ensures) in omega arith in
    let t = writes_done _ (c.args.byte ∷ []) c.args.out.now _
    (status_sound c.args.byte _ _ _ c.in_ok-from_byte.ensures) some (set-splice c.args.out.now 0 c.args.byte some) in
    record { value = t.0; out_after = t.1 }
