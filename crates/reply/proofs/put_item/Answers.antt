use Rattle.std.proofs.Common.{arith, ◌≡◌, sym, ap, ◌∙◌, ◌+◌, ◌≤◌, ◌∷◌, ◌++◌, length}
use Rattle.std.proofs.Math.ListN.{set, length-set}
use Rattle.lists.specs.Splice.{splice}
use Rattle.lists.proofs.Splices.{copied_fits}
use Rattle.answer.specs.Answer.{result}
use Rattle.answer.proofs.Drafts.{writes_refusal, writes_done}
use Rattle.reply.proofs.ReplyLaws.{item_count, item_long, item_fits_lem, item_no_room_lem, whole_length, put_written}
use Rattle.reply.proofs.put_item.Goals as goal

pub returns-in_default : goal.returns-in_default
returns-in_default c =
    let a = c.args in
    let t = writes_refusal _ 7 a.out.now
    (item_count a.prior.now a.byte a.body.now (omega (arith, c.in_default.ensures))) in
    record { value = t.0; out_after = t.1 }

pub returns-then-end-gt-REPLY_LIMIT : goal.returns-then-end-gt-REPLY_LIMIT
returns-then-end-gt-REPLY_LIMIT c =
    let a = c.args in
    let t = writes_refusal _ 2 a.out.now (item_long a.prior.now a.byte a.body.now (omega arith) (omega arith)) in
    record { value = t.0; out_after = t.1 }

pub returns-then-out-end : goal.returns-then-out-end
returns-then-out-end c =
    let t = item_no_room_lem _ _ _ _ (omega arith) (omega arith) (omega arith) in
    record { value = t.0; out_after = t.1 }

pub returns : goal.returns
returns c =
    let a = c.args in
    let s = a.prior.now in
    let d = a.body.now in
    let o = c.copy.new.out in
    let w = whole_length s a.byte d in
    let room : length s + 2 + length d ≤ length a.out.now = omega (arith, c.if-out-end.false) in
    let front : o ≡ splice a.out.now 0 s =
    copied_fits s a.out.now o 0 (omega (arith, c.if-out-end.false)) c.copy.ensures in
    let held : length o ≡ length a.out.now = c.copy.auto.out in
    let stored = set (set o (length s) a.byte) (length s + 1) (length d) in
    let same : length stored ≡ length a.out.now =
    length-set (set o (length s) a.byte) (length s + 1) (length d) ∙ length-set o (length s) a.byte ∙ held in
    let behind = copied_fits d stored _ (length s + 2) (omega (arith, same, room))
    (rw c.in-Ok.ensures.1 at c.copy-2.ensures) in
    let done =
    writes_done _ (s ++ (a.byte ∷ length d ∷ d)) a.out.now _
    (item_fits_lem s a.byte d (omega arith) c.if-end-gt-REPLY_LIMIT.false)
    (omega (arith, c.if-out-end.false))
    (put_written s d a.out.now o _ a.byte room front behind) in
    record { value = ap result (sym w) ∙ done.0; out_after = done.1 }
