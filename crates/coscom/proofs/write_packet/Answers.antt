use mathlib.Core.Path.{sym, ap, ◌∙◌}
use native.Mathlib.Omega.{arith}
use Rattle.answer.specs.Answer.{result}
use Rattle.answer.proofs.Drafts.{writes_refusal, writes_no_room, writes_done}
use Rattle.coscom.specs.Packet.{packet}
use Rattle.coscom.proofs.CodeLaws.{told_and_left, wire_length, draft_long, draft_character, draft_fits, put-packet}
use Rattle.coscom.proofs.write_packet.Goals as goal

pub returns-then-unit-gt-UNIT_LIMIT : goal.returns-then-unit-gt-UNIT_LIMIT
returns-then-unit-gt-UNIT_LIMIT c =
    told_and_left (writes_refusal _ 2 _ (draft_long _ c.if-unit-gt-UNIT_LIMIT.true))

pub returns-then-not-is_proper : goal.returns-then-not-is_proper
returns-then-not-is_proper c =
    told_and_left
    (writes_refusal _ 22 _ (draft_character _ c.if-unit-gt-UNIT_LIMIT.false (sym c.if-not-is_proper.ensures)))

pub returns-then-out-n : goal.returns-then-out-n
returns-then-out-n c =
    let a = c.args in
    let p = packet a.header.letter a.header.tens a.header.ones a.unit.now in
    told_and_left
    (writes_no_room _ _ _ (draft_fits p c.if-unit-gt-UNIT_LIMIT.false (sym c.if-not-is_proper.ensures))
    (omega (arith, wire_length p)))

pub returns : goal.returns
returns c =
    let a = c.args in
    let p = packet a.header.letter a.header.tens a.header.ones a.unit.now in
    let t =
    writes_done _ _ a.out.now _ (draft_fits p c.if-unit-gt-UNIT_LIMIT.false (sym c.if-not-is_proper.ensures))
    (omega (arith, wire_length p))
    (put-packet p _ a.out.now _ _ _ c.checksum-sum.ensures.value c.if-out-n.false c.put.ensures c.copy.ensures
    c.put_tail.ensures) in
    record { result_value = ap result (sym (wire_length p)) ∙ t.0; out_after = t.1 }
