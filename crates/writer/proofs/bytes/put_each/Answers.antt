use Rattle.writer.proofs.StuffingLaws.{stuffed_empty, stuffed_none, stuffed_more, stuffed_last, stuffed_room, stuffed_fits}
use Rattle.writer.proofs.bytes.put_each.Goals as goal

pub returns-in_default : goal.returns-in_default
returns-in_default c =
    let t = stuffed_empty c.args.s.now c.args.out.now c.args.from c.in_default.ensures.cases in
    record { value = t.0; out_after = t.1 }

pub loop-b-init : goal.loop-b-init
loop-b-init c = stuffed_none c.args.s.now c.in-Some.front.now c.in-Some.last.now c.in-Some.ensures.cases.0 _ _ c.requires

pub put_pair-at-requires : goal.put_pair-at-requires
put_pair-at-requires c =
    stuffed_room c.args.s.now _ _ c.in-Some.ensures.cases.0 _ _ c.requires _ _ _ c.loop-b.invariant c.loop-b-test.true

pub loop-b-preserved : goal.loop-b-preserved
loop-b-preserved c =
    stuffed_more c.args.s.now _ _ c.in-Some.ensures.cases.0 _ _ c.requires _ _ _ c.loop-b.invariant c.loop-b-test.true
    _ _ c.put_pair-at.ensures.value c.put_pair-at.ensures.put_pair

pub put_byte-requires : goal.put_byte-requires
put_byte-requires c =
    stuffed_fits c.args.s.now _ _ c.in-Some.ensures.cases.0 _ _ c.requires _ _ _ c.loop-b.invariant c.loop-b-test.false

pub returns : goal.returns
returns c =
    let t =
    stuffed_last c.args.s.now _ _ c.in-Some.ensures.cases.0 _ _ c.requires _ _ _ c.loop-b.invariant c.loop-b-test.false
    _ _ c.put_byte.ensures.value c.put_byte.ensures.out_after in
    record { value = t.0; out_after = t.1 }
