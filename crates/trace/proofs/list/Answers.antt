use Rattle.std.proofs.Common.{ℕ, ◌+◌, ◌-◌, List, length, take, drop, sym, subst, arith, length-drop}
use Rattle.lists.proofs.Lists.{rest_part}
use Rattle.trace.specs.Private.{Advances, Going}
use Rattle.trace.proofs.AnswerLaws.{put_first}
use Rattle.trace.proofs.ChunkLaws.{going_more, going_stop}
use Rattle.trace.proofs.list.Goals as goal
use Rattle.trace.proofs.list.Goals.{After-advance-step}

-- the bytes that are taken are the next of the chunk, and their line is the next in the output
advanced : (c : After-advance-step) → Advances c.loop-taken.next c.advance-step.new.self
    (drop c.loop-taken.taken c.args.chunk.now) (drop c.loop-taken.wrote c.loop-taken.out) c.advance-step.new.out
    c.advance-step.result
advanced c =
    let l = c.loop-taken in
    let next = c.advance-step.new.self in
    let out = c.advance-step.new.out in
    let r = c.advance-step.result in
    subst (λ (rest : List ℕ). Advances l.next next rest (drop l.wrote l.out) out r) (rest_part _ l.taken)
    (subst (λ (part : List ℕ). Advances l.next next
    (take (length c.args.chunk.now - l.taken) (drop l.taken c.args.chunk.now)) part out r) (rest_part _ l.wrote)
    c.advance-step.ensures)

pub loop-taken-preserved : goal.loop-taken-preserved
loop-taken-preserved c =
    let l = c.loop-taken in
    let a = advanced (goal.at.loop-taken-preserved c).After-advance-step in
    let room = c.if-out-wrote-ge-LINE_ROOM.true in
    record {
      within = omega (arith, a.leads.fits, l.invariant.within, length-drop l.taken c.args.chunk.now);
      fits = omega (arith, a.within, room, l.auto.out);
      going =
          subst (λ (o : List ℕ). Going c.args.s c.args.chunk.now c.args.out.now c.advance-step.new.self o
          (l.wrote + c.advance-step.result.wrote) (l.taken + c.advance-step.result.taken))
          (sym (put_first l.wrote l.out c.advance-step.new.out))
          (going_more c.args.s c.args.chunk.now c.args.out.now l.next l.out l.wrote l.taken l.invariant.going l.invariant.fits
          (omega (arith, room, l.auto.out)) c.advance-step.new.self c.advance-step.new.out c.advance-step.result a);
    }

pub returns-else-out-wrote-ge-LINE_ROOM : goal.returns-else-out-wrote-ge-LINE_ROOM
returns-else-out-wrote-ge-LINE_ROOM c =
    let l = c.loop-taken in
    going_stop c.args.s c.args.chunk.now c.args.out.now l.next l.out l.wrote l.taken l.invariant.going
    c.loop-taken-test.true l.invariant.fits (omega (arith, c.if-out-wrote-ge-LINE_ROOM.false, l.auto.out))
