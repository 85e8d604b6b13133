use Rattle.std.proofs.Common.{length, subst, arith}
use Rattle.trace.specs.Machine.{last_text}
use Rattle.trace.proofs.AnswerLaws.{writes_length}
use Rattle.listing.specs.Streams.{Gives}
use Rattle.listing.proofs.Laws.{finished, part_size}
use Rattle.listing.proofs.finish.Goals as goal

pub unwrap-len-requires : goal.unwrap-len-requires
unwrap-len-requires g c =
    rw (writes_length (last_text c.args.s) (length c.args.out.now) c.finish.result
    (omega (arith, c.finish.ensures.length_bound, c.requires)) c.finish.ensures.result_value)

pub slice_bounds-write_all-end : goal.slice_bounds-write_all-end
slice_bounds-write_all-end g c =
    let k = c.finish.ensures in
    (finished _ c.args.out.now c.finish.new.out c.finish.result c.unwrap-len.result _ k.length_bound c.requires k.result_value k.out_after c.finish.auto.out c.unwrap-len.ensures).fits

pub slice_bounds-write_all-end-2 : goal.slice_bounds-write_all-end-2
slice_bounds-write_all-end-2 g c =
    let k = c.finish.ensures in
    part_size _ (finished _ c.args.out.now c.finish.new.out c.finish.result c.unwrap-len.result _ k.length_bound c.requires k.result_value k.out_after c.finish.auto.out c.unwrap-len.ensures).fits

pub returns-clause-finishes : goal.returns-clause-finishes
returns-clause-finishes g c =
    let k = c.finish.ensures in
    let f = finished _ c.args.out.now c.finish.new.out c.finish.result c.unwrap-len.result _ k.length_bound c.requires k.result_value k.out_after c.finish.auto.out c.unwrap-len.ensures in
    record { out_is = f.out_is; len_is = f.size }

pub returns-clause-gives : goal.returns-clause-gives
returns-clause-gives g c =
    let k = c.finish.ensures in
    let f = finished _ c.args.out.now c.finish.new.out c.finish.result c.unwrap-len.result _ k.length_bound c.requires k.result_value k.out_after c.finish.auto.out c.unwrap-len.ensures in
    subst (Gives _ _ _) f.first c.write_all-whole.ensures
