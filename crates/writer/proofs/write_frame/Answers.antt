use mathlib.Core.Path.{◌∙◌}
use Rattle.std.proofs.lemmas.Result.{err_from_is_err_and}
use Rattle.writer.proofs.MeasureLaws.{long_written, no_room_written, header_room, contents_room, end_room}
use Rattle.writer.proofs.MeasureLaws.{parts_written}
use Rattle.writer.proofs.write_frame.Goals as goal

pub returns-in_err-measured : goal.returns-in_err-measured
returns-in_err-measured g c =
    let p = err_from_is_err_and c.from_residual.result c.from_residual.ensures.1 in
    let t = long_written c.args.header (g.C.Contents.bytes c.args.contents) _ c.args.out.now c.in_err-measured.ensures in
    record { result_value = rw (p.1, p.2) t.0; out_after = t.1 }

pub returns-then-out-measured : goal.returns-then-out-measured
returns-then-out-measured g c =
    let t =
    no_room_written c.args.header (g.C.Contents.bytes c.args.contents) _ c.in_ok-measured.ensures c.args.out.now
    c.if-out-measured.true in
    record { result_value = t.0; out_after = t.1 }

pub put_header-a-requires : goal.put_header-a-requires
put_header-a-requires g c =
    header_room c.args.header (g.C.Contents.bytes c.args.contents) _ c.in_ok-measured.ensures _ c.if-out-measured.false

pub put-b-requires-clause-in_bounds : goal.put-b-requires-clause-in_bounds
put-b-requires-clause-in_bounds g c =
    contents_room c.args.header (g.C.Contents.bytes c.args.contents) _ c.in_ok-measured.ensures _ c.if-out-measured.false
    _ _ c.put_header-a.ensures.value c.put_header-a.auto.out

pub put_end-requires : goal.put_end-requires
put_end-requires g c =
    end_room c.args.header (g.C.Contents.bytes c.args.contents) _ c.in_ok-measured.ensures _ c.if-out-measured.false
    _ _ _ c.put_header-a.ensures.value c.put-b.ensures.value (c.put-b.auto.out ∙ c.put_header-a.auto.out)

pub returns : goal.returns
returns g c =
    let t =
    parts_written c.args.header (g.C.Contents.bytes c.args.contents) _ c.in_ok-measured.ensures c.args.out.now _ _ _ _ _
    c.if-out-measured.false c.put_header-a.ensures.value c.put_header-a.ensures.out_after c.put-b.ensures.value
    c.put-b.ensures.out_after c.put_end.ensures in
    record { result_value = t.0; out_after = t.1 }
