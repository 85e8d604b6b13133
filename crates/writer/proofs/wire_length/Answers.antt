use Rattle.std.proofs.lemmas.Result.{err_from_is_err_and}
use Rattle.writer.proofs.MeasureLaws.{long_length, fits_length}
use Rattle.writer.proofs.wire_length.Goals as goal

pub returns-in_err-measure : goal.returns-in_err-measure
returns-in_err-measure c =
    let p = err_from_is_err_and c.from_residual.result c.from_residual.ensures.1 in
    rw (p.1, p.2) (long_length c.args.header c.args.contents.now _ c.in_err-measure.ensures)

pub returns : goal.returns
returns c = fits_length c.args.header c.args.contents.now _ c.in_ok-measure.ensures
