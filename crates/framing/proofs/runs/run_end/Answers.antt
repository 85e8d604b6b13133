use native.Mathlib.Omega.{arith}
use Rattle.framing.proofs.Chunk.{search_ends, run_inside}
use Rattle.framing.proofs.runs.run_end.Goals as goal

pub overflow_add-result : goal.overflow_add-result
overflow_add-result g c =
    let s = c.args.input.now in
    let ends = g.P.LineProtocol.ends_run in
    let e = search_ends ends s c.args.from _ c.run.ensures in
    record { fits = omega (arith, run_inside ends s c.args.from _ (omega (arith, c.requires)) e) }
