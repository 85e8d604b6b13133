use mathlib.Core.Path.{ap}
use native.Mathlib.Omega.{arith}
use lib.ListN.{take, drop}
use Prim.Native.Nat.{◌-◌}
use Rattle.framing.proofs.Chunk.{run_inside}
use Rattle.framing.proofs.RunLaws.{is_held, unheld_run}
use Rattle.framing.proofs.runs.consume.Goals as goal

pub slice_bounds-hold-end : goal.slice_bounds-hold-end
slice_bounds-hold-end g c =
    run_inside g.P.LineProtocol.ends_run c.args.input.now c.args.from _ (omega (arith, c.requires)) c.run_end-at.ensures

pub returns-in-Outside-clause-held : goal.returns-in-Outside-clause-held
returns-in-Outside-clause-held g c =
    unheld_run g.row.ROOM c.args.held.mode (ap (is_held g.row.ROOM) c.in-Outside.is) c.args.bytes.now c.args.held.len
    (take (c.run_end-at.result - c.args.from) (drop c.args.from c.args.input.now))

pub returns-in-Overlong-clause-held : goal.returns-in-Overlong-clause-held
returns-in-Overlong-clause-held g c =
    unheld_run g.row.ROOM c.args.held.mode (ap (is_held g.row.ROOM) c.in-Overlong.is) c.args.bytes.now c.args.held.len
    (take (c.run_end-at.result - c.args.from) (drop c.args.from c.args.input.now))
