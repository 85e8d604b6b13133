use mathlib.Core.Path.{◌≡◌, ◌∙◌, ap}
use native.Mathlib.Omega.{arith}
use lib.ListN.{length}
use Rattle.framing.specs.Held.{reader}
use Rattle.framing.proofs.Growth.{kept_all, kept_first, full-run}
use Rattle.framing.proofs.RunLaws.{candidate_grows}
use borrow.Author.Rules.{rules}
use Rattle.framing.proofs.runs.hold_all.Goals as goal

pub returns-then-len : goal.returns-then-len
returns-then-len g c =
    ap (reader c.args.bytes.now) c.overlong.ensures
    ∙ full-run (candidate_grows g.row.ROOM c.args.kind) c.args.run.now c.args.bytes.now c.args.len c.if-len.true c.requires

pub returns-then-room-run : goal.returns-then-room-run
returns-then-room-run g c =
    let a : length c.args.bytes.now ≡ g.row.ROOM = search rules in
    ap (reader c.copy.new.out) c.overlong-then-room-run.ensures
    ∙ kept_first (candidate_grows g.row.ROOM c.args.kind) c.args.run.now c.args.bytes.now _ c.args.len a
    c.if-len.false c.if-room-run.true c.copy.ensures

pub returns : goal.returns
returns g c =
    let a : length c.args.bytes.now ≡ g.row.ROOM = search rules in
    let h =
    kept_all (candidate_grows g.row.ROOM c.args.kind) c.args.run.now c.args.bytes.now _ c.args.len a
    c.if-len.false c.if-room-run.false c.copy-2.ensures in
    grind (arith, h)
