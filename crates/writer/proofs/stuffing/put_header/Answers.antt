use mathlib.Core.Path.{sym, ap, ◌∙◌}
use Prim.Native.Nat.{◌≤◌}
use native.Mathlib.Omega.{arith}
use lib.ListN.{length}
use Rattle.writer.specs.Private.{header_wire}
use Rattle.frame.specs.declared.Header.{Header}
use Rattle.lists.specs.Splice.{splice}
use Rattle.frame.specs.declared.Header.TheVariants.{Addressed}
use Rattle.writer.proofs.WireLaws.{put_addressed}
use Rattle.writer.proofs.stuffing.put_header.Goals as goal
use Rattle.writer.proofs.stuffing.put_header.Goals.{In-Addressed}

room : (k : In-Addressed) → length (header_wire (Addressed k.in-Addressed.to k.in-Addressed.from)) ≤ length k.args.out.now
room k = omega (arith, k.requires, ap (λ (h : Header). length (header_wire h)) k.in-Addressed.is)

pub returns-in-Addressed-clause-out_after : goal.returns-in-Addressed-clause-out_after
returns-in-Addressed-clause-out_after c =
    let a = c.args in
    let e = c.in-Addressed.is in
    let r = put_addressed a.out.now c.in-Addressed.to c.in-Addressed.from (room (goal.at.returns-in-Addressed-clause-out_after c).In-Addressed) _ _ _ _ c.put_byte-a.ensures.value
    c.put_byte-a.ensures.out_after c.put_byte.ensures.value c.put_byte.ensures.out_after in
    r.1
    ∙ ap (λ (h : Header). splice a.out.now 0 (header_wire h)) (sym e)
