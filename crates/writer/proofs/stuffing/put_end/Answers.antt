use mathlib.Core.List.{[], ◌∷◌}
use native.Mathlib.Omega.{arith}
use Rattle.frame.specs.Stuffing.{stuff_byte}
use Rattle.lists.proofs.Splices.{splice_next, set-splice}
use Rattle.writer.proofs.stuffing.put_end.Goals as goal

pub returns : goal.returns
returns c =
    let a = c.args in
    splice_next a.out.now a.at (stuff_byte a.sum) (0xF2 ∷ []) _ (omega (arith, c.requires)) c.put_byte-end.ensures.out_after
    c.put_byte-end.ensures.value
    (set-splice c.put_byte-end.new.out c.put_byte-end.result 0xF2
    (omega (arith, c.requires, c.put_byte-end.ensures.value, c.put_byte-end.auto.out)))
