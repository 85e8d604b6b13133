use Rattle.exports.specs.Packed.{packed}
use Rattle.exports.proofs.PackedLaws.{tells}
use native.Mathlib.Omega.{arith}
use Rattle.exports.proofs.packed.pack.Goals as goal

pub returns : goal.returns
unfolding packed
returns c =
    let f = c.args.f in
    tells (record { number = f.number; kind = f.kind; to = f.to; from = f.from; len = f.len })
    (record { number = omega arith; kind = omega arith; to = omega arith; from = omega arith; len = omega arith })
