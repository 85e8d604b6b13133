use Rattle.std.proofs.Common.{arith}
use Rattle.text.specs.Lines.{field}
use Rattle.text.proofs.DigitLaws.{length-field}
use Rattle.text.proofs.Putting.{next}
use Rattle.text.proofs.buffer.Buffer.put_field.Goals as goal

pub put-requires : goal.put-requires
put-requires c = omega (arith, length-field c.args.word.now c.args.v, c.requires)

pub put_decimal-requires : goal.put_decimal-requires
put_decimal-requires c =
    omega (arith, length-field c.args.word.now c.args.v, c.requires, c.put.ensures.ends, c.put.ensures.room)

pub returns : goal.returns
unfolding field
returns c = next c.put.ensures c.put_decimal.ensures
