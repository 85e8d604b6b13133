use Rattle.std.proofs.Common.{◌≡◌, [], ◌∷◌}
use Rattle.text.specs.Digits.{hex}
use Rattle.text.specs.Lines.{hex_field}
use Rattle.text.proofs.Putting.{next, put_as}
use Rattle.text.proofs.buffer.Buffer.put_hex_field.Goals as goal

pub returns : goal.returns
unfolding hex_field
returns c =
    let digits : c.hex_digit.result ∷ c.hex_digit-2.result ∷ [] ≡ hex c.args.v =
    cc (c.hex_digit.ensures, c.hex_digit-2.ensures) in
    next c.put.ensures (put_as digits c.put_two.ensures)
