use Rattle.std.proofs.Common.{◌≡◌, [], ◌∷◌}
use Rattle.text.specs.Private.{four}
use Rattle.text.proofs.Putting.{put_as}
use Rattle.text.proofs.buffer.Buffer.put_last_four.Goals as goal

pub returns : goal.returns
returns c =
    let digits : c.digit.result ∷ c.digit-2.result ∷ c.digit-3.result ∷ c.digit-4.result ∷ [] ≡ four c.args.v =
    cc (c.digit.ensures, c.digit-2.ensures, c.digit-3.ensures, c.digit-4.ensures) in
    put_as digits c.put_four.ensures
