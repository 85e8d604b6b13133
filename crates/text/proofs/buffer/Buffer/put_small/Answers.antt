use Rattle.std.proofs.Common.{ℕ, [], ◌∷◌, sym, ap, ◌∙◌}
use Rattle.text.proofs.DigitLaws.{decimal_small, decimal-pair}
use Rattle.text.proofs.Putting.{put_as}
use Rattle.text.proofs.buffer.Buffer.put_small.Goals as goal

pub returns-then-v-lt10 : goal.returns-then-v-lt10
returns-then-v-lt10 c =
    put_as (ap (λ (d : ℕ). d ∷ []) c.digit.ensures ∙ sym (decimal_small c.args.v c.if-v-lt10.true)) c.put.ensures

pub returns : goal.returns
returns c = put_as (sym (decimal-pair c.args.v c.if-v-lt10.false c.requires.v_bound)) c.put_last_two.ensures
