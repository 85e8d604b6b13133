use Rattle.text.proofs.Putting.{put_fours}
use Rattle.text.proofs.buffer.Buffer.+put_decimal.Goals as goal

pub returns-then-v-lt100000000 : goal.returns-then-v-lt100000000
returns-then-v-lt100000000 t c =
    put_fours c.if-v-lt10000.false c.put_short-then-v-lt100000000.ensures c.put_last_four.ensures

pub returns : goal.returns
returns t c = put_fours c.if-v-lt10000.false c.put_decimal.ensures c.put_last_four-2.ensures
