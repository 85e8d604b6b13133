use Rattle.numbers.proofs.Numbers.{number-four}
use Rattle.numbers.proofs.four_at.Goals as goal

pub returns : goal.returns
returns c =
    let a = c.args in
    number-four a.at a.s.now
