use Rattle.framing.specs.Reference.{byte}
use Rattle.line.proofs.ValueLaws.{call_whole}
use Rattle.line.proofs.LineReader.step.Goals as goal

pub returns : goal.returns
returns c =
    let a = c.args in
    c.by_value.ensures _ c.step_in-step.ensures (call_whole a.self (byte a.b))
