use Rattle.framing.specs.Reference.{finish}
use Rattle.coscom_line.proofs.ValueLaws.{call_whole}
use Rattle.coscom_line.proofs.LineReader.finish.Goals as goal

pub returns : goal.returns
returns c =
    let r = c.args.self in
    c.by_value.ensures _ (c.finish_in.ensures _) (call_whole r finish)
