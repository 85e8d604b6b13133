use mathlib.Core.Path.{sym}
use Rattle.numbers.proofs.Numbers.{length-bytes_of}
use Rattle.writer.proofs.number.NumberBytesContents.len.Goals as goal

pub returns : goal.returns
returns c = sym (length-bytes_of c.args.self.width c.args.self.number)
