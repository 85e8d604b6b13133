use Rattle.std.proofs.Common.{refl, length-set}
use Rattle.text.proofs.Putting.{set4_splice}
use Rattle.text.proofs.buffer.Buffer.put_four.Goals as goal

pub returns : goal.returns
returns c =
    let b = c.args.self.now in
    record {
      same = refl;
      is = set4_splice b.bytes.now b.len c.args.a c.args.b c.args.c c.args.d c.requires;
      ends = refl;
      room = simp length-set;
      fits = simp length-set c.requires;
    }
