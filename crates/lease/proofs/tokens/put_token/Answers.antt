use mathlib.Core.Path.{◌≡◌, sym, ◌∙◌}
use Prim.Native.Nat.{◌+◌, ◌-◌, ◌*◌}
use native.Mathlib.Omega.{arith}
use Rattle.std.proofs.lemmas.Grind.{common_steps}
use Rattle.numbers.specs.Number.{bytes_of}
use Rattle.writer.proofs.NumberLaws.{le_bytes_of}
use Rattle.lease.proofs.LeaseLaws.{put_spliced}
use Rattle.lease.proofs.tokens.put_token.Goals as goal

pub returns : goal.returns
returns c =
    let a = c.args in
    let same : c.copy_from_slice.new.self ≡ bytes_of 8 a.token =
    c.copy_from_slice.ensures.after ∙ c.to_le_bytes.ensures ∙ le_bytes_of 8 a.token in
    let wide : (8 * a.address + 8) - 8 * a.address ≡ 8 = omega arith in
    rw (same, wide) ((grind (arith, common_steps)) ∙ sym (put_spliced 8 (8 * a.address) a.token a.bytes.now c.requires))
