use mathlib.Core.Path.{◌≡◌}
use native.Mathlib.Omega.{arith}
use Prim.Native.Nat.{min}
use lib.ListN.{length}
use Rattle.coscom.proofs.CodeLaws.{left_first}
use Rattle.coscom.proofs.judge_array.Goals as goal

pub returns-clause-bytes_after : goal.returns-clause-bytes_after
returns-clause-bytes_after c =
    let held : c.min-held.result ≡ min c.args.len (length c.args.bytes.now) = omega arith in
    left_first _ _ _ _ held c.judge_in_place.ensures.body_after
