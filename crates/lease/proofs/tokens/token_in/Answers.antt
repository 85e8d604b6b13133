use mathlib.Core.Bool.{true}
use mathlib.Core.Path.{◌≡◌, sym, ◌∙◌}
use native.Mathlib.Omega.{arith}
use borrow.Author.Rules.{rules}
use Rattle.frame.specs.Address.{in_range}
use Rattle.lease.proofs.LeaseLaws.{range_means, token_lent}
use Rattle.lease.proofs.tokens.token_in.Goals as goal

pub returns : goal.returns
returns c =
    let a = c.args in
    let range : in_range a.address ≡ true = search rules in
    let r = range_means a.address range in (
      c.if-bytes-ne-TABLE_BYTES.false,
      c.eight_at.ensures ∙ sym (token_lent a.bytes.now a.address (omega (arith, r.1))) ∙ simp range,
    )
