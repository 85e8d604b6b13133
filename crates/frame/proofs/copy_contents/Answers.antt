use native.Mathlib.Omega.{arith}
use lib.ListN.{take, drop}
use mathlib.Core.Path.{sym, ap, ◌∙◌}
use mathlib.Core.Bool.{false}
use Rattle.frame.specs.Stuffing.{unstuff}
use Rattle.frame.specs.Private.{unstuffed_bytes}
use mathlib.Core.List.{List, ◌++◌}
use Prim.Native.Nat.{ℕ}
use Rattle.frame.proofs.ContentsLaws.{plain_first, front_sound, front_length, front_put}
use Rattle.frame.proofs.copy_contents.Goals as goal

pub returns-then-len-eq0 : goal.returns-then-len-eq0
returns-then-len-eq0 c =
    let a = c.args in
    ap (λ (n : ℕ). take n (unstuffed_bytes (unstuff false a.rest.now)) ++ drop n a.out.now) (sym c.if-len-eq0.true)

pub returns-then-rest-len : goal.returns-then-rest-len
returns-then-rest-len c =
    let a = c.args in
    ap (λ (l : List ℕ). l ++ drop a.len a.out.now)
    (c.copy_from_slice.ensures.after ∙ plain_first a.rest.now a.len c.requires.rest_len c.if-rest-len.true)

pub unstuff_into-requires-clause-s_value : goal.unstuff_into-requires-clause-s_value
unstuff_into-requires-clause-s_value c =
    front_sound c.args.rest.now c.args.len c.requires.rest_len _ c.last_at-end.ensures

pub unstuff_into-requires-clause-s_in_bounds : goal.unstuff_into-requires-clause-s_in_bounds
unstuff_into-requires-clause-s_in_bounds c =
    omega (
      arith,
      front_length c.args.rest.now c.args.len c.requires.rest_len _ c.last_at-end.ensures,
      c.requires.len_in_bounds,
    )

pub returns : goal.returns
returns c =
    front_put c.args.rest.now c.args.len c.requires.rest_len _ c.last_at-end.ensures c.args.out.now _
    c.unstuff_into.ensures
