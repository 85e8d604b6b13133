-- Laws of a loop over the part of a list from an index on, as code takes it.
use Prim.Native.Nat.{ℕ, ◌+◌, ◌-◌, ◌≤◌, ◌<◌}
use mathlib.Core.Path.{◌≡◌, ap, ◌∙◌}
use mathlib.Core.List.{List}
use native.Mathlib.Omega.{arith}
use lib.ListN.{length, get_or, take, drop, length-drop}
use lib.Seq.{get_or-drop}
use Rattle.lists.proofs.Lists.{rest_part}

module _ (s : List ℕ) (from i at : ℕ) (here : from + i ≡ at) where
  abbrev part : List ℕ
  part = take (length s - from) (drop from s)

  as_long : length part ≡ length s - from
  as_long = ap length (rest_part s from) ∙ length-drop from s

  pub rest_inside : i < length part → at < length s
  rest_inside h = omega (arith, as_long)

  pub rest_ended : length part ≤ i → length s ≤ at
  rest_ended h = omega (arith, as_long)

  pub rest_byte : get_or part i 0 ≡ get_or s at 0
  rest_byte =
      ap (λ (l : List ℕ). get_or l i 0) (rest_part s from) ∙ get_or-drop from s i 0 ∙ ap (λ (k : ℕ). get_or s k 0) here
