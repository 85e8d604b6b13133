-- Where the start flags stand.
use mathlib.Core.Path.{◌≡◌, ◌∙◌}
use mathlib.Core.List.{List, ◌∷◌, ◌++◌}
use native.Mathlib.Omega.{arith}
use lib.ListN.{length}
use Prim.Native.Nat.{ℕ, ◌+◌}
use Rattle.lists.specs.Choice.{Every}
use Rattle.framing.specs.Reference.{starts}
use Rattle.framing.proofs.Counting.{start_none, start_last}
use Rattle.frame.specs.Flags.{role_of}
use Rattle.candidate.specs.Feed.{last_start}

-- The place of the last start flag, by the bytes alone.
pub last_start_is : (before : List ℕ) (flag : ℕ) (after : List ℕ) → role_of flag ≡ starts
    → Every (λ (b : ℕ). role_of b ≡ starts → ⊥) after → last_start (before ++ flag ∷ after) ≡ length before + 1
last_start_is before flag after e n = start_last role_of 0 1 before flag after e n ∙ omega arith

pub last_start_none : (s : List ℕ) → Every (λ (b : ℕ). role_of b ≡ starts → ⊥) s → last_start s ≡ 0
last_start_none s n = start_none role_of 0 1 s n
