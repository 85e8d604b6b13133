-- Stray bytes (document 01, "The line": loose bytes), those of a trace that stand in no candidate, a lone stop flag
-- included.
use Rattle.std.specs.Prelude.{◌≡◌, Bool, true, false, List, [], ◌∷◌, ◌++◌, ◌⊎◌, ℕ, suc, ◌+◌}
use Rattle.framing.specs.Reference.{Role, starts, stops, plain}
use Rattle.framing.specs.Demand3.{LeftOpen}
use Rattle.frame.specs.Flags.{role_of}
use Rattle.frame.specs.declared.Origin.TheVariants.{Trace}
use Rattle.candidate.specs.Rowing.{rowing}

-- ---- as a count

-- 1 for a byte that is stray, by its role and by whether a candidate is open before it.
abbrev pub stray_at : Role → (is_open : Bool) → ℕ
stray_at starts is_open = 0
stray_at stops true = 0
stray_at stops false = 1
stray_at plain true = 0
stray_at plain false = 1

-- Whether a candidate is open after it.
abbrev pub open_after : Role → (is_open : Bool) → Bool
open_after starts is_open = true
open_after stops is_open = false
open_after plain is_open = is_open

-- How many of the bytes are stray.
abbrev pub strays : (is_open : Bool) → List ℕ → ℕ
strays is_open [] = 0
strays is_open (b ∷ bytes) = stray_at (role_of b) is_open + strays (open_after (role_of b) is_open) bytes

-- ---- said of the bytes alone

-- A byte stands in a candidate where it is a start flag, or where the bytes before it leave a candidate open: they hold
-- a start flag, and no flag after the last one.
abbrev pub Inside : (before : List ℕ) → ℕ → Type 0
Inside before b = (role_of b ≡ starts) ⊎ LeftOpen (rowing Trace) before

-- Of the bytes of a list, which come after others, so many stand in no candidate.
pub data Strays : (before bytes : List ℕ) → ℕ → Type 0 where
  done : {before : List ℕ} → Strays before [] 0
  inside : {before bytes : List ℕ} {b n : ℕ} → Inside before b → Strays (before ++ b ∷ []) bytes n
      → Strays before (b ∷ bytes) n
  stray : {before bytes : List ℕ} {b n : ℕ} → (Inside before b → ⊥) → Strays (before ++ b ∷ []) bytes n
      → Strays before (b ∷ bytes) (suc n)
