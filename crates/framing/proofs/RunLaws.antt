-- Laws of a run of bytes that are no flags, held in an array behind others.
use mathlib.Core.Path.{◌≡◌, refl}
use mathlib.Core.Bool.{Bool, true, false, true≢false}
use mathlib.Core.List.{List}
use Prim.Native.Nat.{ℕ}
use borrow.Author.Tests.{lt-ltb, le-ltb}
use Rattle.framing.specs.declared.Mode.{Mode}
use Rattle.framing.specs.declared.Mode.TheVariants.{Outside, Inside, Overlong}
use Rattle.framing.specs.Bounded.{bounded}
use Rattle.framing.specs.Held.{with_plain, after_run}
use Rattle.framing.proofs.Growth.{Grows, unmoved_run}

module _ {K : Type 0} (room : ℕ) where
  -- Whether the bytes of a candidate are held.
  abbrev pub is_held : Mode K → Bool
  is_held Outside = false
  is_held (Inside kind) = true
  is_held Overlong = false

  -- They are in a candidate of a kind.
  pub candidate_grows : (kind : K)
      → Grows room (with_plain room) (λ bytes len. bounded bytes len (Inside kind)) (λ bytes. bounded bytes 0 Overlong)
  candidate_grows kind = record {
    grows = λ bytes len b h. simp (lt-ltb len room h);
    overflows = λ bytes len b h. simp (le-ltb len room h);
    stays = λ bytes b. refl;
  }

  -- Anywhere else a run changes nothing.
  pub unheld_run : (m : Mode K) → is_held m ≡ false → (bytes : List ℕ) (len : ℕ) (run : List ℕ)
      → bounded bytes len m ≡ after_run room (bounded bytes len m) run
  unheld_run Outside h bytes len run = unmoved_run (with_plain room) (bounded bytes len Outside) (λ b. refl) run
  unheld_run (Inside kind) h bytes len run = absurd (true≢false h)
  unheld_run Overlong h bytes len run = unmoved_run (with_plain room) (bounded bytes len Overlong) (λ b. refl) run
