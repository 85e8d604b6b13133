-- Laws between a byte's role and the tests for flags.
use Prim.Native.Nat.{ℕ}
use mathlib.Core.Path.{◌≡◌, refl, sym, ◌∙◌}
use mathlib.Core.Bool.{Bool, true, false, true≢false}
use mathlib.Core.List.{List, [], ◌∷◌}
use native.Mathlib.Omega.{arith}
use lib.Dec.{eqb}
use borrow.Author.Tests.{eqb-true, eqb-false}
use Rattle.lists.specs.Choice.{pick, within, none_of}
use Rattle.lists.proofs.Cases.{by_bool}
use Rattle.lists.proofs.Tests.{within_yes, within_true, none_stronger, none_every, every_none}
use Rattle.framing.specs.Reference.{starts, stops, plain, FlagFree}
use Rattle.coscom.specs.Flags.{start_flag, stop_flag, role_of, is_flag, flagless}

-- ---- roles

-- Only the start flag starts, and only the stop flag stops.
pub role_start : (b : ℕ) → role_of b ≡ starts → b ≡ start_flag
role_start b e = by_test (eqb b start_flag) (eqb b stop_flag) refl e
  where
    by_test : (t u : Bool) → eqb b start_flag ≡ t → pick t starts (pick u stops plain) ≡ starts → b ≡ start_flag
    by_test true u q e = eqb-true b start_flag q
    by_test false true q e = let z : ◌≡◌ {A = ℕ} 0 1 = cc in absurd (omega arith)
    by_test false false q e = let z : ◌≡◌ {A = ℕ} 0 1 = cc in absurd (omega arith)

pub role_stop : (b : ℕ) → role_of b ≡ stops → b ≡ stop_flag
role_stop b e = by_test (eqb b start_flag) (eqb b stop_flag) refl e
  where
    by_test : (t u : Bool) → eqb b stop_flag ≡ u → pick t starts (pick u stops plain) ≡ stops → b ≡ stop_flag
    by_test true u q e = let z : ◌≡◌ {A = ℕ} 0 1 = cc in absurd (omega arith)
    by_test false true q e = eqb-true b stop_flag q
    by_test false false q e = let z : ◌≡◌ {A = ℕ} 0 1 = cc in absurd (omega arith)

-- A byte that is no flag has the plain role, and only such a byte.
pub no_flag : (b : ℕ) → is_flag b ≡ false → role_of b ≡ plain
no_flag b e = by_test (eqb b start_flag) (eqb b stop_flag) e
  where
    by_test : (t u : Bool) → pick t true u ≡ false → pick t starts (pick u stops plain) ≡ plain
    by_test true u e = absurd (true≢false e)
    by_test false true e = absurd (true≢false e)
    by_test false false e = refl

pub plain_no_flag : (b : ℕ) → role_of b ≡ plain → is_flag b ≡ false
plain_no_flag b e = by_test (eqb b start_flag) (eqb b stop_flag) e
  where
    by_test : (t u : Bool) → pick t starts (pick u stops plain) ≡ plain → pick t true u ≡ false
    by_test true u e = let z : ◌≡◌ {A = ℕ} 0 1 = cc in absurd (omega arith)
    by_test false true e = let z : ◌≡◌ {A = ℕ} 0 1 = cc in absurd (omega arith)
    by_test false false e = refl

-- A byte outside of 01 to 17 is no flag.
pub outside_no_flag : (b : ℕ) → within start_flag stop_flag b ≡ false → is_flag b ≡ false
outside_no_flag b e =
    by_bool (is_flag b)
    (λ y. absurd (true≢false (sym (flag_within b y) ∙ e)))
    (λ n. n)
  where
    flag_within : (b : ℕ) → is_flag b ≡ true → within start_flag stop_flag b ≡ true
    flag_within b y =
        by_bool (eqb b start_flag)
        (λ s. let q : b ≡ start_flag = eqb-true b start_flag s in within_yes start_flag stop_flag b (omega arith) (omega arith))
        (λ s. let q : b ≡ stop_flag = eqb-true b stop_flag (simp s at y) in
        within_yes start_flag stop_flag b (omega arith) (omega arith))

-- ---- lists without a flag

pub flagless_free : (s : List ℕ) → flagless s ≡ true → FlagFree role_of s
flagless_free s h = none_every is_flag (λ (b : ℕ). role_of b ≡ plain) no_flag s h

pub free_flagless : (s : List ℕ) → FlagFree role_of s → flagless s ≡ true
free_flagless s h = every_none is_flag (λ (b : ℕ). role_of b ≡ plain) plain_no_flag s h

-- bytes outside of 01 to 17
pub clear_flagless : (s : List ℕ) → none_of (within start_flag stop_flag) s ≡ true → flagless s ≡ true
clear_flagless s h =
    none_stronger (within start_flag stop_flag) is_flag
    (λ b y. by_bool (within start_flag stop_flag b) (λ w. w)
    (λ n. absurd (true≢false (sym y ∙ outside_no_flag b n)))) s h

-- the test for one value
pub within-one : (f b : ℕ) → within f f b ≡ eqb b f
within-one f b =
    by_bool (eqb b f)
    (λ y. let q : b ≡ f = eqb-true b f y in within_yes f f b (omega arith) (omega arith) ∙ sym y)
    (λ n. by_bool (within f f b)
    (λ w. let h = within_true f f b w in absurd (eqb-false b f n (omega (arith, h.0, h.1))))
    (λ w. w ∙ sym n))

-- each flag looked for by itself
pub flagless_each : (s : List ℕ)
    → flagless s ≡ pick (none_of (within start_flag start_flag) s) (none_of (within stop_flag stop_flag) s) false
unfolding none_of
flagless_each [] = refl
flagless_each (b ∷ s) =
    by_bool (eqb b start_flag)
    (λ y. simp (y, within-one start_flag b))
    (λ n. by_bool (eqb b stop_flag)
    (λ y. by_bool (none_of (within start_flag start_flag) s)
    (λ c. simp (n, y, within-one start_flag b, within-one stop_flag b, c))
    (λ c. simp (n, y, within-one start_flag b, within-one stop_flag b, c)))
    (λ m. simp (n, m, within-one start_flag b, within-one stop_flag b) (flagless_each s)))
