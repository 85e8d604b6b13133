-- Laws between a byte's role, the kind that a start flag opens, and the tests for flags.
use Prim.Native.Nat.{ℕ, ◌≤◌}
use mathlib.Core.Path.{◌≡◌, refl, sym, ap, ◌∙◌}
use mathlib.Core.Bool.{Bool, true, false, true≢false}
use mathlib.Core.List.{List}
use native.Mathlib.Omega.{arith}
use lib.Dec.{eqb}
use borrow.Author.Tests.{eqb-true, eqb-false}
use Rattle.lists.specs.Choice.{pick, within, none_of}
use Rattle.lists.proofs.Cases.{by_bool}
use Rattle.lists.proofs.Tests.{within_true, within_yes, none_stronger, none_every, every_none}
use Rattle.framing.specs.Reference.{Role, starts, stops, plain, FlagFree}
use Rattle.frame.specs.Flags.{start_flag, stop_flag, role_of, kind_of, is_start, is_flag, flagless}
use Rattle.frame.specs.declared.Kind.{Kind}
use Rattle.frame.specs.declared.Kind.TheVariants.{Standard, Extended}

-- ---- ranges

-- where no byte lies in a range, none lies in a narrower one
pub none_narrower : (low high from to : ℕ) (s : List ℕ) → low ≤ from → to ≤ high → none_of (within low high) s ≡ true
    → none_of (within from to) s ≡ true
none_narrower low high from to s h k e =
    none_stronger (within low high) (within from to)
    (λ x y. let w = within_true from to x y in within_yes low high x (omega (arith, w)) (omega (arith, w))) s e

-- ---- kinds

pub kind_start : (kind : Kind) → kind_of (start_flag kind) ≡ kind
kind_start Standard = refl
kind_start Extended = refl

pub start_kind : (b : ℕ) → 0xF0 ≤ b → b ≤ 0xF1 → start_flag (kind_of b) ≡ b
start_kind b h k =
    by_bool (eqb b 0xF0) (λ y. (simp y) ∙ sym (eqb-true b 0xF0 y))
    (λ n. let z : 0xF1 ≡ b = omega (arith, eqb-false b 0xF0 n) in (simp n) ∙ z)

pub start_between : (kind : Kind) → (0xF0 ≤ start_flag kind) × (start_flag kind ≤ 0xF1)
start_between Standard = omega arith
start_between Extended = omega arith

-- ---- roles

-- whether a role is to start a candidate, and whether it is that of a flag
abbrev pub is_starts : Role → Bool
is_starts starts = true
is_starts stops = false
is_starts plain = false

abbrev pub is_flag_role : Role → Bool
is_flag_role starts = true
is_flag_role stops = true
is_flag_role plain = false

-- Both tests are those of the role.
pub role_tests : (b : ℕ) → (is_start b ≡ is_starts (role_of b)) × (is_flag b ≡ is_flag_role (role_of b))
role_tests b = by_flag (eqb b 0xF0) (eqb b 0xF1) (eqb b 0xF2) refl refl refl
  where
    by_flag : (t₀ t₁ t₂ : Bool) → eqb b 0xF0 ≡ t₀ → eqb b 0xF1 ≡ t₁ → eqb b 0xF2 ≡ t₂
        → (is_start b ≡ is_starts (pick t₀ starts (pick t₁ starts (pick t₂ stops plain))))
        × (is_flag b ≡ is_flag_role (pick t₀ starts (pick t₁ starts (pick t₂ stops plain))))
    by_flag true t₁ t₂ e₀ e₁ e₂ = (ap is_start (eqb-true b 0xF0 e₀), ap is_flag (eqb-true b 0xF0 e₀))
    by_flag false true t₂ e₀ e₁ e₂ = (ap is_start (eqb-true b 0xF1 e₁), ap is_flag (eqb-true b 0xF1 e₁))
    by_flag false false true e₀ e₁ e₂ = (ap is_start (eqb-true b 0xF2 e₂), ap is_flag (eqb-true b 0xF2 e₂))
    by_flag false false false e₀ e₁ e₂ =
        let p = eqb-false b 0xF0 e₀ in
        let q = eqb-false b 0xF1 e₁ in
        let r = eqb-false b 0xF2 e₂ in (
          by_bool (is_start b) (λ y. let h = within_true 0xF0 0xF1 b y in absurd (omega (arith, h.0, h.1, p, q)))
              (λ n. n),
          by_bool (is_flag b) (λ y. let h = within_true 0xF0 0xF2 b y in absurd (omega (arith, h.0, h.1, p, q, r)))
              (λ n. n),
        )

-- The byte of a start flag is that of its kind, and only the stop flag stops.
pub start_role : (kind : Kind) → role_of (start_flag kind) ≡ starts
start_role Standard = refl
start_role Extended = refl

pub role_start : (b : ℕ) → role_of b ≡ starts → start_flag (kind_of b) ≡ b
role_start b e = start_kind b is_start_lem.0 is_start_lem.1
  where
    is_start_lem : (0xF0 ≤ b) × (b ≤ 0xF1)
    is_start_lem = within_true 0xF0 0xF1 b ((role_tests b).0 ∙ ap is_starts e)

pub role_stop : (b : ℕ) → role_of b ≡ stops → b ≡ stop_flag
role_stop b e =
    let f = within_true 0xF0 0xF2 b ((role_tests b).1 ∙ ap is_flag_role e) in
    let n : is_start b ≡ false = (role_tests b).0 ∙ ap is_starts e in
    by_bool (eqb b 0xF2)
    (λ y. eqb-true b 0xF2 y)
    (λ d. absurd (true≢false (sym (within_yes 0xF0 0xF1 b f.0 (omega (arith, f.1, eqb-false b 0xF2 d))) ∙ n)))

-- A byte that is no flag has the plain role, and only such a byte.
pub no_flag : (b : ℕ) → is_flag b ≡ false → role_of b ≡ plain
no_flag b e = by_role (role_of b) (sym e ∙ (role_tests b).1)
  where
    by_role : (ρ : Role) → false ≡ is_flag_role ρ → ρ ≡ plain
    by_role starts h = absurd (true≢false (sym h))
    by_role stops h = absurd (true≢false (sym h))
    by_role plain h = refl

pub plain_no_flag : (b : ℕ) → role_of b ≡ plain → is_flag b ≡ false
plain_no_flag b e = (role_tests b).1 ∙ ap is_flag_role e

-- ---- lists without a flag

pub flagless_free : (s : List ℕ) → flagless s ≡ true → FlagFree role_of s
flagless_free s h = none_every is_flag (λ (b : ℕ). role_of b ≡ plain) no_flag s h

pub free_flagless : (s : List ℕ) → FlagFree role_of s → flagless s ≡ true
free_flagless s h = every_none is_flag (λ (b : ℕ). role_of b ≡ plain) plain_no_flag s h
