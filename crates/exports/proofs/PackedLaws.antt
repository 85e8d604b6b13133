-- Packing and taking apart are inverse.
use Prim.Native.Nat.{ℕ, ◌+◌, ◌*◌, ◌/◌, ◌%◌, ◌^◌, ◌<◌}
use mathlib.Core.Path.{◌≡◌, refl, sym, ap, ◌∙◌}
use native.Mathlib.Nat.{zero-add, add-mul-div_left, div-eq_of_lt, div-div-eq-div-mul}
use native.Mathlib.Omega.{arith}
use Rattle.exports.specs.Packed.{Fields, packed, unpacked, FieldsFit, Tells}

-- what stands above the low digits
top : (k low high : ℕ) → low < k → (low + k * high) / k ≡ high
top k low high l =
    add-mul-div_left low high (omega (arith, l)) ∙ ap (λ (q : ℕ). q + high) (div-eq_of_lt l) ∙ zero-add high

-- a digit above the low ones
digit : (k low d high : ℕ) → low < k → d < 2 ^ 8 → (low + k * (d + 2 ^ 8 * high)) / k % 2 ^ 8 ≡ d
digit k low d high l h = ap (λ (q : ℕ). q % 2 ^ 8) (top k low (d + 2 ^ 8 * high) l) ∙ omega (arith, h)

-- the number with its lowest digit, its lowest two and its lowest three apart
module _ (a b t d e : ℕ) where
  split₁ : a + 2 ^ 8 * b + 2 ^ 16 * t + 2 ^ 24 * d + 2 ^ 32 * e ≡ a + 2 ^ 8 * (b + 2 ^ 8 * (t + 2 ^ 8 * d + 2 ^ 16 * e))
  split₁ = omega arith

  split₂ : a + 2 ^ 8 * b + 2 ^ 16 * t + 2 ^ 24 * d + 2 ^ 32 * e ≡ a + 2 ^ 8 * b + 2 ^ 16 * (t + 2 ^ 8 * (d + 2 ^ 8 * e))
  split₂ = omega arith

  split₃ : a + 2 ^ 8 * b + 2 ^ 16 * t + 2 ^ 24 * d + 2 ^ 32 * e ≡ a + 2 ^ 8 * b + 2 ^ 16 * t + 2 ^ 24 * (d + 2 ^ 8 * e)
  split₃ = omega arith

-- Fields that have room are told by their number.
pub packed_tells : (f : Fields) → FieldsFit f → unpacked (packed f) ≡ f
unfolding packed unpacked
packed_tells f h =
    let a = f.number in
    let b = f.kind in
    let t = f.to in
    let d = f.from in
    let e = f.len in
    let number : packed f % 2 ^ 8 ≡ a = ap (λ (n : ℕ). n % 2 ^ 8) (split₁ a b t d e) ∙ omega (arith, h.number) in
    let kind : packed f / 2 ^ 8 % 2 ^ 8 ≡ b =
    ap (λ (n : ℕ). n / 2 ^ 8 % 2 ^ 8) (split₁ a b t d e)
    ∙ digit (2 ^ 8) a b (t + 2 ^ 8 * d + 2 ^ 16 * e) h.number h.kind in
    let to : packed f / 2 ^ 16 % 2 ^ 8 ≡ t =
    ap (λ (n : ℕ). n / 2 ^ 16 % 2 ^ 8) (split₂ a b t d e)
    ∙ digit (2 ^ 16) (a + 2 ^ 8 * b) t (d + 2 ^ 8 * e) (omega (arith, h.number, h.kind)) h.to in
    let from : packed f / 2 ^ 24 % 2 ^ 8 ≡ d =
    ap (λ (n : ℕ). n / 2 ^ 24 % 2 ^ 8) (split₃ a b t d e)
    ∙ digit (2 ^ 24) (a + 2 ^ 8 * b + 2 ^ 16 * t) d e (omega (arith, h.number, h.kind, h.to)) h.from in
    let len : packed f / 2 ^ 32 ≡ e =
    top (2 ^ 32) (a + 2 ^ 8 * b + 2 ^ 16 * t + 2 ^ 24 * d) e (omega (arith, h.number, h.kind, h.to, h.from)) in
    λ i. record { number = number i; kind = kind i; to = to i; from = from i; len = len i }

-- A number is that of the fields that it tells.
pub unpacked_packs : (n : ℕ) → packed (unpacked n) ≡ n
unfolding packed unpacked
unpacked_packs n =
    let e₂ : n / 2 ^ 16 ≡ n / 2 ^ 8 / 2 ^ 8 = sym (div-div-eq-div-mul n (2 ^ 8) (2 ^ 8)) in
    let e₃ : n / 2 ^ 24 ≡ n / 2 ^ 16 / 2 ^ 8 = sym (div-div-eq-div-mul n (2 ^ 16) (2 ^ 8)) in
    let e₄ : n / 2 ^ 32 ≡ n / 2 ^ 24 / 2 ^ 8 = sym (div-div-eq-div-mul n (2 ^ 24) (2 ^ 8)) in
    digits n (n / 2 ^ 8) (n / 2 ^ 16) (n / 2 ^ 24) (n / 2 ^ 32) refl e₂ e₃ e₄
  where
    digits : (n a b d e : ℕ) → n / 2 ^ 8 ≡ a → b ≡ a / 2 ^ 8 → d ≡ b / 2 ^ 8 → e ≡ d / 2 ^ 8
        → n % 2 ^ 8 + 2 ^ 8 * (a % 2 ^ 8) + 2 ^ 16 * (b % 2 ^ 8) + 2 ^ 24 * (d % 2 ^ 8) + 2 ^ 32 * e ≡ n
    digits n a b d e p q r s = omega (arith, p, q, r, s)

pub tells : (f : Fields) → FieldsFit f → Tells (packed f) f
tells f h = record { packs = refl; unpacks = packed_tells f h }
