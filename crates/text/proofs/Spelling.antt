-- The text of a number spells it, and no other text does.
use mathlib.Core.Path.{◌≡◌, refl, sym, ap, ◌∙◌}
use mathlib.Core.List.{List, [], ◌∷◌, ◌++◌, append_assoc, append-nil}
use mathlib.Core.Logic.{inl, inr}
use Prim.Native.Nat.{ℕ, zero, suc, ◌+◌, ◌-◌, ◌*◌, ◌/◌, ◌%◌, ◌≤◌, ◌<◌}
use native.Mathlib.Nat.{div-add-mod'}
use native.Mathlib.Omega.{arith}
use lib.Dec.{ltb}
use lib.ListN.{length}
use borrow.Author.Tests.{ltb-true, ltb-false, lt-ltb, le-ltb, le-leb, lt-leb}
use Rattle.lists.proofs.Cases.{by_bool}
use Rattle.text.specs.Digits.{decimal, hex_digit, hex}
use Rattle.text.specs.Spelling.{spells, AllDigits, first, Spelt, HexDigit, hex_value, SpeltHex}
use Rattle.text.proofs.DigitLaws.{last_digit, tenth, decimal_small, decimal_large, length_small, length_large}

-- ---- the text of a number spells it

spells_last : (n : ℕ) (ds : List ℕ) (d : ℕ) → spells n (ds ++ d ∷ []) ≡ spells n ds * 10 + (d - 48)
spells_last n [] d = refl
spells_last n (e ∷ ds) d = spells_last (n * 10 + (e - 48)) ds d

digits_last : (ds : List ℕ) (d : ℕ) → AllDigits ds → 48 ≤ d → d ≤ 57 → AllDigits (ds ++ d ∷ [])
digits_last [] d p h g = ((h, g), tt)
digits_last (e ∷ ds) d p h g = (p.0, digits_last ds d p.1 h g)

first_append : (ds : List ℕ) (d : ℕ) → 0 < length ds → first (ds ++ d ∷ []) ≡ first ds
first_append [] d h = absurd (omega arith)
first_append (e ∷ ds) d h = refl

below : (k n : ℕ) → n < k → Spelt n (decimal n)
below zero n h = absurd (omega arith)
below (suc k) n h = by_bool (ltb n 10)
    (λ y. let g : n < 10 = ltb-true n 10 y in
    let t : decimal n ≡ (48 + n) ∷ [] = decimal_small n g in
    record {
      some = omega (arith, length_small n g);
      digits = rw t ((omega arith, omega arith), tt);
      spelling = ap (spells 0) t ∙ omega arith;
      no_leading_zero = λ e. t ∙ ap (λ (d : ℕ). d ∷ []) (sym (ap first t) ∙ e);
    })
    (λ m. let g : 10 ≤ n = ltb-false n 10 m in
    let t : n / 10 < n = tenth n g in
    let l : n % 10 < 10 = last_digit n in
    let ih : Spelt (n / 10) (decimal (n / 10)) = below k (n / 10) (omega arith) in
    record {
      some = omega (arith, length_large n g);
      digits = rw (decimal_large n g)
          (digits_last (decimal (n / 10)) (48 + n % 10) ih.digits (omega arith) (omega arith));
      spelling = ap (spells 0) (decimal_large n g)
          ∙ spells_last 0 (decimal (n / 10)) (48 + n % 10)
          ∙ omega (arith, ih.spelling, div-add-mod' n 10);
      no_leading_zero = λ e.
          let same : first (decimal n) ≡ first (decimal (n / 10)) =
          ap first (decimal_large n g) ∙ first_append (decimal (n / 10)) (48 + n % 10) ih.some in
          let z : n / 10 ≡ 0 = sym ih.spelling ∙ ap (spells 0) (ih.no_leading_zero (sym same ∙ e)) in
          absurd (omega (arith, div-add-mod' n 10, last_digit n));
    })

pub decimal_spelt : (n : ℕ) → Spelt n (decimal n)
decimal_spelt n = below (suc n) n (omega arith)

-- ---- no other text does

-- digits after a number that is not 0 stand after its own digits
decimal_on : (ds : List ℕ) (m : ℕ) → 0 < m → AllDigits ds → decimal (spells m ds) ≡ decimal m ++ ds
decimal_on [] m h p = sym (append-nil (decimal m))
decimal_on (d ∷ ds) m h p =
    let n : ℕ = m * 10 + (d - 48) in
    let lo : 48 ≤ d = p.0.0 in
    let hi : d ≤ 57 = p.0.1 in
    let q : n / 10 ≡ m = omega arith in
    let r : 48 + n % 10 ≡ d = omega arith in
    decimal_on ds n (omega arith) p.1
    ∙ ap (λ (x : List ℕ). x ++ ds) (decimal_large n (omega arith))
    ∙ ap (λ (k : ℕ). decimal k ++ ((48 + n % 10) ∷ []) ++ ds) q
    ∙ ap (λ (k : ℕ). decimal m ++ (k ∷ []) ++ ds) r
    ∙ append_assoc (decimal m) (d ∷ []) ds

pub spelt_decimal : (n : ℕ) (text : List ℕ) → Spelt n text → text ≡ decimal n
spelt_decimal n [] s = absurd (omega (arith, s.some))
spelt_decimal n (d ∷ ds) s =
    let lo : 48 ≤ d = s.digits.0.0 in
    let hi : d ≤ 57 = s.digits.0.1 in
    by_bool (ltb 48 d)
    (λ y. let g : 48 < d = ltb-true 48 d y in
    let m : ℕ = d - 48 in
    let z : 0 * 10 + (d - 48) ≡ m = omega arith in
    let one : decimal m ≡ d ∷ [] = decimal_small m (omega arith) ∙ ap (λ (k : ℕ). k ∷ []) (omega arith) in
    let t : decimal (spells m ds) ≡ d ∷ ds =
    decimal_on ds m (omega arith) s.digits.1 ∙ ap (λ (x : List ℕ). x ++ ds) one in
    sym t ∙ ap (λ (k : ℕ). decimal (spells k ds)) (sym z) ∙ ap decimal s.spelling)
    (λ m. let g : d ≡ 48 = omega (arith, ltb-false 48 d m) in
    let t : d ∷ ds ≡ 48 ∷ [] = s.no_leading_zero g in
    let z : n ≡ 0 = sym s.spelling ∙ ap (spells 0) t in
    t ∙ sym (decimal_small 0 (omega arith)) ∙ ap decimal (sym z))

-- ---- a byte

hex_digit_lem : (d : ℕ) → d < 16 → HexDigit (hex_digit d) × (hex_value (hex_digit d) ≡ d)
hex_digit_lem d h = by_bool (ltb d 10)
    (λ y. let g : d < 10 = ltb-true d 10 y in
    simp (y, le-leb (48 + d) 57 (omega arith)) (inl (omega arith, omega arith), omega arith))
    (λ m. let g : 10 ≤ d = ltb-false d 10 m in
    simp (m, lt-leb (55 + d) 57 (omega arith)) (inr (omega arith, omega arith), omega arith))

hex_back : (d : ℕ) → HexDigit d → (hex_digit (hex_value d) ≡ d) × (hex_value d < 16)
hex_back d (inl (lo, hi)) =
    simp (le-leb d 57 hi, lt-ltb (d - 48) 10 (omega arith)) (omega arith, omega arith)
hex_back d (inr (lo, hi)) =
    simp (lt-leb d 57 (omega arith), le-ltb (d - 55) 10 (omega arith)) (omega arith, omega arith)

pub hex_spelt : (b : ℕ) → b < 256 → SpeltHex b (hex b)
hex_spelt b h =
    let x : HexDigit (hex_digit (b / 16)) × (hex_value (hex_digit (b / 16)) ≡ b / 16) = hex_digit_lem (b / 16) (omega arith) in
    let y : HexDigit (hex_digit (b % 16)) × (hex_value (hex_digit (b % 16)) ≡ b % 16) = hex_digit_lem (b % 16) (omega arith) in
    record { two = refl; digits = (x.0, (y.0, tt)); spelling = rw (x.1, y.1) (omega arith) }

pub spelt_hex : (b : ℕ) (text : List ℕ) → SpeltHex b text → text ≡ hex b
spelt_hex b [] s = absurd (omega (arith, s.two))
spelt_hex b (x ∷ []) s = absurd (omega (arith, s.two))
spelt_hex b (x ∷ y ∷ z ∷ text) s = absurd (omega (arith, s.two))
spelt_hex b (x ∷ y ∷ []) s =
    let p : (hex_digit (hex_value x) ≡ x) × (hex_value x < 16) = hex_back x s.digits.0 in
    let q : (hex_digit (hex_value y) ≡ y) × (hex_value y < 16) = hex_back y s.digits.1.0 in
    let z : 0 * 16 + hex_value x ≡ hex_value x = omega arith in
    let e : hex_value x * 16 + hex_value y ≡ b = ap (λ (k : ℕ). k * 16 + hex_value y) (sym z) ∙ s.spelling in
    same b (hex_value x) (hex_value y) q.1 e p.0 q.0
  where
    same : (b u v : ℕ) → v < 16 → u * 16 + v ≡ b → hex_digit u ≡ x → hex_digit v ≡ y → x ∷ y ∷ [] ≡ hex b
    same b u v h e i j =
        let c : b / 16 ≡ u = omega arith in
        let d : b % 16 ≡ v = omega arith in
        rw (c, d, i, j)
