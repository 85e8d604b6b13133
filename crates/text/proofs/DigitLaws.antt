-- The laws of digits: how many there are, and how they are written.
use mathlib.Core.Path.{◌≡◌, ap, ◌∙◌}
use mathlib.Core.List.{List, [], ◌∷◌, ◌++◌, append_assoc}
use Prim.Native.Nat.{ℕ, zero, suc, ◌+◌, ◌/◌, ◌%◌, ◌^◌, ◌≤◌, ◌<◌}
use native.Mathlib.Nat.{mod-lt, div-lt_self, div-lt_iff_lt-mul, le-div_iff_mul-le, one-le-pow}
use native.Mathlib.Omega.{arith}
use lib.ListN.{length, length-append}
use lib.Dec.{ltb}
use borrow.Author.Tests.{lt-ltb, le-ltb, ltb-true, ltb-false}
use Rattle.lists.proofs.Cases.{by_bool}
use Rattle.text.specs.Digits.{decimal_within, decimal, hex}
use Rattle.text.specs.Private.{pair, four}
use Rattle.text.specs.Lines.{field, hex_field}

pub last_digit : (n : ℕ) → n % 10 < 10
last_digit n = mod-lt n (omega arith)

pub tenth : (n : ℕ) → 10 ≤ n → n / 10 < n
tenth n h = div-lt_self (omega arith) (omega arith)

-- ---- the digits of a small number and of a large one

-- more room than digits changes nothing
enough : (k l n : ℕ) → n < k → n < l → decimal_within k n ≡ decimal_within l n
enough zero l n h g = absurd (omega arith)
enough (suc k) zero n h g = absurd (omega arith)
enough (suc k) (suc l) n h g =
    by_bool (ltb n 10)
    (λ y. simp y)
    (λ m. let t : n / 10 < n = tenth n (ltb-false n 10 m) in
    simp m (ap (λ (d : List ℕ). d ++ ((48 + n % 10) ∷ [])) (enough k l (n / 10) (omega arith) (omega arith))))

pub decimal_small : (n : ℕ) → n < 10 → decimal n ≡ (48 + n) ∷ []
unfolding decimal
decimal_small n h = simp (lt-ltb n 10 h)

pub decimal_large : (n : ℕ) → 10 ≤ n → decimal n ≡ decimal (n / 10) ++ ((48 + n % 10) ∷ [])
unfolding decimal
decimal_large n h =
    let t : n / 10 < n = tenth n h in
    simp (le-ltb n 10 h)
    (ap (λ (d : List ℕ). d ++ ((48 + n % 10) ∷ [])) (enough n (suc (n / 10)) (n / 10) t (omega arith)))

pub decimal-pair : (n : ℕ) → 10 ≤ n → n < 100 → decimal n ≡ pair n
decimal-pair n h g =
    let t : n / 10 < 10 = omega arith in
    decimal_large n h ∙ ap (λ (d : List ℕ). d ++ ((48 + n % 10) ∷ [])) (decimal_small (n / 10) t)

pub decimal_hundreds : (n : ℕ) → 100 ≤ n → decimal n ≡ decimal (n / 100) ++ pair (n % 100)
decimal_hundreds n h =
    let t : 10 ≤ n / 10 = omega arith in
    let x : n / 10 / 10 ≡ n / 100 = omega arith in
    let y : n / 10 % 10 ≡ n % 100 / 10 = omega arith in
    let z : n % 10 ≡ n % 100 % 10 = omega arith in
    decimal_large n (omega arith)
    ∙ ap (λ (d : List ℕ). d ++ ((48 + n % 10) ∷ [])) (decimal_large (n / 10) t)
    ∙ append_assoc (decimal (n / 10 / 10)) ((48 + n / 10 % 10) ∷ []) ((48 + n % 10) ∷ [])
    ∙ same_digits x y z
  where
    same_digits : {a a' b b' c c' : ℕ} → a ≡ a' → b ≡ b' → c ≡ c'
        → decimal a ++ ((48 + b) ∷ (48 + c) ∷ []) ≡ decimal a' ++ ((48 + b') ∷ (48 + c') ∷ [])
    same_digits p q r = rw (p, q, r)

pub decimal_fours : (n : ℕ) → 10000 ≤ n → decimal n ≡ decimal (n / 10000) ++ four (n % 10000)
decimal_fours n h =
    let t : 100 ≤ n / 100 = omega arith in
    let x : n / 100 / 100 ≡ n / 10000 = omega arith in
    let y : n / 100 % 100 ≡ n % 10000 / 100 = omega arith in
    let z : n % 100 ≡ n % 10000 % 100 = omega arith in
    decimal_hundreds n (omega arith)
    ∙ ap (λ (d : List ℕ). d ++ pair (n % 100)) (decimal_hundreds (n / 100) t)
    ∙ append_assoc (decimal (n / 100 / 100)) (pair (n / 100 % 100)) (pair (n % 100))
    ∙ same_pairs x y z
  where
    same_pairs : {a a' b b' c c' : ℕ} → a ≡ a' → b ≡ b' → c ≡ c'
        → decimal a ++ (pair b ++ pair c) ≡ decimal a' ++ (pair b' ++ pair c')
    same_pairs p q r = rw (p, q, r)

-- ---- how many there are

pub length_small : (n : ℕ) → n < 10 → length (decimal n) ≡ 1
length_small n h = ap length (decimal_small n h)

pub length_large : (n : ℕ) → 10 ≤ n → length (decimal n) ≡ length (decimal (n / 10)) + 1
length_large n h = ap length (decimal_large n h) ∙ length-append (decimal (n / 10)) ((48 + n % 10) ∷ [])

pub length-pair : (n : ℕ) → 10 ≤ n → n < 100 → length (decimal n) ≡ 2
length-pair n h g = ap length (decimal-pair n h g)

pub length_hundreds : (n : ℕ) → 100 ≤ n → length (decimal n) ≡ length (decimal (n / 100)) + 2
length_hundreds n h = ap length (decimal_hundreds n h) ∙ length-append (decimal (n / 100)) (pair (n % 100))

pub length_fours : (n : ℕ) → 10000 ≤ n → length (decimal n) ≡ length (decimal (n / 10000)) + 4
length_fours n h = ap length (decimal_fours n h) ∙ length-append (decimal (n / 10000)) (four (n % 10000))

pub decimal_bound : (k n : ℕ) → n < 10 ^ suc k → length (decimal n) ≤ suc k
decimal_bound zero n h = omega (arith, length_small n (omega arith))
decimal_bound (suc k) n h =
    let t : n / 10 < 10 ^ suc k = (div-lt_iff_lt-mul {k = 10} (omega arith)).1 (omega arith) in
    let ih : length (decimal (n / 10)) ≤ suc k = decimal_bound k (n / 10) t in
    by_bool (ltb n 10) (λ y. omega (arith, length_small n (ltb-true n 10 y)))
    (λ m. omega (arith, length_large n (ltb-false n 10 m)))

pub decimal_64 : (n : ℕ) → n < 2 ^ 64 → length (decimal n) ≤ 20
decimal_64 n h = decimal_bound 19 n (omega arith)

-- and at least
pub least_digits : (k n : ℕ) → 10 ^ k ≤ n → suc k ≤ length (decimal n)
least_digits zero n h =
    by_bool (ltb n 10) (λ y. omega (arith, length_small n (ltb-true n 10 y)))
    (λ m. omega (arith, length_large n (ltb-false n 10 m)))
least_digits (suc k) n h =
    let t : 10 ^ k ≤ n / 10 = (le-div_iff_mul-le {k = 10} (omega arith)).1 (omega arith) in
    let p : 1 ≤ 10 ^ k = one-le-pow k 10 (omega arith) in
    let ih : suc k ≤ length (decimal (n / 10)) = least_digits k (n / 10) t in
    omega (arith, length_large n (omega arith))

-- ---- writing them

-- How many digits are put.
pub ruleset lengths = (length_small, length-pair, length_hundreds, length_fours)

-- a word and its number
pub length-field : (word : List ℕ) (v : ℕ) → length (field word v) ≡ length word + length (decimal v)
unfolding field
length-field word v = length-append word (decimal v)

pub field_64 : (word : List ℕ) (v : ℕ) → v < 2 ^ 64 → length (field word v) ≤ length word + 20
field_64 word v h = omega (arith, length-field word v, decimal_64 v h)

pub field_32 : (word : List ℕ) (v : ℕ) → v < 2 ^ 32 → length (field word v) ≤ length word + 10
field_32 word v h = omega (arith, length-field word v, decimal_bound 9 v (omega arith))

pub field_short : (word : List ℕ) (v : ℕ) → v < 1000 → length (field word v) ≤ length word + 3
field_short word v h = omega (arith, length-field word v, decimal_bound 2 v (omega arith))

pub length-hex_field : (word : List ℕ) (b : ℕ) → length (hex_field word b) ≡ length word + 2
unfolding hex_field
length-hex_field word b = length-append word (hex b)

-- What is put for a line, one word and its number after the other.
pub ruleset fields = (field_64, field_32, field_short, length-hex_field, append_assoc, length-append)
