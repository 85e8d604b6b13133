-- The laws of a number of several bytes in a list, each over every width and index.
use Prim.Native.Nat.{ℕ, zero, suc, ◌+◌, ◌-◌, ◌*◌, ◌/◌, ◌%◌, ◌^◌, ◌≤◌, ◌<◌}
use mathlib.Core.Path.{◌≡◌, refl, sym, ap, ap₂, ◌∙◌}
use mathlib.Core.Logic.{◌⊎◌, inl, inr}
use mathlib.Core.List.{List, [], ◌∷◌, ◌++◌, append_assoc}
use native.Mathlib.Omega.{arith}
use native.Mathlib.Nat.{pow-suc, pow-zero, mul-suc, mul-zero, pow-le-pow_right, add-zero, zero-add, suc-add}
use lib.ListN.{length, get_or, set, take, drop, length-set, length-append}
use lib.Seq.{get_or-set_same, get_or-set_other, set-get_or, set_out, drop-cons, get_or_at, drop-drop}
use lib.Seq.{take-add}
use Rattle.numbers.specs.Number.{number, put, bytes_of, Bytes, numbers, bytes_of_all}

-- ---- lengths and bounds

pub length-put : (w at n : ℕ) (s : List ℕ) → length (put w at n s) ≡ length s
unfolding put
length-put zero at n s = refl
length-put (suc w) at n s = length-put w (suc at) (n / 256) (set s at (n % 256)) ∙ length-set s at (n % 256)

pub length-bytes_of : (w n : ℕ) → length (bytes_of w n) ≡ w
unfolding bytes_of
length-bytes_of zero n = refl
length-bytes_of (suc w) n = ap suc (length-bytes_of w (n / 256))

pub number_bound : (w at : ℕ) (s : List ℕ) → Bytes s → number w at s < 256 ^ w
unfolding number
number_bound zero at s b = omega (arith, pow-zero 256)
number_bound (suc w) at s b = omega (arith, pow-suc 256 w, number_bound w (suc at) s b, b at)

-- ---- other bytes are untouched

pub put_before : (w at n : ℕ) (s : List ℕ) (i : ℕ) → i < at → get_or (put w at n s) i 0 ≡ get_or s i 0
unfolding put
put_before zero at n s i h = refl
put_before (suc w) at n s i h =
    put_before w (suc at) (n / 256) (set s at (n % 256)) i (omega arith)
    ∙ get_or-set_other s at i (n % 256) 0 (omega arith)

pub put_after : (w at n : ℕ) (s : List ℕ) (i : ℕ) → at + w ≤ i → get_or (put w at n s) i 0 ≡ get_or s i 0
unfolding put
put_after zero at n s i h = refl
put_after (suc w) at n s i h =
    put_after w (suc at) (n / 256) (set s at (n % 256)) i (omega arith)
    ∙ get_or-set_other s at i (n % 256) 0 (omega arith)

-- past the end nothing is written
pub put_out : (w at n : ℕ) (s : List ℕ) → length s ≤ at → put w at n s ≡ s
unfolding put
put_out zero at n s h = refl
put_out (suc w) at n s h =
    ap (put w (suc at) (n / 256)) (set_out s at (n % 256) h) ∙ put_out w (suc at) (n / 256) s (omega arith)

-- what is written are bytes
pub put_bytes : (w at n : ℕ) (s : List ℕ) → Bytes s → Bytes (put w at n s)
unfolding put
put_bytes zero at n s b = b
put_bytes (suc w) at n s b =
    put_bytes w (suc at) (n / 256) (set s at (n % 256)) (set_bytes s at (n % 256) (omega arith) b)
  where
    set_bytes : (s : List ℕ) (at v : ℕ) → v < 256 → Bytes s → Bytes (set s at v)
    set_bytes [] at v h b i = b i
    set_bytes (x ∷ s) zero v h b zero = h
    set_bytes (x ∷ s) zero v h b (suc i) = b (suc i)
    set_bytes (x ∷ s) (suc at) v h b zero = b zero
    set_bytes (x ∷ s) (suc at) v h b (suc i) = set_bytes s at v h (λ j. b (suc j)) i

-- ---- reading

-- a number depends on its own bytes alone
pub number_same : (w at : ℕ) (s t : List ℕ) → ((i : ℕ) → at ≤ i → i < at + w → get_or s i 0 ≡ get_or t i 0)
    → number w at s ≡ number w at t
unfolding number
number_same zero at s t e = refl
number_same (suc w) at s t e =
    ap₂ (λ (b m : ℕ). b + 256 * m) (e at (omega arith) (omega arith))
    (number_same w (suc at) s t (λ i l h. e i (omega arith) (omega arith)))

-- bytes one after the other make one number
pub number-add : (v w at : ℕ) (s : List ℕ) → number (v + w) at s ≡ number v at s + 256 ^ v * number w (at + v) s
unfolding number
number-add zero w at s =
    let p : number w (at + 0) s ≡ number w at s = ap (λ (k : ℕ). number w k s) (add-zero at) in
    ap (λ (k : ℕ). number k at s) (zero-add w) ∙ omega (arith, pow-zero 256, p)
number-add (suc v) w at s =
    let p : suc at + v ≡ at + suc v = omega arith in
    let m : ℕ = number w (at + suc v) s in
    let q : number (v + w) (suc at) s ≡ number v (suc at) s + 256 ^ v * m =
    number-add v w (suc at) s ∙ ap (λ (k : ℕ). number v (suc at) s + 256 ^ v * number w k s) p in
    let r : 256 ^ suc v * m ≡ 256 * (256 ^ v * m) =
    ap (λ (k : ℕ). k * m) (pow-suc 256 v) ∙ omega arith in
    ap (λ (k : ℕ). number k at s) (suc-add v w) ∙ omega (arith, q, r)

-- four bytes, each with its weight
pub number-four : (at : ℕ) (s : List ℕ)
    → get_or s at 0 + 0x100 * get_or s (at + 1) 0 + 0x1_0000 * get_or s (at + 2) 0 + 0x100_0000 * get_or s (at + 3) 0
    ≡ number 4 at s
unfolding number
number-four at s =
    let p : get_or s (at + 1) 0 ≡ get_or s (suc at) 0 = ap (λ (k : ℕ). get_or s k 0) (omega arith) in
    let q : get_or s (at + 2) 0 ≡ get_or s (suc (suc at)) 0 = ap (λ (k : ℕ). get_or s k 0) (omega arith) in
    let r : get_or s (at + 3) 0 ≡ get_or s (suc (suc (suc at))) 0 = ap (λ (k : ℕ). get_or s k 0) (omega arith) in
    omega arith

-- read after write
pub number_put : (w at n : ℕ) (s : List ℕ) → at + w ≤ length s → n < 256 ^ w → number w at (put w at n s) ≡ n
unfolding number put
number_put zero at n s h b = omega (arith, pow-zero 256)
number_put (suc w) at n s h b =
    let s' : List ℕ = set s at (n % 256) in
    let low : get_or (put w (suc at) (n / 256) s') at 0 ≡ n % 256 =
    put_before w (suc at) (n / 256) s' at (omega arith) ∙ get_or-set_same s at (n % 256) 0 (omega arith) in
    let high : number w (suc at) (put w (suc at) (n / 256) s') ≡ n / 256 =
    number_put w (suc at) (n / 256) s' (omega (arith, length-set s at (n % 256))) (omega (arith, pow-suc 256 w)) in
    omega arith

-- a number apart from what is written
pub number-put_apart : (v at w to n : ℕ) (s : List ℕ) → (at + v ≤ to) ⊎ (to + w ≤ at)
    → number v at (put w to n s) ≡ number v at s
number-put_apart v at w to n s (inl h) =
    number_same v at (put w to n s) s (λ i l k. put_before w to n s i (omega arith))
number-put_apart v at w to n s (inr h) = number_same v at (put w to n s) s (λ i l k. put_after w to n s i (omega arith))

-- write after read
pub put-number : (w at : ℕ) (s : List ℕ) → Bytes s → put w at (number w at s) s ≡ s
unfolding number put
put-number zero at s b = refl
put-number (suc w) at s b =
    let m : ℕ = number w (suc at) s in
    let q : (get_or s at 0 + 256 * m) / 256 ≡ m = omega (arith, b at) in
    let r : (get_or s at 0 + 256 * m) % 256 ≡ get_or s at 0 = omega (arith, b at) in
    ap₂ (λ (x y : ℕ). put w (suc at) x (set s at y)) q r ∙ ap (put w (suc at) m) (set-get_or s at 0)
    ∙ put-number w (suc at) s b

-- ---- a number's bytes at an index

-- the bytes of n, wherever they stand, are n
pub number-bytes_of : (w n : ℕ) (p q : List ℕ) (at : ℕ) → length p ≡ at → n < 256 ^ w
    → number w at (p ++ (bytes_of w n ++ q)) ≡ n
unfolding number bytes_of
number-bytes_of zero n p q at l b = omega (arith, pow-zero 256)
number-bytes_of (suc w) n p q at l b =
    let v : ℕ = n % 256 in
    let rest : List ℕ = bytes_of w (n / 256) ++ q in
    let low : get_or (p ++ (v ∷ rest)) at 0 ≡ v = get_or_at p v rest 0 at l in
    let high : number w (suc at) ((p ++ (v ∷ [])) ++ rest) ≡ n / 256 =
    number-bytes_of w (n / 256) (p ++ (v ∷ [])) q (suc at) (omega (arith, length-append p (v ∷ [])))
    (omega (arith, pow-suc 256 w)) in
    let high' : number w (suc at) (p ++ (v ∷ rest)) ≡ n / 256 =
    ap (number w (suc at)) (sym (append_assoc p (v ∷ []) rest)) ∙ high in
    omega arith

-- the bytes of the number that stands at an index are those that stand there
pub bytes_of-number : (w at : ℕ) (s : List ℕ) → Bytes s → at + w ≤ length s
    → bytes_of w (number w at s) ≡ take w (drop at s)
unfolding number bytes_of
bytes_of-number zero at s b h = refl
bytes_of-number (suc w) at s b h =
    let m : ℕ = number w (suc at) s in
    let q : (get_or s at 0 + 256 * m) / 256 ≡ m = omega (arith, b at) in
    let r : (get_or s at 0 + 256 * m) % 256 ≡ get_or s at 0 = omega (arith, b at) in
    ap₂ (λ (x y : ℕ). x ∷ bytes_of w y) r q
    ∙ ap (λ (l : List ℕ). get_or s at 0 ∷ l) (bytes_of-number w (suc at) s b (omega arith))
    ∙ sym (ap (take (suc w)) (drop-cons s at 0 (omega arith)))

-- ---- numbers one after the other

pub length-numbers : (w c at : ℕ) (s : List ℕ) → length (numbers w c at s) ≡ c
unfolding numbers
length-numbers w zero at s = refl
length-numbers w (suc c) at s = ap suc (length-numbers w c (at + w) s)

-- the i-th of them
pub numbers_at : (w c at : ℕ) (s : List ℕ) (i : ℕ) → i < c → get_or (numbers w c at s) i 0 ≡ number w (at + w * i) s
unfolding numbers
numbers_at w zero at s i h = absurd (omega arith)
numbers_at w (suc c) at s zero h = ap (λ (k : ℕ). number w k s) (omega (arith, mul-zero w))
numbers_at w (suc c) at s (suc i) h =
    numbers_at w c (at + w) s i (omega arith) ∙ ap (λ (k : ℕ). number w k s) (omega (arith, mul-suc w i))

numbers_same : (w c at : ℕ) (s t : List ℕ) → ((i : ℕ) → at ≤ i → get_or s i 0 ≡ get_or t i 0)
    → numbers w c at s ≡ numbers w c at t
unfolding numbers
numbers_same w zero at s t e = refl
numbers_same w (suc c) at s t e =
    ap₂ (λ (n : ℕ) (l : List ℕ). n ∷ l) (number_same w at s t (λ i l h. e i l))
    (numbers_same w c (at + w) s t (λ i l. e i (omega arith)))

-- the i-th of them written: it alone is changed
pub numbers-put : (w c at n : ℕ) (s : List ℕ) (i : ℕ) → i < c → at + w * c ≤ length s → n < 256 ^ w
    → numbers w c at (put w (at + w * i) n s) ≡ set (numbers w c at s) i n
unfolding numbers
numbers-put w zero at n s i h l b = absurd (omega arith)
numbers-put w (suc c) at n s zero h l b =
    let z : at + w * 0 ≡ at = omega (arith, mul-zero w) in
    ap (λ (k : ℕ). numbers w (suc c) at (put w k n s)) z
    ∙ ap₂ (λ (x : ℕ) (t : List ℕ). x ∷ t) (number_put w at n s (omega (arith, mul-suc w c)) b)
    (numbers_same w c (at + w) (put w at n s) s (λ j k. put_after w at n s j k))
numbers-put w (suc c) at n s (suc i) h l b =
    let z : at + w * suc i ≡ (at + w) + w * i = omega (arith, mul-suc w i) in
    ap (λ (k : ℕ). numbers w (suc c) at (put w k n s)) z
    ∙ ap₂ (λ (x : ℕ) (t : List ℕ). x ∷ t) (number-put_apart w at w ((at + w) + w * i) n s (inl (omega arith)))
    (numbers-put w c (at + w) n s i (omega arith) (omega (arith, mul-suc w c)) b)

-- packed again they are the bytes that they were read from
pub bytes_numbers : (w c at : ℕ) (s : List ℕ) → Bytes s → at + w * c ≤ length s
    → bytes_of_all w (numbers w c at s) ≡ take (w * c) (drop at s)
unfolding numbers bytes_of_all
bytes_numbers w zero at s b h = ap (λ (k : ℕ). take k (drop at s)) (sym (mul-zero w))
bytes_numbers w (suc c) at s b h =
    let e : w + w * c ≡ w * suc c = omega (arith, mul-suc w c) in
    ap₂ (λ (x y : List ℕ). x ++ y) (bytes_of-number w at s b (omega (arith, mul-suc w c)))
    (bytes_numbers w c (at + w) s b (omega (arith, mul-suc w c)) ∙ ap (take (w * c)) (sym (drop-drop w at s)))
    ∙ sym (take-add w (w * c) (drop at s)) ∙ ap (λ (k : ℕ). take k (drop at s)) e

-- ---- one byte at a time, for loops

-- read from the highest byte down, where `left` bytes are still to be read
pub number_down : (w at left n b : ℕ) (s : List ℕ) → 0 < left → left ≤ w → n ≡ number (w - left) (at + left) s
    → b ≡ get_or s (at + (left - 1)) 0
    → b + 256 * n ≡ number (w - (left - 1)) (at + (left - 1)) s
unfolding number
number_down w at left n b s h k e d =
    let p : w - (left - 1) ≡ suc (w - left) = omega arith in
    let q : at + left ≡ suc (at + (left - 1)) = omega arith in
    let e' : n ≡ number (w - left) (suc (at + (left - 1))) s = e ∙ ap (λ (j : ℕ). number (w - left) j s) q in
    let r : number (w - (left - 1)) (at + (left - 1)) s ≡ number (suc (w - left)) (at + (left - 1)) s =
    ap (λ (j : ℕ). number j (at + (left - 1)) s) p in
    ap₂ (λ (x y : ℕ). x + 256 * y) d e' ∙ sym r

-- where at most k bytes have been read, the number is below what k bytes hold
pub number_down_bound : (w at left n k : ℕ) (s : List ℕ) → Bytes s → w - left ≤ k → n ≡ number (w - left) (at + left) s
    → n < 256 ^ k
number_down_bound w at left n k s b h e =
    let m : 256 ^ (w - left) ≤ 256 ^ k = pow-le-pow_right (omega arith) h in
    omega (arith, number_bound (w - left) (at + left) s b)

-- written from the lowest byte up, where i bytes are written
pub put_up : (w at i n : ℕ) (s : List ℕ) → i < w
    → put (w - i) (at + i) n s ≡ put (w - (i + 1)) (at + (i + 1)) (n / 256) (set s (at + i) (n % 256))
unfolding put
put_up w at i n s h =
    let p : w - i ≡ suc (w - (i + 1)) = omega arith in
    let q : suc (at + i) ≡ at + (i + 1) = omega arith in
    ap (λ (j : ℕ). put j (at + i) n s) p ∙ ap (λ (j : ℕ). put (w - (i + 1)) j (n / 256) (set s (at + i) (n % 256))) q

pub put_all : (w at i n : ℕ) (s : List ℕ) → w ≤ i → put (w - i) (at + i) n s ≡ s
unfolding put
put_all w at i n s h =
    let p : w - i ≡ 0 = omega arith in
    ap (λ (j : ℕ). put j (at + i) n s) p

-- its bytes from the lowest up, where `left` are still to come
pub bytes_of_next : (left n : ℕ) → 0 < left → bytes_of left n ≡ (n % 256) ∷ bytes_of (left - 1) (n / 256)
unfolding bytes_of
bytes_of_next left n h =
    let p : left ≡ suc (left - 1) = omega arith in
    ap (λ (w : ℕ). bytes_of w n) p

pub bytes_of_none : (left n : ℕ) → left ≤ 0 → bytes_of left n ≡ []
unfolding bytes_of
bytes_of_none left n h =
    let p : left ≡ 0 = omega arith in
    ap (λ (w : ℕ). bytes_of w n) p
