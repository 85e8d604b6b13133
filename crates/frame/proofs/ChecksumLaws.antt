-- Laws of the checksum.
use Prim.Native.Nat.{ℕ, zero, suc, ◌+◌, ◌-◌, ◌/◌, ◌%◌, ◌≤◌, ◌<◌}
use mathlib.Core.Path.{◌≡◌, refl, sym, ap, ◌∙◌}
use mathlib.Core.List.{List, [], ◌∷◌, ◌++◌}
use native.Mathlib.Numerals.{add-one}
use native.Mathlib.Omega.{arith}
use lib.Bits.{bit_xor, xor_self, xor_comm, xor_zero_l, xor_zero_r, xor_shr, xor_mod, xor_shifted, xor_add_and, and_le_l}
use lib.Bits.{and_le_r}
use lib.ListN.{length, get_or, set, take, drop, length-drop, drop_of_length-le}
use lib.Seq.{take-suc, drop-cons, take_all, get_or-drop}
use mathlib.Core.Bool.{Bool, true, false, not, ◌||◌, true≢false}
use Rattle.std.specs.Prelude.{Some, None}
use Rattle.std.specs.Bool.{then_some}
use Rattle.lists.specs.Choice.{pick, none_of}
use Rattle.lists.proofs.Cases.{by_bool}
use Rattle.lists.proofs.Lists.{last_apart}
use Rattle.lists.proofs.Tests.{none_append, none_at, none_last}
use Rattle.frame.specs.Stuffing.{is_stuffed}
use Rattle.frame.specs.Checksum.{sum_from, checksum}
use Rattle.frame.specs.Verdict.{contents_in, last_of}

-- a turn of the loop that sums
pub sum_from_at : (acc : ℕ) (s : List ℕ) (i : ℕ) → i < length s
    → sum_from acc (drop i s) ≡ sum_from (bit_xor acc (get_or s i 0)) (drop (i + 1) s)
unfolding sum_from
sum_from_at acc s i h = rw (add-one, drop-cons s i 0 h)

pub sum_from_end : (acc : ℕ) (s : List ℕ) (i : ℕ) → length s ≤ i → sum_from acc (drop i s) ≡ acc
unfolding sum_from
sum_from_end acc s i h = ap (sum_from acc) (drop_of_length-le s h)

pub sum_from_last : (acc : ℕ) (c : List ℕ) (b : ℕ) → sum_from acc (c ++ (b ∷ [])) ≡ bit_xor (sum_from acc c) b
unfolding sum_from
sum_from_last acc [] b = refl
sum_from_last acc (x ∷ c) b = sum_from_last (bit_xor acc x) c b

-- the last byte, known by itself, after the sum of those before it
sum_last : (s : List ℕ) → 1 ≤ length s
    → bit_xor (checksum (take (length s - 1) s)) (get_or s (length s - 1) 0) ≡ checksum s
sum_last s h =
    sym (sum_from_last 0 (take (length s - 1) s) (get_or s (length s - 1) 0)) ∙ ap checksum (sym (last_apart s h))

xor_zero : (a b : ℕ) → bit_xor a b ≡ 0 → b ≡ a
xor_zero a b h = omega (arith, xor_add_and a b, and_le_l a b, and_le_r a b)

-- the bytes from an index on are the contents and the byte after them
pub contents_last : (skip : ℕ) (u : List ℕ) → skip < length u → drop skip u ≡ contents_in skip u ++ (last_of u ∷ [])
contents_last skip u h =
    let m = length u - (skip + 1) in
    let long : length (drop skip u) ≡ suc m = omega (arith, length-drop skip u) in
    let at : skip + m ≡ length u - 1 = omega arith in
    sym (take_all (suc m) (drop skip u) (omega arith))
    ∙ take-suc (drop skip u) m 0 (omega arith)
    ∙ ap (λ (y : ℕ). contents_in skip u ++ (y ∷ [])) (get_or-drop skip u m 0 ∙ ap (λ (n : ℕ). get_or u n 0) at)

-- the checksum is right exactly where the exclusive or of contents and checksum is 0
module _ (skip : ℕ) (u : List ℕ) (h : skip < length u) where
  of_all : sum_from 0 (drop skip u) ≡ bit_xor (checksum (contents_in skip u)) (last_of u)
  of_all = ap (sum_from 0) (contents_last skip u h) ∙ sum_from_last 0 (contents_in skip u) (last_of u)

  pub sum_right : checksum (drop skip u) ≡ 0 → last_of u ≡ checksum (contents_in skip u)
  sum_right e = xor_zero (checksum (contents_in skip u)) (last_of u) (sym of_all ∙ e)

  pub sum_wrong : (checksum (drop skip u) ≡ 0 → ⊥) → last_of u ≡ checksum (contents_in skip u) → ⊥
  sum_wrong n q = n (of_all ∙ ap (bit_xor (checksum (contents_in skip u))) q ∙ xor_self (checksum (contents_in skip u)))

-- ---- the exclusive or of three numbers

module _ (P : ℕ → Type 0) (p : P 0) (q : P 1) where
  bit : (i : ℕ) → i < 2 → P i
  bit zero h = p
  bit (suc zero) h = q
  bit (suc (suc i)) h = absurd (omega arith)

abbrev Assoc : (a b c : ℕ) → Type 0
Assoc a b c = bit_xor (bit_xor a b) c ≡ bit_xor a (bit_xor b c)

-- of digits
assoc_bits : (a b c : ℕ) → a < 2 → b < 2 → c < 2 → Assoc a b c
assoc_bits a b c h k l =
    bit (λ (a : ℕ). Assoc a b c)
    (bit (λ (b : ℕ). Assoc 0 b c) (bit (Assoc 0 0) refl refl c l) (bit (Assoc 0 1) refl refl c l) b k)
    (bit (λ (b : ℕ). Assoc 1 b c) (bit (Assoc 1 0) refl refl c l) (bit (Assoc 1 1) refl refl c l) b k) a h

-- of numbers up to a bound, by halves
assoc_within : (k a b c : ℕ) → a ≤ k → b ≤ k → c ≤ k → Assoc a b c
assoc_within zero a b c h i j =
    let p : a ≡ 0 = omega arith in
    let q : b ≡ 0 = omega arith in
    let r : c ≡ 0 = omega arith in
    simp (p, q, r)
assoc_within (suc k) a b c h i j =
    let half : bit_xor (bit_xor a b) c / 2 ≡ bit_xor a (bit_xor b c) / 2 =
    xor_shr (bit_xor a b) c 1 ∙ ap (λ (x : ℕ). bit_xor x (c / 2)) (xor_shr a b 1)
    ∙ assoc_within k (a / 2) (b / 2) (c / 2) (omega arith) (omega arith) (omega arith)
    ∙ ap (bit_xor (a / 2)) (sym (xor_shr b c 1))
    ∙ sym (xor_shr a (bit_xor b c) 1) in
    let odd : bit_xor (bit_xor a b) c % 2 ≡ bit_xor a (bit_xor b c) % 2 =
    xor_mod (bit_xor a b) c 1 ∙ ap (λ (x : ℕ). bit_xor x (c % 2)) (xor_mod a b 1)
    ∙ assoc_bits (a % 2) (b % 2) (c % 2) (omega arith) (omega arith) (omega arith)
    ∙ ap (bit_xor (a % 2)) (sym (xor_mod b c 1))
    ∙ sym (xor_mod a (bit_xor b c) 1) in
    omega (arith, half, odd)

pub xor_assoc : (a b c : ℕ) → Assoc a b c
xor_assoc a b c = assoc_within (a + b + c) a b c (omega arith) (omega arith) (omega arith)

-- A sum that begins with a number.
pub sum_onto : (acc : ℕ) (s : List ℕ) → sum_from acc s ≡ bit_xor acc (checksum s)
unfolding sum_from
sum_onto acc [] = sym (xor_zero_r acc)
sum_onto acc (b ∷ s) =
    sum_onto (bit_xor acc b) s ∙ xor_assoc acc b (checksum s)
    ∙ ap (bit_xor acc) (sym (ap (λ (x : ℕ). sum_from x s) (xor_zero_l b) ∙ sum_onto b s))

-- the sum of what follows two bytes
pub sum_after : (a b : ℕ) (s : List ℕ) → bit_xor (checksum (a ∷ b ∷ s)) (bit_xor a b) ≡ checksum s
unfolding sum_from
sum_after a b s =
    let x = bit_xor a b in
    let r = checksum s in
    ap (λ (n : ℕ). bit_xor (sum_from (bit_xor n b) s) x) (xor_zero_l a) ∙ ap (λ (n : ℕ). bit_xor n x) (sum_onto x s)
    ∙ xor_comm (bit_xor x r) x
    ∙ sym (xor_assoc x x r)
    ∙ ap (λ (n : ℕ). bit_xor n r) (xor_self x)
    ∙ xor_zero_l r

-- an escape's two bytes, the first taken as F0, have the exclusive or of the byte that they stand for
pub sum_escape : (acc e : ℕ) → e ≤ 3 → bit_xor acc (0xF0 + e) ≡ bit_xor (bit_xor acc 0xF0) e
sum_escape acc e h = ap (bit_xor acc) (sym (xor_shifted 15 4 e (omega arith))) ∙ sym (xor_assoc acc 0xF0 e)

-- ---- one byte changed

xor_back : (a c : ℕ) → bit_xor (bit_xor a c) c ≡ a
xor_back a c = xor_assoc a c c ∙ ap (bit_xor a) (xor_self c) ∙ xor_zero_r a

xor_cancel : (a b c : ℕ) → bit_xor a c ≡ bit_xor b c → a ≡ b
xor_cancel a b c e = sym (xor_back a c) ∙ ap (λ (x : ℕ). bit_xor x c) e ∙ xor_back b c

-- Lists that differ at one place alone have different sums.
pub sum-set : (acc : ℕ) (s : List ℕ) (i b : ℕ) → i < length s → (b ≡ get_or s i 0 → ⊥)
    → sum_from acc (set s i b) ≡ sum_from acc s → ⊥
unfolding sum_from
sum-set acc [] i b h n e = omega arith
sum-set acc (x ∷ s) zero b h n e =
    let q : bit_xor acc b ≡ bit_xor acc x =
    xor_cancel (bit_xor acc b) (bit_xor acc x) (checksum s)
    (sym (sum_onto (bit_xor acc b) s) ∙ e ∙ sum_onto (bit_xor acc x) s) in
    n (xor_cancel b x acc (xor_comm b acc ∙ q ∙ xor_comm acc x))
sum-set acc (x ∷ s) (suc i) b h n e = sum-set (bit_xor acc x) s i b (omega arith) n e

-- Contents and their checksum have the sum 0.
pub sum_whole : (c : List ℕ) → checksum (c ++ (checksum c ∷ [])) ≡ 0
sum_whole c = sum_from_last 0 c (checksum c) ∙ xor_self (checksum c)

-- Contents and their checksum, with one byte changed, are no contents and their checksum.
pub sum_changed : (c d : List ℕ) (i b : ℕ) → i < length (c ++ (checksum c ∷ []))
    → (b ≡ get_or (c ++ (checksum c ∷ [])) i 0 → ⊥)
    → set (c ++ (checksum c ∷ [])) i b ≡ d ++ (checksum d ∷ []) → ⊥
sum_changed c d i b h n e =
    sum-set 0 (c ++ (checksum c ∷ [])) i b h n (ap checksum e ∙ sum_whole d ∙ sym (sum_whole c))

-- ---- the exclusive or of bytes where none is F0 to F3

-- whether a byte has passed a test, with one byte more
pub found_more : (p : ℕ → Bool) (s : List ℕ) (i : ℕ) (found : Bool) → i < length s
    → found ≡ pick (none_of p (take i s)) false true
    → (found || p (get_or s i 0)) ≡ pick (none_of p (take (i + 1) s)) false true
unfolding none_of
found_more p s i found h e =
    let b = get_or s i 0 in
    let more : none_of p (take (i + 1) s) ≡ pick (none_of p (take i s)) (pick (p b) false true) false =
    ap (λ (n : ℕ). none_of p (take n s)) (add-one i) ∙ ap (none_of p) (take-suc s i 0 h)
    ∙ none_append p (take i s) (b ∷ []) in
    ap (λ (x : Bool). x || p b) e ∙ joined (none_of p (take i s)) (p b)
    ∙ ap (λ (x : Bool). pick x false true) (sym more)
  where
    joined : (t u : Bool) → (pick t false true || u) ≡ pick (pick t (pick u false true) false) false true
    joined true true = refl
    joined true false = refl
    joined false u = refl

-- as a pass over them finds it
pub plain_found : (s : List ℕ) (i sum : ℕ) (seen : Bool) → length s ≤ i
    → seen ≡ pick (none_of is_stuffed (take i s)) false true
    → sum ≡ checksum s → then_some (not seen) sum ≡ pick (none_of is_stuffed s) (Some (checksum s)) None
plain_found s i sum seen h e q =
    let w : seen ≡ pick (none_of is_stuffed s) false true =
    e ∙ ap (λ (l : List ℕ). pick (none_of is_stuffed l) false true) (take_all i s h) in
    by_bool (none_of is_stuffed s)
    (λ y. let z : seen ≡ false = simp y at w in simp (y, z, q))
    (λ n. let z : seen ≡ true = simp n at w in simp (n, z))

-- and where it was found
pub found_plain : (s : List ℕ) (sum : ℕ) → Some sum ≡ pick (none_of is_stuffed s) (Some (checksum s)) None
    → (none_of is_stuffed s ≡ true) × (sum ≡ checksum s)
found_plain s sum e =
    by_bool (none_of is_stuffed s)
    (λ y. let q : Some sum ≡ Some (checksum s) = simp y at e in let r : sum ≡ checksum s = cc in (y, r))
    (λ n. let q : Some sum ≡ None = simp n at e in cc)

-- with the last byte taken by itself
pub plain_empty : (s : List ℕ) → length s ≡ 0 → Some 0 ≡ pick (none_of is_stuffed s) (Some (checksum s)) None
unfolding none_of sum_from
plain_empty [] h = refl
plain_empty (b ∷ s) h = absurd (omega arith)

module _ (s : List ℕ) (some : 1 ≤ length s) where
  abbrev front : List ℕ
  front = take (length s - 1) s

  abbrev last : ℕ
  last = get_or s (length s - 1) 0

  pub plain_ends : is_stuffed last ≡ true → None ≡ pick (none_of is_stuffed s) (Some (checksum s)) None
  plain_ends e =
      by_bool (none_of is_stuffed s)
      (λ y. absurd (true≢false (sym e ∙ none_at is_stuffed s y (length s - 1) (omega arith))))
      (λ n. simp n)

  module _ (plain : is_stuffed last ≡ false) where
    pub plain_not : None ≡ pick (none_of is_stuffed front) (Some (checksum front)) None
        → None ≡ pick (none_of is_stuffed s) (Some (checksum s)) None
    plain_not e =
        by_bool (none_of is_stuffed front)
        (λ y. let q : None ≡ Some (checksum front) = simp y at e in cc)
        (λ n. ap (λ (t : Bool). pick t (Some (checksum s)) None) (sym (none_last is_stuffed s some plain ∙ n)))

    pub plain_last : (sum : ℕ) → Some sum ≡ pick (none_of is_stuffed front) (Some (checksum front)) None
        → Some (bit_xor sum last) ≡ pick (none_of is_stuffed s) (Some (checksum s)) None
    plain_last sum e =
        let p = found_plain front sum e in
        ap (λ (n : ℕ). Some (bit_xor n last)) p.1 ∙ ap (λ (n : ℕ). Some n) (sum_last s some)
        ∙ ap (λ (t : Bool). pick t (Some (checksum s)) None) (sym (none_last is_stuffed s some plain ∙ p.0))
