-- Laws of stuffing and unstuffing.
use Prim.Native.Nat.{ℕ, suc, ◌+◌, ◌-◌, ◌≤◌}
use mathlib.Core.Path.{◌≡◌, refl, sym, ap, ◌∙◌}
use mathlib.Core.Bool.{Bool, true, false, true≢false}
use mathlib.Core.List.{List, [], ◌∷◌, ◌++◌}
use native.Mathlib.Omega.{arith}
use lib.Dec.{leb, eqb}
use lib.ListN.{length}
use borrow.Author.Tests.{leb-true, leb-false, eqb-true, eqb-false, lt-leb, le-leb, ne_eqb}
use Rattle.lists.specs.Choice.{pick, within, none_of}
use Rattle.lists.proofs.Cases.{by_bool}
use Rattle.lists.proofs.Tests.{within_yes, within_true, none_append}
use Rattle.frame.specs.Flags.{is_flag, flagless}
use Rattle.frame.specs.Stuffing.{is_stuffed, stuff_byte, stuff, Unstuffed, bad_escape, bytes, prepend, unstuff}
use Rattle.frame.specs.Private.{unstuffed_bytes}

-- ---- one byte

pub stuff_byte_yes : (b : ℕ) → is_stuffed b ≡ true → stuff_byte b ≡ 0xF3 ∷ (b - 0xF0) ∷ []
unfolding stuff_byte
stuff_byte_yes b h = ap (λ (t : Bool). pick t (0xF3 ∷ (b - 0xF0) ∷ []) (b ∷ [])) h

pub stuff_byte_no : (b : ℕ) → is_stuffed b ≡ false → stuff_byte b ≡ b ∷ []
unfolding stuff_byte
stuff_byte_no b h = ap (λ (t : Bool). pick t (0xF3 ∷ (b - 0xF0) ∷ []) (b ∷ [])) h

-- a byte that is neither a flag nor F3 is sent as it is
flag_no : (b : ℕ) → is_flag b ≡ false → (b ≡ 0xF3 → ⊥) → is_stuffed b ≡ false
flag_no b h n =
    by_bool (leb 0xF0 b)
    (λ y. let f : leb b 0xF2 ≡ false = simp y at h in
    let g = leb-false b 0xF2 f in
    simp (y, lt-leb b 0xF3 (omega (arith, n))))
    (λ y. simp y)

-- ---- unstuffing undoes stuffing, and stuffing unstuffing

pub unstuff-stuff : (u : List ℕ) → unstuff false (stuff u) ≡ bytes u
unfolding stuff unstuff prepend
unstuff-stuff [] = refl
unstuff-stuff (b ∷ u) =
    by_bool (is_stuffed b)
    (λ y. let w = within_true 0xF0 0xF3 b y in
    let e : 0xF0 + (b - 0xF0) ≡ b = omega arith in
    ap (λ (l : List ℕ). unstuff false (l ++ stuff u)) (stuff_byte_yes b y)
    ∙ simp (le-leb (b - 0xF0) 3 (omega arith), unstuff-stuff u, e))
    (λ n. ap (λ (l : List ℕ). unstuff false (l ++ stuff u)) (stuff_byte_no b n)
    ∙ simp (ne_eqb b 0xF3 (λ q. true≢false (sym (ap is_stuffed q) ∙ n)), unstuff-stuff u))

flagless_byte : (b : ℕ) → flagless (stuff_byte b) ≡ true
unfolding none_of
flagless_byte b =
    by_bool (is_stuffed b)
    (λ y. let w = within_true 0xF0 0xF3 b y in
    ap flagless (stuff_byte_yes b y) ∙ simp (lt-leb 0xF0 (b - 0xF0) (omega arith)))
    (λ n. ap flagless (stuff_byte_no b n)
    ∙ by_bool (leb 0xF0 b)
    (λ y. let f : leb b 0xF3 ≡ false = simp y at n in
    let g = leb-false b 0xF3 f in
    simp (y, lt-leb b 0xF2 (omega arith)))
    (λ y. simp y))

-- no flag stands among stuffed bytes
pub flagless-stuff : (u : List ℕ) → flagless (stuff u) ≡ true
unfolding stuff none_of
flagless-stuff [] = refl
flagless-stuff (b ∷ u) = none_append is_flag (stuff_byte b) (stuff u) ∙ simp (flagless_byte b, flagless-stuff u)

pub prepend_inv : (b : ℕ) (r : Unstuffed) (u : List ℕ) → prepend b r ≡ bytes u
    → (v : List ℕ) × (r ≡ bytes v) × (u ≡ b ∷ v)
unfolding prepend
prepend_inv b bad_escape u e = let z : ◌≡◌ {A = ℕ} 0 1 = cc in absurd (omega arith)
prepend_inv b (bytes v) u e = let q : u ≡ b ∷ v = cc in (v, refl, q)

pub stuff-unstuff : (t : Bool) (s u : List ℕ) → unstuff t s ≡ bytes u → flagless s ≡ true
    → stuff u ≡ pick t (0xF3 ∷ s) s
unfolding unstuff stuff none_of
stuff-unstuff false [] u e h = let q : u ≡ [] = cc in ap stuff q
stuff-unstuff true [] u e h = let z : ◌≡◌ {A = ℕ} 0 1 = cc in absurd (omega arith)
stuff-unstuff false (x ∷ s) u e h =
    by_bool (is_flag x)
    (λ y. absurd (true≢false (sym h ∙ simp y)))
    (λ n. let k : flagless s ≡ true = simp n at h in
    by_bool (eqb x 0xF3)
    (λ y. stuff-unstuff true s u (simp y at e) k ∙ ap (λ (b : ℕ). b ∷ s) (sym (eqb-true x 0xF3 y)))
    (λ m. let p = prepend_inv x (unstuff false s) u (simp m at e) in
    ap stuff p.2 ∙ ap (λ (l : List ℕ). l ++ stuff p.0) (stuff_byte_no x (flag_no x n (eqb-false x 0xF3 m)))
    ∙ ap (λ (l : List ℕ). x ∷ l) (stuff-unstuff false s p.0 p.1 k)))
stuff-unstuff true (x ∷ s) u e h =
    by_bool (is_flag x)
    (λ y. absurd (true≢false (sym h ∙ simp y)))
    (λ n. let k : flagless s ≡ true = simp n at h in
    by_bool (leb x 3)
    (λ y. let z = leb-true x 3 y in
    let p = prepend_inv (0xF0 + x) (unstuff false s) u (simp y at e) in
    let d : 0xF0 + x - 0xF0 ≡ x = omega arith in
    ap stuff p.2 ∙ ap (λ (l : List ℕ). l ++ stuff p.0)
    (stuff_byte_yes (0xF0 + x) (within_yes 0xF0 0xF3 (0xF0 + x) (omega arith) (omega arith)))
    ∙ ap (λ (b : ℕ). 0xF3 ∷ b ∷ stuff p.0) d
    ∙ ap (λ (l : List ℕ). 0xF3 ∷ x ∷ l) (stuff-unstuff false s p.0 p.1 k))
    (λ m. let q : bad_escape ≡ bytes u = simp m at e in
    let z : ◌≡◌ {A = ℕ} 0 1 = cc in absurd (omega arith)))

-- ---- bytes without an escape

pub unstuff_plain : (s : List ℕ) → none_of (within 0xF3 0xF3) s ≡ true → unstuff false s ≡ bytes s
unfolding none_of unstuff prepend
unstuff_plain [] h = refl
unstuff_plain (b ∷ s) h =
    by_bool (eqb b 0xF3)
    (λ y. let e : b ≡ 0xF3 = eqb-true b 0xF3 y in
    absurd (true≢false (sym h ∙ simp (within_yes 0xF3 0xF3 b (omega arith) (omega arith)))))
    (λ n. by_bool (within 0xF3 0xF3 b)
    (λ y. let w = within_true 0xF3 0xF3 b y in absurd (eqb-false b 0xF3 n (omega arith)))
    (λ m. simp (n, unstuff_plain s (simp m at h))))

prepend-length : (b : ℕ) (r : Unstuffed) → length (unstuffed_bytes (prepend b r)) ≤ suc (length (unstuffed_bytes r))
unfolding unstuffed_bytes prepend
prepend-length b bad_escape = omega arith
prepend-length b (bytes u) = omega arith

-- unstuffing makes a list no longer
pub unstuff_shrinks : (t : Bool) (s : List ℕ) → length (unstuffed_bytes (unstuff t s)) ≤ length s
unfolding unstuff unstuffed_bytes
unstuff_shrinks false [] = omega arith
unstuff_shrinks true [] = omega arith
unstuff_shrinks false (b ∷ s) =
    by_bool (eqb b 0xF3) (λ y. simp y (omega (arith, unstuff_shrinks true s)))
    (λ n. simp n (omega (arith, prepend-length b (unstuff false s), unstuff_shrinks false s)))
unstuff_shrinks true (b ∷ s) =
    by_bool (leb b 3) (λ y. simp y
    (omega (arith, prepend-length (0xF0 + b) (unstuff false s), unstuff_shrinks false s))) (λ n. simp n (omega arith))

-- and a list that it makes no shorter has no escape
pub unstuff_same : (s : List ℕ) → length (unstuffed_bytes (unstuff false s)) ≡ length s
    → unstuffed_bytes (unstuff false s) ≡ s
unfolding unstuff unstuffed_bytes prepend
unstuff_same [] e = refl
unstuff_same (b ∷ s) e =
    by_bool (eqb b 0xF3)
    (λ y. let q : length (unstuffed_bytes (unstuff true s)) ≡ suc (length s) = simp y at e in
    absurd (omega (arith, unstuff_shrinks true s)))
    (λ n. let q : length (unstuffed_bytes (prepend b (unstuff false s))) ≡ suc (length s) = simp n at e in
    simp n (keeps (unstuff false s) q (unstuff_same s)))
  where
    keeps : (r : Unstuffed) → length (unstuffed_bytes (prepend b r)) ≡ suc (length s)
        → (length (unstuffed_bytes r) ≡ length s → unstuffed_bytes r ≡ s) → unstuffed_bytes (prepend b r) ≡ b ∷ s
    keeps bad_escape q f = absurd (omega arith)
    keeps (bytes u) q f = ap (λ (l : List ℕ). b ∷ l) (f (omega arith))
