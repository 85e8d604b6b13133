-- Laws of `Unstuffs`, which says what stuffed bytes stand for: it is what unstuffing computes, each stuffed byte belongs
-- to one unstuffed byte, and where one outside of any escape is changed, one unstuffed byte is.
use Prim.Native.Nat.{ℕ, zero, suc, ◌+◌, ◌-◌, ◌≤◌, ◌<◌}
use mathlib.Core.Path.{◌≡◌, refl, sym, ap, ap₂, ◌∙◌, subst}
use mathlib.Core.Logic.{◌⊎◌, inl, inr}
use mathlib.Core.Bool.{Bool, true, false}
use mathlib.Core.List.{List, [], ◌∷◌, ◌++◌, append_assoc}
use native.Mathlib.Omega.{arith}
use lib.Dec.{leb, eqb}
use lib.ListN.{length, get_or, set, take, drop, length-append}
use lib.Seq.{get_or_at, set_at, set_split, length-take-le, take-append-add, take-append-le}
use borrow.Author.Tests.{leb-true, eqb-true, eqb-false, le-leb, ne_eqb}
use Rattle.lists.specs.Choice.{pick, count_of}
use Rattle.lists.proofs.Cases.{by_bool}
use Rattle.lists.proofs.Tests.{count_append}
use Rattle.frame.specs.Stuffing.{bad_escape, bytes, prepend, unstuff}
use Rattle.frame.specs.Conditions.{EscapesSound, Unstuffs, none, plain, escape}
use Rattle.frame.specs.Places.{ends_one, unstuffed_in, StandsFor}
use Rattle.frame.proofs.StuffingLaws.{prepend_inv}

-- ---- the relation, and what unstuffing computes

-- undoing escapes, as a relation and as a function
pub unstuffs_bytes : {s u : List ℕ} → Unstuffs s u → unstuff false s ≡ bytes u
unfolding unstuff prepend
unstuffs_bytes none = refl
unstuffs_bytes (plain {b = b} n r) = simp (ne_eqb b 0xF3 n, unstuffs_bytes r)
unstuffs_bytes (escape {k = k} h r) = simp (le-leb k 3 h, unstuffs_bytes r)

-- what unstuffing computes is so related, also where an F3 stands right before
pub bytes_unstuffs : (t : Bool) (s u : List ℕ) → unstuff t s ≡ bytes u → Unstuffs (pick t (0xF3 ∷ s) s) u
unfolding unstuff
bytes_unstuffs false [] u e = let q : [] ≡ u = cc in subst (λ (v : List ℕ). Unstuffs [] v) q none
bytes_unstuffs true [] u e = let z : ◌≡◌ {A = ℕ} 0 1 = cc in absurd (omega arith)
bytes_unstuffs false (x ∷ s) u e =
    by_bool (eqb x 0xF3)
    (λ y. subst (λ (b : ℕ). Unstuffs (b ∷ s) u) (sym (eqb-true x 0xF3 y)) (bytes_unstuffs true s u (simp y at e)))
    (λ n. let p = prepend_inv x (unstuff false s) u (simp n at e) in
    subst (λ (v : List ℕ). Unstuffs (x ∷ s) v) (sym p.2)
    (plain (eqb-false x 0xF3 n) (bytes_unstuffs false s p.0 p.1)))
bytes_unstuffs true (x ∷ s) u e =
    by_bool (leb x 3)
    (λ y. let p = prepend_inv (0xF0 + x) (unstuff false s) u (simp y at e) in
    subst (λ (v : List ℕ). Unstuffs (0xF3 ∷ x ∷ s) v) (sym p.2)
    (escape (leb-true x 3 y) (bytes_unstuffs false s p.0 p.1)))
    (λ m. let q : bad_escape ≡ bytes u = simp m at e in
    let z : ◌≡◌ {A = ℕ} 0 1 = cc in absurd (omega arith))

-- what stands after an index, in a list with one element more before it
after_cons : (b : ℕ) (s : List ℕ) (i : ℕ) → get_or (b ∷ s) (suc i + 1) 0 ≡ get_or s (i + 1) 0
after_cons b s i = let e : suc i + 1 ≡ suc (i + 1) = omega arith in ap (λ (n : ℕ). get_or (b ∷ s) n 0) e

-- every F3 is followed by 00 to 03 in bytes that unstuff
pub unstuffs_sound : {s u : List ℕ} → Unstuffs s u → EscapesSound s
unstuffs_sound none i h e = absurd (omega arith)
unstuffs_sound (plain n r) zero h e = absurd (n e)
unstuffs_sound (plain {b = b} {s = s} n r) (suc i) h e =
    let q = unstuffs_sound r i (omega arith) e in (omega (arith, q.0), omega (arith, q.1, after_cons b s i))
unstuffs_sound (escape k r) zero h e = (omega arith, k)
unstuffs_sound (escape k r) (suc zero) h e = absurd (omega arith)
unstuffs_sound (escape {k = k} {s = s} l r) (suc (suc i)) h e =
    let q = unstuffs_sound r i (omega arith) e in
    (omega (arith, q.0), omega (arith, q.1, after_cons 0xF3 (k ∷ s) (suc i), after_cons k s i))

-- bytes in which every F3 is followed by 00 to 03 unstuff
pub sound_unstuffs : (s : List ℕ) → EscapesSound s → (u : List ℕ) × (unstuff false s ≡ bytes u)
unfolding unstuff prepend
sound_unstuffs [] h = ([], refl)
sound_unstuffs (b ∷ []) h =
    by_bool (eqb b 0xF3)
    (λ y. absurd (omega (arith, (h 0 (omega arith) (eqb-true b 0xF3 y)).0)))
    (λ n. (b ∷ [], simp n))
sound_unstuffs (b ∷ k ∷ s) h =
    by_bool (eqb b 0xF3)
    (λ y. let low : k ≤ 3 = (h 0 (omega arith) (eqb-true b 0xF3 y)).1 in
    let r = sound_unstuffs s
    (λ i l e. let q = h (suc (suc i)) (omega arith) e in
    (omega (arith, q.0), omega (arith, q.1, after_cons b (k ∷ s) (suc i), after_cons k s i))) in
    ((0xF0 + k) ∷ r.0, simp (y, le-leb k 3 low, r.1)))
    (λ n. let r = sound_unstuffs (k ∷ s)
    (λ i l e. let q = h (suc i) (omega arith) e in (omega (arith, q.0), omega (arith, q.1, after_cons b (k ∷ s) i)))
    in
    (b ∷ r.0, (simp n) ∙ ap (prepend b) r.1))

-- ---- one stuffed byte

pub unstuffs_append : {s u : List ℕ} → Unstuffs s u → (t v : List ℕ) → Unstuffs t v → Unstuffs (s ++ t) (u ++ v)
unstuffs_append none t v r = r
unstuffs_append (plain n l) t v r = plain n (unstuffs_append l t v r)
unstuffs_append (escape k l) t v r = escape k (unstuffs_append l t v r)

-- as many unstuffed bytes as stuffed ones that are not F3
pub unstuffs_count : {s u : List ℕ} → Unstuffs s u → unstuffed_in s ≡ length u
unfolding count_of
unstuffs_count none = refl
unstuffs_count (plain {b = b} n r) = let q = unstuffs_count r in simp (ne_eqb b 0xF3 n) (omega arith)
unstuffs_count (escape {k = k} l r) =
    let q = unstuffs_count r in simp (ne_eqb k 0xF3 (λ z. omega arith)) (omega arith)

-- a byte among `t`, which stand for one byte, and a byte after them
module _ (t s u : List ℕ) (y : ℕ) (one : Unstuffs t (y ∷ [])) where
  stands_first : (j : ℕ) → Unstuffs s u → j < length t → StandsFor (t ++ s) (y ∷ u) j 0
  stands_first j r h = record {
    inside = omega arith;
    before = [];
    here = t;
    after = s;
    splits = refl;
    not_before = omega arith;
    not_after = omega arith;
    before_is = none;
    here_is = one;
    after_is = r;
  }

  stands_later : (i j n m : ℕ) → i ≡ length t + j → m ≡ suc n → StandsFor s u j n → StandsFor (t ++ s) (y ∷ u) i m
  stands_later i j n m e f k = subst (StandsFor (t ++ s) (y ∷ u) i) (sym f) (record {
    inside = omega (arith, k.inside);
    before = t ++ k.before;
    here = k.here;
    after = k.after;
    splits = ap (λ (l : List ℕ). t ++ l) k.splits ∙ sym (append_assoc t k.before (k.here ++ k.after));
    not_before = omega (arith, e, k.not_before, length-append t k.before);
    not_after = omega (arith, e, k.not_after, length-append t k.before);
    before_is = unstuffs_append one k.before (take n u) k.before_is;
    here_is = k.here_is;
    after_is = k.after_is;
  })

-- Every stuffed byte is among those that stand for the unstuffed byte whose number is how many end before it.
pub unstuffs_place : {s u : List ℕ} → Unstuffs s u → (j : ℕ) → j < length s → StandsFor s u j (unstuffed_in (take j s))
unfolding count_of
unstuffs_place none j h = absurd (omega arith)
unstuffs_place (plain {b = b} {s = s} {u = u} n r) zero h =
    stands_first (b ∷ []) s u b (plain n none) 0 r (omega arith)
unstuffs_place (plain {b = b} {s = s} {u = u} n r) (suc j) h =
    let number = unstuffed_in (take j s) in
    let e : unstuffed_in (b ∷ take j s) ≡ suc number = simp (ne_eqb b 0xF3 n) (omega arith) in
    stands_later (b ∷ []) s u b (plain n none) (suc j) j number _ (omega arith) e (unstuffs_place r j (omega arith))
unstuffs_place (escape {k = c} {s = s} {u = u} l r) zero h =
    stands_first (0xF3 ∷ c ∷ []) s u (0xF0 + c) (escape l none) 0 r (omega arith)
unstuffs_place (escape {k = c} {s = s} {u = u} l r) (suc zero) h =
    stands_first (0xF3 ∷ c ∷ []) s u (0xF0 + c) (escape l none) 1 r (omega arith)
unstuffs_place (escape {k = c} {s = s} {u = u} l r) (suc (suc j)) h =
    let number = unstuffed_in (take j s) in
    let e : unstuffed_in (0xF3 ∷ c ∷ take j s) ≡ suc number =
    simp (ne_eqb c 0xF3 (λ z. omega arith)) (omega arith) in
    stands_later (0xF3 ∷ c ∷ []) s u (0xF0 + c) (escape l none) (suc (suc j)) j number _ (omega arith) e
    (unstuffs_place r j (omega arith))

-- what stands for nothing is nothing, and what stands for one byte is that byte or an escape
for_none : {s u : List ℕ} → Unstuffs s u → u ≡ [] → s ≡ []
for_none none e = refl
for_none (plain n r) e = absurd (omega (arith, ap length e))
for_none (escape l r) e = absurd (omega (arith, ap length e))

for_one : {s u : List ℕ} → Unstuffs s u → (y : ℕ) → u ≡ y ∷ [] → (s ≡ y ∷ []) ⊎ ((k : ℕ) × (s ≡ 0xF3 ∷ k ∷ []))
for_one none y e = absurd (omega (arith, ap length e))
for_one (plain {b = b} {u = u} n r) y e =
    let x : b ≡ y = cc in
    let t : u ≡ [] = cc in inl (ap (λ (l : List ℕ). b ∷ l) (for_none r t) ∙ ap (λ (c : ℕ). c ∷ []) x)
for_one (escape {k = k} {u = u} l r) y e =
    let t : u ≡ [] = cc in inr (k, ap (λ (l : List ℕ). 0xF3 ∷ k ∷ l) (for_none r t))

-- before the last of the bytes that stand for one byte, none ends
none_ends : (t : List ℕ) (y d : ℕ) → (t ≡ y ∷ []) ⊎ ((k : ℕ) × (t ≡ 0xF3 ∷ k ∷ [])) → d < length t
    → unstuffed_in (take d t) ≡ 0
unfolding count_of
none_ends t y zero e h = refl
none_ends t y (suc d) (inl e) h = absurd (omega (arith, ap length e))
none_ends t y (suc zero) (inr (k, e)) h = ap (λ (l : List ℕ). unstuffed_in (take 1 l)) e
none_ends t y (suc (suc d)) (inr (k, e)) h = absurd (omega (arith, ap length e))

-- A stuffed byte stands for one unstuffed byte alone: its number is how many end before it.
pub stands_once : {s u : List ℕ} (j n : ℕ) → StandsFor s u j n → n ≡ unstuffed_in (take j s)
stands_once {s} {u} j n k =
    let d = j - length k.before in
    let at : length k.before + d ≡ j = omega (arith, k.not_before) in
    let inside : d < length k.here = omega (arith, k.not_before, k.not_after) in
    let cut : take j s ≡ k.before ++ take d k.here =
    ap₂ take (sym at) k.splits ∙ take-append-add k.before (k.here ++ k.after) d
    ∙ ap (λ (l : List ℕ). k.before ++ l) (take-append-le d k.here k.after (omega arith)) in
    let whole : unstuffed_in k.before ≡ n =
    unstuffs_count k.before_is ∙ length-take-le n u (omega (arith, k.inside)) in
    let rest : unstuffed_in (take d k.here) ≡ 0 =
    none_ends k.here (get_or u n 0) d (for_one k.here_is (get_or u n 0) refl) inside in
    sym (ap unstuffed_in cut ∙ count_append ends_one k.before (take d k.here) ∙ omega (arith, whole, rest))

-- A stuffed byte that is neither F3 nor right after F3 stands for itself, and changed to another that is not F3 it
-- changes that one unstuffed byte and no other. The byte before all of them is `x`.
module _ {s u : List ℕ} (r : Unstuffs s u) (x j : ℕ) (h : j < length s) (no_escape : get_or s j 0 ≡ 0xF3 → ⊥)
    (not_escaped : get_or (x ∷ s) j 0 ≡ 0xF3 → ⊥) where
  abbrev number : ℕ
  number = unstuffed_in (take j s)

  place : StandsFor s u j number
  place = unstuffs_place r j h

  -- neither of the two bytes of an escape is such a byte
  escaped : (c : ℕ) → place.here ≡ 0xF3 ∷ c ∷ [] → ⊥
  escaped c e =
      let all : s ≡ place.before ++ (0xF3 ∷ c ∷ place.after) =
      place.splits ∙ ap (λ (l : List ℕ). place.before ++ (l ++ place.after)) e in
      by_bool (eqb (length place.before) j)
      (λ y. no_escape
      (ap (λ (l : List ℕ). get_or l j 0) all ∙ get_or_at place.before 0xF3 (c ∷ place.after) 0 j (eqb-true _ _ y)))
      (λ y. let n = eqb-false (length place.before) j y in
      not_escaped
      (ap (λ (l : List ℕ). get_or (x ∷ l) j 0) all
      ∙ get_or_at (x ∷ place.before) 0xF3 (c ∷ place.after) 0 j (omega (arith, n, place.not_before, place.not_after, ap length e))))

  alone : place.here ≡ get_or u number 0 ∷ []
  alone = of_either (for_one place.here_is (get_or u number 0) refl)
    where
      of_either : (place.here ≡ get_or u number 0 ∷ []) ⊎ ((c : ℕ) × (place.here ≡ 0xF3 ∷ c ∷ []))
          → place.here ≡ get_or u number 0 ∷ []
      of_either (inl e) = e
      of_either (inr (c, e)) = absurd (escaped c e)

  at : length place.before ≡ j
  at = omega (arith, place.not_before, place.not_after, ap length alone)

  splits_there : s ≡ place.before ++ (get_or u number 0 ∷ place.after)
  splits_there = place.splits ∙ ap (λ (l : List ℕ). place.before ++ (l ++ place.after)) alone

  pub unstuffs_itself : get_or u number 0 ≡ get_or s j 0
  unstuffs_itself =
      sym (ap (λ (l : List ℕ). get_or l j 0) splits_there ∙ get_or_at place.before (get_or u number 0) place.after 0 j at)

  pub unstuffs_changed : (b : ℕ) → (b ≡ 0xF3 → ⊥) → Unstuffs (set s j b) (set u number b)
  unstuffs_changed b n =
      let there : set s j b ≡ place.before ++ (b ∷ place.after) =
      ap (λ (l : List ℕ). set l j b) splits_there ∙ set_at place.before (get_or u number 0) place.after b j at in
      subst (λ (l : List ℕ). Unstuffs l (set u number b)) (sym there)
      (subst (Unstuffs (place.before ++ (b ∷ place.after))) (sym (set_split u number b place.inside))
      (unstuffs_append place.before_is (b ∷ place.after) (b ∷ drop (suc number) u) (plain n place.after_is)))
