-- Laws on a test that no element of a list passes, and on how many do.
use Prim.Native.Nat.{ℕ, zero, suc, ◌+◌, ◌-◌, ◌≤◌, ◌<◌}
use mathlib.Core.Path.{◌≡◌, refl, sym, ap, ◌∙◌}
use mathlib.Core.Bool.{Bool, true, false, true≢false}
use mathlib.Core.List.{List, [], ◌∷◌, ◌++◌}
use native.Mathlib.Omega.{arith}
use native.Mathlib.Numerals.{add-one}
use lib.Bits.{bit_or}
use lib.Dec.{leb, eqb}
use lib.ListN.{length, get_or, take, drop, drop_of_length-le}
use lib.Seq.{take-suc, drop-cons}
use borrow.Author.Tests.{leb-true, le-leb}
use Rattle.lists.specs.Choice.{pick, within, none_of, count_of, Every}
use Rattle.lists.proofs.Cases.{by_bool, both_true}
use Rattle.lists.proofs.Lists.{last_apart}

-- A number within bounds.
pub within_yes : (low high n : ℕ) → low ≤ n → n ≤ high → within low high n ≡ true
within_yes low high n h k = simp (le-leb low n h, le-leb n high k)

pub within_true : (low high n : ℕ) → within low high n ≡ true → (low ≤ n) × (n ≤ high)
within_true low high n e =
    let p = both_true (leb low n) (leb n high) e in
    (leb-true low n p.0, leb-true n high p.1)

module _ (p : ℕ → Bool) where
  pub none_append : (a b : List ℕ) → none_of p (a ++ b) ≡ pick (none_of p a) (none_of p b) false
  unfolding none_of
  none_append [] b = refl
  none_append (x ∷ a) b = by_bool (p x) (λ y. simp y) (λ n. simp n (none_append a b))

  pub none_drop : (k : ℕ) (s : List ℕ) → none_of p s ≡ true → none_of p (drop k s) ≡ true
  unfolding none_of
  none_drop zero s h = h
  none_drop (suc k) [] h = refl
  none_drop (suc k) (x ∷ s) h =
      by_bool (p x) (λ y. absurd (true≢false (sym h ∙ simp y))) (λ n. none_drop k s (simp n at h))

  -- no element passes exactly where the element at no index does
  pub none_at : (s : List ℕ) → none_of p s ≡ true → (i : ℕ) → i < length s → p (get_or s i 0) ≡ false
  unfolding none_of
  none_at [] h i k = absurd (omega arith)
  none_at (x ∷ s) h zero k = by_bool (p x) (λ y. absurd (true≢false (sym h ∙ simp y))) (λ n. n)
  none_at (x ∷ s) h (suc i) k =
      by_bool (p x) (λ y. absurd (true≢false (sym h ∙ simp y))) (λ n. none_at s (simp n at h) i (omega arith))

  pub at_none : (s : List ℕ) → ((i : ℕ) → i < length s → p (get_or s i 0) ≡ false) → none_of p s ≡ true
  unfolding none_of
  at_none [] h = refl
  at_none (x ∷ s) h = simp (h 0 (omega arith), at_none s (λ i k. h (suc i) (omega arith)))

  -- the first elements with one more
  more : (s : List ℕ) (i : ℕ) → i < length s
      → none_of p (take (i + 1) s) ≡ pick (none_of p (take i s)) (pick (p (get_or s i 0)) false true) false
  unfolding none_of
  more s i h =
      ap (λ (n : ℕ). none_of p (take n s)) (add-one i) ∙ ap (none_of p) (take-suc s i 0 h)
      ∙ none_append (take i s) (get_or s i 0 ∷ [])

  -- a loop that gathers, as 0 or 1, whether an element has passed
  pub mark_more : (s : List ℕ) (i seen hit : ℕ) → i < length s → seen ≡ pick (none_of p (take i s)) 0 1
      → hit ≡ pick (p (get_or s i 0)) 1 0
      → bit_or seen hit ≡ pick (none_of p (take (i + 1) s)) 0 1
  mark_more s i seen hit h e f =
      ap (λ (m : ℕ). bit_or m hit) e ∙ ap (bit_or (pick (none_of p (take i s)) 0 1)) f
      ∙ joined (none_of p (take i s)) (p (get_or s i 0))
      ∙ sym (ap (λ (t : Bool). pick {A = ℕ} t 0 1) (more s i h))
    where
      joined : (t u : Bool) → bit_or (pick t 0 1) (pick u 1 0) ≡ pick (pick t (pick u false true) false) 0 1
      joined true true = refl
      joined true false = refl
      joined false true = refl
      joined false false = refl

  -- the same, where the mark is set as soon as an element passes
  pub see_more : (s : List ℕ) (i seen : ℕ) → i < length s → seen ≡ pick (none_of p (take i s)) 0 1
      → pick (p (get_or s i 0)) 1 seen ≡ pick (none_of p (take (i + 1) s)) 0 1
  see_more s i seen h e =
      ap (pick (p (get_or s i 0)) 1) e ∙ joined (none_of p (take i s)) (p (get_or s i 0))
      ∙ sym (ap (λ (t : Bool). pick {A = ℕ} t 0 1) (more s i h))
    where
      joined : (t u : Bool) → pick u 1 (pick t 0 1) ≡ pick {A = ℕ} (pick t (pick u false true) false) 0 1
      joined true true = refl
      joined true false = refl
      joined false true = refl
      joined false false = refl

  -- where the last element does not pass, the others decide whether any does
  pub none_last : (s : List ℕ) → 1 ≤ length s → p (get_or s (length s - 1) 0) ≡ false
      → none_of p s ≡ none_of p (take (length s - 1) s)
  unfolding none_of
  none_last s h n =
      ap (none_of p) (last_apart s h) ∙ none_append (take (length s - 1) s) (get_or s (length s - 1) 0 ∷ [])
      ∙ by_bool (none_of p (take (length s - 1) s)) (λ y. simp (y, n)) (λ y. simp (y, n))

  -- a loop that counts the elements that pass
  pub count_at : (s : List ℕ) (i : ℕ) → i < length s
      → count_of p (drop i s) ≡ pick (p (get_or s i 0)) 1 0 + count_of p (drop (i + 1) s)
  unfolding count_of
  count_at s i h = rw (add-one, drop-cons s i 0 h)

  pub count_end : (s : List ℕ) (i : ℕ) → length s ≤ i → count_of p (drop i s) ≡ 0
  unfolding count_of
  count_end s i h = ap (count_of p) (drop_of_length-le s h)

  pub count_append : (a b : List ℕ) → count_of p (a ++ b) ≡ count_of p a + count_of p b
  unfolding count_of
  count_append [] b = omega arith
  count_append (x ∷ a) b = omega (arith, count_append a b)

  pub count_most : (s : List ℕ) → count_of p s ≤ length s
  unfolding count_of
  count_most [] = omega arith
  count_most (x ∷ s) = let h = count_most s in by_bool (p x) (λ y. simp y (omega arith)) (λ n. simp n (omega arith))

  -- where no element passes a test, none passes one that asks for more
  pub none_stronger : (q : ℕ → Bool) → ((x : ℕ) → q x ≡ true → p x ≡ true) → (s : List ℕ) → none_of p s ≡ true
      → none_of q s ≡ true
  unfolding none_of
  none_stronger q more [] h = refl
  none_stronger q more (x ∷ s) h =
      by_bool (p x)
      (λ y. absurd (true≢false (sym h ∙ simp y)))
      (λ n. let rest = none_stronger q more s (simp n at h) in
      by_bool (q x) (λ y. absurd (true≢false (sym (more x y) ∙ n))) (λ m. simp m rest))

  -- Where none passes, every element has what those have that don't pass, and the other way round.
  pub none_every : (P : ℕ → Type 0) → ((x : ℕ) → p x ≡ false → P x) → (s : List ℕ) → none_of p s ≡ true → Every P s
  unfolding none_of
  none_every P each [] h = tt
  none_every P each (x ∷ s) h =
      by_bool (p x) (λ y. absurd (true≢false (sym h ∙ simp y))) (λ n. (each x n, none_every P each s (simp n at h)))

  pub every_none : (P : ℕ → Type 0) → ((x : ℕ) → P x → p x ≡ false) → (s : List ℕ) → Every P s → none_of p s ≡ true
  unfolding none_of
  every_none P each [] h = refl
  every_none P each (x ∷ s) h = simp (each x h.0) (every_none P each s h.1)

-- what such a loop has gathered at its end
pub mark_all : (t : Bool) → eqb (pick t 0 1) 0 ≡ t
mark_all true = refl
mark_all false = refl
