-- Laws on how many elements of a list stand before the first that passes a test.
use Prim.Native.Nat.{ℕ, zero, suc, ◌+◌, ◌-◌, ◌%◌, ◌≤◌, ◌<◌}
use mathlib.Core.Path.{◌≡◌, refl, sym, ap, ◌∙◌}
use mathlib.Core.Bool.{Bool, true, false, true≢false}
use mathlib.Core.List.{List, [], ◌∷◌}
use native.Mathlib.Nat.{zero-add, div-add-mod, mod-lt}
use native.Mathlib.Numerals.{add-one}
use native.Mathlib.Omega.{arith}
use lib.ListN.{length, take, drop, get_or, length-drop, drop_of_length-le}
use lib.Seq.{drop-cons, drop-drop}
use Rattle.lists.specs.Choice.{pick, none_of, count_before, in_blocks}
use Rattle.lists.proofs.Cases.{by_bool}

-- what a mark tells
pub marked : (t : Bool) (m : ℕ) → m ≡ pick t 1 0 → m ≡ 1 → t ≡ true
marked true m e h = refl
marked false m e h = absurd (omega arith)

pub unmarked : (t : Bool) (m : ℕ) → m ≡ pick t 1 0 → (m ≡ 1 → ⊥) → t ≡ false
unmarked true m e h = absurd (h e)
unmarked false m e h = refl

module _ (p : ℕ → Bool) where
  -- a loop that looks at one element after the other
  before_at : (s : List ℕ) (i : ℕ) → i < length s
      → count_before p (drop i s) ≡ pick (p (get_or s i 0)) 0 (1 + count_before p (drop (i + 1) s))
  unfolding count_before
  before_at s i h =
      ap (count_before p) (drop-cons s i 0 h)
      ∙ ap (λ (n : ℕ). pick (p (get_or s i 0)) 0 (1 + count_before p (drop n s))) (sym (add-one i))

  pub before_here : (s : List ℕ) (i : ℕ) → i < length s → p (get_or s i 0) ≡ true
      → count_before p s ≡ i + count_before p (drop i s) → i ≡ count_before p s
  before_here s i h e so_far =
      let q : count_before p (drop i s) ≡ 0 = before_at s i h ∙ simp e in omega (arith, so_far, q)

  pub before_more : (s : List ℕ) (i : ℕ) → i < length s → p (get_or s i 0) ≡ false
      → count_before p s ≡ i + count_before p (drop i s)
      → count_before p s ≡ i + 1 + count_before p (drop (i + 1) s)
  before_more s i h e so_far =
      let q : count_before p (drop i s) ≡ 1 + count_before p (drop (i + 1) s) = before_at s i h ∙ simp e in
      omega (arith, so_far, q)

  pub before_end : (s : List ℕ) (i : ℕ) → length s ≤ i → count_before p s ≡ i + count_before p (drop i s)
      → i ≡ count_before p s
  unfolding count_before
  before_end s i h so_far =
      let q : count_before p (drop i s) ≡ 0 = ap (count_before p) (drop_of_length-le s {i = i} h) in
      omega (arith, so_far, q)

  -- A part in which no element passes.
  pub clear_front : (n : ℕ) (s : List ℕ) → n ≤ length s → none_of p (take n s) ≡ true
      → count_before p s ≡ n + count_before p (drop n s)
  unfolding count_before none_of
  clear_front zero s h e = sym (zero-add (count_before p s))
  clear_front (suc n) [] h e = absurd (omega arith)
  clear_front (suc n) (x ∷ s) h e =
      by_bool (p x)
      (λ y. absurd (true≢false (sym e ∙ simp y)))
      (λ k. let q : count_before p s ≡ n + count_before p (drop n s) = clear_front n s (omega arith) (simp k at e) in
      simp k (omega (arith, q)))

  pub before_block : (s : List ℕ) (i n : ℕ) (clear : Bool) → i + n ≤ length s
      → clear ≡ none_of p (take (i + n - i) (drop i s)) → clear ≡ true
      → count_before p s ≡ i + count_before p (drop i s) → count_before p s ≡ i + n + count_before p (drop (i + n) s)
  before_block s i n clear h e y so_far =
      let m : i + n - i ≡ n = omega arith in
      let none : none_of p (take n (drop i s)) ≡ true =
      ap (λ (k : ℕ). none_of p (take k (drop i s))) (sym m) ∙ sym e ∙ y in
      let q : count_before p (drop i s) ≡ n + count_before p (drop (i + n) s) =
      clear_front n (drop i s) (omega (arith, length-drop i s)) none
      ∙ ap (λ (l : List ℕ). n + count_before p l) (drop-drop n i s) in
      omega (arith, so_far, q)

  -- A part in which an element passes.
  pub before_inside : (n : ℕ) (s : List ℕ) → none_of p (take n s) ≡ false → count_before p s < n
  unfolding count_before none_of
  before_inside zero s e = absurd (true≢false e)
  before_inside (suc n) [] e = absurd (true≢false e)
  before_inside (suc n) (x ∷ s) e =
      by_bool (p x) (λ y. simp y (omega arith))
      (λ k. let q : count_before p s < n = before_inside n s (simp k at e) in simp k (omega (arith, q)))

  -- the same of a block, as the code tests it
  pub block_inside : (s : List ℕ) (i n : ℕ) (clear : Bool) → clear ≡ none_of p (take (i + n - i) (drop i s))
      → clear ≡ false → count_before p (drop i s) < n
  block_inside s i n clear e f =
      let m : i + n - i ≡ n = omega arith in
      before_inside n (drop i s) (ap (λ (k : ℕ). none_of p (take k (drop i s))) (sym m) ∙ sym e ∙ f)

  -- the elements counted are elements of the list
  pub before_fits : (s : List ℕ) → count_before p s ≤ length s
  unfolding count_before
  before_fits [] = omega arith
  before_fits (x ∷ s) = let h = before_fits s in by_bool (p x) (λ y. simp y (omega arith)) (λ n. simp n (omega arith))

  -- where less than a block is left
  pub rest_inside : (s : List ℕ) (i n : ℕ) → i ≤ length s → length s - i < n → count_before p (drop i s) < n
  rest_inside s i n h l = omega (arith, before_fits (drop i s), length-drop i s)

  -- what whole blocks leave over fills none
  pub whole_blocks : (s : List ℕ) (r : ℕ) → count_before p s ≡ r + count_before p (drop r s)
      → count_before p (drop r s) < 32 → r % 32 ≡ 0 % 32 → r ≡ in_blocks (count_before p s)
  whole_blocks s r e l m =
      let c = count_before p s in
      omega (arith, div-add-mod c 32, div-add-mod r 32, mod-lt c {m = 32} (omega arith), e, l, m)

  -- no element that is counted passes
  pub before_clear : (s : List ℕ) → none_of p (take (count_before p s) s) ≡ true
  unfolding count_before none_of
  before_clear [] = refl
  before_clear (x ∷ s) =
      by_bool (p x)
      (λ y. simp y)
      (λ n. let m : 1 + count_before p s ≡ suc (count_before p s) = omega arith in
      let r : none_of p (take (suc (count_before p s)) (x ∷ s)) ≡ true = simp n (before_clear s) in
      simp n (ap (λ (k : ℕ). none_of p (take k (x ∷ s))) m ∙ r))
