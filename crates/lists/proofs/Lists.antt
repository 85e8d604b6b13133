-- Laws on parts of lists.
use Prim.Native.Nat.{ℕ, zero, suc, ◌+◌, ◌-◌, ◌≤◌, ◌<◌}
use mathlib.Core.Path.{◌≡◌, refl, sym, ap, ◌∙◌}
use mathlib.Core.List.{List, [], ◌∷◌, ◌++◌, map, append_assoc}
use native.Mathlib.Numerals.{add-one}
use native.Mathlib.Omega.{arith}
use lib.Dec.{leb}
use lib.ListN.{length, get_or, take, drop, set, length-drop, take-append-drop}
use lib.Seq.{take-suc, drop-cons, set_at, length-take-le, drop-drop, drop-append-add, drop-append-le}
use lib.Seq.{take_all, take-add, drop_at}
use borrow.Author.Tests.{leb-true, leb-false}
use Rattle.lists.specs.Choice.{pick, Every}
use Rattle.lists.proofs.Cases.{by_bool}

-- The two elements at an index, and the rest.
pub drop_two : (s : List ℕ) (at : ℕ) → at + 1 < length s → drop at s ≡ get_or s at 0 ∷ get_or s (at + 1) 0 ∷ drop (at + 2) s
drop_two s at k =
    let e : suc (at + 1) ≡ at + 2 = omega arith in
    drop-cons s at 0 (omega arith)
    ∙ ap (λ (l : List ℕ). get_or s at 0 ∷ l)
    (ap (λ (n : ℕ). drop n s) (sym (add-one at)) ∙ drop-cons s (at + 1) 0 k
    ∙ ap (λ (n : ℕ). get_or s (at + 1) 0 ∷ drop n s) e)

-- One element more of v at the front of d.
pub fill : (v d : List ℕ) (k b : ℕ) (rest : List ℕ) → drop k v ≡ b ∷ rest → k < length d
    → (rest ≡ drop (k + 1) v) × (set (take k v ++ drop k d) k b ≡ take (k + 1) v ++ drop (k + 1) d)
fill v d k b rest e h =
    let within : k < length v = omega (arith, length-drop k v, ap length e) in
    let p : get_or v k 0 ∷ drop (suc k) v ≡ b ∷ rest = sym (drop-cons v k 0 within) ∙ e in
    let x : get_or v k 0 ≡ b = cc in
    let r : rest ≡ drop (suc k) v = cc in (
      rw add-one r,
      rw add-one
          (ap (λ (l : List ℕ). set (take k v ++ l) k b) (drop-cons d k 0 h)
          ∙ set_at (take k v) (get_or d k 0) (drop (suc k) d) b k (length-take-le k v (omega arith))
          ∙ ap (λ (y : ℕ). take k v ++ (y ∷ drop (suc k) d)) (sym x)
          ∙ sym (append_assoc (take k v) (get_or v k 0 ∷ []) (drop (suc k) d))
          ∙ ap (λ (l : List ℕ). l ++ drop (suc k) d) (sym (take-suc v k 0 within))),
    )

-- A list whose first k elements were changed is as it was behind them.
module _ (s s₀ p : List ℕ) (k : ℕ) (e : s ≡ p ++ drop k s₀) (l : length p ≡ k) where
  pub drop_behind : (at : ℕ) → k ≤ at → drop at s ≡ drop at s₀
  drop_behind at h =
      let m : length p + (at - k) ≡ at = omega arith in
      let n : k + (at - k) ≡ at = omega arith in
      ap (drop at) e
      ∙ ap (λ (i : ℕ). drop i (p ++ drop k s₀)) (sym m)
      ∙ drop-append-add p (drop k s₀) (at - k)
      ∙ drop-drop (at - k) k s₀
      ∙ ap (λ (i : ℕ). drop i s₀) n

-- A part that was changed at its front, put back into the whole.
pub back_in : (s last c : List ℕ) (n : ℕ) → n ≤ length s → length c ≤ n → last ≡ c ++ drop (length c) (take n s)
    → last ++ drop n s ≡ c ++ drop (length c) s
back_in s last c n h k e =
    ap (λ (l : List ℕ). l ++ drop n s) e
    ∙ append_assoc c (drop (length c) (take n s)) (drop n s)
    ∙ ap (λ (l : List ℕ). c ++ l) (sym seam ∙ ap (drop (length c)) (take-append-drop n s))
  where
    seam : drop (length c) (take n s ++ drop n s) ≡ drop (length c) (take n s) ++ drop n s
    seam = drop-append-le (length c) (take n s) (drop n s) (omega (arith, length-take-le n s h))

-- The first elements, where the number of them is cut to the list's length.
pub take_lesser : (s : List ℕ) (len n : ℕ) → n ≡ pick (leb len (length s)) len (length s)
    → (take n s ≡ take len s) × (n ≤ length s)
take_lesser s len n e =
    by_bool (leb len (length s))
    (λ y. let q : n ≡ len = simp y at e in
    let h : len ≤ length s = leb-true _ _ y in (ap (λ (m : ℕ). take m s) q, omega arith))
    (λ y. let q : n ≡ length s = simp y at e in
    let h : length s < len = leb-false _ _ y in
    (take_all n s (omega arith) ∙ sym (take_all len s (omega arith)), omega arith))

-- The part from an index on, as code takes it.
pub rest_part : (s : List ℕ) (at : ℕ) → take (length s - at) (drop at s) ≡ drop at s
rest_part s at = take_all (length s - at) (drop at s) (omega (arith, length-drop at s))

-- The first elements are at most so many, and at most those of the list.
pub take_bounds : (n : ℕ) (s : List ℕ) → (length (take n s) ≤ n) × (length (take n s) ≤ length s)
take_bounds zero s = (omega arith, omega arith)
take_bounds (suc n) [] = (omega arith, omega arith)
take_bounds (suc n) (x ∷ s) =
    let k = take_bounds n s in (omega (arith, k.0), omega (arith, k.1))

-- Of a list with an element they are at least one.
pub take_some : (n : ℕ) (s : List ℕ) → 1 ≤ n → 1 ≤ length s → 1 ≤ length (take n s)
take_some zero s h k = absurd (omega (arith, h))
take_some (suc n) [] h k = absurd (omega (arith, k))
take_some (suc n) (x ∷ s) h k = omega arith

-- The first elements, each changed.
pub take-map : {A B : Type 0} (f : A → B) (n : ℕ) (s : List A) → take n (map f s) ≡ map f (take n s)
take-map f zero s = refl
take-map f (suc n) [] = refl
take-map f (suc n) (x ∷ s) = ap (λ l. f x ∷ l) (take-map f n s)

-- The last element by itself.
pub last_apart : (s : List ℕ) → 1 ≤ length s → s ≡ take (length s - 1) s ++ (get_or s (length s - 1) 0 ∷ [])
last_apart s h =
    let n : suc (length s - 1) ≡ length s = omega arith in
    sym (take_all (suc (length s - 1)) s (omega arith)) ∙ take-suc s (length s - 1) 0 (omega arith)

-- A store right after the first elements, over at most one other that was changed there.
pub set_over : (p out out₀ more : List ℕ) (k v : ℕ) → length p ≡ k → length more ≤ 1 → k < length out₀
    → out ≡ p ++ (more ++ drop (k + length more) out₀)
    → set out k v ≡ p ++ (v ∷ drop (k + 1) out₀)
set_over p out out₀ [] k v l m h e =
    let n : k + 0 ≡ k = omega arith in
    ap (λ (x : List ℕ). set x k v)
    (e ∙ ap (λ (i : ℕ). p ++ drop i out₀) n ∙ ap (λ (x : List ℕ). p ++ x) (drop-cons out₀ k 0 h))
    ∙ set_at p (get_or out₀ k 0) (drop (suc k) out₀) v k l ∙ ap (λ (i : ℕ). p ++ (v ∷ drop i out₀)) (sym (add-one k))
set_over p out out₀ (x ∷ []) k v l m h e = ap (λ (y : List ℕ). set y k v) e ∙ set_at p x (drop (k + 1) out₀) v k l
set_over p out out₀ (x ∷ y ∷ more) k v l m h e = absurd (omega arith)

-- The first elements from an index on.
pub drop-take : (a k : ℕ) (s : List ℕ) → a + k ≤ length s → drop a (take (a + k) s) ≡ take k (drop a s)
drop-take a k s h =
    let n : length (take a s) ≡ a = length-take-le a s (omega arith) in
    ap (drop a) (take-add a k s) ∙ drop_at (take a s) (take k (drop a s)) a n

-- Every element has a property where one is exchanged for another that has it.
pub every_set : {A : Type 0} (P : A → Type 0) (s : List A) (i : ℕ) (a : A) → Every P s → P a → Every P (set s i a)
every_set P [] i a h k = h
every_set P (x ∷ s) zero a h k = (k, h.1)
every_set P (x ∷ s) (suc i) a h k = (h.0, every_set P s i a h.1 k)

-- Lists that are alike have the same last element.
pub last_same : {A : Type 0} (s t : List A) (x y : A) → s ++ x ∷ [] ≡ t ++ y ∷ [] → x ≡ y
last_same {A} s t x y e = sym (last_is x s x) ∙ ap (last_of x) e ∙ last_is x t y
  where
    last_of : A → List A → A
    last_of a [] = a
    last_of a (b ∷ l) = last_of b l

    last_is : (a : A) (l : List A) (z : A) → last_of a (l ++ z ∷ []) ≡ z
    last_is a [] z = refl
    last_is a (b ∷ l) z = last_is b l z
