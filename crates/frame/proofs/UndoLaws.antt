-- Laws of escapes undone byte by byte, and of the last unstuffed byte.
use Prim.Native.Nat.{ℕ, suc, ◌+◌, ◌-◌, ◌≤◌, ◌<◌}
use mathlib.Core.Path.{◌≡◌, refl, sym, ap, ◌∙◌}
use mathlib.Core.Bool.{Bool, true, false, true≢false}
use mathlib.Core.List.{List, [], ◌∷◌, ◌++◌, append_assoc}
use native.Mathlib.Nat.{add-zero}
use native.Mathlib.Numerals.{add-one}
use native.Mathlib.Omega.{arith}
use lib.Dec.{leb, eqb}
use lib.ListN.{length, get_or, take, drop, set, length-drop, length-append, length-set, drop_of_length-le, take-append-drop}
use lib.Seq.{drop-cons, take-suc, take_all, take_at, length-take-le, drop-drop, get_or-drop, get_or-take}
use borrow.Author.Tests.{leb-true, leb-false, eqb-true, eqb-false}
use Rattle.lists.specs.Choice.{pick}
use Rattle.lists.specs.Splice.{splice}
use Rattle.lists.proofs.Cases.{by_bool}
use Rattle.lists.proofs.Lists.{set_over, drop_behind, drop_two}
use Rattle.frame.specs.Stuffing.{Unstuffed, bad_escape, bytes, prepend, unstuff}
use Rattle.frame.specs.Private.{is_escape, lifts, good_pair, is_sound, last_at, unstuffed_bytes}
use Rattle.frame.proofs.StuffingLaws.{prepend_inv}
use Rattle.frame.proofs.EscapeLaws.{low_no, sound_bytes, good, good_unstuff}

-- ---- one byte

-- a byte taken from sound stuffed bytes: an escape, after which something follows, or the next unstuffed byte
abbrev Taken : Bool → ℕ → List ℕ → List ℕ → Type 0
Taken pending b rest u =
    (unstuff (is_escape b) rest ≡ bytes (pick (is_escape b) u (drop 1 u))) × (1 ≤ length u)
    × (is_escape b ≡ false → u ≡ (b + lifts pending) ∷ drop 1 u) × (pending ≡ true → b ≤ 3)

-- something follows an escape
pending_some : (s u : List ℕ) → unstuff true s ≡ bytes u → 1 ≤ length u
unfolding unstuff
pending_some [] u e = let z : ◌≡◌ {A = ℕ} 0 1 = cc in absurd (omega arith)
pending_some (b ∷ s) u e =
    by_bool (leb b 3)
    (λ y. let p = prepend_inv (0xF0 + b) (unstuff false s) u (simp y at e) in omega (arith, ap length p.2))
    (λ n. let q : bad_escape ≡ bytes u = simp n at e in
    let z : ◌≡◌ {A = ℕ} 0 1 = cc in absurd (omega arith))

taken : (pending : Bool) (b : ℕ) (rest u : List ℕ) → unstuff pending (b ∷ rest) ≡ bytes u → Taken pending b rest u
unfolding unstuff
taken false b rest u e =
    by_bool (is_escape b)
    (λ y. let q : unstuff true rest ≡ bytes u = simp y at e in
    simp y (q, pending_some rest u q, (λ n. absurd (true≢false n)), (λ n. absurd (true≢false (sym n)))))
    (λ n. let p = prepend_inv b (unstuff false rest) u (simp n at e) in
    let v : drop 1 u ≡ p.0 = ap (drop 1) p.2 in
    simp n (
      p.1 ∙ ap bytes (sym v),
      omega (arith, ap length p.2),
      (λ x. p.2 ∙ ap (λ (m : ℕ). m ∷ p.0) (sym (add-zero b)) ∙ ap (λ (l : List ℕ). (b + 0) ∷ l) (sym v)),
      (λ x. absurd (true≢false (sym x))),
    ))
taken true b rest u e =
    by_bool (leb b 3)
    (λ y. let p = prepend_inv (0xF0 + b) (unstuff false rest) u (simp y at e) in
    let v : drop 1 u ≡ p.0 = ap (drop 1) p.2 in
    let c : 0xF0 + b ≡ b + 0xF0 = omega arith in
    simp (low_no b y) (
      p.1 ∙ ap bytes (sym v),
      omega (arith, ap length p.2),
      (λ x. p.2 ∙ ap (λ (m : ℕ). m ∷ p.0) c ∙ ap (λ (l : List ℕ). (b + 0xF0) ∷ l) (sym v)),
      (λ x. leb-true b 3 y),
    ))
    (λ n. let q : bad_escape ≡ bytes u = simp n at e in
    let z : ◌≡◌ {A = ℕ} 0 1 = cc in absurd (omega arith))

empty : (l : List ℕ) → length l ≡ 0 → l ≡ []
empty [] e = refl
empty (x ∷ l) e = absurd (omega arith)

-- a byte that an escape lifts is 00 to 03
pub lift_fits : (pending : Bool) (b above : ℕ) → above ≡ lifts pending → (pending ≡ true → b ≤ 3) → b ≤ 0xFF
    → b + above ≤ 0xFF
lift_fits true b above e low h = let l = low refl in omega arith
lift_fits false b above e low h = omega arith

pub fill_most : (t : Bool) → (pick t 0 1 ≤ 1) × (pick t 0 1 + pick t 1 0 ≡ 1)
fill_most true = (omega arith, refl)
fill_most false = (omega arith, refl)

-- ---- the loop

-- i of the stuffed bytes were taken, and k bytes of u stand first in out, where out₀ was. Where an escape was taken last,
-- one place more was written.
pub record Undone (s u out₀ : List ℕ) (pending : Bool) (i k : ℕ) (out : List ℕ) : Type 0 where
  pub left : unstuff pending (drop i s) ≡ bytes (drop k u)
  pub few : k ≤ length u
  pub more : List ℕ
  pub over : length more ≡ pick pending 1 0
  pub now : out ≡ take k u ++ (more ++ drop (k + length more) out₀)
  pub size : length out ≡ length out₀

pub undone_none : (s u out₀ : List ℕ) (i : ℕ) → unstuff false (drop i s) ≡ bytes u → Undone s u out₀ false i 0 out₀
undone_none s u out₀ i e =
    record { left = e; few = omega arith; more = []; over = refl; now = refl; size = refl }

module _ (s u out₀ : List ℕ) (pending : Bool) (i k : ℕ) (out : List ℕ) (inv : Undone s u out₀ pending i k out)
    (room : length u ≤ length out₀) where
  -- places that were not written are as they were
  pub undone_behind : (at : ℕ) → k + pick pending 1 0 ≤ at → drop at out ≡ drop at out₀
  undone_behind at h =
      drop_behind out out₀ (take k u ++ inv.more) (k + length inv.more)
      (inv.now ∙ sym (append_assoc (take k u) inv.more (drop (k + length inv.more) out₀)))
      (length-append (take k u) inv.more ∙ ap (λ (n : ℕ). n + length inv.more) (length-take-le k u inv.few)) at
      (omega (arith, inv.over))

  module _ (h : i < length s) where
    abbrev b : ℕ
    b = get_or s i 0

    next : Taken pending b (drop (i + 1) s) (drop k u)
    next =
        taken pending b (drop (i + 1) s) (drop k u)
        (ap (unstuff pending) (sym (drop-cons s i 0 h ∙ ap (λ (n : ℕ). b ∷ drop n s) (sym (add-one i)))) ∙ inv.left)

    pub undone_place : k < length u
    undone_place = omega (arith, next.1, length-drop k u)

    pub undone_low : pending ≡ true → b ≤ 3
    undone_low y = next.3 y

    pub undone_more : (above : ℕ) → above ≡ lifts pending
        → Undone s u out₀ (is_escape b) (i + 1) (k + pick (is_escape b) 0 1) (set out k (b + above))
    undone_more above l = told (is_escape b) next.0 next.2
      where
        v : ℕ
        v = b + above

        marked : (p : Bool) → length inv.more ≡ pick p 1 0 → length inv.more ≤ 1
        marked true e = omega arith
        marked false e = omega arith

        stored : set out k v ≡ take k u ++ (v ∷ drop (k + 1) out₀)
        stored =
            set_over (take k u) out out₀ inv.more k v (length-take-le k u inv.few) (marked pending inv.over)
            (omega (arith, undone_place)) inv.now

        rest : drop 1 (drop k u) ≡ drop (k + 1) u
        rest =
            drop-drop 1 k u

        told : (p : Bool) → unstuff p (drop (i + 1) s) ≡ bytes (pick p (drop k u) (drop 1 (drop k u)))
            → (p ≡ false → drop k u ≡ (b + lifts pending) ∷ drop 1 (drop k u))
            → Undone s u out₀ p (i + 1) (k + pick p 0 1) (set out k v)
        told true e f =
            let z : k + 0 ≡ k = omega arith in
            record {
              left = e ∙ ap (λ (n : ℕ). bytes (drop n u)) (sym z);
              few = omega (arith, undone_place);
              more = v ∷ [];
              over = refl;
              now =
                  stored ∙ ap (λ (n : ℕ). take n u ++ (v ∷ drop (n + 1) out₀)) (sym z);
              size = length-set out k v ∙ inv.size;
            }
        told false e f =
            let z : k + 1 + 0 ≡ k + 1 = omega arith in
            record {
              left = e ∙ ap bytes rest;
              few = omega (arith, undone_place);
              more = [];
              over = refl;
              now =
                  stored
                  ∙ sym (append_assoc (take k u) (v ∷ []) (drop (k + 1) out₀))
                  ∙ ap (λ (l : List ℕ). l ++ drop (k + 1) out₀) (sym (one (f refl)))
                  ∙ ap (λ (n : ℕ). take (k + 1) u ++ drop n out₀) (sym z);
              size = length-set out k v ∙ inv.size;
            }
          where
            one : drop k u ≡ (b + lifts pending) ∷ drop 1 (drop k u) → take (k + 1) u ≡ take k u ++ (v ∷ [])
            one q =
                let x : get_or u k 0 ≡ b + lifts pending =
                sym (ap (λ (n : ℕ). get_or u n 0) (add-zero k)) ∙ sym (get_or-drop k u 0 0)
                ∙ ap (λ (l : List ℕ). get_or l 0 0) q in
                ap (λ (n : ℕ). take n u) (add-one k) ∙ take-suc u k 0 undone_place
                ∙ ap (λ (y : ℕ). take k u ++ (y ∷ [])) (x ∙ ap (λ (n : ℕ). b + n) (sym l))

  pub undone_all : length s ≤ i → out ≡ splice out₀ 0 u
  unfolding unstuff
  undone_all h = told pending inv.over (ap (unstuff pending) (sym (drop_of_length-le s h)) ∙ inv.left)
    where
      told : (p : Bool) → length inv.more ≡ pick p 1 0 → unstuff p [] ≡ bytes (drop k u) → out ≡ splice out₀ 0 u
      told true o e = let z : ◌≡◌ {A = ℕ} 0 1 = cc in absurd (omega arith)
      told false o e =
          let none : [] ≡ drop k u = cc in
          let n : k ≡ length u = omega (arith, ap length none, length-drop k u, inv.few) in
          let m : k + length inv.more ≡ 0 + length u = omega arith in
          inv.now
          ∙ ap (λ (l : List ℕ). l ++ (inv.more ++ drop (k + length inv.more) out₀)) (take_all k u (omega arith))
          ∙ ap (λ (l : List ℕ). u ++ (l ++ drop (k + length inv.more) out₀)) (empty inv.more o)
          ∙ ap (λ (j : ℕ). u ++ drop j out₀) m

-- ---- the last unstuffed byte

-- bytes before others
abbrev before : List ℕ → Unstuffed → Unstuffed
before u bad_escape = bad_escape
before u (bytes v) = bytes (u ++ v)

before_prepend : (b : ℕ) (u : List ℕ) (r : Unstuffed) → before (b ∷ u) r ≡ prepend b (before u r)
unfolding prepend
before_prepend b u bad_escape = refl
before_prepend b u (bytes v) = refl

before_none : (r : Unstuffed) → r ≡ before [] r
before_none bad_escape = refl
before_none (bytes v) = refl

unstuff_before : (pending : Bool) (a w u : List ℕ) → unstuff pending a ≡ bytes u
    → unstuff pending (a ++ w) ≡ before u (unstuff false w)
unfolding unstuff
unstuff_before false [] w u e =
    let q : [] ≡ u = cc in before_none (unstuff false w) ∙ ap (λ (l : List ℕ). before l (unstuff false w)) q
unstuff_before true [] w u e = let z : ◌≡◌ {A = ℕ} 0 1 = cc in absurd (omega arith)
unstuff_before false (b ∷ a) w u e =
    by_bool (eqb b 0xF3)
    (λ y. simp y (unstuff_before true a w u (simp y at e)))
    (λ n. let p = prepend_inv b (unstuff false a) u (simp n at e) in
    simp n (ap (prepend b) (unstuff_before false a w p.0 p.1) ∙ sym (before_prepend b p.0 (unstuff false w))
    ∙ ap (λ (l : List ℕ). before l (unstuff false w)) (sym p.2)))
unstuff_before true (b ∷ a) w u e =
    by_bool (leb b 3)
    (λ y. let p = prepend_inv (0xF0 + b) (unstuff false a) u (simp y at e) in
    simp y (ap (prepend (0xF0 + b)) (unstuff_before false a w p.0 p.1)
    ∙ sym (before_prepend (0xF0 + b) p.0 (unstuff false w))
    ∙ ap (λ (l : List ℕ). before l (unstuff false w)) (sym p.2)))
    (λ n. let q : bad_escape ≡ bytes u = simp n at e in
    let z : ◌≡◌ {A = ℕ} 0 1 = cc in absurd (omega arith))

-- the first bytes of a sound list are sound, if they don't end with an escape of what follows
good_first : (a : List ℕ) (x : ℕ) (t : List ℕ) → good (a ++ (x ∷ t)) ≡ true
    → (x ≤ 3 → get_or a (length a - 1) 0 ≡ 0xF3 → ⊥)
    → good a ≡ true
unfolding good
good_first [] x t g f = refl
good_first (b ∷ []) x t g f =
    by_bool (eqb b 0xF3)
    (λ y. by_bool (leb x 3)
    (λ z. absurd (f (leb-true x 3 z) (eqb-true b 0xF3 y)))
    (λ z. absurd (true≢false (sym g ∙ simp (y, z)))))
    (λ n. simp n)
good_first (b ∷ e ∷ a) x t g f =
    by_bool (good_pair b e)
    (λ y. let r : good (e ∷ a ++ (x ∷ t)) ≡ true = simp y at g in
    let n : length (b ∷ e ∷ a) - 1 ≡ suc (length (e ∷ a) - 1) = omega arith in
    simp y (good_first (e ∷ a) x t r (λ l q. f l (ap (λ (k : ℕ). get_or (b ∷ e ∷ a) k 0) n ∙ q))))
    (λ z. absurd (true≢false (sym g ∙ simp z)))

-- a sound list ends with one unstuffed byte, which is one or two of its bytes
module _ (a w u : List ℕ) (e : unstuff false (a ++ w) ≡ bytes u) (g : good a ≡ true) where
  split_bytes : (v : List ℕ) × (unstuff false w ≡ bytes v) × (u ≡ unstuffed_bytes (unstuff false a) ++ v)
      × (unstuff false a ≡ bytes (unstuffed_bytes (unstuff false a)))
  split_bytes =
      let s = sound_bytes (unstuff false a) (sym (good_unstuff a) ∙ g) in
      rest (unstuff false w) (sym (unstuff_before false a w (unstuffed_bytes (unstuff false a)) s) ∙ e) s
    where
      rest : (r : Unstuffed) → before (unstuffed_bytes (unstuff false a)) r ≡ bytes u
          → unstuff false a ≡ bytes (unstuffed_bytes (unstuff false a))
          → (v : List ℕ) × (r ≡ bytes v) × (u ≡ unstuffed_bytes (unstuff false a) ++ v)
          × (unstuff false a ≡ bytes (unstuffed_bytes (unstuff false a)))
      rest bad_escape q s = let z : ◌≡◌ {A = ℕ} 0 1 = cc in absurd (omega arith)
      rest (bytes v) q s = let p : u ≡ unstuffed_bytes (unstuff false a) ++ v = cc in (v, refl, p, s)

  first_bytes : (v : List ℕ) → unstuff false w ≡ bytes v → length v ≡ 1
      → unstuff false a ≡ bytes (take (length u - 1) u)
  first_bytes v q one =
      let p = split_bytes in
      let same : p.0 ≡ v = let z : bytes p.0 ≡ bytes v = sym p.1 ∙ q in cc in
      let n : length (unstuffed_bytes (unstuff false a)) ≡ length u - 1 =
      omega (
        arith,
        ap length p.2,
        length-append (unstuffed_bytes (unstuff false a)) p.0,
        ap length same,
      ) in
      p.3 ∙ ap bytes (sym (ap (take (length u - 1)) p.2
      ∙ take_at (unstuffed_bytes (unstuff false a)) p.0 (length u - 1) n))

-- one byte, and an escape with its second byte, are one unstuffed byte
one_byte : (x : ℕ) (v : List ℕ) → unstuff false (x ∷ []) ≡ bytes v → length v ≡ 1
unfolding unstuff prepend
one_byte x v e =
    by_bool (eqb x 0xF3)
    (λ y. let q : bad_escape ≡ bytes v = simp y at e in
    let z : ◌≡◌ {A = ℕ} 0 1 = cc in absurd (omega arith))
    (λ n. let q : bytes (x ∷ []) ≡ bytes v = simp n at e in
    let p : v ≡ x ∷ [] = cc in ap length p)

one_escape : (x : ℕ) (v : List ℕ) → unstuff false (0xF3 ∷ x ∷ []) ≡ bytes v → length v ≡ 1
unfolding unstuff prepend
one_escape x v e =
    by_bool (leb x 3)
    (λ y. let q : bytes ((0xF0 + x) ∷ []) ≡ bytes v = simp y at e in
    let p : v ≡ (0xF0 + x) ∷ [] = cc in ap length p)
    (λ n. let q : bad_escape ≡ bytes v = simp n at e in
    let z : ◌≡◌ {A = ℕ} 0 1 = cc in absurd (omega arith))

-- an escape that begins one byte before the end, and the byte after it
last_pair : (s : List ℕ) → 2 ≤ length s → get_or s (length s - 2) 0 ≡ 0xF3
    → drop (length s - 2) s ≡ 0xF3 ∷ get_or s (length s - 1) 0 ∷ []
last_pair s two is =
    let n : length s - 2 + 1 ≡ length s - 1 = omega arith in
    drop_two s (length s - 2) (omega arith)
    ∙ ap (λ (b : ℕ). b ∷ get_or s (length s - 2 + 1) 0 ∷ drop (length s - 2 + 2) s) is
    ∙ ap (λ (k : ℕ). 0xF3 ∷ get_or s k 0 ∷ drop (length s - 2 + 2) s) n
    ∙ ap (λ (l : List ℕ). 0xF3 ∷ get_or s (length s - 1) 0 ∷ l) (drop_of_length-le s {i = length s - 2 + 2} (omega arith))

-- what stands before the last unstuffed byte
pub before_last : (s u : List ℕ) → 1 ≤ length s → unstuff false s ≡ bytes u
    → unstuff false (take (last_at s) s) ≡ bytes (take (length u - 1) u)
unfolding unstuff
before_last s u some e =
    by_bool (leb 2 (length s))
    (λ y. let two = leb-true 2 (length s) y in
    by_bool (is_escape (get_or s (length s - 2) 0))
    (λ x. let w = last_pair s two (eqb-true _ 0xF3 x) in
    simp (y, x) (cut (length s - 2) 0xF3 (get_or s (length s - 1) 0 ∷ []) w (λ h q. absurd (omega arith))
    (one_escape (get_or s (length s - 1) 0))))
    (λ x. let no = eqb-false _ 0xF3 x in
    simp (y, x) (cut (length s - 1) (get_or s (length s - 1) 0) [] (last_alone)
    (λ h q. no (before_here two q)) (one_byte (get_or s (length s - 1) 0)))))
    (λ y. let one = leb-false 2 (length s) y in
    let z : length s - 1 ≡ 0 = omega arith in
    simp y (ap (λ (k : ℕ). unstuff false (take k s)) (sym z)
    ∙ cut (length s - 1) (get_or s (length s - 1) 0) [] last_alone
    (λ h q. absurd (none (ap (λ (k : ℕ). get_or (take k s) (length (take k s) - 1) 0) (sym z) ∙ q)))
    (one_byte (get_or s (length s - 1) 0))))
  where
    cut : (k x : ℕ) (t : List ℕ) → drop k s ≡ x ∷ t
        → (x ≤ 3 → get_or (take k s) (length (take k s) - 1) 0 ≡ 0xF3 → ⊥)
        → ((v : List ℕ) → unstuff false (x ∷ t) ≡ bytes v → length v ≡ 1)
        → unstuff false (take k s) ≡ bytes (take (length u - 1) u)
    cut k x t d f o =
        let parts : s ≡ take k s ++ (x ∷ t) = sym (take-append-drop k s) ∙ ap (λ (l : List ℕ). take k s ++ l) d in
        let whole : unstuff false (take k s ++ (x ∷ t)) ≡ bytes u = ap (unstuff false) (sym parts) ∙ e in
        let g : good (take k s) ≡ true =
        good_first (take k s) x t (good_unstuff (take k s ++ (x ∷ t)) ∙ ap is_sound whole) f in
        let p = split_bytes (take k s) (x ∷ t) u whole g in
        first_bytes (take k s) (x ∷ t) u whole g p.0 p.1 (o p.0 p.1)

    last_alone : drop (length s - 1) s ≡ get_or s (length s - 1) 0 ∷ []
    last_alone =
        drop-cons s (length s - 1) 0 (omega arith)
        ∙ ap (λ (l : List ℕ). get_or s (length s - 1) 0 ∷ l) (drop_of_length-le s {i = suc (length s - 1)} (omega arith))

    before_here : 2 ≤ length s → get_or (take (length s - 1) s) (length (take (length s - 1) s) - 1) 0 ≡ 0xF3
        → get_or s (length s - 2) 0 ≡ 0xF3
    before_here h q =
        let n : length (take (length s - 1) s) - 1 ≡ length s - 2 =
        omega (arith, length-take-le (length s - 1) s (omega arith)) in
        sym (get_or-take (length s - 1) s (length s - 2) 0 (omega arith))
        ∙ ap (λ (k : ℕ). get_or (take (length s - 1) s) k 0) (sym n) ∙ q

    none : get_or {A = ℕ} (take 0 s) (length (take 0 s) - 1) 0 ≡ 0xF3 → ⊥
    none q = let z : ◌≡◌ {A = ℕ} 0 0xF3 = q in omega arith
