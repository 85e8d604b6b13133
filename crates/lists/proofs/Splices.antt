-- The laws of a list put into another at an index.
use Prim.Native.Nat.{ℕ, ◌+◌, ◌≤◌, ◌<◌, ◌-◌}
use mathlib.Core.Path.{◌≡◌, refl, sym, ap, ◌∙◌}
use mathlib.Core.List.{List, [], ◌∷◌, ◌++◌, append_assoc, append-nil}
use native.Mathlib.Nat.{add-zero, add_assoc}
use native.Mathlib.Numerals.{add-one}
use native.Mathlib.Omega.{arith}
use lib.ListN.{length, take, drop, set, length-append, take-append-drop, length-drop, length-set}
use lib.ListN.{drop_of_length-le}
use lib.Seq.{set_split, take_at, take_all, drop-drop, length-take-le, drop-append-add, take-length}
use borrow.Author.Tests.{le-leb}
use Rattle.lists.specs.Splice.{splice, copied, shifted}

pub splice_nil : (out : List ℕ) (at : ℕ) → splice out at [] ≡ out
splice_nil out at = ap (λ (n : ℕ). take at out ++ drop n out) (add-zero at) ∙ take-append-drop at out

module _ (out : List ℕ) (at : ℕ) (v : List ℕ) (room : at + length v ≤ length out) where
  -- the part up to the end of what was put in
  front : List ℕ
  front = take at out ++ v

  front_length : length front ≡ at + length v
  unfolding front
  front_length = length-append (take at out) v ∙ ap (λ (n : ℕ). n + length v) (length-take-le at out (omega arith))

  split : splice out at v ≡ front ++ drop (at + length v) out
  unfolding front
  split = sym (append_assoc (take at out) v (drop (at + length v) out))

  pub length-splice : length (splice out at v) ≡ length out
  length-splice =
      ap length split ∙ length-append front (drop (at + length v) out)
      ∙ omega (arith, front_length, length-drop (at + length v) out)

  -- two lists put in one after the other are their concatenation put in
  pub splice-splice : (w : List ℕ) → splice (splice out at v) (at + length v) w ≡ splice out at (v ++ w)
  unfolding front
  splice-splice w =
      ap (λ (l : List ℕ). splice l (at + length v) w) split
      ∙ ap (λ (l : List ℕ). l ++ (w ++ drop (at + length v + length w) (front ++ drop (at + length v) out)))
      (take_at front (drop (at + length v) out) (at + length v) front_length)
      ∙ ap (λ (l : List ℕ). front ++ (w ++ l)) past
      ∙ append_assoc (take at out) v (w ++ drop (at + length (v ++ w)) out)
      ∙ ap (λ (l : List ℕ). take at out ++ l) (sym (append_assoc v w (drop (at + length (v ++ w)) out)))
    where
      past : drop (at + length v + length w) (front ++ drop (at + length v) out) ≡ drop (at + length (v ++ w)) out
      past =
          ap (λ (n : ℕ). drop (n + length w) (front ++ drop (at + length v) out)) (sym front_length)
          ∙ drop-append-add front (drop (at + length v) out) (length w)
          ∙ drop-drop (length w) (at + length v) out
          ∙ ap (λ (n : ℕ). drop n out)
          (add_assoc at (length v) (length w) ∙ ap (λ (n : ℕ). at + n) (sym (length-append v w)))

-- The same, along a chain of results.
pub splice_next : (out : List ℕ) (at : ℕ) (v : List ℕ) {out₁ out₂ : List ℕ} (w : List ℕ) (a : ℕ)
    → at + length v ≤ length out
    → out₁ ≡ splice out at v → a ≡ at + length v → out₂ ≡ splice out₁ a w → out₂ ≡ splice out at (v ++ w)
splice_next out at v w a room p q r =
    r ∙ ap (λ (l : List ℕ). splice l a w) p ∙ ap (λ (n : ℕ). splice (splice out at v) n w) q
    ∙ splice-splice out at v room w

-- A list put in over the end of another that was put in before it.
pub splice_over : (out : List ℕ) (at : ℕ) (v m w : List ℕ) → at + length v + length w ≤ length out
    → length m ≤ length w
    → splice (splice out at (v ++ m)) (at + length v) w ≡ splice out at (v ++ w)
splice_over out at v m w room short =
    let f = take at out ++ v in
    let d = drop (at + length (v ++ m)) out in
    let n : length f ≡ at + length v =
    length-append (take at out) v ∙ ap (λ (i : ℕ). i + length v) (length-take-le at out (omega arith)) in
    let x : splice out at (v ++ m) ≡ f ++ (m ++ d) =
    ap (λ (l : List ℕ). take at out ++ l) (append_assoc v m d) ∙ sym (append_assoc (take at out) v (m ++ d)) in
    let i : length m + (length w - length m) ≡ length w = omega arith in
    let j : at + length (v ++ m) + (length w - length m) ≡ at + length (v ++ w) =
    omega (arith, length-append v m, length-append v w) in
    let past : drop (at + length v + length w) (f ++ (m ++ d)) ≡ drop (at + length (v ++ w)) out =
    ap (λ (k : ℕ). drop (k + length w) (f ++ (m ++ d))) (sym n) ∙ drop-append-add f (m ++ d) (length w)
    ∙ ap (λ (k : ℕ). drop k (m ++ d)) (sym i) ∙ drop-append-add m d (length w - length m)
    ∙ drop-drop (length w - length m) (at + length (v ++ m)) out ∙ ap (λ (k : ℕ). drop k out) j in
    ap (λ (l : List ℕ). splice l (at + length v) w) x
    ∙ ap (λ (l : List ℕ). l ++ (w ++ drop (at + length v + length w) (f ++ (m ++ d))))
    (take_at f (m ++ d) (at + length v) n)
    ∙ ap (λ (l : List ℕ). f ++ (w ++ l)) past
    ∙ append_assoc (take at out) v (w ++ drop (at + length (v ++ w)) out)
    ∙ ap (λ (l : List ℕ). take at out ++ l) (sym (append_assoc v w (drop (at + length (v ++ w)) out)))

-- One store.
pub set-splice : (out : List ℕ) (at b : ℕ) → at < length out → set out at b ≡ splice out at (b ∷ [])
set-splice out at b h = set_split out at b h ∙ ap (λ (n : ℕ). take at out ++ b ∷ drop n out) (sym (add-one at))

-- Two stores beside each other.
pub set2_splice : (out : List ℕ) (at a b : ℕ) → at + 2 ≤ length out
    → set (set out at a) (at + 1) b ≡ splice out at (a ∷ b ∷ [])
set2_splice out at a b h =
    set-splice (set out at a) (at + 1) b (simp length-set (omega arith))
    ∙ ap (λ (l : List ℕ). splice l (at + 1) (b ∷ [])) (set-splice out at a (omega arith))
    ∙ splice-splice out at (a ∷ []) (omega arith) (b ∷ [])

-- A list copied to the front of the part from an index on, put back into the whole.
pub part_splice : (xs d last : List ℕ) (at : ℕ) → at + length d ≤ length xs
    → last ≡ take (length d) d ++ drop (length d) (take (length xs - at) (drop at xs))
    → take at xs ++ (last ++ drop (length xs - at) (drop at xs)) ≡ splice xs at d
part_splice xs d last at h e =
    let l = length-drop at xs in
    ap (λ (y : List ℕ). take at xs ++ (last ++ y)) (drop_of_length-le (drop at xs) {i = length xs - at} (omega arith))
    ∙ ap (λ (y : List ℕ). take at xs ++ y) (append-nil last ∙ e)
    ∙ ap (λ (y : List ℕ). take at xs ++ (y ++ drop (length d) (take (length xs - at) (drop at xs)))) (take-length d)
    ∙ ap (λ (y : List ℕ). take at xs ++ (d ++ drop (length d) y)) (take_all (length xs - at) (drop at xs) (omega arith))
    ∙ ap (λ (y : List ℕ). take at xs ++ (d ++ y)) (drop-drop (length d) at xs)

-- what a copy to the front of a list leaves
pub copied_first : (s out last : List ℕ) → last ≡ take (length s) s ++ drop (length s) out → last ≡ splice out 0 s
copied_first s out last e =
    let z : 0 + length s ≡ length s = omega arith in
    e ∙ ap (λ (l : List ℕ). l ++ drop (length s) out) (take-length s) ∙ ap (λ (n : ℕ). s ++ drop n out) (sym z)

-- a list put in at the front of others stands there
pub front_put : (s out last : List ℕ) → last ≡ splice out 0 s → take (length s) last ≡ s
front_put s out last e = ap (take (length s)) e ∙ take_at s (drop (0 + length s) out) (length s) refl

-- a list copied where it fits is put in
pub copied_fits : (s out last : List ℕ) (at : ℕ) → at + length s ≤ length out → last ≡ copied out at s
    → last ≡ splice out at s
copied_fits s out last at h e = e ∙ simp (le-leb (at + length s) (length out) h) refl

-- ---- elements brought to the front

pub shifted_fits : (s last : List ℕ) (by count : ℕ) → by + count ≤ length s
    → last ≡ take count (drop by s) ++ drop count s → last ≡ shifted s by count
shifted_fits s last by count h e = e ∙ sym (simp (le-leb (by + count) (length s) h) refl)
