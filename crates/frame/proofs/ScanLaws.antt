-- Laws of unstuffing one byte at a time.
use Prim.Native.Nat.{ℕ, suc, ◌+◌, ◌≤◌, ◌<◌}
use mathlib.Core.Path.{◌≡◌, sym, ap, ◌∙◌, subst}
use mathlib.Core.Logic.{◌⊎◌, inl, inr}
use mathlib.Core.Bool.{Bool, true, false}
use mathlib.Core.List.{List, []}
use native.Mathlib.Numerals.{add-one}
use native.Mathlib.Omega.{arith}
use lib.Dec.{leb, ltb, eqb}
use lib.ListN.{length, get_or, drop, drop_of_length-le}
use lib.Seq.{drop-cons}
use borrow.Author.Tests.{leb-true, leb-false, ltb-true, ltb-false, eqb-true, eqb-false, lt-leb, le-leb, lt-ltb, le-ltb}
use borrow.Author.Tests.{eq-eqb, ne_eqb}
use Rattle.lists.proofs.Cases.{by_bool}
use Rattle.lists.specs.Choice.{pick}
use Rattle.lists.proofs.Lists.{drop_two}
use Rattle.std.specs.Prelude.{Result, Ok, Err}
use Rattle.answer.specs.Refusals.{number_of}
use Rattle.answer.specs.Answer.{refused}
use Rattle.answer.specs.declared.Refusal.{Refusal}
use Rattle.answer.specs.declared.Refusal.TheVariants.{TooShort, BadEscape}
use Rattle.frame.specs.Verdict.{Verdict}
use Rattle.frame.specs.Stuffing.{Unstuffed, bad_escape, bytes, prepend, unstuff}
use Rattle.frame.specs.Private.{next_at}
use Rattle.frame.specs.declared.candidate.Byte.{Byte}

-- ---- one unstuffed byte

-- what unstuffing gives, where the next byte is known: none is at the end, and at a bad escape
unfoldable pub after_next : List ℕ → Result Byte Refusal → Unstuffed
after_next s (Ok b) = prepend b.value (unstuff false (drop b.next s))
after_next s (Err TooShort) = bytes []
after_next s (Err why) = bad_escape

module _ (s : List ℕ) (at : ℕ) where
  abbrev ScanGoal : Type 0
  ScanGoal = unstuff false (drop at s) ≡ after_next s (next_at s at)

  next_end : length s ≤ at → ScanGoal
  unfolding next_at unstuff after_next
  next_end h = simp (drop_of_length-le s {i = at} h, le-ltb at (length s) h)

  next_plain : at < length s → (get_or s at 0 ≡ 0xF3 → ⊥) → ScanGoal
  unfolding next_at unstuff after_next
  next_plain h n = simp (drop-cons s at 0 h, lt-ltb at (length s) h, ne_eqb (get_or s at 0) 0xF3 n, add-one)

  next_last : at < length s → get_or s at 0 ≡ 0xF3 → length s ≤ at + 1 → ScanGoal
  unfolding next_at unstuff after_next
  next_last h e k =
      let r : after_next s (next_at s at) ≡ bad_escape =
      simp (lt-ltb at (length s) h, eq-eqb (get_or s at 0) 0xF3 e, le-ltb (at + 1) (length s) k) in
      ap (unstuff false) (drop-cons s at 0 h)
      ∙ ap (λ (b : Bool). pick b (unstuff true (drop (suc at) s)) (prepend (get_or s at 0) (unstuff false (drop (suc at) s))))
      (eq-eqb (get_or s at 0) 0xF3 e)
      ∙ ap (unstuff true) (drop_of_length-le s {i = suc at} (omega arith)) ∙ sym r

  next_bad : at < length s → get_or s at 0 ≡ 0xF3 → at + 1 < length s → 3 < get_or s (at + 1) 0 → ScanGoal
  unfolding next_at unstuff after_next
  next_bad h e k b =
      simp (
        drop_two s at k,
        lt-ltb at (length s) h,
        eq-eqb (get_or s at 0) 0xF3 e,
        lt-ltb (at + 1) (length s) k,
        lt-leb
            (get_or s (at + 1) 0) 3 b,
      )

  next_escape : at < length s → get_or s at 0 ≡ 0xF3 → at + 1 < length s → get_or s (at + 1) 0 ≤ 3 → ScanGoal
  unfolding next_at unstuff after_next
  next_escape h e k b =
      simp (
        drop_two s at k,
        lt-ltb at (length s) h,
        eq-eqb (get_or s at 0) 0xF3 e,
        lt-ltb (at + 1) (length s) k,
        le-leb
            (get_or s (at + 1) 0) 3 b,
      )

  pub unstuff_next : ScanGoal
  unstuff_next =
      by_bool (ltb at (length s))
      (λ y. let h = ltb-true at (length s) y in
      by_bool (eqb (get_or s at 0) 0xF3)
      (λ e'. let e = eqb-true (get_or s at 0) 0xF3 e' in
      by_bool (ltb (at + 1) (length s))
      (λ k. by_bool (leb (get_or s (at + 1) 0) 3) (λ b. next_escape h e (ltb-true _ _ k) (leb-true _ _ b))
      (λ b. next_bad h e (ltb-true _ _ k) (leb-false _ _ b)))
      (λ k. next_last h e (ltb-false _ _ k)))
      (λ n. next_plain h (eqb-false _ _ n)))
      (λ n. next_end (ltb-false _ _ n))

  -- a byte stands within the list, and the next index is past it
  next_bounds : (b : Byte) → Ok b ≡ next_at s at → (at < b.next) × (b.next ≤ length s)
  unfolding next_at
  next_bounds b p =
      by_bool (ltb at (length s))
      (λ y. let h = ltb-true at (length s) y in
      by_bool (eqb (get_or s at 0) 0xF3)
      (λ e. by_bool (ltb (at + 1) (length s))
      (λ k. let kk = ltb-true (at + 1) (length s) k in
      by_bool (leb (get_or s (at + 1) 0) 3)
      (λ z. let q : Ok b ≡ Ok (record { value = 0xF0 + get_or s (at + 1) 0; next = at + 2 }) = simp (y, e, k, z) at p in
      let r : b.next ≡ at + 2 = cc in omega arith)
      (λ z. let q : Ok b ≡ Err BadEscape = simp (y, e, k, z) at p in cc))
      (λ k. let q : Ok b ≡ Err BadEscape = simp (y, e, k) at p in cc))
      (λ e. let q : Ok b ≡ Ok (record { value = get_or s at 0; next = at + 1 }) = simp (y, e) at p in
      let r : b.next ≡ at + 1 = cc in omega arith))
      (λ y. let q : Ok b ≡ Err TooShort = simp y at p in cc)

  -- and where there is none, the bytes have ended or an escape is bad
  next_why : (why : Refusal) → Err why ≡ next_at s at → (why ≡ TooShort) ⊎ (why ≡ BadEscape)
  unfolding next_at
  next_why why p =
      by_bool (ltb at (length s))
      (λ y. by_bool (eqb (get_or s at 0) 0xF3)
      (λ e. by_bool (ltb (at + 1) (length s))
      (λ k. by_bool (leb (get_or s (at + 1) 0) 3)
      (λ z. let q : Err why ≡ Ok (record { value = 0xF0 + get_or s (at + 1) 0; next = at + 2 }) = simp (y, e, k, z) at p in cc)
      (λ z. let q : ◌≡◌ {A = Result Byte Refusal} (Err why) (Err BadEscape) = simp (y, e, k, z) at p in let r : why ≡ BadEscape = cc in inr r))
      (λ k. let q : ◌≡◌ {A = Result Byte Refusal} (Err why) (Err BadEscape) = simp (y, e, k) at p in let r : why ≡ BadEscape = cc in inr r))
      (λ e. let q : Err why ≡ Ok (record { value = get_or s at 0; next = at + 1 }) = simp (y, e) at p in cc))
      (λ y. let q : ◌≡◌ {A = Result Byte Refusal} (Err why) (Err TooShort) = simp y at p in let r : why ≡ TooShort = cc in inl r)

-- ---- what a call of next_at tells

module _ (s : List ℕ) (at : ℕ) where
  pub told : (x : Result Byte Refusal) → x ≡ next_at s at → unstuff false (drop at s) ≡ after_next s x
  told x e = unstuff_next s at ∙ ap (after_next s) (sym e)

  pub bounds : (b : Byte) → Ok b ≡ next_at s at → (at < b.next) × (b.next ≤ length s)
  bounds b e = next_bounds s at b e

  -- bytes of which there is no next one are refused as it says
  pub stopped : (verdict : Unstuffed → Verdict) → verdict (bytes []) ≡ refused 4 → verdict bad_escape ≡ refused 3
      → (why : Refusal) → Err why ≡ next_at s at → verdict (unstuff false (drop at s)) ≡ refused (number_of why)
  unfolding after_next
  stopped verdict short bad why e = ap verdict (told (Err why) e) ∙ of why (next_why s at why e)
    where
      of : (why : Refusal) → (why ≡ TooShort) ⊎ (why ≡ BadEscape)
          → verdict (after_next s (Err why)) ≡ refused (number_of why)
      of why (inl q) =
          subst (λ (x : Refusal). verdict (after_next s (Err x)) ≡ refused (number_of x)) (sym q) short
      of why (inr q) =
          subst (λ (x : Refusal). verdict (after_next s (Err x)) ≡ refused (number_of x)) (sym q) bad
