-- Laws of the candidate that a slice begins with: where it ends, its sum, and its verdict.
use Prim.Native.Nat.{ℕ, ◌+◌, ◌-◌, ◌≤◌, ◌<◌}
use mathlib.Core.Path.{◌≡◌, refl, sym, ap, ap₂, ◌∙◌}
use mathlib.Core.Bool.{true, false}
use mathlib.Core.List.{List, [], ◌∷◌, ◌++◌, append_assoc}
use native.Mathlib.Numerals.{add-one}
use native.Mathlib.Omega.{arith}
use lib.Bits.{bit_xor}
use lib.Dec.{eqb, leb}
use lib.ListN.{length, get_or, take, drop, length-drop, length-append, take-append-drop, get_or-eq_default}
use lib.Seq.{drop-drop, drop_at, take-suc, take-add, take_at, drop-cons, length-take-le, get_or-append_seam}
use borrow.Author.Tests.{eqb-true, leb-true, leb-false}
use Rattle.lists.specs.Choice.{pick, none_of, count_before}
use Rattle.lists.proofs.Cases.{by_bool}
use Rattle.lists.proofs.Before.{before_fits, before_clear, before_here, clear_front, before_block, before_more}
use Rattle.lists.proofs.Tests.{within_true}
use Rattle.answer.specs.Answer.{refused}
use Rattle.frame.specs.Flags.{start_flag, stop_flag, is_start, is_flag, kind_of, candidate_of}
use Rattle.frame.specs.Stuffing.{is_stuffed}
use Rattle.frame.specs.Checksum.{sum_from, checksum}
use Rattle.frame.specs.Verdict.{verdict, is_terminated}
use Rattle.frame.specs.Leading.{is_stop_at, open_count, leading_count}
use Rattle.frame.specs.Private.{judge_whole, Unescaped, PlainTo, open_verdict}
use Rattle.frame.specs.declared.Kind.{Kind}
use Rattle.frame.specs.declared.Kind.TheVariants.{Standard, Extended}
use Rattle.frame.proofs.FlagLaws.{none_narrower, start_kind}
use Rattle.std.specs.Prelude.{Some, None}
use Rattle.frame.proofs.ChecksumLaws.{sum_from_last, sum_onto, found_plain}
use Rattle.frame.proofs.VerdictLaws.{candidate_verdict}

-- ---- tests

past_default : (s : List ℕ) (at : ℕ) → length s ≤ at → get_or s at 0 ≡ 0
past_default s at h = get_or-eq_default s 0 h

-- what a stop flag at an index tells
stop_means : (s : List ℕ) (at : ℕ) → is_stop_at s at ≡ true → (get_or s at 0 ≡ stop_flag) × (at < length s)
stop_means s at e = let b = eqb-true (get_or s at 0) stop_flag e in (b, inside b)
  where
    inside : get_or s at 0 ≡ stop_flag → at < length s
    inside b =
        by_bool (leb (length s) at)
        (λ y. absurd (omega (arith, b, past_default s at (leb-true (length s) at y))))
        (λ n. omega (arith, leb-false (length s) at n))

-- ---- the first F0 to F3, and the sum of what stands before it

sum-append : (xs ys : List ℕ) → checksum (xs ++ ys) ≡ bit_xor (checksum xs) (checksum ys)
unfolding sum_from
sum-append xs ys = from 0 xs ∙ sum_onto (checksum xs) ys
  where
    from : (acc : ℕ) (s : List ℕ) → sum_from acc (s ++ ys) ≡ sum_from (sum_from acc s) ys
    from acc [] = refl
    from acc (b ∷ s) = from (bit_xor acc b) s

-- a block more, as the code looks at it
pub plain_block : (s : List ℕ) (i n sum more : ℕ) (block rest : List ℕ) → PlainTo s i sum
    → drop i s ≡ block ++ rest → length block ≡ n
    → Some more ≡ pick (none_of is_stuffed block) (Some (checksum block)) None
    → PlainTo s (i + n) (bit_xor sum more) × (drop (i + n) s ≡ rest)
plain_block s i n sum more block rest p d l e =
    let q = found_plain block more e in
    let here : take n (drop i s) ≡ block = ap (take n) d ∙ take_at block rest n l in
    let m : i + n - i ≡ n = omega arith in
    let h : i + n ≤ length s = omega (arith, p.inside, ap length d, length-append block rest, length-drop i s) in (
      record {
        inside = h;
        none_before =
            before_block is_stuffed s i n true h
            (sym (ap (λ (k : ℕ). none_of is_stuffed (take k (drop i s))) m ∙ ap (none_of is_stuffed) here ∙ q.0)) refl
            p.none_before;
        summed =
            ap₂ bit_xor p.summed (q.1 ∙ ap checksum (sym here))
            ∙ sym (sum-append (take i s) (take n (drop i s)))
            ∙ ap checksum (sym (take-add i n s));
      },
      sym (drop-drop n i s) ∙ ap (drop n) d ∙ drop_at block rest n l,
    )

-- a byte more
pub plain_byte : (s : List ℕ) (i sum : ℕ) → PlainTo s i sum → i < length s → is_stuffed (get_or s i 0) ≡ false
    → PlainTo s (i + 1) (bit_xor sum (get_or s i 0))
plain_byte s i sum p h e =
    record {
      inside = omega arith;
      none_before = before_more is_stuffed s i h e p.none_before;
      summed =
          ap (λ (n : ℕ). bit_xor n (get_or s i 0)) p.summed
          ∙ sym (sum_from_last 0 (take i s) (get_or s i 0))
          ∙ ap checksum (sym (take-suc s i 0 h) ∙ ap (λ (n : ℕ). take n s) (sym (add-one i)));
    }

-- no flag stands before it
pub flag_after : (s : List ℕ) (at : ℕ) → at ≡ count_before is_stuffed s → (at ≤ length s)
    × (count_before is_flag s ≡ at + count_before is_flag (drop at s))
flag_after s at e =
    let h : at ≤ length s = omega (arith, before_fits is_stuffed s) in
    let none : none_of is_stuffed (take at s) ≡ true =
    ap (λ (n : ℕ). none_of is_stuffed (take n s)) e ∙ before_clear is_stuffed s in
    (h, clear_front is_flag at s h (none_narrower 0xF0 0xF3 0xF0 0xF2 (take at s) (omega arith) (omega arith) none))

-- The stop flag at the first F0 to F3 is the first flag.
pub stop_here : (s : List ℕ) (at : ℕ) → at ≡ count_before is_stuffed s → is_stop_at s at ≡ true → at ≡ count_before is_flag s
stop_here s at e t =
    let m = stop_means s at t in
    before_here is_flag s at m.1 (ap is_flag m.0) (flag_after s at e).1

-- ---- its verdict

-- what stands before the first flag, where that is the first F0 to F3 too
pub open_plain : (rest : List ℕ) (at end sum : ℕ) → at ≡ count_before is_stuffed rest → sum ≡ checksum (take at rest)
    → is_stop_at rest end ≡ true → end ≡ at → end ≤ 118 → Unescaped (take end rest) sum
open_plain rest at end sum e q t same short =
    let l = length-take-le end rest (omega (arith, (stop_means rest end t).1)) in
    record {
      limit = omega (arith, l);
      clear = ap (λ (n : ℕ). none_of is_stuffed (take n rest)) (same ∙ e) ∙ before_clear is_stuffed rest;
      summed = q ∙ ap (λ (n : ℕ). checksum (take n rest)) (sym same);
    }

-- as the code counts: none, or one that ends at an index
pub open_none : (kind : Kind) (rest : List ℕ) (end : ℕ) → end ≡ count_before is_flag rest → is_stop_at rest end ≡ false
    → (open_count rest ≡ 0) × (open_verdict kind rest ≡ refused 6)
open_none kind rest end e n =
    let q : is_stop_at rest (count_before is_flag rest) ≡ false = ap (is_stop_at rest) (sym e) ∙ n in (simp q, simp q)

pub open_some : (kind : Kind) (rest : List ℕ) (end : ℕ) → end ≡ count_before is_flag rest → is_stop_at rest end ≡ true
    → (end + 2 ≡ open_count rest) × (judge_whole kind (take end rest) ≡ open_verdict kind rest)
open_some kind rest end e y =
    let q : is_stop_at rest (count_before is_flag rest) ≡ true = ap (is_stop_at rest) (sym e) ∙ y in
    (simp q (ap (λ (n : ℕ). n + 2) e), simp q (ap (λ (n : ℕ). judge_whole kind (take n rest)) e))

-- The candidate itself: its flags, what stands between them, and what follows.
module _ (s : List ℕ) (starts : is_start (get_or s 0 0) ≡ true)
    (stops : is_stop_at (drop 1 s) (count_before is_flag (drop 1 s)) ≡ true) where
  abbrev pub leading_kind : Kind
  leading_kind = kind_of (get_or s 0 0)

  abbrev pub leading_body : List ℕ
  leading_body = take (count_before is_flag (drop 1 s)) (drop 1 s)

  means : (get_or (drop 1 s) (count_before is_flag (drop 1 s)) 0 ≡ stop_flag)
      × (count_before is_flag (drop 1 s) < length (drop 1 s))
  means = stop_means (drop 1 s) (count_before is_flag (drop 1 s)) stops

  pub leading_length : length leading_body ≡ count_before is_flag (drop 1 s)
  leading_length = length-take-le (count_before is_flag (drop 1 s)) (drop 1 s) (omega (arith, means.1))

  pub leading_clear : none_of is_flag leading_body ≡ true
  leading_clear = before_clear is_flag (drop 1 s)

  starts_with : get_or s 0 0 ≡ start_flag leading_kind
  starts_with =
      let k = within_true 0xF0 0xF1 (get_or s 0 0) starts in sym (start_kind (get_or s 0 0) k.0 k.1)

  some : 0 < length s
  some = omega (arith, means.1, length-drop 1 s)

  abbrev pub leading_rest : List ℕ
  leading_rest = drop (count_before is_flag (drop 1 s) + 1) (drop 1 s)

  pub leads : s ≡ start_flag leading_kind ∷ (leading_body ++ stop_flag ∷ leading_rest)
  leads =
      let n = count_before is_flag (drop 1 s) in
      drop-cons s 0 0 some
      ∙ ap₂ (λ (b : ℕ) (l : List ℕ). b ∷ l) starts_with
      (sym (take-append-drop n (drop 1 s))
      ∙ ap (λ (l : List ℕ). leading_body ++ l)
      (drop-cons (drop 1 s) n 0 means.1
      ∙ ap₂ (λ (b k : ℕ). b ∷ drop k (drop 1 s)) means.0 (sym (add-one n))))

  pub leading_count_lem : leading_count s ≡ length leading_body + 2
  unfolding leading_count
  leading_count_lem = simp (starts, stops) (ap (λ (n : ℕ). n + 2) (sym leading_length))

  pub leading_wire : take (open_count (drop 1 s)) s ≡ candidate_of leading_kind leading_body
  leading_wire =
      let c : open_count (drop 1 s) ≡ length (candidate_of leading_kind leading_body) =
      simp stops (omega (arith, leading_length, length-append leading_body (stop_flag ∷ []))) in
      ap₂ (λ (n : ℕ) (l : List ℕ). take n l) c
      (leads ∙ ap (λ (l : List ℕ). start_flag leading_kind ∷ l)
      (sym (append_assoc leading_body (stop_flag ∷ []) leading_rest)))
      ∙ take_at (candidate_of leading_kind leading_body) leading_rest (length (candidate_of leading_kind leading_body)) refl

-- No bytes are no candidate.
pub verdict_none : verdict [] ≡ refused 6
unfolding verdict is_terminated
verdict_none = refl

pub open_verdict_lem : (s : List ℕ) → is_start (get_or s 0 0) ≡ true
    → open_verdict (kind_of (get_or s 0 0)) (drop 1 s) ≡ verdict (take (open_count (drop 1 s)) s)
open_verdict_lem s h =
    by_bool (is_stop_at (drop 1 s) (count_before is_flag (drop 1 s)))
    (λ y. simp y (sym (candidate_verdict (leading_kind s h y) (leading_body s h y)))
    ∙ ap verdict (sym (leading_wire s h y)))
    (λ n. let q : open_count (drop 1 s) ≡ 0 = simp n in
    simp n (sym verdict_none) ∙ ap (λ (k : ℕ). verdict (take k s)) (sym q))

-- as the code counts, from the whole slice
pub leading_none : (s : List ℕ) → is_start (get_or s 0 0) ≡ false → (0 ≡ leading_count s) × (verdict (take 0 s) ≡ refused 6)
unfolding leading_count
leading_none s n = (simp n, verdict_none)

pub leading_some : (s : List ℕ) → is_start (get_or s 0 0) ≡ true → open_count (drop 1 s) ≡ leading_count s
unfolding leading_count
leading_some s y = simp y

-- ---- a candidate of any length, whatever follows it

-- the stop flag is the first flag
stop_first : (body rest : List ℕ) → none_of is_flag body ≡ true
    → count_before is_flag (body ++ stop_flag ∷ rest) ≡ length body
stop_first body rest clear =
    let s = body ++ stop_flag ∷ rest in
    let h : length body < length s = omega (arith, length-append body (stop_flag ∷ rest)) in
    let here = get_or-append_seam body stop_flag rest 0 in
    let first : none_of is_flag (take (length body) s) ≡ true =
    ap (none_of is_flag) (take_at body (stop_flag ∷ rest) (length body) refl) ∙ clear in
    sym (before_here is_flag s (length body) h (ap is_flag here) (clear_front is_flag (length body) s (omega arith) first))

open_exactly : (body rest : List ℕ) → none_of is_flag body ≡ true → open_count (body ++ stop_flag ∷ rest) ≡ length body + 2
open_exactly body rest clear =
    let s = body ++ stop_flag ∷ rest in
    let stops : is_stop_at s (length body) ≡ true =
    ap (λ (b : ℕ). eqb b stop_flag) (get_or-append_seam body stop_flag rest 0) in
    ap (λ (n : ℕ). pick (is_stop_at s n) (n + 2) 0) (stop_first body rest clear) ∙ simp stops

start_is : (kind : Kind) → is_start (start_flag kind) ≡ true
start_is Standard = refl
start_is Extended = refl

pub leading_exactly : (kind : Kind) (body rest : List ℕ) → none_of is_flag body ≡ true
    → leading_count (candidate_of kind body ++ rest) ≡ length body + 2
leading_exactly kind body rest clear =
    sym (leading_some (candidate_of kind body ++ rest) (start_is kind))
    ∙ ap open_count (append_assoc body (stop_flag ∷ []) rest)
    ∙ open_exactly body rest clear
