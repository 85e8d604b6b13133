-- Laws of escapes looked at without unstuffing: whether each is sound, how many there are, and the exclusive or.
use Prim.Native.Nat.{ℕ, suc, ◌+◌, ◌-◌, ◌≤◌, ◌<◌}
use mathlib.Core.Path.{◌≡◌, refl, sym, ap, ◌∙◌}
use mathlib.Core.Bool.{Bool, true, false, true≢false, not, ◌||◌}
use mathlib.Core.List.{List, [], ◌∷◌, ◌++◌}
use native.Mathlib.Nat.{zero-add}
use native.Mathlib.Numerals.{add-one}
use native.Mathlib.Omega.{arith}
use lib.Bits.{bit_xor}
use lib.Dec.{leb, eqb}
use lib.ListN.{length, get_or, take, drop, drop_of_length-le, take-append-drop}
use lib.Seq.{drop-cons}
use borrow.Author.Tests.{leb-true, eqb-true, eqb-false, ne_eqb}
use Rattle.lists.specs.Choice.{pick, within, none_of, count_of}
use Rattle.lists.proofs.Cases.{by_bool, both_true}
use Rattle.lists.proofs.Lists.{drop_two, last_apart}
use Rattle.lists.proofs.Tests.{within_yes, within_true, none_append, none_at, none_last}
use Rattle.lists.proofs.Tests.{count_at, count_end, count_most}
use Rattle.frame.specs.Stuffing.{Unstuffed, bad_escape, bytes, prepend, unstuff}
use Rattle.frame.specs.Checksum.{sum_from, checksum}
use Rattle.frame.specs.Flags.{is_flag, flagless}
use Rattle.std.specs.Prelude.{Ok, Err}
use Rattle.answer.specs.declared.Refusal.TheVariants.{BadEscape, Truncated}
use Rattle.frame.specs.Private.{is_sound, good_pair, lower_byte, lowered, scan_from, scan_of, unstuffed_bytes, Tallied}
use Rattle.frame.specs.declared.candidate.Counted.{Counted}
use Rattle.frame.specs.declared.candidate.Tally.{Tally}
use Rattle.frame.proofs.ChecksumLaws.{sum_escape, found_more}
use Rattle.frame.proofs.StuffingLaws.{prepend_inv, unstuff_plain}

-- ---- one byte

escape_yes : (b : ℕ) → eqb b 0xF3 ≡ true → within 0xF3 0xF3 b ≡ true
escape_yes b y = let e : b ≡ 0xF3 = eqb-true b 0xF3 y in within_yes 0xF3 0xF3 b (omega arith) (omega arith)

escape_no : (b : ℕ) → eqb b 0xF3 ≡ false → within 0xF3 0xF3 b ≡ false
escape_no b n =
    by_bool (within 0xF3 0xF3 b) (λ y. let w = within_true 0xF3 0xF3 b y in absurd (eqb-false b 0xF3 n (omega arith)))
    (λ m. m)

-- a byte of 00 to 03 is no escape
pub low_no : (e : ℕ) → leb e 3 ≡ true → eqb e 0xF3 ≡ false
low_no e y = ne_eqb e 0xF3 (λ q. let l = leb-true e 3 y in omega arith)

-- ---- pairs of neighbours

-- whether each escape of a list is sound, by pairs of neighbours
unfoldable pub good : List ℕ → Bool
good [] = true
good (b ∷ []) = pick (eqb b 0xF3) false true
good (b ∷ e ∷ s) = pick (good_pair b e) (good (e ∷ s)) false

good_plain : (e : ℕ) (s : List ℕ) → eqb e 0xF3 ≡ false → good (e ∷ s) ≡ good s
unfolding good
good_plain e [] n = simp n
good_plain e (c ∷ s) n = simp n

sound_prepend : (b : ℕ) (r : Unstuffed) → is_sound (prepend b r) ≡ is_sound r
unfolding prepend
sound_prepend b bad_escape = refl
sound_prepend b (bytes u) = refl

pub good_unstuff : (s : List ℕ) → good s ≡ is_sound (unstuff false s)
unfolding good unstuff prepend
good_unstuff [] = refl
good_unstuff (b ∷ []) = by_bool (eqb b 0xF3) (λ y. simp y) (λ n. simp n)
good_unstuff (b ∷ e ∷ s) =
    by_bool (eqb b 0xF3)
    (λ y. by_bool (leb e 3)
    (λ z. let rest : good (e ∷ s) ≡ is_sound (prepend (0xF0 + e) (unstuff false s)) =
    good_plain e s (low_no e z) ∙ good_unstuff s ∙ sym (sound_prepend (0xF0 + e) (unstuff false s)) in simp (y, z) rest)
    (λ z. simp (y, z)))
    (λ n. let rest : good (e ∷ s) ≡ is_sound (prepend b (unstuff false (e ∷ s))) =
    good_unstuff (e ∷ s) ∙ sym (sound_prepend b (unstuff false (e ∷ s))) in simp n rest)

-- a list that ends with an escape is not sound
ends_bad : (p : List ℕ) → good (p ++ (0xF3 ∷ [])) ≡ false
unfolding good
ends_bad [] = refl
ends_bad (b ∷ []) = by_bool (good_pair b 0xF3) (λ y. simp y) (λ n. simp n)
ends_bad (b ∷ e ∷ p) = by_bool (good_pair b e) (λ y. simp y (ends_bad (e ∷ p))) (λ n. simp n)

-- ---- the loop over pairs

module _ (s : List ℕ) (i : ℕ) where
  good_pair_lem : i + 1 < length s
      → good (drop i s) ≡ pick (good_pair (get_or s i 0) (get_or s (i + 1) 0)) (good (drop (i + 1) s)) false
  unfolding good
  good_pair_lem h =
      let n : suc (i + 1) ≡ i + 2 = omega arith in
      let next : drop (i + 1) s ≡ get_or s (i + 1) 0 ∷ drop (i + 2) s =
      drop-cons s (i + 1) 0 h ∙ ap (λ (k : ℕ). get_or s (i + 1) 0 ∷ drop k s) n in
      ap good (drop_two s i h)
      ∙ ap (λ (l : List ℕ). pick (good_pair (get_or s i 0) (get_or s (i + 1) 0)) (good l) false) (sym next)

  good_last : i + 1 ≡ length s → (get_or s i 0 ≡ 0xF3 → ⊥) → good (drop i s) ≡ true
  unfolding good
  good_last h n =
      ap good (drop-cons s i 0 (omega arith)
      ∙ ap (λ (l : List ℕ). get_or s i 0 ∷ l) (drop_of_length-le s {i = suc i} (omega arith)))
      ∙ simp (ne_eqb (get_or s i 0) 0xF3 n)

-- the pairs up to an index are good or not, as the loop has marked
abbrev pub Paired : List ℕ → (bad : Bool) (i : ℕ) → Type 0
Paired s bad i = (t : Bool) × (bad ≡ not t) × (good s ≡ pick t (good (drop i s)) false)

pub paired_more : (s : List ℕ) (bad : Bool) (i : ℕ) → i + 1 < length s → Paired s bad i
    → Paired s (bad || not (good_pair (get_or s i 0) (get_or s (i + 1) 0))) (i + 1)
paired_more s bad i h p =
    let t = p.0 in
    let g = good_pair (get_or s i 0) (get_or s (i + 1) 0) in (
      pick t g false,
      ap (λ (x : Bool). x || not g) p.1 ∙ marks t g,
      p.2 ∙ ap (λ (x : Bool). pick t x false) (good_pair_lem s i h) ∙ both t g (good (drop (i + 1) s)),
    )
  where
    marks : (t g : Bool) → (not t || not g) ≡ not (pick t g false)
    marks true g = refl
    marks false g = refl

    both : (t g x : Bool) → pick t (pick g x false) false ≡ pick (pick t g false) x false
    both true g x = refl
    both false g x = refl

pub paired_all : (s : List ℕ) (bad : Bool) (i : ℕ) → i + 1 ≡ length s → (get_or s i 0 ≡ 0xF3 → ⊥) → Paired s bad i
    → bad ≡ not (is_sound (unstuff false s))
paired_all s bad i h n p =
    let t = p.0 in
    p.1 ∙ ap not (sym (alone t)
    ∙ ap (λ (x : Bool). pick t x false) (sym (good_last s i h n)) ∙ sym p.2 ∙ good_unstuff s)
  where
    alone : (t : Bool) → pick t true false ≡ t
    alone true = refl
    alone false = refl

-- ---- the sum with escapes lowered

pub lowered_at : (acc : ℕ) (s : List ℕ) (i : ℕ) → i < length s
    → sum_from acc (lowered (drop i s)) ≡ sum_from (bit_xor acc (lower_byte (get_or s i 0))) (lowered (drop (i + 1) s))
unfolding sum_from lowered
lowered_at acc s i h = rw (add-one, drop-cons s i 0 h)

pub lowered_end : (acc : ℕ) (s : List ℕ) (i : ℕ) → length s ≤ i → sum_from acc (lowered (drop i s)) ≡ acc
unfolding sum_from lowered
lowered_end acc s i h = ap (λ (l : List ℕ). sum_from acc (lowered l)) (drop_of_length-le s h)

-- the unstuffed bytes have as many bytes fewer as there are escapes, and the sum with escapes lowered
abbrev Counts : List ℕ → List ℕ → Type 0
Counts s u =
    (length u + count_of (within 0xF3 0xF3) s ≡ length s) × ((acc : ℕ) → sum_from acc u ≡ sum_from acc (lowered s))

counts_plain : (b : ℕ) (s u v : List ℕ) → eqb b 0xF3 ≡ false → u ≡ b ∷ v → Counts s v → Counts (b ∷ s) u
unfolding count_of sum_from lowered
counts_plain b s u v n e c = (
  simp (escape_no b n) (omega (arith, ap length e, c.0)),
  λ acc. ap (sum_from acc) e ∙ c.1 (bit_xor acc b) ∙ simp n,
)

counts_escape : (b e : ℕ) (s u v : List ℕ) → eqb b 0xF3 ≡ true → leb e 3 ≡ true → u ≡ (0xF0 + e) ∷ v → Counts s v
    → Counts (b ∷ e ∷ s) u
unfolding count_of sum_from lowered
counts_escape b e s u v y z q c = (
  simp (escape_yes b y, escape_no e (low_no e z)) (omega (arith, ap length q, c.0)),
  λ acc. ap (sum_from acc) q ∙ c.1 (bit_xor acc (0xF0 + e))
      ∙ ap (λ (n : ℕ). sum_from n (lowered s)) (sum_escape acc e (leb-true e 3 z)) ∙ simp (y, low_no e z),
)

counts_none : (u : List ℕ) → u ≡ [] → Counts [] u
unfolding count_of sum_from lowered
counts_none u e = (omega (arith, ap length e), λ acc. ap (sum_from acc) e)

counts : (s u : List ℕ) → unstuff false s ≡ bytes u → Counts s u
unfolding unstuff
counts [] u q = let e : u ≡ [] = cc in counts_none u e
counts (b ∷ []) u q =
    by_bool (eqb b 0xF3)
    (λ y. let z : bad_escape ≡ bytes u = simp y at q in
    let n : ◌≡◌ {A = ℕ} 0 1 = cc in absurd (omega arith))
    (λ n. let p = prepend_inv b (unstuff false []) u (simp n at q) in
    counts_plain b [] u p.0 n p.2 (counts [] p.0 p.1))
counts (b ∷ e ∷ s) u q =
    by_bool (eqb b 0xF3)
    (λ y. by_bool (leb e 3)
    (λ z. let p = prepend_inv (0xF0 + e) (unstuff false s) u (simp (y, z) at q) in
    counts_escape b e s u p.0 y z p.2 (counts s p.0 p.1))
    (λ z. let k : bad_escape ≡ bytes u = simp (y, z) at q in
    let n : ◌≡◌ {A = ℕ} 0 1 = cc in absurd (omega arith)))
    (λ n. let p = prepend_inv b (unstuff false (e ∷ s)) u (simp n at q) in
    counts_plain b (e ∷ s) u p.0 n p.2 (counts (e ∷ s) p.0 p.1))

-- ---- the pass over all bytes but the last

pub mark_most : (t : Bool) → pick t 1 0 ≤ 1
mark_most true = omega arith
mark_most false = omega arith

-- what it has found up to an index
pub record TalliedTo (s : List ℕ) (i : ℕ) (t : Tally) : Type 0 where
  pub flagged : t.flags ≡ pick (flagless (take i s)) false true
  pub few : t.escapes ≤ i
  pub paired : Paired s t.unsound i
  pub counted : t.escapes + count_of (within 0xF3 0xF3) (drop i s) ≡ count_of (within 0xF3 0xF3) s
  pub summed : sum_from t.sum (lowered (drop i s)) ≡ sum_from 0 (lowered s)

pub tallied_none : (s : List ℕ) (t : Tally) → t.flags ≡ false → t.unsound ≡ false → t.escapes ≡ 0 → t.sum ≡ 0
    → TalliedTo s 0 t
unfolding none_of
tallied_none s t f u e m = record {
  flagged = f;
  few = omega (arith, e);
  paired = (true, u, refl);
  counted = ap (λ (n : ℕ). n + count_of (within 0xF3 0xF3) s) e ∙ zero-add _;
  summed = ap (λ (n : ℕ). sum_from n (lowered s)) m;
}

module _ (s : List ℕ) (i : ℕ) (t : Tally) (inv : TalliedTo s i t) where
  pub tallied_more : (t' : Tally) → i + 1 < length s
      → t'.flags ≡ (t.flags || is_flag (get_or s i 0))
      → t'.unsound ≡ (t.unsound || not (good_pair (get_or s i 0) (get_or s (i + 1) 0)))
      → t'.escapes ≡ t.escapes + pick (within 0xF3 0xF3 (get_or s i 0)) 1 0
      → t'.sum ≡ bit_xor t.sum (lower_byte (get_or s i 0))
      → TalliedTo s (i + 1) t'
  tallied_more t' h f u e m = record {
    flagged = f ∙ found_more is_flag s i t.flags (omega arith) inv.flagged;
    few = omega (arith, e, mark_most (within 0xF3 0xF3 (get_or s i 0)), inv.few);
    paired =
        let p = paired_more s t.unsound i h inv.paired in (p.0, u ∙ p.1, p.2);
    counted = omega (arith, e, count_at (within 0xF3 0xF3) s i (omega arith), inv.counted);
    summed =
        ap (λ (n : ℕ). sum_from n (lowered (drop (i + 1) s))) m ∙ sym (lowered_at t.sum s i (omega arith))
        ∙ inv.summed;
  }

  pub tallied_all : i + 1 ≡ length s → Tallied s t
  tallied_all h =
      let n : i ≡ length s - 1 = omega arith in
      let last = get_or s (length s - 1) 0 in
      let is : get_or s i 0 ≡ last = ap (λ (k : ℕ). get_or s k 0) n in
      let k = i + 1 in
      record {
        flagged = inv.flagged ∙ ap (λ (k : ℕ). pick (flagless (take k s)) false true) n;
        sound = λ x. paired_all s t.unsound i h (λ q. x (sym is ∙ q)) inv.paired;
        counted =
            ap (λ (b : ℕ). t.escapes + pick (within 0xF3 0xF3 b) 1 0) (sym is)
            ∙ omega (
              arith,
              count_at (within 0xF3 0xF3) s i (omega arith),
              count_end (within 0xF3 0xF3) s (i + 1) (omega arith),
              inv.counted,
            );
        summed =
            ap (λ (b : ℕ). bit_xor t.sum (lower_byte b)) (sym is)
            ∙ sym (lowered_end (bit_xor t.sum (lower_byte (get_or s i 0))) s (i + 1) (omega arith))
            ∙ sym (lowered_at t.sum s i (omega arith)) ∙ inv.summed;
      }

-- ---- the scan by these

abbrev pub counted : (len sum : ℕ) → Counted
counted len sum = record { len = len; sum = sum }

-- bytes without an escape
pub scan_as_is : (s : List ℕ) → none_of (within 0xF3 0xF3) s ≡ true → (len sum : ℕ) → len ≡ length s → sum ≡ checksum s
    → Ok (counted len sum) ≡ scan_from 0 0 (unstuff false s)
unfolding scan_from
scan_as_is s n len sum p q =
    ap (λ (m : ℕ). Ok (counted m sum)) (p ∙ sym (zero-add (length s))) ∙ ap (λ (n : ℕ). Ok (counted (0 + length s) n)) q
    ∙ sym (ap (scan_from 0 0) (unstuff_plain s n))

pub sound_bytes : (r : Unstuffed) → is_sound r ≡ true → r ≡ bytes (unstuffed_bytes r)
unfolding unstuffed_bytes
sound_bytes bad_escape h = absurd (true≢false (sym h))
sound_bytes (bytes u) h = refl

unsound_bad : (r : Unstuffed) → is_sound r ≡ false → r ≡ bad_escape
unsound_bad bad_escape h = refl
unsound_bad (bytes u) h = absurd (true≢false h)

module _ (s : List ℕ) where
  pub scan_flagged : flagless s ≡ false → Err Truncated ≡ scan_of s
  scan_flagged f = simp f

  pub scan_unsound : flagless s ≡ true → is_sound (unstuff false s) ≡ false → Err BadEscape ≡ scan_of s
  unfolding scan_from
  scan_unsound f n = simp f (sym (ap (scan_from 0 0) (unsound_bad (unstuff false s) n)))

  pub scan_sound : (count sum : ℕ) → flagless s ≡ true → is_sound (unstuff false s) ≡ true
      → count ≡ count_of (within 0xF3 0xF3) s → sum ≡ checksum (lowered s)
      → Ok (counted (length s - count) sum) ≡ scan_of s
  unfolding scan_from
  scan_sound count sum f y c q =
      let u = unstuffed_bytes (unstuff false s) in
      let e = sound_bytes (unstuff false s) y in
      let k = counts s u e in
      let len_is : length s - count ≡ 0 + length u = omega (arith, k.0) in
      let sum_is : sum ≡ sum_from 0 u = q ∙ sym (k.1 0) in
      simp f (ap (λ (m : ℕ). Ok (counted m sum)) len_is ∙ ap (λ (n : ℕ). Ok (counted (0 + length u) n)) sum_is ∙ sym (ap (scan_from 0 0) e))

  -- a list that ends with an escape
  pub ends_unsound : 1 ≤ length s → get_or s (length s - 1) 0 ≡ 0xF3 → is_sound (unstuff false s) ≡ false
  ends_unsound some e =
      sym (good_unstuff s)
      ∙ ap good (last_apart s some ∙ ap (λ (b : ℕ). take (length s - 1) s ++ (b ∷ [])) e)
      ∙ ends_bad (take (length s - 1) s)

-- ---- the scan by what the pass found

module _ (s : List ℕ) (t : Tally) (some : 1 ≤ length s) (found : Tallied s t) where
  abbrev last : ℕ
  last = get_or s (length s - 1) 0

  pub tally_flagged : t.flags ≡ true → Err Truncated ≡ scan_of s
  tally_flagged n =
      by_bool (flagless s)
      (λ y. let part = both_true (flagless (take (length s - 1) s)) _
      (sym (none_append is_flag (take (length s - 1) s) (drop (length s - 1) s))
      ∙ ap flagless (take-append-drop (length s - 1) s) ∙ y) in
      absurd (true≢false (sym n ∙ found.flagged ∙ simp part.0)))
      (λ y. scan_flagged s y)

  pub last_flagged : is_flag last ≡ true → Err Truncated ≡ scan_of s
  last_flagged f =
      by_bool (flagless s)
      (λ y. absurd (true≢false (sym f ∙ none_at is_flag s y (length s - 1) (omega arith))))
      (λ y. scan_flagged s y)

  module _ (none : t.flags ≡ false) (plain : is_flag last ≡ false) where
    unflagged : flagless s ≡ true
    unflagged =
        none_last is_flag s some plain
        ∙ by_bool (flagless (take (length s - 1) s)) (λ y. y)
        (λ y. absurd (true≢false (sym (found.flagged ∙ simp y) ∙ none)))

    pub last_escape : last ≡ 0xF3 → Err BadEscape ≡ scan_of s
    last_escape e = scan_unsound s unflagged (ends_unsound s some e)

    pub tally_unsound : (last ≡ 0xF3 → ⊥) → t.unsound ≡ true → Err BadEscape ≡ scan_of s
    tally_unsound n u = scan_unsound s unflagged (unsound (is_sound (unstuff false s)) (sym u ∙ found.sound n))
      where
        unsound : (x : Bool) → true ≡ not x → x ≡ false
        unsound true e = absurd (true≢false e)
        unsound false e = refl

    pub tally_sound : (last ≡ 0xF3 → ⊥) → t.unsound ≡ false
        → Ok (counted (length s - t.escapes) (bit_xor t.sum last)) ≡ scan_of s
    tally_sound n u =
        let no : within 0xF3 0xF3 last ≡ false = escape_no last (ne_eqb last 0xF3 n) in
        let low : lower_byte last ≡ last = simp (ne_eqb last 0xF3 n) in
        let c : t.escapes + 0 ≡ count_of (within 0xF3 0xF3) s =
        ap (λ (x : Bool). t.escapes + pick x 1 0) (sym no) ∙ found.counted in
        scan_sound s t.escapes (bit_xor t.sum last) unflagged (sound (is_sound (unstuff false s)) (sym u ∙ found.sound n))
        (omega arith) (ap (bit_xor t.sum) (sym low) ∙ found.summed)
      where
        sound : (x : Bool) → false ≡ not x → x ≡ true
        sound true e = refl
        sound false e = absurd (true≢false (sym e))

  pub tally_few : t.escapes ≤ length s
  tally_few = omega (arith, found.counted, count_most (within 0xF3 0xF3) s)
