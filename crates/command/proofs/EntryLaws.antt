-- Laws of entries read one at a time.
use Prim.Native.Nat.{ℕ, zero, suc, ◌+◌, ◌-◌, ◌≤◌, ◌<◌}
use mathlib.Core.Path.{◌≡◌, refl, sym, ap, ◌∙◌}
use mathlib.Core.Bool.{Bool, true, false, true≢false}
use mathlib.Core.List.{List, [], ◌∷◌}
use native.Mathlib.Nat.{add-zero}
use native.Mathlib.Numerals.{add-one}
use native.Mathlib.Omega.{arith}
use lib.Dec.{leb, ltb, eqb}
use lib.ListN.{length, get_or, take, drop, length-drop, drop_of_length-le}
use lib.Seq.{drop-cons, drop-drop, length-take-le}
use borrow.Author.Tests.{ltb-true, ltb-false, leb-true, leb-false, le-leb, lt-leb}
use Rattle.lists.specs.Choice.{pick}
use Rattle.lists.proofs.Cases.{by_bool}
use Rattle.command.specs.Entries.{Entry, entry, entry_bytes, Parsed, unsound, sound, with_entry, parse}
use Rattle.command.specs.Entries.{parse_counted, head_of, found, nth_of, nth_in}
use Rattle.answer.specs.Answer.{Answer, result, refused}
use Rattle.command.specs.Answers.{CountAnswer, entry_count, fails_at, counted}
use Rattle.command.specs.Steps.{EntryStep, entry_step, step_at}

-- ---- data bytes are passed

pub skip_within : (limit k : ℕ) (s : List ℕ) → k ≤ length s → parse limit s k ≡ parse limit (drop k s) 0
unfolding parse
skip_within limit zero s h = refl
skip_within limit (suc k) [] h = absurd (omega arith)
skip_within limit (suc k) (x ∷ s) h = skip_within limit k s (omega arith)

-- ---- a step

-- What bytes are read as, where what stands at an index is known.
abbrev pub parse_after : (limit : ℕ) → List ℕ → Answer EntryStep → Parsed
parse_after limit s (refused n) = pick (eqb n 15) (sound []) (unsound 0)
parse_after limit s (result (entry_step b start len next)) =
    with_entry limit (entry b (take len (drop start s))) (parse limit (drop next s) 0)

counted_at : (limit b : ℕ) (s : List ℕ) (at : ℕ)
    → parse_counted limit (drop (at + 1) s) b
    ≡ parse_after limit s (pick (ltb (at + 1) (length s))
    (pick (leb (get_or s (at + 1) 0) (length s - (at + 2)))
    (result (entry_step b (at + 2) (get_or s (at + 1) 0) (at + 2 + get_or s (at + 1) 0))) (refused 7)) (refused 7))
unfolding parse with_entry
counted_at limit b s at =
    by_bool (ltb (at + 1) (length s))
    (λ y. let two : suc (at + 1) ≡ at + 2 = omega arith in
    let n = get_or s (at + 1) 0 in
    let front : drop (at + 1) s ≡ n ∷ drop (at + 2) s =
    drop-cons s (at + 1) 0 (ltb-true _ _ y) ∙ ap (λ (k : ℕ). n ∷ drop k s) two in
    let rest = drop (at + 2) s in
    let more = with_entry limit (entry b (take n rest)) (parse limit rest n) in
    ap (λ (l : List ℕ). parse_counted limit l b) front
    ∙ by_bool (leb n (length s - (at + 2)))
    (λ z. let fits : n ≤ length (drop (at + 2) s) =
    omega (arith, length-drop (at + 2) s, leb-true n (length s - (at + 2)) z) in
    ap (λ (t : Bool). pick t more (unsound 0)) (le-leb n (length rest) fits)
    ∙ ap (with_entry limit (entry b (take n (drop (at + 2) s))))
    (skip_within limit n (drop (at + 2) s) fits ∙ ap (λ (l : List ℕ). parse limit l 0) (drop-drop n (at + 2) s))
    ∙ sym (simp (y, z)))
    (λ z. let over : length (drop (at + 2) s) < n =
    omega (arith, length-drop (at + 2) s, leb-false n (length s - (at + 2)) z) in
    ap (λ (t : Bool). pick t more (unsound 0)) (lt-leb n (length rest) over) ∙ sym (simp (y, z))))
    (λ y. ap (λ (l : List ℕ). parse_counted limit l b) (drop_of_length-le s (ltb-false _ _ y)) ∙ sym (simp y))

-- the bytes from an index on are what stands there, and then the bytes after it
pub entry_step_lem : (limit : ℕ) (s : List ℕ) (at : ℕ) → parse limit (drop at s) 0 ≡ parse_after limit s (step_at limit s at)
unfolding parse with_entry step_at
entry_step_lem limit s at =
    by_bool (ltb at (length s))
    (λ y. let b = get_or s at 0 in
    let front : drop at s ≡ b ∷ drop (at + 1) s =
    drop-cons s at 0 (ltb-true _ _ y) ∙ ap (λ (k : ℕ). b ∷ drop k s) (sym (add-one at)) in
    ap (λ (l : List ℕ). parse limit l 0) front
    ∙ by_bool (ltb b limit)
    (λ z. (simp z) ∙ counted_at limit b s at ∙ sym (simp (y, z)))
    (λ z. simp (y, z)))
    (λ y. ap (λ (l : List ℕ). parse limit l 0) (drop_of_length-le s (ltb-false _ _ y)) ∙ sym (simp y))

-- where the entry at an index stands
pub record EntryStands (limit : ℕ) (s : List ℕ) (at b start len next : ℕ) : Type 0 where
  pub head : start ≡ at + head_of limit b
  pub ends : next ≡ start + len
  pub fits : next ≤ length s
  pub bare : ltb b limit ≡ false → len ≡ 0
  pub past : at < start

stands : (limit : ℕ) (s : List ℕ) (at b start len next : ℕ) → step_at limit s at ≡ result (entry_step b start len next)
    → EntryStands limit s at b start len next
unfolding step_at
stands limit s at b start len next e =
    let c = get_or s at 0 in
    let n = get_or s (at + 1) 0 in
    by_bool (ltb at (length s))
    (λ y. by_bool (ltb c limit)
    (λ z. by_bool (ltb (at + 1) (length s))
    (λ u. by_bool (leb n (length s - (at + 2)))
    (λ v. let q : result (entry_step c (at + 2) n (at + 2 + n)) ≡ result (entry_step b start len next) =
    simp (y, z, u, v) at e in
    let eb : c ≡ b = cc in
    let es : at + 2 ≡ start = cc in
    let el : n ≡ len = cc in
    let en : at + 2 + n ≡ next = cc in
    let t : ltb b limit ≡ true = ap (λ (x : ℕ). ltb x limit) (sym eb) ∙ z in
    let i = ltb-true (at + 1) (length s) u in
    let j = leb-true n (length s - (at + 2)) v in
    record {
      head = simp t (sym es);
      ends = omega arith;
      fits = omega arith;
      bare = λ f. absurd (true≢false (sym t ∙ f));
      past = omega arith;
    })
    (λ v. let q : refused 7 ≡ result (entry_step b start len next) = simp (y, z, u, v) at e in
    let w : ◌≡◌ {A = ℕ} 0 1 = cc in absurd (omega arith)))
    (λ u. let q : refused 7 ≡ result (entry_step b start len next) = simp (y, z, u) at e in
    let w : ◌≡◌ {A = ℕ} 0 1 = cc in absurd (omega arith)))
    (λ z. let q : result (entry_step c (at + 1) 0 (at + 1)) ≡ result (entry_step b start len next) = simp (y, z) at e in
    let eb : c ≡ b = cc in
    let es : at + 1 ≡ start = cc in
    let el : 0 ≡ len = cc in
    let en : at + 1 ≡ next = cc in
    let t : ltb b limit ≡ false = ap (λ (x : ℕ). ltb x limit) (sym eb) ∙ z in
    let i = ltb-true at (length s) y in
    record { head = simp t (sym es); ends = omega arith; fits = omega arith; bare = λ _. sym el; past = omega arith }))
    (λ y. let q : refused 15 ≡ result (entry_step b start len next) = simp y at e in
    let w : ◌≡◌ {A = ℕ} 0 1 = cc in absurd (omega arith))

-- ---- what the answer of a step tells

module _ (limit : ℕ) (s : List ℕ) (at : ℕ) where
  pub told : {a : Answer EntryStep} → a ≡ step_at limit s at → parse limit (drop at s) 0 ≡ parse_after limit s a
  told e = entry_step_lem limit s at ∙ ap (parse_after limit s) (sym e)

  pub told_stands : {b start len next : ℕ} → result (entry_step b start len next) ≡ step_at limit s at
      → EntryStands limit s at b start len next
  told_stands e = stands limit s at _ _ _ _ (sym e)

-- ---- counting

-- entries that were counted before
abbrev pub counted_plus : ℕ → CountAnswer → CountAnswer
counted_plus n (entry_count k) = entry_count (n + k)
counted_plus n (fails_at number at) = fails_at number at

pub count_end : (n at : ℕ) (p : Parsed) → p ≡ sound [] → entry_count n ≡ counted_plus n (counted at p)
unfolding counted
count_end n at p e = sym (ap (λ (x : Parsed). counted_plus n (counted at x)) e ∙ ap entry_count (add-zero n))

pub count_broken : (n at : ℕ) (p : Parsed) → p ≡ unsound 0 → fails_at 7 at ≡ counted_plus n (counted at p)
unfolding counted
count_broken n at p e = sym (ap (λ (x : Parsed). counted_plus n (counted at x)) e ∙ ap (fails_at 7) (add-zero at))

-- entries that were counted are sound, and those that were not are not
counted_sound : (from : ℕ) (p : Parsed) (k : ℕ) → entry_count k ≡ counted from p → (es : List Entry) × (p ≡ sound es)
unfolding counted
counted_sound from (unsound i) k e = let w : ◌≡◌ {A = ℕ} 0 1 = cc in absurd (omega arith)
counted_sound from (sound es) k e = (es, refl)

counted_unsound : (from : ℕ) (p : Parsed) (number at : ℕ) → fails_at number at ≡ counted from p
    → (i : ℕ) × (p ≡ unsound i)
unfolding counted
counted_unsound from (unsound i) number at e = (i, refl)
counted_unsound from (sound es) number at e = let w : ◌≡◌ {A = ℕ} 0 1 = cc in absurd (omega arith)

-- ---- the n-th entry

module _ {limit : ℕ} {s : List ℕ} {at b start len next : ℕ} (t : EntryStands limit s at b start len next) where
  data_length : length (take len (drop start s)) ≡ len
  data_length = length-take-le len (drop start s) (omega (arith, length-drop start s, t.fits, t.ends))

  -- an entry's bytes are as many as from its index to the next
  width : at + length (entry_bytes limit (entry b (take len (drop start s)))) ≡ next
  unfolding entry_bytes
  width =
      let l = data_length in
      by_bool (ltb b limit)
      (λ y. let h : start ≡ at + 2 = simp y at t.head in simp y (omega (arith, t.ends)))
      (λ y. let h : start ≡ at + 1 = simp y at t.head in let z : len ≡ 0 = t.bare y in
      simp y (omega (arith, t.ends)))

  -- one entry more, and the entries from the next index on
  pub count_more : (n : ℕ) (p q : Parsed) → p ≡ with_entry limit (entry b (take len (drop start s))) q
      → counted_plus (n + 1) (counted next q) ≡ counted_plus n (counted at p)
  unfolding counted with_entry
  count_more n p (unsound k) e =
      ap (fails_at 7) (omega (arith, width)) ∙ sym (ap (λ (x : Parsed). counted_plus n (counted at x)) e)
  count_more n p (sound es) e =
      ap entry_count (omega arith) ∙ sym (ap (λ (x : Parsed). counted_plus n (counted at x)) e)

  -- it is the n-th where none is left to pass, and where the entries after it are sound
  pub nth_found : (p q : Parsed) (n k : ℕ) → p ≡ with_entry limit (entry b (take len (drop start s))) q → n ≡ 0
      → entry_count k ≡ counted next q → result (found b start len) ≡ nth_in limit at p n
  unfolding with_entry nth_in nth_of
  nth_found p q n k e z c =
      let h = counted_sound next q k c in
      ap (λ (x : ℕ). result (found b x len)) t.head
      ∙ ap (λ (x : ℕ). result (found b (at + head_of limit b) x)) (sym data_length)
      ∙ sym (ap (λ (x : Parsed). nth_in limit at x n)
      (e ∙ ap (with_entry limit (entry b (take len (drop start s)))) h.1)
      ∙ ap (nth_of limit at (entry b (take len (drop start s)) ∷ h.0)) z)

  pub nth_unsound : (p q : Parsed) (n number i : ℕ) → p ≡ with_entry limit (entry b (take len (drop start s))) q
      → fails_at number i ≡ counted next q → refused 7 ≡ nth_in limit at p n
  unfolding with_entry nth_in
  nth_unsound p q n number i e c =
      let h = counted_unsound next q number i c in
      sym (ap (λ (x : Parsed). nth_in limit at x n)
      (e ∙ ap (with_entry limit (entry b (take len (drop start s)))) h.1))

  pub nth_more : (p q : Parsed) (n left : ℕ) → p ≡ with_entry limit (entry b (take len (drop start s))) q
      → n ≡ suc left → nth_in limit next q left ≡ nth_in limit at p n
  unfolding with_entry nth_in nth_of
  nth_more p (unsound k) n left e z = sym (ap (λ (x : Parsed). nth_in limit at x n) e)
  nth_more p (sound es) n left e z =
      ap (λ (x : ℕ). nth_of limit x es left) (sym width)
      ∙ sym (ap (λ (x : Parsed). nth_in limit at x n) e
      ∙ ap (nth_of limit at (entry b (take len (drop start s)) ∷ es)) z)
