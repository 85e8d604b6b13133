-- Laws of what stands between a packet's flags: header, data unit, and the two digits of the checksum.
use Prim.Native.Nat.{ℕ, ◌+◌, ◌-◌, ◌≤◌, ◌<◌}
use mathlib.Core.Path.{◌≡◌, sym, ap, ◌∙◌}
use mathlib.Core.Logic.{inl, inr}
use mathlib.Core.Bool.{Bool, true, false, true≢false}
use mathlib.Core.List.{List, [], ◌∷◌, ◌++◌, append_assoc}
use native.Mathlib.Omega.{arith}
use lib.Dec.{eqb}
use lib.ListN.{length, get_or, take, drop, length-append, length-drop, take-append-drop, drop_of_length-le}
use lib.Seq.{take_at, get_or_at, get_or-take, get_or-drop, drop-cons, drop-drop, length-take-le}
use borrow.Author.Tests.{eqb-true, eq-eqb, ne_eqb}
use Rattle.lists.specs.Choice.{pick, within, none_of}
use Rattle.lists.proofs.Cases.{by_bool, both_true}
use Rattle.lists.proofs.Lists.{drop_two}
use Rattle.lists.proofs.Tests.{within_yes, within_true, none_at, at_none, none_append}
use Rattle.coscom.specs.Flags.{start_flag, stop_flag, is_flag, flagless}
use Rattle.coscom.specs.Packet.{Packet, packet, is_letter, is_digit, is_forbidden, is_proper, covered, checksum}
use Rattle.coscom.specs.Packet.{tens_digit, ones_digit}
use Rattle.coscom.specs.Verdict.{packet_in, sum_tens, sum_ones, is_spelt, is_summed}
use Rattle.coscom.specs.Conditions.{Digit, InUnit, CharactersAllowed, ChecksumRight, Proper}

-- ---- five bytes or more are a header, a data unit and two bytes more

abbrev pub parts : Packet → (x y : ℕ) → List ℕ
parts p x y = p.letter ∷ p.tens ∷ p.ones ∷ (p.unit ++ (x ∷ y ∷ []))

module _ (p : Packet) (x y : ℕ) where
  pub parts_length : length (parts p x y) ≡ length p.unit + 5
  parts_length = omega (arith, length-append p.unit (x ∷ y ∷ []))

  pub parts_packet : packet_in (parts p x y) ≡ p
  unfolding packet_in
  parts_packet =
      ap (packet p.letter p.tens p.ones)
      (take_at p.unit (x ∷ y ∷ []) (length (parts p x y) - 5) (omega (arith, parts_length)))

-- the last two bytes of a list
module _ (s : List ℕ) (x y : ℕ) where
  ends_length : length (s ++ (x ∷ y ∷ [])) ≡ length s + 2
  ends_length = length-append s (x ∷ y ∷ [])

  pub ends_tens : sum_tens (s ++ (x ∷ y ∷ [])) ≡ x
  ends_tens = get_or_at s x (y ∷ []) 0 (length (s ++ (x ∷ y ∷ [])) - 2) (omega (arith, ends_length))

  pub ends_ones : sum_ones (s ++ (x ∷ y ∷ [])) ≡ y
  ends_ones =
      ap (λ (l : List ℕ). get_or l (length (s ++ (x ∷ y ∷ [])) - 1) 0) (sym (append_assoc s (x ∷ []) (y ∷ [])))
      ∙ get_or_at (s ++ (x ∷ [])) y [] 0 (length (s ++ (x ∷ y ∷ [])) - 1)
      (omega (arith, ends_length, length-append s (x ∷ [])))

  pub ends_front : take (length (s ++ (x ∷ y ∷ [])) - 2) (s ++ (x ∷ y ∷ [])) ≡ s
  ends_front = take_at s (x ∷ y ∷ []) (length (s ++ (x ∷ y ∷ [])) - 2) (omega (arith, ends_length))

pub in_parts : (body : List ℕ) → 5 ≤ length body → body ≡ parts (packet_in body) (sum_tens body) (sum_ones body)
unfolding packet_in
in_parts body h =
    let n = length body in
    let m : 3 + (n - 5) ≡ n - 2 = omega arith in
    let o : n - 2 + 1 ≡ n - 1 = omega arith in
    drop_two body 0 (omega arith)
    ∙ ap (λ (l : List ℕ). get_or body 0 0 ∷ get_or body 1 0 ∷ l)
    (drop-cons body 2 0 (omega arith)
    ∙ ap (λ (l : List ℕ). get_or body 2 0 ∷ l)
    (sym (take-append-drop (n - 5) (drop 3 body))
    ∙ ap (λ (l : List ℕ). take (n - 5) (drop 3 body) ++ l)
    (drop-drop (n - 5) 3 body ∙ ap (λ (k : ℕ). drop k body) m ∙ drop_two body (n - 2) (omega arith)
    ∙ ap (λ (k : ℕ). get_or body (n - 2) 0 ∷ get_or body k 0 ∷ drop (n - 2 + 2) body) o
    ∙ ap (λ (l : List ℕ). get_or body (n - 2) 0 ∷ get_or body (n - 1) 0 ∷ l)
    (drop_of_length-le body {i = n - 2 + 2} (omega arith)))))

-- what the checksum covers, and the two bytes after it
pub in_covered : (body : List ℕ) → 5 ≤ length body
    → body ≡ covered (packet_in body) ++ (sum_tens body ∷ sum_ones body ∷ [])
unfolding covered
in_covered body h = in_parts body h

-- ---- two digits

pub digits_digits : (n : ℕ) → n < 100 → Digit (tens_digit n) × Digit (ones_digit n)
digits_digits n h = ((omega arith, omega arith), (omega arith, omega arith))

-- the checksum, as the condition and as the test have it
module _ (body : List ℕ) (h : 5 ≤ length body) where
  pub summed_right : is_summed body ≡ true → ChecksumRight body
  unfolding is_summed
  summed_right e =
      let c = covered (packet_in body) in
      let b = both_true (eqb (sum_tens body) (tens_digit (checksum c))) _ e in (
        c,
        in_covered body h
            ∙ ap (λ (x : ℕ). c ++ (x ∷ sum_ones body ∷ [])) (eqb-true _ _ b.0)
            ∙ ap (λ (y : ℕ). c ++ (tens_digit (checksum c) ∷ y ∷ [])) (eqb-true _ _ b.1),
      )

  pub right_summed : ChecksumRight body → is_summed body ≡ true
  unfolding is_summed
  right_summed (s, e) =
      let x = tens_digit (checksum s) in
      let y = ones_digit (checksum s) in
      let t : sum_tens body ≡ x = ap sum_tens e ∙ ends_tens s x y in
      let o : sum_ones body ≡ y = ap sum_ones e ∙ ends_ones s x y in
      let c : covered (packet_in body) ≡ s =
      sym (ends_front (covered (packet_in body)) (sum_tens body) (sum_ones body))
      ∙ ap (λ (l : List ℕ). take (length l - 2) l) (sym (in_covered body h) ∙ e) ∙ ends_front s x y in
      let p : eqb (sum_tens body) (tens_digit (checksum (covered (packet_in body)))) ≡ true =
      eq-eqb _ _ (t ∙ ap (λ (l : List ℕ). tens_digit (checksum l)) (sym c)) in
      let q : eqb (sum_ones body) (ones_digit (checksum (covered (packet_in body)))) ≡ true =
      eq-eqb _ _ (o ∙ ap (λ (l : List ℕ). ones_digit (checksum l)) (sym c)) in
      ap (λ (b : Bool). pick b (eqb (sum_ones body) (ones_digit (checksum (covered (packet_in body))))) false) p ∙ q

-- ---- bytes that are allowed at their places

pub allowed_in_unit : (b : ℕ) → InUnit b → is_forbidden b ≡ false
allowed_in_unit b (inl h) = by_bool (eqb b 0x1D) (λ y. simp y) (λ n. simp (n, within_yes 0x20 0x7E b h.0 h.1))
allowed_in_unit b (inr e) = simp (eq-eqb b 0x1D e)

pub in_unit_allowed : (b : ℕ) → is_forbidden b ≡ false → InUnit b
in_unit_allowed b e =
    by_bool (eqb b 0x1D)
    (λ y. inr (eqb-true b 0x1D y))
    (λ n. by_bool (within 0x20 0x7E b)
    (λ y. inl (within_true 0x20 0x7E b y))
    (λ m. let q : true ≡ false = simp (n, m) at e in absurd (true≢false q)))

pub proper_means : (p : Packet) → is_proper p ≡ true → Proper p
unfolding is_proper
proper_means p h =
    let a = both_true (is_letter p.letter) _ h in
    let b = both_true (is_digit p.tens) _ a.1 in
    let c = both_true (is_digit p.ones) _ b.1 in
    record {
      letter = within_true 0x41 0x5A p.letter a.0;
      tens = within_true 0x30 0x39 p.tens b.0;
      ones = within_true 0x30 0x39 p.ones c.0;
      unit = λ i l. in_unit_allowed (get_or p.unit i 0) (none_at is_forbidden p.unit c.1 i l);
    }

pub proper_is : (p : Packet) → Proper p → is_proper p ≡ true
unfolding is_proper
proper_is p k =
    let u : none_of is_forbidden p.unit ≡ true =
    at_none is_forbidden p.unit (λ i l. allowed_in_unit (get_or p.unit i 0) (k.unit i l)) in
    simp (within_yes 0x41 0x5A p.letter k.letter.0 k.letter.1, within_yes 0x30 0x39 p.tens k.tens.0 k.tens.1, within_yes 0x30 0x39 p.ones k.ones.0 k.ones.1, u)

module _ (body : List ℕ) (h : 5 ≤ length body) where
  unit_at : (i : ℕ) → i < length body - 5 → get_or (take (length body - 5) (drop 3 body)) i 0 ≡ get_or body (3 + i) 0
  unit_at i l = get_or-take (length body - 5) (drop 3 body) i 0 l ∙ get_or-drop 3 body i 0

  unit_length : length (take (length body - 5) (drop 3 body)) ≡ length body - 5
  unit_length = length-take-le (length body - 5) (drop 3 body) (omega (arith, length-drop 3 body))

  pub spelt_allowed : is_spelt body ≡ true → CharactersAllowed body
  unfolding is_spelt packet_in
  spelt_allowed e =
      let a = both_true (is_proper (packet_in body)) _ e in
      let b = both_true (is_digit (sum_tens body)) _ a.1 in
      let m = proper_means (packet_in body) a.0 in
      record {
        letter = m.letter;
        tens = m.tens;
        ones = m.ones;
        unit = λ i low high.
            let k : 3 + (i - 3) ≡ i = omega arith in
            in_unit_allowed (get_or body i 0)
            (ap is_forbidden (sym (unit_at (i - 3) (omega arith) ∙ ap (λ (j : ℕ). get_or body j 0) k))
            ∙ allowed_in_unit _ (m.unit (i - 3) (omega (arith, unit_length))));
        sum_tens = within_true 0x30 0x39 (sum_tens body) b.0;
        sum_ones = within_true 0x30 0x39 (sum_ones body) b.1;
      }

  pub allowed_spelt : CharactersAllowed body → is_spelt body ≡ true
  unfolding is_spelt packet_in
  allowed_spelt a =
      let p : is_proper (packet_in body) ≡ true =
      proper_is (packet_in body)
      (record {
        letter = a.letter;
        tens = a.tens;
        ones = a.ones;
        unit = λ i l. let j : i < length body - 5 = omega (arith, unit_length) in
            in_unit_allowed _
            (ap is_forbidden (unit_at i j)
            ∙ allowed_in_unit (get_or body (3 + i) 0) (a.unit (3 + i) (omega arith) (omega arith)));
      }) in
      simp (p, within_yes 0x30 0x39 (sum_tens body) a.sum_tens.0 a.sum_tens.1, within_yes 0x30 0x39 (sum_ones body) a.sum_ones.0 a.sum_ones.1)

  -- the packet in bytes that are allowed at their places
  pub spelt_proper : CharactersAllowed body → Proper (packet_in body)
  unfolding is_spelt
  spelt_proper a = proper_means (packet_in body) (both_true (is_proper (packet_in body)) _ (allowed_spelt a)).0

-- A packet's bytes with two digits are allowed at their places.
pub parts_allowed : (p : Packet) (x y : ℕ) → Proper p → Digit x → Digit y → CharactersAllowed (parts p x y)
unfolding is_spelt
parts_allowed p x y k d e =
    let b = parts p x y in
    let q : is_proper (packet_in b) ≡ true = ap is_proper (parts_packet p x y) ∙ proper_is p k in
    let t : is_digit (sum_tens b) ≡ true =
    ap is_digit (ends_tens (p.letter ∷ p.tens ∷ p.ones ∷ p.unit) x y) ∙ within_yes 0x30 0x39 x d.0 d.1 in
    let o : is_digit (sum_ones b) ≡ true =
    ap is_digit (ends_ones (p.letter ∷ p.tens ∷ p.ones ∷ p.unit) x y) ∙ within_yes 0x30 0x39 y e.0 e.1 in
    spelt_allowed b (omega (arith, parts_length p x y))
    (ap (λ (z : Bool). pick z (pick (is_digit (sum_tens b)) (is_digit (sum_ones b)) false) false) q
    ∙ ap (λ (z : Bool). pick z (is_digit (sum_ones b)) false) t ∙ o)

-- ---- no flag stands in a packet whose bytes are allowed

above_no_flag : (b : ℕ) → 0x17 < b → is_flag b ≡ false
above_no_flag b h = simp (ne_eqb b start_flag (λ e. omega arith), ne_eqb b stop_flag (λ e. omega arith))

pub proper_flagless : (p : Packet) (x y : ℕ) → Proper p → Digit x → Digit y → flagless (parts p x y) ≡ true
unfolding none_of
proper_flagless p x y m d e =
    let u : none_of is_flag p.unit ≡ true =
    at_none is_flag p.unit (λ i l. of_unit (get_or p.unit i 0) (m.unit i l)) in
    let t : none_of is_flag (x ∷ y ∷ []) ≡ true =
    simp (above_no_flag x (omega (arith, d.0)), above_no_flag y (omega (arith, e.0))) in
    let v : none_of is_flag (p.unit ++ (x ∷ y ∷ [])) ≡ true =
    none_append is_flag p.unit (x ∷ y ∷ [])
    ∙ ap (λ (k : Bool). pick k (none_of is_flag (x ∷ y ∷ [])) false) u ∙ t in
    simp (above_no_flag p.letter (omega (arith, m.letter.0)), above_no_flag p.tens (omega (arith, m.tens.0)), above_no_flag p.ones (omega (arith, m.ones.0))) v
  where
    of_unit : (b : ℕ) → InUnit b → is_flag b ≡ false
    of_unit b (inl h) = above_no_flag b (omega (arith, h.0))
    of_unit b (inr h) = above_no_flag b (omega arith)

-- no flag stands in bytes that are allowed at their places
pub spelt_flagless : (body : List ℕ) → 5 ≤ length body → is_spelt body ≡ true → flagless body ≡ true
spelt_flagless body h e =
    let a = spelt_allowed body h e in
    ap flagless (in_parts body h)
    ∙ proper_flagless (packet_in body) (sum_tens body) (sum_ones body) (spelt_proper body h a) a.sum_tens a.sum_ones
