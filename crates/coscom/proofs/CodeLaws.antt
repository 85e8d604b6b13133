-- Laws of the functions over plain values: loops, stores, and the answers of the tests.
use Prim.Native.Nat.{ℕ, ◌+◌, ◌-◌, ◌%◌, ◌≤◌, ◌<◌, min}
use mathlib.Core.Path.{◌≡◌, refl, sym, ap, ◌∙◌}
use mathlib.Core.Bool.{Bool, true, false, not, ◌||◌, true≢false}
use Rattle.std.specs.Prelude.{Result, Ok, Err, is_ok}
use mathlib.Core.List.{List, [], ◌∷◌, ◌++◌, append_assoc, append-nil}
use native.Mathlib.Numerals.{add-one}
use native.Mathlib.Nat.{zero-add}
use native.Mathlib.Omega.{arith}
use lib.Dec.{eqb}
use lib.ListN.{length, get_or, take, drop, length-append, length-drop, drop_of_length-le, take-append-drop}
use lib.Seq.{drop-drop, take_at, drop-cons, drop-append-le}
use borrow.Author.Tests.{lt-leb, le-leb}
use Rattle.std.proofs.lemmas.List.{take_min}
use Rattle.lists.specs.Choice.{pick, none_of}
use Rattle.lists.specs.Splice.{splice, copied, shifted}
use Rattle.lists.proofs.Lists.{take_bounds, rest_part}
use Rattle.lists.proofs.Splices.{splice_next, length-splice, copied_fits, shifted_fits}
use Rattle.answer.specs.Answer.{result, refused, through}
use Rattle.answer.specs.declared.Refusal.{Refusal}
use Rattle.answer.proofs.Drafts.{writes_refusal, writes_no_room, writes_done}
use Rattle.coscom.specs.Flags.{candidate_of, flagless}
use Rattle.coscom.specs.Packet.{Packet, packet, is_digit, is_proper, sum_of, covered, checksum}
use Rattle.coscom.specs.Packet.{tens_digit, ones_digit, two_digits, payload, wire_of}
use Rattle.coscom.specs.Verdict.{Verdict, packet_in, sum_tens, sum_ones, is_spelt, is_summed, judge}
use Rattle.coscom.specs.Verdict.{is_bounded, verdict}
use Rattle.coscom.specs.Answers.{packet_draft, PacketOutline, outline, outline_of, judge_answer, read_answer, unit_of}
use Rattle.coscom.specs.Answers.{read_out, left_in, packet_read, read_means, Reads}
use Rattle.coscom.specs.declared.Outline.{Outline}
use Rattle.coscom.proofs.PacketLaws.{parts_length, spelt_flagless}
use Rattle.coscom.proofs.VerdictLaws.{whole_length, judge_accepts, whole_accepts, unit_in, bounded_part}

-- ---- a loop that sums

module _ (s : List ℕ) (i : ℕ) where
  pub sum_more : (total b : ℕ) → b ≡ get_or s i 0 → i < length s → total + sum_of (drop i s) ≡ sum_of s
      → total + b + sum_of (drop (i + 1) s) ≡ sum_of s
  unfolding sum_of
  sum_more total b q h e =
      let d : sum_of (drop i s) ≡ get_or s i 0 + sum_of (drop (i + 1) s) =
      ap sum_of (drop-cons s i 0 h) ∙ ap (λ (n : ℕ). get_or s i 0 + sum_of (drop n s)) (sym (add-one i)) in
      omega (arith, e, d, q)

  pub sum_end : (total : ℕ) → length s ≤ i → total + sum_of (drop i s) ≡ sum_of s → total ≡ sum_of s
  unfolding sum_of
  sum_end total h e =
      let z : sum_of (drop i s) ≡ 0 = ap sum_of (drop_of_length-le s {i = i} h) in omega (arith, e, z)

-- the sum of a packet from those of its parts
pub sum-packet : (letter tens ones total : ℕ) (unit : List ℕ) → total ≡ letter + tens + ones + sum_of unit
    → total % 100 ≡ checksum (covered (packet letter tens ones unit))
unfolding sum_of covered
sum-packet letter tens ones total unit e =
    let q : total ≡ letter + (tens + (ones + sum_of unit)) = omega (arith, e) in ap (λ (n : ℕ). n % 100) q

-- ---- a loop that gathers whether an element passes a test

module _ (p : ℕ → Bool) (s : List ℕ) (i : ℕ) where
  pub seen_more : (seen hit : Bool) → i < length s → hit ≡ p (get_or s i 0)
      → pick seen false (none_of p (drop i s)) ≡ none_of p s
      → pick (seen || hit) false (none_of p (drop (i + 1) s)) ≡ none_of p s
  unfolding none_of
  seen_more true hit h e q = q
  seen_more false hit h e q =
      let d : none_of p (drop i s) ≡ pick (p (get_or s i 0)) false (none_of p (drop (i + 1) s)) =
      ap (none_of p) (drop-cons s i 0 h)
      ∙ ap (λ (n : ℕ). pick (p (get_or s i 0)) false (none_of p (drop n s))) (sym (add-one i)) in
      ap (λ (t : Bool). pick t false (none_of p (drop (i + 1) s))) e ∙ sym d ∙ q

  pub seen_end : (seen : Bool) → length s ≤ i → pick seen false (none_of p (drop i s)) ≡ none_of p s
      → not seen ≡ none_of p s
  unfolding none_of
  seen_end true h q = q
  seen_end false h q = sym (ap (none_of p) (drop_of_length-le s {i = i} h)) ∙ q

-- ---- the bytes between the flags, taken apart

-- A body as code takes it apart: its packet, and whether it is spelt and summed.
module _ (body : List ℕ) (h : 5 ≤ length body) where
  abbrev part : Packet
  part = packet (get_or body 0 0) (get_or body 1 0) (get_or body 2 0) (take (length body - 2 - 3) (drop 3 body))

  part_packet : part ≡ packet_in body
  unfolding packet_in
  part_packet =
      let e : length body - 2 - 3 ≡ length body - 5 = omega arith in
      ap (λ (n : ℕ). packet (get_or body 0 0) (get_or body 1 0) (get_or body 2 0) (take n (drop 3 body))) e

  pub part_spelt : (r x y : Bool) → r ≡ is_proper part → x ≡ is_digit (sum_tens body) → y ≡ is_digit (sum_ones body)
      → pick r (pick x y false) false ≡ is_spelt body
  unfolding is_spelt
  part_spelt r x y e f g = simp (e, f, g, part_packet)

  pub part_summed : (sum : ℕ) (r : Bool) → sum ≡ checksum (covered part)
      → r ≡ pick (eqb (sum_tens body) (tens_digit sum)) (eqb (sum_ones body) (ones_digit sum)) false → r ≡ is_summed body
  unfolding is_summed
  part_summed sum r e f =
      f ∙ ap (λ (n : ℕ). pick (eqb (sum_tens body) (tens_digit n)) (eqb (sum_ones body) (ones_digit n)) false)
      (e ∙ ap (λ (p : Packet). checksum (covered p)) part_packet)

  -- what is told of it
  pub part_told : judge body ≡ result (packet_in body) → result (outline_of part) ≡ judge_answer (judge body)
  unfolding judge_answer
  part_told e = ap (λ (p : Packet). result (outline_of p)) part_packet ∙ ap judge_answer (sym e)

-- ---- writing

-- What a call tells, and what it leaves in its output, as the fields of its contract.
abbrev pub told_and_left : {A B : Type 0} → A × B → record { result_value : A; out_after : B }
told_and_left t = record { result_value = t.0; out_after = t.1 }

module _ (p : Packet) where
  pub wire_length : length (wire_of p) ≡ length p.unit + 7
  unfolding wire_of payload covered
  wire_length =
      omega (arith, whole_length (payload p), parts_length p (tens_digit (checksum (covered p))) (ones_digit (checksum (covered p))))

  pub draft_long : 249 < length p.unit → packet_draft p ≡ refused 2
  unfolding packet_draft
  draft_long h = simp (lt-leb (length (wire_of p)) 256 (omega (arith, wire_length)))

  module _ (limit : length p.unit ≤ 249) where
    pub draft_character : is_proper p ≡ false → packet_draft p ≡ refused 22
    unfolding packet_draft
    draft_character e = simp (le-leb (length (wire_of p)) 256 (omega (arith, wire_length)), e)

    pub draft_fits : is_proper p ≡ true → packet_draft p ≡ result (wire_of p)
    unfolding packet_draft
    draft_fits e = simp (le-leb (length (wire_of p)) 256 (omega (arith, wire_length)), e)

-- what is put first in the rest of an output stands there in the whole
rest-splice : (out last w : List ℕ) (at : ℕ) → last ≡ splice (take (length out - at) (drop at out)) 0 w
    → take at out ++ (last ++ drop (length out - at) (drop at out)) ≡ splice out at w
rest-splice out last w at e =
    ap (λ (l : List ℕ). take at out ++ l)
    (ap (λ (l : List ℕ). last ++ l)
    (drop_of_length-le (drop at out) {i = length out - at} (omega (arith, length-drop at out)))
    ∙ append-nil last ∙ e ∙ ap (λ (l : List ℕ). splice l 0 w) (rest_part out at)
    ∙ ap (λ (n : ℕ). w ++ drop n (drop at out)) (zero-add (length w))
    ∙ ap (λ (l : List ℕ). w ++ l) (drop-drop (length w) at out))

-- the head, the data unit and the tail, put one after the other
pub put-packet : (p : Packet) (sum : ℕ) (out out₁ out₂ last : List ℕ) → sum ≡ checksum (covered p)
    → length p.unit + 7 ≤ length out
    → out₁ ≡ splice out 0 (0x01 ∷ p.letter ∷ p.tens ∷ p.ones ∷ []) → out₂ ≡ copied out₁ 4 p.unit
    → last ≡ splice (take (length out₂ - (4 + length p.unit)) (drop (4 + length p.unit) out₂)) 0
    (tens_digit sum ∷ ones_digit sum ∷ 0x17 ∷ [])
    → take (4 + length p.unit) out₂
    ++ (last ++ drop (length out₂ - (4 + length p.unit)) (drop (4 + length p.unit) out₂))
    ≡ splice out 0 (wire_of p)
unfolding wire_of payload covered
put-packet p sum out out₁ out₂ last e h a b c =
    let head : List ℕ = 0x01 ∷ p.letter ∷ p.tens ∷ p.ones ∷ [] in
    let tail : List ℕ = tens_digit sum ∷ ones_digit sum ∷ 0x17 ∷ [] in
    let l : length out₁ ≡ length out = ap length a ∙ length-splice out 0 head (omega arith) in
    let d : out₂ ≡ splice out₁ 4 p.unit = copied_fits p.unit out₁ out₂ 4 (omega arith) b in
    let m : out₂ ≡ splice out 0 (head ++ p.unit) = splice_next out 0 head p.unit 4 (omega arith) a refl d in
    splice_next out 0 (head ++ p.unit) tail (4 + length p.unit) (omega arith) m (omega arith)
    (rest-splice out₂ last tail (4 + length p.unit) c)
    ∙ ap (λ (n : ℕ). splice out 0 (head ++ (p.unit ++ (tens_digit n ∷ ones_digit n ∷ 0x17 ∷ [])))) e
    ∙ ap (λ (l : List ℕ). splice out 0 (head ++ l)) (sym (append_assoc p.unit (two_digits (checksum (covered p))) (0x17 ∷ [])))

-- ---- the verdict's answers

-- what an answer tells of the verdict
pub refused_means : (v : Verdict) (n : ℕ) → refused n ≡ judge_answer v → v ≡ refused n
unfolding judge_answer
refused_means (refused m) n e = let q : m ≡ n = cc in ap refused q
refused_means (result p) n e = let z : ◌≡◌ {A = ℕ} 0 1 = cc in absurd (omega arith)

-- no flag stands in what is judged to be a packet
pub packet-flagless : (body : List ℕ) (o : PacketOutline) → result o ≡ judge_answer (judge body) → flagless body ≡ true
unfolding judge_answer
packet-flagless body o e = by_verdict (judge body) refl e
  where
    by_verdict : (v : Verdict) → judge body ≡ v → result o ≡ judge_answer v → flagless body ≡ true
    by_verdict (refused m) q e = let z : ◌≡◌ {A = ℕ} 0 1 = cc in absurd (omega arith)
    by_verdict (result p) q e = let a = judge_accepts body p q in spelt_flagless body a.enough a.spelt

pub ok_flagless : (body : List ℕ) (r : Result Outline Refusal) → read_means r ≡ judge_answer (judge body) → is_ok r ≡ true
    → flagless body ≡ true
ok_flagless body (Ok o) e h = packet-flagless body (outline o.header.letter o.header.tens o.header.ones o.len) e
ok_flagless body (Err why) e h = absurd (true≢false (sym h))

-- a candidate of which a packet was told
pub record ToldIn (body : List ℕ) (o : PacketOutline) : Type 0 where
  pub packet_is : Packet
  pub judged : verdict (candidate_of body) ≡ result packet_is
  pub outline_is : outline_of packet_is ≡ o
  pub counted : length packet_is.unit ≡ o.len
  pub fits : o.len + 5 ≡ length body
  pub unit_is : packet_is.unit ≡ take o.len (drop 3 body)

pub told_means_lem : (body : List ℕ) (o : PacketOutline) → result o ≡ judge_answer (verdict (candidate_of body)) → ToldIn body o
unfolding judge_answer
told_means_lem body o e = by_verdict (verdict (candidate_of body)) refl e
  where
    by_verdict : (v : Verdict) → verdict (candidate_of body) ≡ v → result o ≡ judge_answer v → ToldIn body o
    by_verdict (refused m) q e = let z : ◌≡◌ {A = ℕ} 0 1 = cc in absurd (omega arith)
    by_verdict (result p) q e =
        let u = unit_in body p (whole_accepts body p q) in
        let s : outline_of p ≡ o = cc in
        let n : length p.unit ≡ o.len = ap (λ (x : PacketOutline). x.len) s in
        record {
          packet_is = p;
          judged = q;
          outline_is = s;
          counted = n;
          fits = omega (arith, u.0, n);
          unit_is = u.1 ∙ ap (λ (i : ℕ). take i (drop 3 body)) n;
        }

-- ---- reading into an output

module _ (v : Verdict) (out : List ℕ) where
  pub read_refused : (n : ℕ) → v ≡ refused n → (refused n ≡ read_answer v (length out)) × (out ≡ read_out v out)
  unfolding read_answer read_out
  read_refused n e = (
    ap (λ (x : Verdict). read_answer x (length out)) (sym e),
    (writes_refusal (through unit_of v) n out (ap (through unit_of) e)).1,
  )

  pub read_no_room : (p : Packet) → v ≡ result p → length out < length p.unit
      → (refused 1 ≡ read_answer v (length out)) × (out ≡ read_out v out)
  unfolding read_answer read_out
  read_no_room p e h = (
    (simp (lt-leb (length p.unit) (length out) h)) ∙ ap (λ (x : Verdict). read_answer x (length out)) (sym e),
    (writes_no_room (through unit_of v) p.unit out (ap (through unit_of) e) h).1,
  )

  pub read_done : (p : Packet) (last : List ℕ) → v ≡ result p → length p.unit ≤ length out
      → last ≡ splice out 0 p.unit
      → (result (outline_of p) ≡ read_answer v (length out)) × (last ≡ read_out v out)
  unfolding read_answer read_out
  read_done p last e h s = (
    (simp (le-leb (length p.unit) (length out) h)) ∙ ap (λ (x : Verdict). read_answer x (length out)) (sym e),
    (writes_done (through unit_of v) p.unit out last (ap (through unit_of) e) h s).1,
  )

-- A slice between its two ends, as code takes it: what reading the part tells of reading the slice.
module _ (w out : List ℕ) (bounded : is_bounded w ≡ true) where
  abbrev inner : List ℕ
  inner = take (length w - 1 - 1) (drop 1 w)

  pub read_err : (n : ℕ) → refused n ≡ judge_answer (verdict (candidate_of inner)) → Reads w out (refused n) out
  read_err n e = read_refused (verdict w) out n (sym (bounded_part w bounded) ∙ refused_means _ n e)

  module _ (o : PacketOutline) (e : result o ≡ judge_answer (verdict (candidate_of inner))) where
    told : ToldIn inner o
    told = told_means_lem inner o e

    packet_told : verdict w ≡ result told.packet_is
    packet_told = sym (bounded_part w bounded) ∙ told.judged

    pub read_ends : 3 + o.len ≤ length inner
    read_ends = omega (arith, told.fits)

    pub read_lacks : length out < o.len → Reads w out (refused 1) out
    read_lacks h = read_no_room (verdict w) out told.packet_is packet_told (omega (arith, told.counted))

    pub read_fits : (last : List ℕ) → o.len ≤ length out → last ≡ copied out 0 (take (3 + o.len - 3) (drop 3 inner))
        → Reads w out (result o) last
    read_fits last h k =
        let u = told in
        let n : 3 + o.len - 3 ≡ o.len = omega arith in
        let part : take (3 + o.len - 3) (drop 3 inner) ≡ u.packet_is.unit =
        ap (λ (i : ℕ). take i (drop 3 inner)) n ∙ sym u.unit_is in
        let room : length u.packet_is.unit ≤ length out = omega (arith, u.counted) in
        let done =
        read_done (verdict w) out u.packet_is last packet_told room
        (copied_fits u.packet_is.unit out last 0 (omega (arith, room)) (k ∙ ap (copied out 0) part)) in
        (ap result (sym u.outline_is) ∙ done.0, done.1)

-- ---- judging in place

pub left_err : (s : List ℕ) (n : ℕ) → refused n ≡ judge_answer (verdict (candidate_of s))
    → s ≡ left_in (verdict (candidate_of s)) s
unfolding left_in
left_err s n e = ap (λ (v : Verdict). left_in v s) (sym (refused_means _ n e))

pub left_told : (s : List ℕ) (o : PacketOutline) (last : List ℕ) → result o ≡ judge_answer (verdict (candidate_of s))
    → last ≡ shifted s 3 o.len → last ≡ left_in (verdict (candidate_of s)) s
unfolding left_in
left_told s o last e k =
    let u = told_means_lem s o e in
    k ∙ sym (shifted_fits s _ 3 o.len (omega (arith, u.fits)) refl)
    ∙ ap (λ (l : List ℕ). l ++ drop o.len s) (sym u.unit_is)
    ∙ ap (λ (i : ℕ). u.packet_is.unit ++ drop i s) (sym u.counted) ∙ ap (λ (v : Verdict). left_in v s) (sym u.judged)

-- A verdict on the first bytes, judged in place, leaves them and the rest as it leaves the whole.
left_part : (n : ℕ) (s : List ℕ) (v : Verdict) → verdict (candidate_of (take n s)) ≡ v
    → left_in v (take n s) ++ drop n s ≡ left_in v s
unfolding left_in
left_part n s (refused m) e = take-append-drop n s
left_part n s (result p) e =
    let k = length p.unit in
    let u = (unit_in (take n s) p (whole_accepts (take n s) p e)).0 in
    append_assoc p.unit (drop k (take n s)) (drop n s)
    ∙ ap (λ (l : List ℕ). p.unit ++ l)
    (sym (drop-append-le k (take n s) (drop n s) (omega (arith, u))) ∙ ap (drop k) (take-append-drop n s))

-- So it is with as many as code takes.
pub left_first : (len n : ℕ) (s last : List ℕ) → n ≡ min len (length s)
    → last ≡ left_in (verdict (candidate_of (take n s))) (take n s)
    → last ++ drop n s ≡ left_in (verdict (candidate_of (take len s))) s
left_first len n s last e k =
    ap (λ (l : List ℕ). l ++ drop n s) k ∙ left_part n s _ refl
    ∙ ap (λ (l : List ℕ). left_in (verdict (candidate_of l)) s) (ap (λ (i : ℕ). take i s) e ∙ take_min len s)

-- The outline of a packet and any bytes that begin with its data unit tell the packet, whole.
pub read_whole : (p : Packet) (rest : List ℕ) → packet_read (result (outline_of p)) (p.unit ++ rest) ≡ result p
unfolding packet_read
read_whole p rest =
    ap (λ (l : List ℕ). result (packet p.letter p.tens p.ones l))
    (take_at p.unit rest (length p.unit) refl)

-- The answer and the bytes that are left tell the whole verdict.
pub left_whole : (v : Verdict) (s : List ℕ) → packet_read (judge_answer v) (left_in v s) ≡ v
unfolding judge_answer left_in packet_read
left_whole (refused n) s = refl
left_whole (result p) s = read_whole p (drop (length p.unit) s)

-- They are as many as before: a data unit is shorter than the bytes that it was judged in.
pub left_length : (n : ℕ) (s : List ℕ) → length (left_in (verdict (candidate_of (take n s))) s) ≡ length s
unfolding left_in
left_length n s = of_verdict (verdict (candidate_of (take n s))) refl
  where
    of_verdict : (v : Verdict) → verdict (candidate_of (take n s)) ≡ v → length (left_in v s) ≡ length s
    of_verdict (refused m) e = refl
    of_verdict (result p) e =
        omega (
          arith,
          (unit_in (take n s) p (whole_accepts (take n s) p e)).0,
          (take_bounds n s).1,
          length-append p.unit (drop (length p.unit) s),
          length-drop (length p.unit) s,
        )
