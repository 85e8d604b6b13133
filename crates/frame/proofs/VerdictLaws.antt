-- Laws of the verdict: its shape test, its refusals one by one, and the frame that it accepts.
use Prim.Native.Nat.{ℕ, suc, ◌+◌, ◌-◌, ◌≤◌, ◌<◌}
use mathlib.Core.Path.{◌≡◌, refl, sym, ap, ◌∙◌, subst}
use mathlib.Core.Bool.{true, false}
use mathlib.Core.List.{List, [], ◌∷◌, ◌++◌}
use native.Mathlib.Omega.{arith}
use lib.Bits.{bit_xor}
use lib.Dec.{leb, eqb}
use lib.ListN.{length, get_or, drop, length-append, length-drop}
use lib.Seq.{take_at, get_or_at, take-suc, take_all, get_or-drop, drop-cons}
use borrow.Author.Tests.{leb-true, eqb-true, lt-leb, le-leb, eq-eqb, ne_eqb}
use Rattle.lists.specs.Choice.{pick, within, none_of}
use Rattle.lists.proofs.Cases.{by_bool, both_true}
use Rattle.lists.proofs.Lists.{drop_two}
use Rattle.lists.proofs.Tests.{within_yes, within_true, none_drop}
use Rattle.frame.specs.Flags.{flagless, kind_of, start_flag, candidate_of}
use Rattle.frame.specs.Stuffing.{Unstuffed, bad_escape, bytes, prepend, unstuff, is_stuffed}
use Rattle.frame.specs.Checksum.{checksum}
use Rattle.frame.specs.Frame.{Frame, standard, extended, contents_of, frame_kind, addresses_of, payload, frame_of}
use Rattle.frame.specs.Verdict.{Verdict, address_count, contents_in, last_of, frame_in, judge_bytes, judge, body_of}
use Rattle.frame.specs.Verdict.{is_terminated, verdict}
use Rattle.std.specs.Prelude.{Option, Some, None, Result, Ok, Err}
use Rattle.answer.specs.Answer.{result, refused}
use Rattle.answer.specs.Refusals.{number_of}
use Rattle.answer.specs.declared.Refusal.{Refusal}
use Rattle.answer.specs.declared.Refusal.TheVariants.{BadEscape, Truncated}
use Rattle.answer.specs.Draft.{draft_out}
use Rattle.frame.specs.Answers.{outline_of, outline_with, read_answer, read_out}
use Rattle.frame.specs.Private.{is_bounded, header_kind, headed, scan_from, long_refusal, unstuffed_bytes, SoundAt}
use Rattle.frame.specs.Private.{Unescaped, CountsWhole, judge_whole, scan_of}
use Rattle.frame.specs.Private.{AddressesIn, WithoutHeader, PlainSum}
use Rattle.frame.specs.declared.Kind.{Kind}
use Rattle.frame.specs.declared.Kind.TheVariants.{Extended}
use Rattle.frame.specs.declared.Header.{Header}
use Rattle.frame.specs.declared.Header.TheVariants.{Plain, Addressed}
use Rattle.frame.specs.declared.candidate.Addresses.{Addresses}
use Rattle.frame.specs.declared.candidate.Counted.{Counted}
use Rattle.frame.proofs.StuffingLaws.{unstuff_plain}
use Rattle.frame.proofs.FlagLaws.{kind_start, start_kind, start_between, none_narrower}
use Rattle.frame.proofs.ChecksumLaws.{contents_last, sum_right, sum_wrong, sum_after}
use Rattle.frame.proofs.EscapeLaws.{counted, scan_as_is}

-- ---- a start flag, a body and F2

module _ (kind : Kind) (body : List ℕ) where
  pub whole_length : length (candidate_of kind body) ≡ length body + 2
  whole_length = omega (arith, length-append body (0xF2 ∷ []))

  pub whole_body : body_of (candidate_of kind body) ≡ body
  whole_body = take_at body (0xF2 ∷ []) (length (candidate_of kind body) - 2) (omega (arith, whole_length))

  whole_stop : last_of (candidate_of kind body) ≡ 0xF2
  whole_stop =
      get_or_at (start_flag kind ∷ body) 0xF2 [] 0 (length (candidate_of kind body) - 1) (omega (arith, whole_length))

  -- it is terminated where no flag stands in the body
  whole_test : is_terminated (candidate_of kind body) ≡ flagless body
  unfolding is_terminated
  whole_test =
      let b = start_between kind in
      simp (
        le-leb 2 (length (candidate_of kind body)) (omega (arith, whole_length)),
        within_yes 0xF0 0xF1 (start_flag kind)
            b.0 b.1,
        eq-eqb (last_of (candidate_of kind body)) 0xF2 whole_stop,
        whole_body,
      )

  pub whole_terminated : flagless body ≡ true → is_terminated (candidate_of kind body) ≡ true
  whole_terminated f = whole_test ∙ f

  -- the verdict on such a list is the one on its body, and 6 where a flag stands in it
  pub candidate_verdict : verdict (candidate_of kind body) ≡ judge_whole kind body
  unfolding verdict
  candidate_verdict = simp (whole_test, kind_start kind, whole_body)

  pub whole_verdict : flagless body ≡ true → verdict (candidate_of kind body) ≡ judge kind body
  whole_verdict f = candidate_verdict ∙ simp f

pub terminated_means : (w : List ℕ) → is_terminated w ≡ true
    → (2 ≤ length w) × (0xF0 ≤ get_or w 0 0) × (get_or w 0 0 ≤ 0xF1) × (last_of w ≡ 0xF2) × (flagless (body_of w) ≡ true)
unfolding is_terminated
terminated_means w h =
    let a = both_true (leb 2 (length w)) _ h in
    let b = both_true (within 0xF0 0xF1 (get_or w 0 0)) _ a.1 in
    let c = both_true (eqb (last_of w) 0xF2) _ b.1 in
    let r = within_true 0xF0 0xF1 (get_or w 0 0) b.0 in
    (leb-true _ _ a.0, r.0, r.1, eqb-true _ _ c.0, c.1)

-- a terminated candidate is such a list
pub terminated_whole : (w : List ℕ) → is_terminated w ≡ true → w ≡ candidate_of (kind_of (get_or w 0 0)) (body_of w)
terminated_whole w h =
    let m = terminated_means w h in
    let n : suc (length w - 2) ≡ length w - 1 = omega arith in
    let l : length (drop 1 w) ≡ length w - 1 = length-drop 1 w in
    drop-cons w 0 0 (omega arith)
    ∙ ap (λ (t : List ℕ). get_or w 0 0 ∷ t)
    (sym (take_all (suc (length w - 2)) (drop 1 w) (omega arith))
    ∙ take-suc (drop 1 w) (length w - 2) 0 (omega arith)
    ∙ ap (λ (b : ℕ). body_of w ++ (b ∷ []))
    (get_or-drop 1 w (length w - 2) 0 ∙ ap (λ (i : ℕ). get_or w i 0) last_index ∙ m.3))
    ∙ ap (λ (b : ℕ). b ∷ body_of w ++ (0xF2 ∷ [])) (sym (start_kind (get_or w 0 0) m.1 m.2))
  where
    last_index : 1 + (length w - 2) ≡ length w - 1
    last_index = let m = terminated_means w h in omega arith

pub verdict_truncated : (w : List ℕ) → is_terminated w ≡ false → verdict w ≡ refused 6
unfolding verdict
verdict_truncated w h = simp h

-- a slice is truncated where it lacks a start flag first or the stop flag last, and else where a flag stands between
-- them
pub bounded_no : (w : List ℕ) → is_bounded w ≡ false → verdict w ≡ refused 6
unfolding is_bounded is_terminated verdict
bounded_no w h =
    by_bool (leb 2 (length w))
    (λ y. by_bool (within 0xF0 0xF1 (get_or w 0 0))
    (λ z. let k : eqb (last_of w) 0xF2 ≡ false = simp (y, z) at h in simp (y, z, k))
    (λ z. simp (y, z)))
    (λ y. simp y)

module _ (w : List ℕ) (h : is_bounded w ≡ true) where
  pub bounded_long : 2 ≤ length w
  unfolding is_bounded
  bounded_long = leb-true _ _ (both_true (leb 2 (length w)) _ h).0

  pub bounded_judged : (part : List ℕ) → part ≡ body_of w → judge_whole (kind_of (get_or w 0 0)) part ≡ verdict w
  unfolding is_bounded is_terminated verdict
  bounded_judged part p =
      let a = both_true (leb 2 (length w)) _ h in
      let b = both_true (within 0xF0 0xF1 (get_or w 0 0)) _ a.1 in
      ap (judge_whole (kind_of (get_or w 0 0))) p ∙ simp (a.0, b.0, b.1)

-- ---- the refusals on a body, one by one

pub judge_long : (kind : Kind) (body : List ℕ) → 118 < length body → judge kind body ≡ refused 2
unfolding judge
judge_long kind body h = simp (lt-leb (length body + 2) 120 (omega arith))

module _ (kind : Kind) (body : List ℕ) (limit : length body ≤ 118) where
  pub judge_bytes_lem : judge kind body ≡ judge_bytes kind (unstuff false body)
  unfolding judge
  judge_bytes_lem = simp (le-leb (length body + 2) 120 (omega arith))

  pub judge_escape : unstuff false body ≡ bad_escape → judge kind body ≡ refused 3
  unfolding judge_bytes
  judge_escape e = judge_bytes_lem ∙ ap (judge_bytes kind) e

  module _ (u : List ℕ) (e : unstuff false body ≡ bytes u) where
    pub judge_short : length u < address_count kind + 1 → judge kind body ≡ refused 4
    unfolding judge_bytes
    judge_short h = judge_bytes_lem ∙ ap (judge_bytes kind) e ∙ simp (lt-leb (address_count kind + 1) (length u) h)

    pub judge-sum : address_count kind + 1 ≤ length u → (last_of u ≡ checksum (contents_in (address_count kind) u) → ⊥)
        → judge kind body ≡ refused 5
    unfolding judge_bytes
    judge-sum h n =
        judge_bytes_lem ∙ ap (judge_bytes kind) e
        ∙ simp (
          le-leb (address_count kind + 1) (length u) h,
          ne_eqb (last_of u)
              (checksum (contents_in (address_count kind) u)) n,
        )

    pub judge_sound : address_count kind + 1 ≤ length u → last_of u ≡ checksum (contents_in (address_count kind) u)
        → judge kind body ≡ result (frame_in kind u)
    unfolding judge_bytes
    judge_sound h q =
        judge_bytes_lem ∙ ap (judge_bytes kind) e
        ∙ simp (
          le-leb (address_count kind + 1) (length u) h,
          eq-eqb (last_of u)
              (checksum (contents_in (address_count kind) u)) q,
        )

-- ---- a frame's own bytes

pub payload-length : (f : Frame) → length (payload f) ≡ length (addresses_of f) + length (contents_of f) + 1
unfolding payload
payload-length f =
    let c = contents_of f in
    omega (arith, length-append (addresses_of f) (c ++ (checksum c ∷ [])), length-append c (checksum c ∷ []))

pub judge-payload : (f : Frame) → judge_bytes (frame_kind f) (bytes (payload f)) ≡ result f
unfolding judge_bytes payload addresses_of contents_of frame_in
judge-payload (standard c) =
    let u = c ++ (checksum c ∷ []) in
    let n : length u ≡ length c + 1 = length-append c (checksum c ∷ []) in
    let p : contents_in 0 u ≡ c = take_at c (checksum c ∷ []) (length u - 1) (omega arith) in
    let q : last_of u ≡ checksum c = get_or_at c (checksum c) [] 0 (length u - 1) (omega arith) in
    simp (le-leb 1 (length u) (omega arith), q, p, eq-eqb (checksum c) (checksum c) refl)
judge-payload (extended to from c) =
    let u = to ∷ from ∷ c ++ (checksum c ∷ []) in
    let n : length (c ++ (checksum c ∷ [])) ≡ length c + 1 = length-append c (checksum c ∷ []) in
    let p : contents_in 2 u ≡ c = take_at c (checksum c ∷ []) (length u - 3) (omega arith) in
    let q : last_of u ≡ checksum c = get_or_at (to ∷ from ∷ c) (checksum c) [] 0 (length u - 1) (omega arith) in
    simp (le-leb 3 (length u) (omega arith), q, p, eq-eqb (checksum c) (checksum c) refl)

-- ---- the verdict on the bytes after the addresses

-- the addresses of a header before other bytes
abbrev under : Header → List ℕ → List ℕ
under Plain v = v
under (Addressed to from) v = to ∷ from ∷ v

headed_bytes : (h : Header) (v : List ℕ) → headed h (bytes v) ≡ bytes (under h v)
unfolding prepend
headed_bytes Plain v = refl
headed_bytes (Addressed to from) v = refl

under_length : (h : Header) (v : List ℕ) → length (under h v) ≡ address_count (header_kind h) + length v
under_length Plain v = omega arith
under_length (Addressed to from) v = omega arith

under_drop : (h : Header) (v : List ℕ) → drop (address_count (header_kind h)) (under h v) ≡ v
under_drop Plain v = refl
under_drop (Addressed to from) v = refl

-- the frame of a header's addresses, contents and a checksum
under_frame : (h : Header) (v : List ℕ) → 1 ≤ length v
    → frame_in (header_kind h) (under h v) ≡ frame_of h (contents_in (address_count (header_kind h)) (under h v))
unfolding frame_in
under_frame Plain v l = refl
under_frame (Addressed to from) v l = refl

module _ (h : Header) (body : List ℕ) (next : ℕ) (limit : length body ≤ 118)
    (here : unstuff false body ≡ headed h (unstuff false (drop next body))) where
  module _ (len sum : ℕ) (e : Ok (counted len sum) ≡ scan_from 0 0 (unstuff false (drop next body))) where
    -- the contents and the checksum
    rest : List ℕ
    rest = unstuffed_bytes (unstuff false (drop next body))

    scanned : (unstuff false (drop next body) ≡ bytes rest) × (len ≡ length rest) × (sum ≡ checksum rest)
    unfolding rest scan_from unstuffed_bytes
    scanned = split (unstuff false (drop next body)) e
      where
        split : (r : Unstuffed) → Ok (counted len sum) ≡ scan_from 0 0 r
            → (r ≡ bytes (unstuffed_bytes r)) × (len ≡ length (unstuffed_bytes r)) × (sum ≡ checksum (unstuffed_bytes r))
        split bad_escape e = let z : ◌≡◌ {A = ℕ} 0 1 = cc in absurd (omega arith)
        split (bytes u) e =
            let q : counted len sum ≡ counted (0 + length u) (checksum u) = cc in
            let l : len ≡ 0 + length u = ap (λ (c : Counted). c.len) q in
            (refl, omega arith, ap (λ (c : Counted). c.sum) q)

    all : unstuff false body ≡ bytes (under h rest)
    all = here ∙ ap (headed h) scanned.0 ∙ headed_bytes h rest

    pub rest_short : len < 1 → judge (header_kind h) body ≡ refused 4
    rest_short k =
        judge_short (header_kind h) body limit (under h rest) all (omega (arith, under_length h rest, scanned.1))

    module _ (k : 1 ≤ len) where
      abbrev skip : ℕ
      skip = address_count (header_kind h)

      long : skip < length (under h rest)
      long = omega (arith, under_length h rest, scanned.1)

      summed : sum ≡ checksum (drop skip (under h rest))
      summed = scanned.2 ∙ ap checksum (sym (under_drop h rest))

      pub rest_sum : (sum ≡ 0 → ⊥) → judge (header_kind h) body ≡ refused 5
      rest_sum n =
          judge-sum (header_kind h) body limit (under h rest) all (omega (arith, long))
          (sum_wrong skip (under h rest) long (λ q. n (summed ∙ q)))

      pub rest_sound : sum ≡ 0 → next ≤ length body → SoundAt (judge (header_kind h) body) body h next (len - 1)
      unfolding frame_in
      rest_sound z inside =
          let right = sum_right skip (under h rest) long (sym summed ∙ z) in
          let c = contents_in skip (under h rest) in
          let parts : rest ≡ c ++ (checksum c ∷ []) =
          sym (under_drop h rest) ∙ contents_last skip (under h rest) long ∙ ap (λ (b : ℕ). c ++ (b ∷ [])) right in
          record {
            contents = c;
            judged =
                judge_sound (header_kind h) body limit (under h rest) all (omega (arith, long)) right
                ∙ ap result (under_frame h rest (omega (arith, scanned.1)));
            counted = omega (arith, ap length parts, length-append c (checksum c ∷ []), scanned.1);
            follows = scanned.0 ∙ ap bytes parts;
            inside = inside;
          }

-- bytes that are too many are refused as a flag among them says
pub long_judged : (kind : Kind) (body : List ℕ) → 118 < length body
    → judge_whole kind body ≡ refused (number_of (long_refusal body))
long_judged kind body h = by_bool (flagless body) (λ y. simp y (judge_long kind body h)) (λ n. simp n)

-- a body that was scanned whole, without its addresses
module _ (h : Header) (whole : Counted) where
  pub headed_count : (v : Unstuffed) → Ok whole ≡ scan_from 0 0 (headed h v) → address_count (header_kind h) ≤ whole.len
  unfolding scan_from prepend
  headed_count v e = shorter h v e
    where
      shorter : (h : Header) (v : Unstuffed) → Ok whole ≡ scan_from 0 0 (headed h v)
          → address_count (header_kind h) ≤ whole.len
      shorter Plain v e = omega arith
      shorter (Addressed to from) bad_escape e = cc
      shorter (Addressed to from) (bytes u) e =
          let q : whole ≡ counted (0 + length (to ∷ from ∷ u)) (checksum (to ∷ from ∷ u)) = cc in
          omega (arith, ap (λ (c : Counted). c.len) q)

  pub headed_scan : (v : Unstuffed) (r : Counted) → Ok whole ≡ scan_from 0 0 (headed h v)
      → WithoutHeader h whole r → Ok r ≡ scan_from 0 0 v
  unfolding scan_from prepend
  headed_scan v r e w = scanned h v e w
    where
      scanned : (h : Header) (v : Unstuffed) → Ok whole ≡ scan_from 0 0 (headed h v) → WithoutHeader h whole r
          → Ok r ≡ scan_from 0 0 v
      scanned Plain v e w =
          ap (λ (n : ℕ). Ok (counted n r.sum)) w.0 ∙ ap (λ (n : ℕ). Ok (counted whole.len n)) w.1 ∙ e
      scanned (Addressed to from) bad_escape e w = cc
      scanned (Addressed to from) (bytes u) e w =
          let q : whole ≡ counted (0 + length (to ∷ from ∷ u)) (checksum (to ∷ from ∷ u)) = cc in
          let n : whole.len ≡ 0 + length (to ∷ from ∷ u) = ap (λ (c : Counted). c.len) q in
          let s : whole.sum ≡ checksum (to ∷ from ∷ u) = ap (λ (c : Counted). c.sum) q in
          let m : r.len ≡ 0 + length u = omega (arith, w.0) in
          ap (λ (n : ℕ). Ok (counted n r.sum)) m
          ∙ ap (λ (n : ℕ). Ok (counted (0 + length u) n))
          (w.1 ∙ ap (λ (n : ℕ). bit_xor n (bit_xor to from)) s ∙ sum_after to from u)

pub scan_clean : (body : List ℕ) (c : Counted) → Ok c ≡ scan_of body
    → (flagless body ≡ true) × (Ok c ≡ scan_from 0 0 (unstuff false body))
scan_clean body c e =
    by_bool (flagless body) (λ y. (y, simp y at e))
    (λ n. let q : Ok c ≡ Err Truncated = simp n at e in cc)

-- bytes that a scan refuses are refused alike
pub scan_refused : (kind : Kind) (body : List ℕ) → length body ≤ 118 → (why : Refusal) → Err why ≡ scan_of body
    → judge_whole kind body ≡ refused (number_of why)
unfolding scan_from
scan_refused kind body h why e =
    by_bool (flagless body)
    (λ y. simp y (bad (unstuff false body) refl (simp y at e)))
    (λ n. let q : ◌≡◌ {A = Result Counted Refusal} (Err why) (Err Truncated) = simp n at e in
    let r : Truncated ≡ why = cc in simp n (ap (λ (x : Refusal). refused (number_of x)) r))
  where
    bad : (r : Unstuffed) → unstuff false body ≡ r → Err why ≡ scan_from 0 0 r
        → judge kind body ≡ refused (number_of why)
    bad bad_escape u q =
        let r : BadEscape ≡ why = cc in
        judge_escape kind body h u ∙ ap (λ (x : Refusal). refused (number_of x)) r
    bad (bytes s) u q = cc

-- what a scan finds of bytes that are not too many
pub scan_counts : (body : List ℕ) → length body ≤ 118 → (found : Result Counted Refusal) → found ≡ scan_of body
    → CountsWhole body found
scan_counts body h (Ok c) e = (h, e)
scan_counts body h (Err why) e = λ kind. scan_refused kind body h why e

-- ---- a body between its two flags

pub whole_judged : (kind : Kind) (body : List ℕ) → flagless body ≡ true → judge_whole kind body ≡ judge kind body
whole_judged kind body f = simp f

-- one that was scanned whole, whose addresses are known
module _ (kind : Kind) (body : List ℕ) (limit : length body ≤ 118) (whole : Counted) (scanned : Ok whole ≡ scan_of body)
    (found : Addresses) (addressed : AddressesIn kind body (Ok found)) where
  clean : (flagless body ≡ true) × (Ok whole ≡ scan_from 0 0 (unstuff false body))
  clean = scan_clean body whole scanned

  scanned_all : Ok whole ≡ scan_from 0 0 (headed found.header (unstuff false (drop found.next body)))
  scanned_all = clean.1 ∙ ap (scan_from 0 0) addressed.2

  pub scanned_enough : address_count (header_kind found.header) ≤ whole.len
  scanned_enough = headed_count found.header whole _ scanned_all

  scanned_judged : judge_whole kind body ≡ judge (header_kind found.header) body
  scanned_judged = whole_judged kind body clean.0 ∙ ap (λ (k : Kind). judge k body) (sym addressed.1)

  module _ (rest : Counted) (apart : WithoutHeader found.header whole rest) where
    scanned_rest : Ok rest ≡ scan_from 0 0 (unstuff false (drop found.next body))
    scanned_rest = headed_scan found.header whole _ rest scanned_all apart

    pub scanned_short : rest.len < 1 → judge_whole kind body ≡ refused 4
    scanned_short h =
        scanned_judged ∙ rest_short found.header body found.next limit addressed.2 rest.len rest.sum scanned_rest h

    pub scanned_sum : 1 ≤ rest.len → (rest.sum ≡ 0 → ⊥) → judge_whole kind body ≡ refused 5
    scanned_sum h n =
        scanned_judged ∙ rest_sum found.header body found.next limit addressed.2 rest.len rest.sum scanned_rest h n

    pub scanned_sound : 1 ≤ rest.len → rest.sum ≡ 0
        → SoundAt (judge_whole kind body) body found.header found.next (rest.len - 1)
    scanned_sound h z =
        subst (λ (v : Verdict). SoundAt v body found.header found.next (rest.len - 1)) (sym scanned_judged)
        (rest_sound found.header body found.next limit addressed.2 rest.len rest.sum scanned_rest h z addressed.0)

-- one that was looked at for F0 to F3
pub plain_sum_is : (body : List ℕ) → length body ≤ 118 → (found : Option ℕ)
    → found ≡ pick (none_of is_stuffed body) (Some (checksum body)) None → PlainSum body found
plain_sum_is body limit found e =
    by_bool (none_of is_stuffed body)
    (λ y. let q : found ≡ Some (checksum body) = simp y at e in
    subst (PlainSum body) (sym q) (record { limit = limit; clear = y; summed = refl }))
    (λ n. let q : found ≡ None = simp n at e in subst (PlainSum body) (sym q) tt)

-- one in which no byte is F0 to F3
module _ (body : List ℕ) (sum : ℕ) (p : Unescaped body sum) where
  escapeless : none_of (within 0xF3 0xF3) body ≡ true
  escapeless = none_narrower 0xF0 0xF3 0xF3 0xF3 body (omega arith) (omega arith) p.clear

  pub plain_flagless : flagless body ≡ true
  plain_flagless = none_narrower 0xF0 0xF3 0xF0 0xF2 body (omega arith) (omega arith) p.clear

  -- it is counted as it stands
  pub plain_counted : CountsWhole body (Ok (counted (length body) sum))
  plain_counted = (
    p.limit,
    scan_as_is body escapeless (length body) sum refl p.summed ∙ sym (simp plain_flagless),
  )

  -- and its first two bytes are its addresses
  pub plain_addressed : 2 ≤ length body → (to from : ℕ) → to ≡ get_or body 0 0 → from ≡ get_or body 1 0
      → AddressesIn Extended body (Ok (record { header = Addressed to from; next = 2; sum = bit_xor to from }))
  unfolding prepend
  plain_addressed h to from t f =
      let rest = drop 2 body in
      let parts : body ≡ to ∷ from ∷ rest =
      drop_two body 0 (omega arith) ∙ ap (λ (b : ℕ). b ∷ get_or body 1 0 ∷ rest) (sym t)
      ∙ ap (λ (b : ℕ). to ∷ b ∷ rest) (sym f) in
      let after = unstuff_plain rest (none_drop (within 0xF3 0xF3) 2 body escapeless) in (
        h,
        refl,
        unstuff_plain body escapeless ∙ ap bytes parts
            ∙ sym (ap (λ (r : Unstuffed). prepend to (prepend from r)) after),
        refl,
      )

-- ---- the answers of a reader and of a judge

pub header_as : (h : Header) (c : List ℕ) (len : ℕ) → length c ≡ len → result (outline_with h len) ≡ result (outline_of (frame_of h c))
header_as Plain c len e = ap (λ (n : ℕ). result (outline_with Plain n)) (sym e)
header_as (Addressed to from) c len e = ap (λ (n : ℕ). result (outline_with (Addressed to from) n)) (sym e)

pub contents_of_lem : (h : Header) (c : List ℕ) → contents_of (frame_of h c) ≡ c
unfolding contents_of
contents_of_lem Plain c = refl
contents_of_lem (Addressed to from) c = refl

pub answer_refused : (v : Verdict) (n : ℕ) (out : List ℕ) → v ≡ refused n
    → (refused n ≡ read_answer v (length out)) × (out ≡ read_out v out)
unfolding read_answer read_out draft_out
answer_refused v n out e =
    (ap (λ (x : Verdict). read_answer x (length out)) (sym e), ap (λ (x : Verdict). read_out x out) (sym e))

pub answer_no_room : (v : Verdict) (f : Frame) (out : List ℕ) → v ≡ result f → length out < length (contents_of f)
    → (refused 1 ≡ read_answer v (length out)) × (out ≡ read_out v out)
unfolding read_answer read_out draft_out
answer_no_room v f out e h = (
  (simp (lt-leb (length (contents_of f)) (length out) h)) ∙ ap (λ (x : Verdict). read_answer x (length out)) (sym e),
  (simp (lt-leb (length (contents_of f)) (length out) h)) ∙ ap (λ (x : Verdict). read_out x out) (sym e),
)

pub answer_done : (v : Verdict) (f : Frame) (out : List ℕ) → v ≡ result f → length (contents_of f) ≤ length out
    → (result (outline_of f) ≡ read_answer v (length out))
    × (contents_of f ++ drop (length (contents_of f)) out ≡ read_out v out)
unfolding read_answer read_out draft_out
answer_done v f out e h = (
  (simp (le-leb (length (contents_of f)) (length out) h)) ∙ ap (λ (x : Verdict). read_answer x (length out)) (sym e),
  (simp (le-leb (length (contents_of f)) (length out) h)) ∙ ap (λ (x : Verdict). read_out x out) (sym e),
)
