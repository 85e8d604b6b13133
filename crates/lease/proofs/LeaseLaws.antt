-- Laws of one call, which the functions' proofs cite.
use Prim.Native.Nat.{ℕ, zero, suc, ◌+◌, ◌*◌, ◌/◌, ◌%◌, ◌≤◌, ◌<◌}
use Rattle.std.specs.Prelude.{◌^◌}
use mathlib.Core.Path.{◌≡◌, refl, sym, ap, ◌∙◌, subst}
use mathlib.Core.Bool.{true, false}
use mathlib.Core.List.{List, [], ◌∷◌}
use native.Mathlib.Omega.{arith}
use native.Mathlib.Nat.{zero-add}
use native.Mathlib.Numerals.{add-one}
use Rattle.lists.specs.Splice.{splice}
use Rattle.lists.proofs.Splices.{splice_nil, set-splice, splice-splice}
use lib.Dec.{leb, eqb}
use lib.ListN.{length, get_or, set, length-set}
use borrow.Author.Tests.{eq-eqb, ne_eqb}
use Rattle.answer.specs.Draft.{draft_answer, draft_out, Writes, written_means}
use Rattle.answer.specs.Answer.{refused, result, Answer}
use Rattle.numbers.specs.Number.{number, put, bytes_of, Bytes}
use Rattle.lists.specs.Choice.{pick}
use Rattle.lists.proofs.Cases.{by_bool}
use Rattle.lists.proofs.Tests.{within_true}
use Rattle.numbers.proofs.Numbers.{numbers_at}
use Rattle.frame.specs.Address.{in_range}
use Rattle.frame.specs.Stuffing.{is_stuffed, stuff, stuff_byte}
use Rattle.frame.specs.Checksum.{sum_from}
use Rattle.frame.specs.Frame.{wire_of, payload, addresses_of, contents_of, extended}
use Rattle.writer.specs.Answers.{frame_draft}
use Rattle.writer.proofs.WireLaws.{draft_fits}
use Rattle.lease.specs.Lease.{LeaseCall, hold, release, stop, address_of, token_of, owns, stop_frame, answer_of}
use Rattle.lease.specs.Lease.{table_answer, table_of, lent_answer, lent_left, lent_after}
use Rattle.lease.specs.Answers.{written_length, out_after}
use Rattle.lease.specs.Promises.{Real, LentCall, LentStop}
use Rattle.answer.specs.Refusals.{number_of}
use Rattle.answer.specs.declared.Refusal.{Refusal}
use Rattle.std.specs.Prelude.{Result, Ok, Err}
use Rattle.std.specs.Result.{result_or}
use Rattle.answer.specs.declared.Refusal.TheVariants.{NoRoom}
use Rattle.lease.specs.Private.{token_in, TokenIn, Settles}

-- ---- the range

pub range_means : (a : ℕ) → in_range a ≡ true → (1 ≤ a) × (a ≤ 252)
range_means a h = within_true 1 252 a h

-- An accepted call has an address in range.
pub accepted_range : (h : ℕ) (c : LeaseCall) (w : List ℕ) → answer_of h c ≡ result w → in_range (address_of c) ≡ true
unfolding answer_of
accepted_range h c w e = by_bool (in_range (address_of c)) (λ y. y) (λ n. absurd (outside c n e))
  where
    apart : refused 9 ≡ result w → ⊥
    apart q = let z : ◌≡◌ {A = ℕ} 0 1 = cc in omega arith

    outside : (c : LeaseCall) → in_range (address_of c) ≡ false → answer_of h c ≡ result w → ⊥
    outside (hold a t) n e = apart (simp n at e)
    outside (release a t) n e = apart (simp n at e)
    outside (stop a t room) n e = apart (simp n at e)

pub settles : (h : ℕ) (c : LeaseCall) (x : Answer (List ℕ)) → x ≡ answer_of h c → Settles (address_of c) x
settles h c (result w) e = range_means (address_of c) (accepted_range h c w (sym e))
settles h c (refused n) e = tt

-- ---- a token's bytes

-- A number written byte by byte is its bytes written at once.
pub put_spliced : (w at n : ℕ) (s : List ℕ) → at + w ≤ length s → put w at n s ≡ splice s at (bytes_of w n)
unfolding put bytes_of
put_spliced zero at n s h = sym (splice_nil s at)
put_spliced (suc w) at n s h =
    let b = n % 256 in
    let rest = bytes_of w (n / 256) in
    put_spliced w (suc at) (n / 256) (set s at b) (omega (arith, length-set s at b))
    ∙ ap (λ (l : List ℕ). splice l (suc at) rest) (set-splice s at b (omega arith))
    ∙ ap (λ (k : ℕ). splice (splice s at (b ∷ [])) k rest) (sym (add-one at))
    ∙ splice-splice s at (b ∷ []) (omega arith) rest

-- ---- a call on lent bytes

-- The token of an address in the bytes of a table is its eight bytes.
pub token_lent : (s : List ℕ) (a : ℕ) → a < 256 → get_or (table_of s) a 0 ≡ number 8 (8 * a) s
token_lent s a h = numbers_at 8 256 0 s a h ∙ ap (λ (k : ℕ). number 8 k s) (zero-add (8 * a))

pub lent_size : (s : List ℕ) (c : LeaseCall) → (length s ≡ 2048 → ⊥)
    → (refused 18 ≡ lent_answer s c) × (s ≡ lent_after s c)
unfolding lent_answer
lent_size s c n =
    let e : refused 18 ≡ lent_answer s c = simp (ne_eqb (length s) 2048 n) in
    (e, ap (λ (r : Answer (List ℕ)). lent_left r c s) e)

pub lent_answer_lem : (s : List ℕ) (c : LeaseCall) → length s ≡ 2048 → lent_answer s c ≡ table_answer (table_of s) c
unfolding lent_answer
lent_answer_lem s c size = simp (eq-eqb (length s) 2048 size)

-- Outside the range the token does not matter.
token_matters : (h : ℕ) (c : LeaseCall) → answer_of (pick (in_range (address_of c)) h 0) c ≡ answer_of h c
unfolding answer_of
token_matters h c = by_bool (in_range (address_of c)) (λ y. simp y) (outside c)
  where
    outside : (c : LeaseCall) → in_range (address_of c) ≡ false
        → answer_of (pick (in_range (address_of c)) h 0) c ≡ answer_of h c
    outside (hold a t) n = simp n
    outside (release a t) n = simp n
    outside (stop a t room) n = simp n

-- A call on 2,048 bytes is answered by the token of its address there.
pub lent_judged : (s : List ℕ) (c : LeaseCall) (h : ℕ) → length s ≡ 2048 → h ≡ token_in s (address_of c)
    → answer_of h c ≡ lent_answer s c
lent_judged s c h size held =
    ap (λ (g : ℕ). answer_of g c) held ∙ token_matters (get_or (table_of s) (address_of c) 0) c ∙ sym (lent_answer_lem s c size)

-- What every call on lent bytes comes to: refused for the bytes' length, refused by the judge, or accepted.
module _ (s : List ℕ) (c : LeaseCall) (real : Real s (token_of c)) where
  pub lent_other_length : (why : Refusal) → TokenIn s (address_of c) (Err why) → LentCall s c (refused (number_of why)) s
  lent_other_length why (k, n) =
      let q = lent_size s c n in
      record { answered = ap (λ (r : Refusal). refused (number_of r)) k ∙ q.0; left = q.1; real = real }

  module _ (h : ℕ) (held : TokenIn s (address_of c) (Ok h)) where
    pub lent_refused : (n : ℕ) → refused n ≡ answer_of h c → LentCall s c (refused n) s
    lent_refused n e =
        let y : refused n ≡ lent_answer s c = e ∙ lent_judged s c h held.0 held.1 in
        record { answered = y; left = ap (λ (r : Answer (List ℕ)). lent_left r c s) y; real = real }

    pub lent_accepted : (w after : List ℕ) → result w ≡ answer_of h c → after ≡ lent_left (result w) c s
        → LentCall s c (result w) after
    lent_accepted w after e l =
        let y : result w ≡ lent_answer s c = e ∙ lent_judged s c h held.0 held.1 in
        record { answered = y; left = l ∙ ap (λ (r : Answer (List ℕ)). lent_left r c s) y; real = real }

    -- an accepted call's eight bytes are there
    pub lent_room : (w : List ℕ) → result w ≡ answer_of h c → 8 * address_of c + 8 ≤ length s
    lent_room w e = omega (arith, held.0, range_means (address_of c) (accepted_range h c w (sym e)))

-- ---- a stop

pub stop_short : (a : ℕ) → length (stop_frame a) ≤ 13
unfolding stop_frame wire_of payload addresses_of contents_of stuff stuff_byte sum_from
stop_short a = by_bool (is_stuffed a) (λ y. simp y (omega arith)) (λ n. simp n (omega arith))

-- The contents of a stop, which the code has as a number.
terminate_bytes : bytes_of 6 0x02_01_02_13_04_76 ≡ 0x76 ∷ 0x04 ∷ 0x13 ∷ 0x02 ∷ 0x01 ∷ 0x02 ∷ []
unfolding bytes_of
terminate_bytes = refl

-- An answer and an output are those of a stop, where its answer is x.
abbrev pub Stops : Answer (List ℕ) → List ℕ → Answer ℕ → List ℕ → Type 0
Stops x out a last = (a ≡ written_length x) × (last ≡ out_after x out)

module _ (h a t : ℕ) (out : List ℕ) where
  -- who may release may stop, and who may not is refused alike
  pub holder_found : (w : List ℕ) → result w ≡ answer_of h (release a t) → (in_range a ≡ true) × (owns t h ≡ true)
  unfolding answer_of
  holder_found w e =
      by_bool (in_range a)
      (λ y. by_bool (owns t h) (λ o. (y, o))
      (λ n. let q : result w ≡ refused 11 = e ∙ simp (y, n) in let z : ◌≡◌ {A = ℕ} 0 1 = cc in absurd (omega arith)))
      (λ n. let q : result w ≡ refused 9 = e ∙ simp n in let z : ◌≡◌ {A = ℕ} 0 1 = cc in absurd (omega arith))

  pub stop_refused : (n : ℕ) → refused n ≡ answer_of h (release a t)
      → Stops (answer_of h (stop a t (length out))) out (refused n) out
  unfolding answer_of
  stop_refused n e =
      let same : refused n ≡ answer_of h (stop a t (length out)) =
      by_bool (in_range a)
      (λ y. by_bool (owns t h)
      (λ o. let q : refused n ≡ result [] = e ∙ simp (y, o) in let z : ◌≡◌ {A = ℕ} 0 1 = cc in absurd (omega arith))
      (λ o. e ∙ simp (y, o)))
      (λ y. e ∙ simp y) in
      (ap written_length same, ap (λ (r : Answer (List ℕ)). out_after r out) same)

  stop_wrote : in_range a ≡ true → owns t h ≡ true → (x : Answer ℕ) (last : List ℕ)
      → Writes (frame_draft (extended a 0x00 (0x76 ∷ 0x04 ∷ 0x13 ∷ 0x02 ∷ 0x01 ∷ 0x02 ∷ []))) out x last
      → Stops (answer_of h (stop a t (length out))) out x last
  unfolding answer_of stop_frame draft_answer draft_out
  stop_wrote range owner x last w =
      let f = extended a 0x00 (0x76 ∷ 0x04 ∷ 0x13 ∷ 0x02 ∷ 0x01 ∷ 0x02 ∷ []) in
      let d = draft_fits f (omega (arith, stop_short a)) in
      by_bool (leb (length (wire_of f)) (length out))
      (λ y. (w.0 ∙ simp (d, y, range, owner), w.1 ∙ simp (d, y, range, owner)))
      (λ n. (w.0 ∙ simp (d, n, range, owner), w.1 ∙ simp (d, n, range, owner)))

  -- What the frame writer did with the bytes of that number is what a stop does.
  pub stop_writes : in_range a ≡ true → owns t h ≡ true → (x : Answer ℕ) (last : List ℕ)
      → Writes (frame_draft (extended a 0x00 (bytes_of 6 0x02_01_02_13_04_76))) out x last
      → Stops (answer_of h (stop a t (length out))) out x last
  stop_writes range owner x last w =
      stop_wrote range owner x last
      (subst (λ (c : List ℕ). Writes (frame_draft (extended a 0x00 c)) out x last) terminate_bytes w)

  -- A stop by the holder that is refused has no room.
  pub stop_no_room : in_range a ≡ true → owns t h ≡ true → (n : ℕ) (last : List ℕ)
      → Stops (answer_of h (stop a t (length out))) out (refused n) last
      → Stops (answer_of h (stop a t (length out))) out (refused 1) last
  unfolding answer_of
  stop_no_room range owner n last s =
      by_bool (leb (length (stop_frame a)) (length out))
      (λ y. let q : refused n ≡ result (length (stop_frame a)) = simp (range, owner, y) at s.0 in
      let z : ◌≡◌ {A = ℕ} 0 1 = cc in absurd (omega arith))
      (λ y. (simp (range, owner, y), s.1))

  -- Whatever the frame writer refuses is refused with 1.
  pub stop_or_no_room : in_range a ≡ true → owns t h ≡ true → (r : Result ℕ Refusal) (last : List ℕ)
      → Stops (answer_of h (stop a t (length out))) out (written_means r) last
      → Stops (answer_of h (stop a t (length out))) out (written_means (result_or r (Err NoRoom))) last
  stop_or_no_room range owner (Ok n) last s = s
  stop_or_no_room range owner (Err why) last s = stop_no_room range owner (number_of why) last s

-- A stop's answer may be replaced by an equal one.
pub stop_by : (x y : Answer (List ℕ)) (out : List ℕ) (a : Answer ℕ) (last : List ℕ) → x ≡ y → Stops x out a last
    → Stops y out a last
stop_by x y out a last e d =
    (d.0 ∙ ap written_length e, d.1 ∙ ap (λ (r : Answer (List ℕ)). out_after r out) e)

-- ---- 18

-- No call on a table is refused with 18.
other_number : (n : ℕ) → (n ≡ 18 → ⊥) → ◌≡◌ {A = Answer (List ℕ)} (refused n) (refused 18) → ⊥
other_number n k e = let q : n ≡ 18 = cc in k q

other_answer : (w : List ℕ) → ◌≡◌ {A = Answer (List ℕ)} (result w) (refused 18) → ⊥
other_answer w e = let z : ◌≡◌ {A = ℕ} 0 1 = cc in omega arith

pub never_18 : (held : ℕ) (c : LeaseCall) → answer_of held c ≡ refused 18 → ⊥
unfolding answer_of
never_18 held (hold a t) e =
    by_bool (in_range a)
    (λ r. by_bool (eqb t 0) (λ z. other_number 14 (λ q. omega arith) (simp (r, z) at e))
    (λ z. by_bool (eqb held 0) (λ f. other_answer [] (simp (r, z, f) at e))
    (λ f. other_number 10 (λ q. omega arith) (simp (r, z, f) at e))))
    (λ r. other_number 9 (λ q. omega arith) (simp r at e))
never_18 held (release a t) e =
    by_bool (in_range a)
    (λ r. by_bool (owns t held) (λ o. other_answer [] (simp (r, o) at e))
    (λ o. other_number 11 (λ q. omega arith) (simp (r, o) at e)))
    (λ r. other_number 9 (λ q. omega arith) (simp r at e))
never_18 held (stop a t room) e =
    by_bool (in_range a)
    (λ r. by_bool (owns t held)
    (λ o. by_bool (leb (length (stop_frame a)) room) (λ l. other_answer (stop_frame a) (simp (r, o, l) at e))
    (λ l. other_number 1 (λ q. omega arith) (simp (r, o, l) at e)))
    (λ o. other_number 11 (λ q. omega arith) (simp (r, o) at e)))
    (λ r. other_number 9 (λ q. omega arith) (simp r at e))

-- ---- bytes of another length

pub stop_other_length : (s : List ℕ) (a t : ℕ) (out : List ℕ) → (length s ≡ 2048 → ⊥) → Bytes s → t < 2 ^ 64
    → LentStop s a t out (refused 18) out
stop_other_length s a t out n b f =
    let q = lent_size s (stop a t (length out)) n in
    record { answered = ap written_length q.0; written = ap (λ (x : Answer (List ℕ)). out_after x out) q.0; real = record { bytes = b; fits = f } }
