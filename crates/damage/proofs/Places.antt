-- The places are right: an index between the flags of a sound frame lies in the part that `part_at` says, and a byte that
-- is neither F3 nor right after F3 is that byte of the unstuffed frame.
use Prim.Native.Nat.{ℕ, zero, suc, ◌+◌, ◌-◌, ◌≤◌, ◌<◌}
use mathlib.Core.Path.{◌≡◌, refl, sym, ap, ap₂, ◌∙◌, subst}
use mathlib.Core.List.{List, [], ◌∷◌, ◌++◌}
use native.Mathlib.Omega.{arith}
use lib.Dec.{eqb}
use lib.ListN.{length, get_or, take, get_or-append}
use lib.Seq.{take-append-le, take_all}
use borrow.Author.Tests.{eqb-true, eqb-false, ne_eqb, eq-eqb}
use Rattle.lists.proofs.Cases.{by_bool}
use Rattle.frame.specs.Flags.{start_flag, stop_flag, candidate_of}
use Rattle.frame.specs.Frame.{Frame, standard, extended, contents_of, addresses_of, frame_kind, payload}
use Rattle.frame.specs.Verdict.{body_of}
use Rattle.frame.specs.Conditions.{SoundFrame, Unstuffs}
use Rattle.frame.specs.Places.{unstuffed_in, StandsFor}
use Rattle.frame.specs.declared.Origin.{Origin}
use Rattle.frame.specs.declared.Kind.{Kind}
use Rattle.frame.proofs.FlagLaws.{kind_start}
use Rattle.frame.proofs.UnstuffsLaws.{unstuffs_count, unstuffs_place, unstuffs_itself, stands_once}
use Rattle.frame.proofs.VerdictLaws.{payload-length}
use Rattle.frame.proofs.VerdictLaws.{whole_length, whole_body}
use Rattle.damage.specs.Damage.{Part, in_destination, in_source, in_contents, in_checksum, Between, number_at, part_after}
use Rattle.damage.specs.Damage.{part_of, part_at, LiesIn, PlaceIs, PlainAt}

-- ---- the parts of a frame

-- after the addresses, in the contents or at the checksum
pub after_part : (n all : ℕ) (P : Part → Type 0) → (n + 1 ≡ all → P in_checksum) → ((n + 1 ≡ all → ⊥) → P in_contents)
    → P (part_after n all)
after_part n all P y k =
    by_bool (eqb (n + 1) all) (λ e. simp e (y (eqb-true _ _ e))) (λ e. simp e (k (eqb-false _ _ e)))

-- a number lies in the part that it is said to lie in
part_lies : (f : Frame) (n : ℕ) → n < length (payload f) → LiesIn (part_of (frame_kind f) n (length (payload f))) f n
unfolding addresses_of contents_of
part_lies (standard c) n h =
    after_part n (length (payload (standard c))) (λ (part : Part). LiesIn part (standard c) n)
    (λ e. omega (arith, payload-length (standard c)))
    (λ k. (omega arith, omega (arith, k, payload-length (standard c))))
part_lies (extended to from c) zero h = (refl, refl)
part_lies (extended to from c) (suc zero) h = (refl, refl)
part_lies (extended to from c) (suc (suc n)) h =
    after_part (suc (suc n)) (length (payload (extended to from c)))
    (λ (part : Part). LiesIn part (extended to from c) (suc (suc n)))
    (λ e. omega (arith, payload-length (extended to from c)))
    (λ k. (omega arith, omega (arith, k, payload-length (extended to from c))))

-- a number that lies in a part of a frame is said to lie in that part and in no other
lies_part : (f : Frame) (n : ℕ) (part : Part) → LiesIn part f n → part_of (frame_kind f) n (length (payload f)) ≡ part
unfolding addresses_of contents_of
lies_part (standard c) n in_destination h = let z : ◌≡◌ {A = ℕ} 0 1 = cc in absurd (omega arith)
lies_part (standard c) n in_source h = let z : ◌≡◌ {A = ℕ} 0 1 = cc in absurd (omega arith)
lies_part (standard c) n in_contents h =
    simp (ne_eqb (n + 1) (length (payload (standard c))) (λ e. omega (arith, payload-length (standard c))))
lies_part (standard c) n in_checksum h =
    simp (eq-eqb (n + 1) (length (payload (standard c))) (omega (arith, payload-length (standard c))))
lies_part (extended to from c) zero in_destination h = refl
lies_part (extended to from c) (suc n) in_destination h = absurd (omega arith)
lies_part (extended to from c) zero in_source h = absurd (omega arith)
lies_part (extended to from c) (suc zero) in_source h = refl
lies_part (extended to from c) (suc (suc n)) in_source h = absurd (omega arith)
lies_part (extended to from c) zero in_contents h = absurd (omega arith)
lies_part (extended to from c) (suc zero) in_contents h = absurd (omega arith)
lies_part (extended to from c) (suc (suc n)) in_contents h =
    simp (ne_eqb (suc (suc n) + 1) (length (payload (extended to from c)))
    (λ e. omega (arith, payload-length (extended to from c))))
lies_part (extended to from c) zero in_checksum h = absurd (omega arith)
lies_part (extended to from c) (suc zero) in_checksum h = absurd (omega arith)
lies_part (extended to from c) (suc (suc n)) in_checksum h =
    simp (eq-eqb (suc (suc n) + 1) (length (payload (extended to from c)))
    (omega (arith, payload-length (extended to from c))))

-- ---- the numbers, on the wire

-- the index and the number of unstuffed bytes before it, with the flags and without them
number-inside : (kind : Kind) (body : List ℕ) (j : ℕ) → j ≤ length body
    → number_at (candidate_of kind body) (suc j) ≡ unstuffed_in (take j body)
number-inside kind body j h =
    let one : suc j - 1 ≡ j = omega arith in
    ap (λ (n : ℕ). unstuffed_in (take n (body ++ (stop_flag ∷ [])))) one
    ∙ ap unstuffed_in (take-append-le j body (stop_flag ∷ []) h)

-- as many as the frame's addresses, contents and checksum
number_all : (kind : Kind) (body u : List ℕ) → Unstuffs body u
    → number_at (candidate_of kind body) (length (candidate_of kind body) - 1) ≡ length u
number_all kind body u r =
    let n : length (candidate_of kind body) - 1 ≡ suc (length body) = omega (arith, whole_length kind body) in
    ap (number_at (candidate_of kind body)) n ∙ number-inside kind body (length body) (omega arith)
    ∙ ap unstuffed_in (take_all (length body) body (omega arith)) ∙ unstuffs_count r

-- ---- the places are right

module _ (f : Frame) (body : List ℕ) (r : Unstuffs body (payload f)) (j : ℕ) where
  abbrev wire : List ℕ
  wire = candidate_of (frame_kind f) body

  inside : Between wire (suc j) → j < length body
  inside h = omega (arith, h.1, whole_length (frame_kind f) body)

  -- the number of the byte, and its part by that number
  pub number_is : Between wire (suc j) → number_at wire (suc j) ≡ unstuffed_in (take j body)
  number_is h = number-inside (frame_kind f) body j (omega (arith, inside h))

  pub part_is : part_at wire (suc j) ≡ part_of (frame_kind f) (number_at wire (suc j)) (length (payload f))
  part_is =
      ap₂ (λ (k : Kind) (all : ℕ). part_of k (number_at wire (suc j)) all) (kind_start (frame_kind f))
      (number_all (frame_kind f) body (payload f) r)

  stands_at : Between wire (suc j) → StandsFor (body_of wire) (payload f) (suc j - 1) (number_at wire (suc j))
  stands_at h =
      let one : suc j - 1 ≡ j = omega arith in
      subst (λ (s : List ℕ). StandsFor s (payload f) (suc j - 1) (number_at wire (suc j)))
      (sym (whole_body (frame_kind f) body))
      (subst (λ (n : ℕ). StandsFor body (payload f) n (number_at wire (suc j))) (sym one)
      (subst (StandsFor body (payload f) j) (sym (number_is h)) (unstuffs_place r j (inside h))))

  place_inside : Between wire (suc j) → PlaceIs wire f (suc j)
  place_inside h =
      let n = number_at wire (suc j) in
      let k = stands_at h in
      let one : suc j - 1 ≡ j = omega arith in
      record {
        stands = k;
        once = λ m q. stands_once (suc j - 1) m q
            ∙ ap unstuffed_in (ap₂ take one (whole_body (frame_kind f) body)) ∙ sym (number_is h);
        lies = λ part. (
          (λ e. subst (λ (q : Part). LiesIn q f n) (sym part_is ∙ e) (part_lies f n k.inside)),
          (λ l. part_is ∙ lies_part f n part l),
        );
      }

  -- what is known of a byte that is neither F3 nor right after F3, without the flags
  pub plain_inside : PlainAt wire (suc j)
      → (j < length body) × (get_or wire (suc j) 0 ≡ get_or body j 0) × (get_or body j 0 ≡ 0xF3 → ⊥)
      × (get_or (start_flag (frame_kind f) ∷ body) j 0 ≡ 0xF3 → ⊥)
  plain_inside c =
      let h = inside c.between in
      let one : suc j - 1 ≡ j = omega arith in
      let here : get_or wire (suc j) 0 ≡ get_or body j 0 = get_or-append body (stop_flag ∷ []) 0 j h in
      let back : get_or wire (suc j - 1) 0 ≡ get_or (start_flag (frame_kind f) ∷ body) j 0 =
      ap (λ (n : ℕ). get_or wire n 0) one
      ∙ get_or-append (start_flag (frame_kind f) ∷ body) (stop_flag ∷ []) 0 j (omega arith) in
      (h, here, (λ e. c.no_escape (here ∙ e)), (λ e. c.not_escaped (back ∙ e)))

  byte_inside : PlainAt wire (suc j) → get_or (payload f) (number_at wire (suc j)) 0 ≡ get_or wire (suc j) 0
  byte_inside c =
      let k = plain_inside c in
      ap (λ (n : ℕ). get_or (payload f) n 0) (number_is c.between)
      ∙ unstuffs_itself r (start_flag (frame_kind f)) j k.0 k.2 k.3
      ∙ sym k.1

-- A sound frame's bytes between its flags, and the whole slice made of them.
pub sound_body : (p : Origin) (w : List ℕ) (f : Frame) (s : SoundFrame p w f)
    → Unstuffs s.slice.candidate.body (payload f) × (w ≡ candidate_of (frame_kind f) s.slice.candidate.body)
sound_body p w f s =
    let t = s.slice.candidate in (
      subst (Unstuffs t.body) s.bytes_are s.slice.unstuffs,
      t.shape ∙ ap (λ (k : Kind). candidate_of k t.body) s.kind_is,
    )

-- `number_at` and `part_at` are right at every index between the flags of a sound frame.
pub place_right : (p : Origin) (w : List ℕ) (f : Frame) (i : ℕ) → SoundFrame p w f → Between w i → PlaceIs w f i
place_right p w f zero s h = absurd (omega (arith, h.0))
place_right p w f (suc j) s h =
    let k = sound_body p w f s in
    subst (λ (v : List ℕ). Between v (suc j) → PlaceIs v f (suc j)) (sym k.1)
    (place_inside f s.slice.candidate.body k.0 j) h

-- A byte that is neither F3 nor right after F3 is the byte of the unstuffed frame with that number.
pub place_byte : (p : Origin) (w : List ℕ) (f : Frame) (i : ℕ) → SoundFrame p w f → PlainAt w i
    → get_or (payload f) (number_at w i) 0 ≡ get_or w i 0
place_byte p w f zero s c = absurd (omega (arith, c.between.0))
place_byte p w f (suc j) s c =
    let k = sound_body p w f s in
    subst (λ (v : List ℕ). PlainAt v (suc j) → get_or (payload f) (number_at v (suc j)) 0 ≡ get_or v (suc j) 0) (sym k.1)
    (byte_inside f s.slice.candidate.body k.0 j) c
