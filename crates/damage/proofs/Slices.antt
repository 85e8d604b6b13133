-- One byte of a sound frame changed: which frame the slice is then, or that it is refused with 5.
use Prim.Native.Nat.{ℕ, zero, suc, ◌≤◌, ◌<◌}
use mathlib.Core.Path.{◌≡◌, refl, sym, ap, ◌∙◌, subst}
use mathlib.Core.Logic.{inl, inr}
use mathlib.Core.List.{List, [], ◌∷◌}
use native.Mathlib.Omega.{arith}
use lib.ListN.{length, get_or, set, take, drop, length-set}
use lib.Seq.{set-append_left}
use borrow.Author.Tests.{lt-leb, le-leb}
use Rattle.lists.proofs.Lists.{every_set}
use Rattle.answer.specs.Answer.{result, refused}
use Rattle.framing.specs.Reference.{FlagFree, plain}
use Rattle.frame.specs.Flags.{start_flag, stop_flag, role_of, candidate_of}
use Rattle.frame.specs.Frame.{Frame, standard, extended, contents_of, addresses_of, frame_kind, payload}
use Rattle.frame.specs.Verdict.{verdict}
use Rattle.frame.specs.Origin.{admit}
use Rattle.frame.specs.Conditions.{Terminated, Unstuffs, LongEnough, ChecksumRight, SenderNamed, SoundFrame}
use Rattle.frame.specs.Conditions.{Judged, bad_sum}
use Rattle.frame.specs.Places.{unstuffed_in}
use Rattle.frame.specs.declared.Origin.{Origin}
use Rattle.frame.specs.declared.Kind.{Kind}
use Rattle.frame.specs.declared.Kind.TheVariants.{Extended}
use Rattle.frame.proofs.FlagLaws.{no_flag}
use Rattle.frame.proofs.OriginLaws.{extended_named}
use Rattle.frame.proofs.ChecksumLaws.{sum_changed}
use Rattle.frame.proofs.UnstuffsLaws.{unstuffs_place, unstuffs_itself, unstuffs_changed, unstuffs_sound}
use Rattle.frame.proofs.VerdictLaws.{whole_length}
use Rattle.frame.proofs.Table.{payload-sum, verdict_by_table, accepted_exactly}
use Rattle.damage.specs.Damage.{Part, part_after, part_of, part_at, Unreserved, OneChange, Effect, caught}
use Rattle.damage.specs.Damage.{accepted_as, no_such_part, effect_of, effect_at, Shows}
use Rattle.damage.proofs.Places.{after_part, number_is, part_is, plain_inside, sound_body}

-- An effect that shows in one way shows in another that follows.
pub shows_as : {A B : Frame → Type 0} {C D : Type 0} → ((g : Frame) → A g → B g) → (C → D) → (e : Effect) → Shows A C e
    → Shows B D e
shows_as k l caught h = l h
shows_as k l (accepted_as g) h = k g h
shows_as k l no_such_part h = h

-- ---- the unstuffed bytes

-- in contents or checksum, whichever it is
after_addresses : (A : Frame → Type 0) (C : Type 0) (n all : ℕ) (f : Frame) (b : ℕ) → C
    → Shows A C (effect_of (part_after n all) f b)
after_addresses A C n all f b h = after_part n all (λ (part : Part). Shows A C (effect_of part f b)) (λ e. h) (λ e. h)

-- changed unstuffed bytes are those of another extended frame, or have a wrong checksum
abbrev Readdressed : Frame → (n b : ℕ) → Frame → Type 0
Readdressed f n b g = (frame_kind f ≡ Extended) × (frame_kind g ≡ Extended) × (set (payload f) n b ≡ payload g)

abbrev SumWrong : Frame → (n b : ℕ) → Type 0
SumWrong f n b = ChecksumRight (frame_kind f) (set (payload f) n b) → ⊥

-- One byte of a frame's unstuffed bytes changed: in an address they are those of the frame with only that address
-- changed, and after the addresses their checksum is wrong.
bytes_changed : (f : Frame) (n b : ℕ) → n < length (payload f) → (b ≡ get_or (payload f) n 0 → ⊥)
    → Shows (Readdressed f n b) (SumWrong f n b) (effect_of (part_of (frame_kind f) n (length (payload f))) f b)
unfolding payload addresses_of contents_of
bytes_changed (standard c) n b h other =
    after_addresses (Readdressed (standard c) n b) (SumWrong (standard c) n b) n (length (payload (standard c)))
    (standard c) b (λ (d, e). sum_changed c d n b h other e)
bytes_changed (extended to from c) zero b h other = (refl, refl, refl)
bytes_changed (extended to from c) (suc zero) b h other = (refl, refl, refl)
bytes_changed (extended to from c) (suc (suc n)) b h other =
    let f = extended to from c in
    after_addresses (Readdressed f (suc (suc n)) b) (SumWrong f (suc (suc n)) b) (suc (suc n)) (length (payload f)) f b
    (λ (to', from', d, e). sum_changed c d n b (omega arith) other (ap (drop 2) e))

-- ---- between the flags

unreserved_plain : (b : ℕ) → Unreserved b → (role_of b ≡ plain) × (b ≡ 0xF3 → ⊥)
unreserved_plain b (inl h) = (no_flag b (simp (lt-leb 0xF0 b h)), λ e. omega arith)
unreserved_plain b (inr h) =
    (no_flag b (simp (le-leb 0xF0 b (omega arith), lt-leb b 0xF2 (omega arith))), λ e. omega arith)

-- a candidate with one byte between its flags changed is a candidate of the same kind
changed_shape : (kind : Kind) (body : List ℕ) (j b : ℕ) → j < length body
    → set (candidate_of kind body) (suc j) b ≡ candidate_of kind (set body j b)
changed_shape kind body j b h =
    ap (λ (l : List ℕ). start_flag kind ∷ l) (set-append_left body (stop_flag ∷ []) j b h)

changed_free : (body : List ℕ) (j b : ℕ) → FlagFree role_of body → Unreserved b → FlagFree role_of (set body j b)
changed_free body j b free u =
    every_set (λ (x : ℕ). role_of x ≡ plain) body j b free (unreserved_plain b u).0

module _ (o : Origin) (f : Frame) (body : List ℕ) (free : FlagFree role_of body) (r : Unstuffs body (payload f))
    (limit : length (candidate_of (frame_kind f) body) ≤ 120) (enough : LongEnough (frame_kind f) (payload f)) (j b : ℕ)
    (c : OneChange (candidate_of (frame_kind f) body) (suc j) b) where
  abbrev wire : List ℕ
  wire = candidate_of (frame_kind f) body

  abbrev number : ℕ
  number = unstuffed_in (take j body)

  plain_at : (j < length body) × (get_or wire (suc j) 0 ≡ get_or body j 0) × (get_or body j 0 ≡ 0xF3 → ⊥)
      × (get_or (start_flag (frame_kind f) ∷ body) j 0 ≡ 0xF3 → ⊥)
  plain_at = plain_inside f body r j c.place

  -- the changed slice is one terminated candidate, and stands for the changed bytes
  candidate : Terminated (set wire (suc j) b)
  candidate = record {
    kind = frame_kind f;
    body = set body j b;
    shape = changed_shape (frame_kind f) body j b plain_at.0;
    inside = changed_free body j b free c.unreserved;
  }

  stands : Unstuffs (set body j b) (set (payload f) number b)
  stands = unstuffs_changed r (start_flag (frame_kind f)) j plain_at.0 plain_at.2 plain_at.3 b
      (unreserved_plain b c.unreserved).1

  within : length (set wire (suc j) b) ≤ 120
  within = omega (arith, length-set wire (suc j) b, limit)

  long_enough : LongEnough (frame_kind f) (set (payload f) number b)
  long_enough = omega (arith, enough, length-set (payload f) number b)

  sum_wrong : SumWrong f number b → Judged o (set wire (suc j) b) (refused 5)
  unfolding candidate
  sum_wrong wrong = bad_sum candidate (set (payload f) number b) within (unstuffs_sound stands) stands long_enough wrong

  readdressed : (g : Frame) → Readdressed f number b g → SoundFrame o (set wire (suc j) b) g
  unfolding candidate
  readdressed g (kind-f, kind-g, e) = record {
    slice = record {
      candidate = candidate;
      limit = within;
      escapes = unstuffs_sound stands;
      unstuffed = set (payload f) number b;
      unstuffs = stands;
      enough = long_enough;
      sum = subst (λ (q : Kind). ChecksumRight q (set (payload f) number b)) (kind-g ∙ sym kind-f)
          (subst (ChecksumRight (frame_kind g)) (sym e) (payload-sum g));
      sender = subst (SenderNamed o) (sym kind-f) (extended_named o);
    };
    kind_is = kind-f ∙ sym kind-g;
    bytes_are = e;
  }

  inside_damaged : Shows (SoundFrame o (set wire (suc j) b)) (Judged o (set wire (suc j) b) (refused 5))
      (effect_at wire f (suc j) b)
  inside_damaged =
      let part : part_at wire (suc j) ≡ part_of (frame_kind f) number (length (payload f)) =
      part_is f body r j
      ∙ ap (λ (m : ℕ). part_of (frame_kind f) m (length (payload f))) (number_is f body r j c.place.between) in
      let same : get_or (payload f) number 0 ≡ get_or wire (suc j) 0 =
      unstuffs_itself r (start_flag (frame_kind f)) j plain_at.0 plain_at.2 plain_at.3 ∙ sym plain_at.1 in
      subst (λ (q : Part). Shows (SoundFrame o (set wire (suc j) b)) (Judged o (set wire (suc j) b) (refused 5)) (effect_of q f b))
      (sym part)
      (shows_as readdressed sum_wrong (effect_of (part_of (frame_kind f) number (length (payload f))) f b)
      (bytes_changed f number b (unstuffs_place r j plain_at.0).inside (λ e. c.other (e ∙ same))))

-- ---- the slice

-- One byte of a slice that is sound at any origin is changed: at any origin it is then, by the papers' conditions, the
-- frame with only that address changed, or refused with 5.
pub slice_damaged : (p o : Origin) (w : List ℕ) (f : Frame) (i b : ℕ) → SoundFrame p w f → OneChange w i b
    → Shows (SoundFrame o (set w i b)) (Judged o (set w i b) (refused 5)) (effect_at w f i b)
slice_damaged p o w f zero b s c = absurd (omega (arith, c.place.between.0))
slice_damaged p o w f (suc j) b s c =
    let t = s.slice.candidate in
    let k = sound_body p w f s in
    let enough : LongEnough (frame_kind f) (payload f) =
    subst (λ (q : Kind). LongEnough q (payload f)) s.kind_is
    (subst (LongEnough t.kind) s.bytes_are s.slice.enough) in
    let limit : length (candidate_of (frame_kind f) t.body) ≤ 120 = omega (arith, ap length k.1, s.slice.limit) in
    subst (λ (v : List ℕ). OneChange v (suc j) b
    → Shows (SoundFrame o (set v (suc j) b)) (Judged o (set v (suc j) b) (refused 5)) (effect_at v f (suc j) b))
    (sym k.1) (inside_damaged o f t.body t.inside k.0 limit enough j b) c

-- The verdict on the changed slice is that frame, or 5.
pub verdict_damaged : (p o : Origin) (w : List ℕ) (f : Frame) (i b : ℕ) → SoundFrame p w f → OneChange w i b
    → Shows (λ (g : Frame). admit o (verdict (set w i b)) ≡ result g) (admit o (verdict (set w i b)) ≡ refused 5)
    (effect_at w f i b)
verdict_damaged p o w f i b s c =
    shows_as (λ g h. (accepted_exactly o (set w i b) g).1 h) (λ h. (verdict_by_table o (set w i b) (refused 5)).1 h)
    (effect_at w f i b) (slice_damaged p o w f i b s c)

-- The slice before and after is a candidate of one kind, with one byte between its flags changed.
pub record BothCandidates (w : List ℕ) (i b : ℕ) : Type 0 where
  pub kind : Kind
  pub body : List ℕ
  pub index : ℕ
  pub shape_before : w ≡ candidate_of kind body
  pub free_before : FlagFree role_of body
  pub shape_after : set w i b ≡ candidate_of kind (set body index b)
  pub free_after : FlagFree role_of (set body index b)

pub both_candidates : (p : Origin) (w : List ℕ) (f : Frame) (i b : ℕ) → SoundFrame p w f → OneChange w i b
    → BothCandidates w i b
both_candidates p w f zero b s c = absurd (omega (arith, c.place.between.0))
both_candidates p w f (suc j) b s c =
    let t = s.slice.candidate in
    let e = ap length t.shape ∙ whole_length t.kind t.body in
    record {
      kind = t.kind;
      body = t.body;
      index = j;
      shape_before = t.shape;
      free_before = t.inside;
      shape_after = ap (λ (v : List ℕ). set v (suc j) b) t.shape
          ∙ changed_shape t.kind t.body j b (omega (arith, e, c.place.between.1));
      free_after = changed_free t.body j b t.inside c.unreserved;
    }
