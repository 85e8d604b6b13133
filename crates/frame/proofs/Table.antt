-- Which verdict is given exactly when, at an origin: the papers' table of refusals, and demand 2's "accepted exactly
-- when".
use Rattle.frame.specs.Frame.{Frame, standard, extended, contents_of, frame_kind, addresses_of, payload}
use Rattle.frame.specs.Answers.{read_answer, read_out, Reads, FrameOutline}
use Rattle.frame.specs.Conditions.{ReadJudged, refused_by, no_room, fits, Terminated, WithinLimit, EscapesSound}
use Rattle.frame.specs.Conditions.{LongEnough, Unstuffs, fewest, ChecksumRight, SenderNamed, Sound, SoundFrame}
use Rattle.frame.specs.Conditions.{Judged, truncated, long, bad_escape as badEscapes, short, bad_sum, unnamed}
use Rattle.frame.specs.Conditions.{sound}
use Prim.Native.Nat.{ℕ, ◌+◌, ◌≤◌}
use mathlib.Core.Path.{◌≡◌, refl, sym, ap, ◌∙◌, subst}
use mathlib.Core.Bool.{true, false, true≢false}
use mathlib.Core.Logic.{◌⊎◌, inl, inr}
use mathlib.Core.List.{List, [], ◌∷◌, ◌++◌}
use native.Mathlib.Omega.{arith}
use lib.Dec.{leb, eqb}
use lib.ListN.{length, get_or}
use borrow.Author.Tests.{leb-true, leb-false, eqb-true, eqb-false}
use Rattle.lists.specs.Choice.{Exactly}
use Rattle.lists.proofs.Cases.{by_bool, both_exactly}
use Rattle.lists.proofs.Lists.{drop_two}
use Rattle.answer.specs.Draft.{draft_out}
use Rattle.frame.specs.Flags.{kind_of}
use Rattle.frame.specs.Stuffing.{Unstuffed, bad_escape, bytes, unstuff}
use Rattle.frame.specs.Checksum.{checksum}
use Rattle.frame.specs.Verdict.{Verdict, address_count, contents_in, last_of, judge_bytes, judge, body_of}
use Rattle.frame.specs.Verdict.{is_terminated, verdict}
use Rattle.answer.specs.Answer.{result, refused, Answer}
use Rattle.frame.specs.Origin.{admit}
use Rattle.frame.specs.declared.Origin.{Origin}
use Rattle.frame.specs.declared.Origin.TheVariants.{Live}
use Rattle.frame.specs.declared.Kind.{Kind}
use Rattle.frame.specs.declared.Kind.TheVariants.{Standard, Extended}
use Rattle.frame.proofs.UnstuffsLaws.{unstuffs_bytes, bytes_unstuffs, unstuffs_sound, sound_unstuffs}
use Rattle.frame.proofs.OriginLaws.{sender, sender_missing, admit_refused, admit_result, admit_unnamed}
use Rattle.frame.proofs.VerdictLaws.{whole_length, whole_terminated, whole_verdict, terminated_means}
use Rattle.frame.proofs.VerdictLaws.{terminated_whole, verdict_truncated, judge_long, judge_escape, judge_short}
use Rattle.frame.proofs.VerdictLaws.{judge-sum, judge_bytes_lem, judge-payload, answer_refused, answer_no_room}
use Rattle.frame.proofs.VerdictLaws.{answer_done}
use Rattle.frame.proofs.ChecksumLaws.{contents_last}
use Rattle.frame.proofs.FlagLaws.{flagless_free, free_flagless}

-- ---- the conditions, and what the definitions compute

pub fewest_is : (kind : Kind) → fewest kind ≡ address_count kind + 1
fewest_is Standard = refl
fewest_is Extended = refl

-- the last byte compared with the contents before it, where there are enough bytes
sum_parts : (kind : Kind) (u : List ℕ) → address_count kind + 1 ≤ length u
    → last_of u ≡ checksum (contents_in (address_count kind) u) → ChecksumRight kind u
sum_parts Standard u h r = (contents_in 0 u, contents_last 0 u h ∙ ap (λ (b : ℕ). contents_in 0 u ++ (b ∷ [])) r)
sum_parts Extended u h r = (
  get_or u 0 0,
  get_or u 1 0,
  contents_in 2 u,
  drop_two u 0 (omega arith)
      ∙ ap (λ (l : List ℕ). get_or u 0 0 ∷ get_or u 1 0 ∷ l)
      (contents_last 2 u h ∙ ap (λ (b : ℕ). contents_in 2 u ++ (b ∷ [])) r),
)

-- bytes with the right checksum are those of a frame
parts_frame : (kind : Kind) (u : List ℕ) → ChecksumRight kind u → (f : Frame) × (kind ≡ frame_kind f) × (u ≡ payload f)
unfolding payload addresses_of contents_of
parts_frame Standard u (c, e) = (standard c, refl, e)
parts_frame Extended u (to, from, c, e) = (extended to from c, refl, e)

-- the unstuffed bytes of a frame have the right checksum
pub payload-sum : (f : Frame) → ChecksumRight (frame_kind f) (payload f)
unfolding payload addresses_of contents_of
payload-sum (standard c) = (c, refl)
payload-sum (extended to from c) = (to, from, c, refl)

terminated_of : (w : List ℕ) → is_terminated w ≡ true → Terminated w
terminated_of w h =
    record {
      kind = kind_of (get_or w 0 0);
      body = body_of w;
      shape = terminated_whole w h;
      inside = flagless_free (body_of w) (terminated_means w h).4;
    }

-- ---- the verdict on a terminated candidate

module _ (w : List ℕ) (t : Terminated w) where
  long_as : length w ≡ length t.body + 2
  long_as = ap length t.shape ∙ whole_length t.kind t.body

  is_terminated_lem : is_terminated w ≡ true
  is_terminated_lem =
      ap is_terminated t.shape ∙ whole_terminated t.kind t.body (free_flagless t.body t.inside)

  of_body : verdict w ≡ judge t.kind t.body
  of_body = ap verdict t.shape ∙ whole_verdict t.kind t.body (free_flagless t.body t.inside)

-- ---- the table

-- the verdict on a terminated candidate that passes every rule on its bytes
passes : (w : List ℕ) (t : Terminated w) (u : List ℕ) (f : Frame) → WithinLimit w → Unstuffs t.body u
    → t.kind ≡ frame_kind f → u ≡ payload f → verdict w ≡ result f
passes w t u f l x k b =
    of_body w t
    ∙ judge_bytes_lem t.kind t.body (omega (arith, long_as w t, l))
    ∙ ap (judge_bytes t.kind) (unstuffs_bytes x ∙ ap bytes b)
    ∙ ap (λ (k : Kind). judge_bytes k (bytes (payload f))) k
    ∙ judge-payload f

-- what the table says is the verdict
table_verdict : (o : Origin) (w : List ℕ) (v : Verdict) → Judged o w v → admit o (verdict w) ≡ v
table_verdict o w v (truncated n) =
    admit_refused o (verdict w) 6
    (by_bool (is_terminated w) (λ y. absurd (n (terminated_of w y))) (λ y. verdict_truncated w y))
table_verdict o w v (long t n) =
    admit_refused o (verdict w) 2
    (of_body w t ∙ by_bool (leb (length w) 120) (λ y. absurd (n (leb-true _ _ y)))
    (λ y. judge_long t.kind t.body (omega (arith, long_as w t, leb-false (length w) 120 y))))
table_verdict o w v (badEscapes t l n) =
    admit_refused o (verdict w) 3
    (of_body w t ∙ judge_escape t.kind t.body (omega (arith, long_as w t)) (bad (unstuff false t.body) refl))
  where
    bad : (r : Unstuffed) → unstuff false t.body ≡ r → unstuff false t.body ≡ bad_escape
    bad bad_escape e = e
    bad (bytes u) e = absurd (n (unstuffs_sound (bytes_unstuffs false t.body u e)))
table_verdict o w v (short t u l e x n) =
    admit_refused o (verdict w) 4
    (of_body w t
    ∙ judge_short t.kind t.body (omega (arith, long_as w t)) u (unstuffs_bytes x)
    (by_bool (leb (fewest t.kind) (length u)) (λ y. absurd (n (leb-true _ _ y)))
    (λ y. omega (arith, leb-false (fewest t.kind) (length u) y, fewest_is t.kind))))
table_verdict o w v (bad_sum t u l e x k n) =
    let h : address_count t.kind + 1 ≤ length u = omega (arith, k, fewest_is t.kind) in
    admit_refused o (verdict w) 5
    (of_body w t ∙ judge-sum t.kind t.body (omega (arith, long_as w t)) u (unstuffs_bytes x) h
    (λ q. n (sum_parts t.kind u h q)))
table_verdict o w v (unnamed t u l e x k r n) =
    let p = parts_frame t.kind u r in
    admit_unnamed o (verdict w) p.0 (passes w t u p.0 l x p.1 p.2)
    (λ m. n (subst (λ (k : Kind). SenderNamed o k) (sym p.1) m))
table_verdict o w v (sound f s) =
    let c = s.slice in
    admit_result o (verdict w) f (passes w c.candidate c.unstuffed f c.limit c.unstuffs s.kind_is s.bytes_are)
    (subst (λ (k : Kind). SenderNamed o k) s.kind_is c.sender)

-- the frame of a sound slice
sound_frame : (o : Origin) (w : List ℕ) → Sound o w → (f : Frame) × SoundFrame o w f
sound_frame o w s =
    let p = parts_frame s.candidate.kind s.unstuffed s.sum in
    (p.0, record { slice = s; kind_is = p.1; bytes_are = p.2 })

-- every slice has a line of the table
some_line : (o : Origin) (w : List ℕ) → (v : Verdict) × Judged o w v
some_line o w =
    by_bool (is_terminated w)
    (λ y. let t = terminated_of w y in
    by_bool (leb (length w) 120)
    (λ l. line t (leb-true _ _ l) (unstuff false t.body) refl)
    (λ l. (refused 2, long t (λ k. absurd (omega (arith, k, leb-false (length w) 120 l))))))
    (λ y. (refused 6, truncated (λ t. true≢false (sym (is_terminated_lem w t) ∙ y))))
  where
    -- the last two lines, where all rules on the bytes hold
    named : (t : Terminated w) (u : List ℕ) → WithinLimit w → EscapesSound t.body → Unstuffs t.body u
        → LongEnough t.kind u → ChecksumRight t.kind u
        → SenderNamed o t.kind ⊎ ((o ≡ Live) × (t.kind ≡ Standard)) → (v : Verdict) × Judged o w v
    named t u l g x k r (inl m) =
        let s = sound_frame o w
        (record {
          candidate = t;
          limit = l;
          escapes = g;
          unstuffed = u;
          unstuffs = x;
          enough = k;
          sum = r;
          sender = m;
        }) in
        (result s.0, sound s.0 s.1)
    named t u l g x k r (inr m) = (refused 17, unnamed t u l g x k r ((sender_missing o t.kind).1 m))

    line : (t : Terminated w) → WithinLimit w → (r : Unstuffed) → unstuff false t.body ≡ r
        → (v : Verdict) × Judged o w v
    line t l bad_escape e = (
      refused 3,
      badEscapes t l (λ x. let q : bad_escape ≡ bytes (sound_unstuffs t.body x).0 = sym e
          ∙ (sound_unstuffs t.body x).1 in
          let z : ◌≡◌ {A = ℕ} 0 1 = cc in omega arith),
    )
    line t l (bytes u) e =
        let x : Unstuffs t.body u = bytes_unstuffs false t.body u e in
        let g : EscapesSound t.body = unstuffs_sound x in
        by_bool (leb (fewest t.kind) (length u))
        (λ k. let h : address_count t.kind + 1 ≤ length u =
        omega (arith, leb-true (fewest t.kind) (length u) k, fewest_is t.kind) in
        by_bool (eqb (last_of u) (checksum (contents_in (address_count t.kind) u)))
        (λ q. named t u l g x (leb-true _ _ k) (sum_parts t.kind u h (eqb-true _ _ q)) (sender o t.kind))
        (λ q. (
          refused 5,
          bad_sum t u l g x (leb-true _ _ k) (λ r. let p = parts_frame t.kind u r in
              let e : refused 5 ≡ result p.0 =
              sym (of_body w t
              ∙ judge-sum t.kind t.body (omega (arith, long_as w t)) u (unstuffs_bytes x) h (eqb-false _ _ q))
              ∙ passes w t u p.0 l x p.1 p.2 in
              let z : ◌≡◌ {A = ℕ} 0 1 = cc in omega arith),
        )))
        (λ k. (refused 4, short t u l g x (λ m. absurd (omega (arith, m, leb-false (fewest t.kind) (length u) k)))))

-- Every verdict is given at an origin exactly when the table gives it: a refusal where the rule that it names fails and
-- all before it hold.
pub verdict_by_table : (o : Origin) (w : List ℕ) (v : Verdict) → Exactly (admit o (verdict w) ≡ v) (Judged o w v)
verdict_by_table o w v = (
  (λ e. let l = some_line o w in
      subst (λ (x : Verdict). Judged o w x) (sym (table_verdict o w l.0 l.1) ∙ e) l.1),
  table_verdict o w v,
)

-- Accepted exactly when every condition holds, and then as that frame.
pub accepted_exactly : (o : Origin) (w : List ℕ) (f : Frame)
    → Exactly (admit o (verdict w) ≡ result f) (SoundFrame o w f)
accepted_exactly o w f = (
  (λ e. found (result f) ((verdict_by_table o w (result f)).0 e) f refl),
  (λ s. table_verdict o w (result f) (sound f s)),
)
  where
    found : (v : Verdict) → Judged o w v → (f : Frame) → v ≡ result f → SoundFrame o w f
    found v (truncated n) f e = let z : ◌≡◌ {A = ℕ} 0 1 = cc in absurd (omega arith)
    found v (long t n) f e = let z : ◌≡◌ {A = ℕ} 0 1 = cc in absurd (omega arith)
    found v (badEscapes t l n) f e = let z : ◌≡◌ {A = ℕ} 0 1 = cc in absurd (omega arith)
    found v (short t u l g x n) f e = let z : ◌≡◌ {A = ℕ} 0 1 = cc in absurd (omega arith)
    found v (bad_sum t u l g x k n) f e = let z : ◌≡◌ {A = ℕ} 0 1 = cc in absurd (omega arith)
    found v (unnamed t u l g x k r n) f e = let z : ◌≡◌ {A = ℕ} 0 1 = cc in absurd (omega arith)
    found v (sound h s) f e = let q : h ≡ f = cc in subst (λ (x : Frame). SoundFrame o w x) q s

-- Demand 2's "accepted exactly when": as some frame exactly when limit, escapes, length and checksum are right, and live
-- the sender is named.
pub accepted_when : (o : Origin) (w : List ℕ) → Exactly ((f : Frame) × (admit o (verdict w) ≡ result f)) (Sound o w)
accepted_when o w = (
  (λ p. ((accepted_exactly o w p.0).0 p.1).slice),
  (λ s. let p = sound_frame o w s in (p.0, (accepted_exactly o w p.0).1 p.1)),
)

-- ---- with an output

module _ (o : Origin) (w out : List ℕ) where
  -- every answer, with the output that is left, has a line
  read_line : (v : Verdict) → Judged o w v → ReadJudged o w out (read_answer v (length out)) (read_out v out)
  unfolding read_answer read_out draft_out
  read_line (refused n) j = refused_by j
  read_line (result f) j =
      let s = (accepted_exactly o w f).0 (table_verdict o w (result f) j) in
      by_bool (leb (length (contents_of f)) (length out))
      (λ y. simp y (fits s (leb-true _ _ y)))
      (λ n. simp n (no_room s (leb-false _ _ n)))

  line_read : (a : Answer FrameOutline) (last : List ℕ) → ReadJudged o w out a last → Reads o w out a last
  line_read a last (refused_by {n = n} j) = answer_refused (admit o (verdict w)) n out (table_verdict o w (refused n) j)
  line_read a last (no_room {f = f} s h) = answer_no_room (admit o (verdict w)) f out ((accepted_exactly o w f).1 s) h
  line_read a last (fits {f = f} s h) = answer_done (admit o (verdict w)) f out ((accepted_exactly o w f).1 s) h

  -- Every answer to reading a slice, with the output that is left, is given exactly when the table gives it, 1
  -- included.
  pub read_by_table : (a : Answer FrameOutline) (last : List ℕ)
      → Exactly (Reads o w out a last) (ReadJudged o w out a last)
  read_by_table a last = (
    (λ p. subst (λ (l : List ℕ). ReadJudged o w out a l) (sym p.1)
        (subst (λ (x : Answer FrameOutline). ReadJudged o w out x (read_out (admit o (verdict w)) out)) (sym p.0)
        (read_line (admit o (verdict w)) ((verdict_by_table o w (admit o (verdict w))).0 refl)))),
    line_read a last,
  )

  -- The answer of a call that reads and the output that it left are given ones exactly when the table gives those.
  pub reads_exactly : (a b : Answer FrameOutline) (last left : List ℕ) → Reads o w out a last
      → Exactly ((a ≡ b) × (last ≡ left)) (ReadJudged o w out b left)
  reads_exactly a b last left p = both_exactly p (read_by_table b left)
