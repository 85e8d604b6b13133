-- Demand 2: a frame's bytes on the wire are accepted as that frame, and what is accepted is such bytes, at any origin.
use Prim.Native.Nat.{ℕ, ◌≤◌}
use mathlib.Core.Path.{◌≡◌, refl, sym, ap, ◌∙◌, subst}
use mathlib.Core.Bool.{false}
use mathlib.Core.List.{List, [], ◌∷◌, ◌++◌}
use native.Mathlib.Omega.{arith}
use lib.ListN.{drop, length}
use lib.Seq.{take_at}
use Rattle.lists.specs.Choice.{Exactly}
use Rattle.answer.specs.Answer.{Answer, result}
use Rattle.frame.specs.Stuffing.{stuff, bytes}
use Rattle.frame.specs.Flags.{start_flag, stop_flag, candidate_of}
use Rattle.frame.specs.Frame.{Frame, standard, extended, contents_of, frame_kind, payload, wire_of}
use Rattle.frame.specs.Verdict.{judge_bytes, verdict}
use Rattle.frame.specs.Answers.{FrameOutline, outline_of, frame_read, Reads}
use Rattle.frame.specs.Conditions.{SenderNamed, Sound, SoundFrame, ReadJudged, refused_by, no_room, fits}
use Rattle.frame.specs.Origin.{admit}
use Rattle.frame.specs.declared.Origin.{Origin}
use Rattle.frame.specs.declared.Origin.TheVariants.{Trace}
use Rattle.frame.specs.declared.Kind.{Kind}
use Rattle.frame.proofs.OriginLaws.{admit_means, admit_result}
use Rattle.frame.proofs.StuffingLaws.{unstuff-stuff, flagless-stuff, stuff-unstuff}
use Rattle.frame.proofs.UnstuffsLaws.{unstuffs_bytes}
use Rattle.frame.proofs.FlagLaws.{free_flagless}
use Rattle.frame.proofs.VerdictLaws.{whole_length, whole_verdict, judge_bytes_lem, judge-payload}
use Rattle.frame.proofs.ContentsLaws.{admitted_short}
use Rattle.frame.proofs.Table.{accepted_exactly, accepted_when, read_by_table, reads_exactly}

-- ---- frames and verdicts

-- What is written is read back: a frame of at most 120 bytes on the wire, of either kind, is accepted as itself.
pub reads_back : (f : Frame) → length (wire_of f) ≤ 120 → verdict (wire_of f) ≡ result f
unfolding wire_of
reads_back f l =
    let b = stuff (payload f) in
    let e : wire_of f ≡ candidate_of (frame_kind f) b = refl in
    whole_verdict (frame_kind f) b (flagless-stuff (payload f))
    ∙ judge_bytes_lem (frame_kind f) b (omega (arith, ap length e, whole_length (frame_kind f) b))
    ∙ ap (judge_bytes (frame_kind f)) (unstuff-stuff (payload f)) ∙ judge-payload f

-- What is accepted, written again from what was read, gives the same bytes.
pub writes_back : (w : List ℕ) (f : Frame) → verdict w ≡ result f → (wire_of f ≡ w) × (length w ≤ 120)
unfolding wire_of
writes_back w f e =
    let s = (accepted_exactly Trace w f).0 e in
    let t = s.slice.candidate in
    let b : stuff (payload f) ≡ t.body =
    stuff-unstuff false t.body (payload f) (unstuffs_bytes s.slice.unstuffs ∙ ap bytes s.bytes_are)
    (free_flagless t.body t.inside) in (
      ap (λ (k : Kind). start_flag k ∷ stuff (payload f) ++ (stop_flag ∷ [])) (sym s.kind_is)
          ∙ ap (λ (l : List ℕ). start_flag t.kind ∷ l ++ (stop_flag ∷ [])) b
          ∙ sym t.shape,
      s.slice.limit,
    )

-- A slice is accepted at an origin as a frame exactly when it is that frame as it is written, at most 120 bytes long,
-- and names its sender there.
pub accepted_as_written : (o : Origin) (w : List ℕ) (f : Frame)
    → Exactly (admit o (verdict w) ≡ result f) ((wire_of f ≡ w) × (length w ≤ 120) × SenderNamed o (frame_kind f))
accepted_as_written o w f = (
  (λ e. let m = admit_means o (verdict w) f e in
      let k = writes_back w f m.0 in (k.0, k.1, m.1)),
  (λ p. admit_result o (verdict w) f
      (ap verdict (sym p.0) ∙ reads_back f (omega (arith, p.1, ap length p.0))) p.2),
)

-- ---- the same of calls

-- what was told of a frame is that frame, whole
told_whole : (f : Frame) (out : List ℕ)
    → frame_read (result (outline_of f)) (contents_of f ++ drop (length (contents_of f)) out) ≡ result f
unfolding frame_read contents_of
told_whole (standard c) out =
    ap (λ (l : List ℕ). result (standard l)) (take_at c (drop (length c) out) (length c) refl)
told_whole (extended to from c) out =
    ap (λ (l : List ℕ). result (extended to from l)) (take_at c (drop (length c) out) (length c) refl)

-- What was told is sound.
pub told_sound : (o : Origin) (w out : List ℕ) (a : Answer FrameOutline) (last : List ℕ) (f : Frame)
    → ReadJudged o w out a last → frame_read a last ≡ result f → SoundFrame o w f
unfolding frame_read
told_sound o w out a last f (refused_by j) e = let z : ◌≡◌ {A = ℕ} 0 1 = cc in absurd (omega arith)
told_sound o w out a last f (no_room s h) e = let z : ◌≡◌ {A = ℕ} 0 1 = cc in absurd (omega arith)
told_sound o w out a last f (fits {f = g} s h) e =
    let q : result g ≡ result f = sym (told_whole g out) ∙ e in
    let same : g ≡ f = cc in subst (λ (x : Frame). SoundFrame o w x) same s

module _ (o : Origin) (w out : List ℕ) (a : Answer FrameOutline) (last : List ℕ) (p : Reads o w out a last) where
  -- With room for its contents, a call tells a frame exactly when the slice is that frame and sound.
  pub told_exactly : (f : Frame) → length (contents_of f) ≤ length out
      → Exactly (frame_read a last ≡ result f) (SoundFrame o w f)
  told_exactly f room = (
    told_sound o w out a last f ((read_by_table o w out a last).0 p),
    (λ s. let q = (reads_exactly o w out a (result (outline_of f)) last _ p).1 (fits s room) in
        ap (λ (x : Answer FrameOutline). frame_read x last) q.0 ∙ ap (frame_read (result (outline_of f))) q.1
        ∙ told_whole f out),
  )

  -- The same without the conditions: exactly when the slice is that frame as it is written, at most 120 bytes long, and
  -- names its sender.
  pub told_as_written : (f : Frame) → length (contents_of f) ≤ length out
      → Exactly (frame_read a last ≡ result f) ((wire_of f ≡ w) × (length w ≤ 120) × SenderNamed o (frame_kind f))
  told_as_written f room = (
    (λ e. (accepted_as_written o w f).0 ((accepted_exactly o w f).1 ((told_exactly f room).0 e))),
    (λ e. (told_exactly f room).1 ((accepted_exactly o w f).0 ((accepted_as_written o w f).1 e))),
  )

  -- Demand 2's "accepted exactly when" of a call with room for the contents of any frame: some frame is told exactly
  -- when limit, escapes, length and checksum are right, and live the sender is named.
  pub told_when : 117 ≤ length out → Exactly ((f : Frame) × (frame_read a last ≡ result f)) (Sound o w)
  told_when room = (
    (λ t. (told_sound o w out a last t.0 ((read_by_table o w out a last).0 p) t.1).slice),
    (λ s. let v = (accepted_when o w).1 s in
        let short = admitted_short o w v.0 v.1 in
        (v.0, (told_exactly v.0 (omega (arith, short))).1 ((accepted_exactly o w v.0).0 v.1))),
  )
