-- When 17 is given, and what calls at the two origins have in common.
use Prim.Native.Nat.{ℕ}
use mathlib.Core.Path.{◌≡◌, refl, sym, ap, ◌∙◌}
use mathlib.Core.List.{List}
use native.Mathlib.Omega.{arith}
use lib.Dec.{leb}
use lib.ListN.{length, get_or}
use Rattle.lists.specs.Choice.{Exactly}
use Rattle.lists.proofs.Cases.{by_bool}
use Rattle.answer.specs.Answer.{Answer, result, refused}
use Rattle.frame.specs.Flags.{start_flag}
use Rattle.frame.specs.Frame.{Frame, standard, extended, contents_of}
use Rattle.frame.specs.Verdict.{Verdict, verdict}
use Rattle.frame.specs.Origin.{admit}
use Rattle.frame.specs.Answers.{FrameOutline, standard_outline, outline_of, read_answer, read_out, Reads}
use Rattle.frame.specs.Conditions.{Judged, truncated, long, bad_escape, short, bad_sum, unnamed, sound, SoundFrame}
use Rattle.frame.specs.Conditions.{NoStandard, ReadJudged, refused_by, no_room, fits}
use Rattle.frame.specs.declared.Origin.{Origin}
use Rattle.frame.specs.declared.Origin.TheVariants.{Live, Trace}
use Rattle.frame.specs.declared.Kind.TheVariants.{Standard, Extended}
use Rattle.frame.proofs.OriginLaws.{trace_live, trace_named}
use Rattle.frame.proofs.VerdictLaws.{answer_refused}
use Rattle.frame.proofs.Table.{verdict_by_table, accepted_exactly, read_by_table}

-- ---- reading

-- A slice by itself is never refused with 17.
pub not_17 : (w : List ℕ) → verdict w ≡ refused 17 → ⊥
not_17 w e = of_line (refused 17) ((verdict_by_table Trace w (refused 17)).0 e) refl
  where
    of_line : (v : Verdict) → Judged Trace w v → v ≡ refused 17 → ⊥
    of_line v (truncated n) e = let z : ◌≡◌ {A = ℕ} 6 17 = cc in omega arith
    of_line v (long t n) e = let z : ◌≡◌ {A = ℕ} 2 17 = cc in omega arith
    of_line v (bad_escape t l n) e = let z : ◌≡◌ {A = ℕ} 3 17 = cc in omega arith
    of_line v (short t u l g x n) e = let z : ◌≡◌ {A = ℕ} 4 17 = cc in omega arith
    of_line v (bad_sum t u l g x k n) e = let z : ◌≡◌ {A = ℕ} 5 17 = cc in omega arith
    of_line v (unnamed t u l g x k r n) e = n (trace_named t.kind)
    of_line v (sound f s) e = let z : ◌≡◌ {A = ℕ} 0 1 = cc in omega arith

-- A verdict is 17 exactly on the live line, for a slice that is a sound standard frame in a trace.
pub unnamed_verdict : (o : Origin) (w : List ℕ)
    → Exactly (admit o (verdict w) ≡ refused 17) ((o ≡ Live) × ((c : List ℕ) × SoundFrame Trace w (standard c)))
unnamed_verdict Trace w = ((λ e. absurd (not_17 w e)), (λ (l, s). absurd (trace_live l)))
unnamed_verdict Live w = (
  (λ e. (refl, of_verdict (verdict w) refl e)),
  (λ (l, (c, s)). ap (admit Live) ((accepted_exactly Trace w (standard c)).1 s)),
)
  where
    of_verdict : (v : Verdict) → verdict w ≡ v → admit Live v ≡ refused 17
        → (c : List ℕ) × SoundFrame Trace w (standard c)
    of_verdict (refused n) q e = absurd (not_17 w (q ∙ e))
    of_verdict (result (standard c)) q e = (c, (accepted_exactly Trace w (standard c)).0 q)
    of_verdict (result (extended to from c)) q e = let z : ◌≡◌ {A = ℕ} 0 1 = cc in absurd (omega arith)

-- So is the answer of a call that reads, with any room.
pub unnamed_read : (o : Origin) (w out : List ℕ) (a : Answer FrameOutline) (last : List ℕ) → Reads o w out a last
    → Exactly (a ≡ refused 17) ((o ≡ Live) × ((c : List ℕ) × SoundFrame Trace w (standard c)))
unfolding read_answer
unnamed_read o w out a last p = (
  (λ e. (unnamed_verdict o w).0 (of_answer (admit o (verdict w)) (sym p.0 ∙ e))),
  (λ s. p.0 ∙ sym (answer_refused (admit o (verdict w)) 17 out ((unnamed_verdict o w).1 s)).0),
)
  where
    of_answer : (v : Verdict) → read_answer v (length out) ≡ refused 17 → v ≡ refused 17
    of_answer (refused n) e = let q : n ≡ 17 = cc in ap refused q
    of_answer (result f) e =
        by_bool (leb (length (contents_of f)) (length out))
        (λ y. let q : result (outline_of f) ≡ refused 17 = simp y at e in
        let z : ◌≡◌ {A = ℕ} 0 1 = cc in absurd (omega arith))
        (λ y. let q : ◌≡◌ {A = Answer FrameOutline} (refused 1) (refused 17) = simp y at e in
        let z : ◌≡◌ {A = ℕ} 1 17 = cc in absurd (omega arith))

-- A call that reads the live line tells no standard frame.
pub live_extended : (w out : List ℕ) (a : Answer FrameOutline) (last : List ℕ) → Reads Live w out a last → (len : ℕ)
    → a ≡ result (standard_outline len) → ⊥
live_extended w out a last p len e = of_line a last ((read_by_table Live w out a last).0 p) e
  where
    kind_of_lem : (f : Frame) → SoundFrame Live w f → outline_of f ≡ standard_outline len → ⊥
    kind_of_lem (standard c) s q =
        let k : Standard ≡ Extended = sym s.kind_is ∙ s.slice.sender refl in
        let z : ◌≡◌ {A = ℕ} 0 1 = cc in omega arith
    kind_of_lem (extended to from c) s q = let z : ◌≡◌ {A = ℕ} 0 1 = cc in omega arith

    of_line : (a : Answer FrameOutline) (last : List ℕ) → ReadJudged Live w out a last
        → a ≡ result (standard_outline len) → ⊥
    of_line a last (refused_by j) e = let z : ◌≡◌ {A = ℕ} 0 1 = cc in omega arith
    of_line a last (no_room s h) e = let z : ◌≡◌ {A = ℕ} 0 1 = cc in omega arith
    of_line a last (fits {f = f} s h) e = let q : outline_of f ≡ standard_outline len = cc in kind_of_lem f s q

-- A slice that does not begin with F1 is no sound standard frame.
pub other_start : (w : List ℕ) → (get_or w 0 0 ≡ start_flag Standard → ⊥) → NoStandard w
other_start w n c s =
    n (ap (λ (l : List ℕ). get_or l 0 0) s.slice.candidate.shape ∙ ap start_flag s.kind_is)

-- A slice that is no sound standard frame has one verdict at both origins.
pub one_verdict : (o : Origin) (w : List ℕ) → NoStandard w → admit o (verdict w) ≡ verdict w
one_verdict Trace w n = refl
one_verdict Live w n = of_verdict (verdict w) refl
  where
    of_verdict : (v : Verdict) → verdict w ≡ v → admit Live v ≡ v
    of_verdict (refused m) e = refl
    of_verdict (result (standard c)) e = absurd (n c ((accepted_exactly Trace w (standard c)).0 e))
    of_verdict (result (extended to from c)) e = refl

-- So calls that read it into equal outputs are answered alike, and leave the same.
pub origins_agree : (o p : Origin) (w out : List ℕ) (a b : Answer FrameOutline) (last left : List ℕ)
    → Reads o w out a last → Reads p w out b left → NoStandard w → (a ≡ b) × (last ≡ left)
origins_agree o p w out a b last left k l n =
    let same = one_verdict o w n ∙ sym (one_verdict p w n) in (
      k.0 ∙ ap (λ (v : Verdict). read_answer v (length out)) same ∙ sym l.0,
      k.1 ∙ ap (λ (v : Verdict). read_out v out) same ∙ sym l.1,
    )
