-- What `judge_array` answers, known by nothing but what its contract tells a caller: the papers' table, of the candidate
-- that the bytes and the two flags make.
use mathlib.Core.Path.{◌≡◌, refl, sym, ap, ap₂, ◌∙◌}
use mathlib.Core.List.{List}
use native.Mathlib.Omega.{arith}
use Prim.Native.Nat.{ℕ}
use lib.ListN.{take}
use contract.Lifetimes.{Lfts}
use denote.MutBor.{MutBor}
use Rattle.lists.specs.Choice.{Exactly}
use Rattle.lists.proofs.Cases.{exactly}
use Rattle.answer.specs.Answer.{Answer, result, refused}
use Rattle.frame.specs.Flags.{candidate_of}
use Rattle.std.specs.Prelude.{Result}
use Rattle.answer.specs.declared.Refusal.{Refusal}
use Rattle.frame.specs.Frame.{Frame, standard, frame_kind}
use Rattle.frame.specs.Verdict.{Verdict, verdict}
use Rattle.frame.specs.Origin.{admit}
use Rattle.frame.specs.Answers.{FrameOutline, read_means, judge_answer, left_in, frame_read}
use Rattle.frame.specs.Conditions.{Judged, SoundFrame, NoStandard}
use Rattle.frame.specs.declared.Origin.{Origin}
use Rattle.frame.specs.declared.Origin.TheVariants.{Live, Trace}
use Rattle.frame.specs.declared.Kind.{Kind}
use Rattle.frame.specs.declared.Kind.TheVariants.{Extended}
use Rattle.frame.specs.declared.Outline.{Outline}
use Rattle.frame.proofs.OriginLaws.{admit_means}
use Rattle.frame.proofs.Table.{verdict_by_table}
use Rattle.frame.proofs.Unnamed.{unnamed_verdict, one_verdict}
use Rattle.frame.proofs.ContentsLaws.{left_whole}
use Rattle.frame.proofs.judge_array.Reads as judge-array-reads

left_as : (v : Verdict) (s : List ℕ) (n : ℕ) → judge_answer v ≡ refused n → left_in v s ≡ s
unfolding judge_answer left_in
left_as (refused m) s n e = refl
left_as (result f) s n e = let z : ◌≡◌ {A = ℕ} 0 1 = cc in absurd (omega arith)

module _ (κs : Lfts 1) (o : Origin) (kind : Kind) (ρ ρ' : MutBor (List ℕ)) (len : ℕ) (r : Result Outline Refusal)
    (k : judge-array-reads.Learnt κs (o, (kind, (ρ, (len, tt)))) r (o, (kind, (ρ', (len, tt))))) where
  abbrev judged : Verdict
  judged = admit o (verdict (candidate_of kind (take len ρ.now)))

  judged_is : frame_read (read_means r) ρ'.now ≡ judged
  judged_is =
      ap₂ (λ (a : Answer FrameOutline) (s : List ℕ). frame_read a s) k.0 k.1 ∙ left_whole judged ρ.now

  -- What the answer and the bytes that are left tell is the table's, and everything that the table gives is told so. A
  -- flag among the bytes is refused with 6.
  pub judged_by_table : (v : Verdict)
      → Exactly (frame_read (read_means r) ρ'.now ≡ v) (Judged o (candidate_of kind (take len ρ.now)) v)
  judged_by_table v = exactly judged_is (verdict_by_table o (candidate_of kind (take len ρ.now)) v)

  -- A refusal changes no byte.
  pub judged_untouched : (n : ℕ) → read_means r ≡ refused n → ρ'.now ≡ ρ.now
  judged_untouched n e = k.1 ∙ left_as judged ρ.now n (sym k.0 ∙ e)

  -- It is refused with 17 exactly on the live line, for bytes that are a sound standard frame in a trace.
  pub judged_17_exactly : Exactly (read_means r ≡ refused 17)
      ((o ≡ Live) × ((c : List ℕ) × SoundFrame Trace (candidate_of kind (take len ρ.now)) (standard c)))
  unfolding judge_answer
  judged_17_exactly = (
    (λ e. (unnamed_verdict o (candidate_of kind (take len ρ.now))).0 (of_answer judged (sym k.0 ∙ e))),
    (λ s. k.0 ∙ ap judge_answer ((unnamed_verdict o (candidate_of kind (take len ρ.now))).1 s)),
  )
    where
      of_answer : (v : Verdict) → judge_answer v ≡ refused 17 → v ≡ refused 17
      of_answer (refused n) e = let q : n ≡ 17 = cc in ap refused q
      of_answer (result f) e = let z : ◌≡◌ {A = ℕ} 0 1 = cc in absurd (omega arith)

  -- Live, it tells no standard frame.
  pub judged_live_extended : o ≡ Live → (f : Frame) → frame_read (read_means r) ρ'.now ≡ result f
      → frame_kind f ≡ Extended
  judged_live_extended l f e =
      (admit_means o (verdict (candidate_of kind (take len ρ.now))) f (sym judged_is ∙ e)).1 l

  -- Bytes that are no sound standard frame are answered and left as the candidate is judged by itself, at either
  -- origin.
  pub judged_alike : NoStandard (candidate_of kind (take len ρ.now))
      → (read_means r ≡ judge_answer (verdict (candidate_of kind (take len ρ.now))))
      × (ρ'.now ≡ left_in (verdict (candidate_of kind (take len ρ.now))) ρ.now)
  judged_alike n =
      let same = one_verdict o (candidate_of kind (take len ρ.now)) n in
      (k.0 ∙ ap judge_answer same, k.1 ∙ ap (λ (v : Verdict). left_in v ρ.now) same)

-- So two calls on the same bytes, at any origins, are answered alike and leave the same.
pub judges_agree : (κs : Lfts 1) (o p : Origin) (kind : Kind) (ρ ρ' σ' : MutBor (List ℕ)) (len : ℕ) (r s : Result Outline Refusal)
    → judge-array-reads.Learnt κs (o, (kind, (ρ, (len, tt)))) r (o, (kind, (ρ', (len, tt))))
    → judge-array-reads.Learnt κs (p, (kind, (ρ, (len, tt)))) s (p, (kind, (σ', (len, tt))))
    → NoStandard (candidate_of kind (take len ρ.now))
    → (read_means r ≡ read_means s) × (ρ'.now ≡ σ'.now)
judges_agree κs o p kind ρ ρ' σ' len r s k l n =
    let a = judged_alike κs o kind ρ ρ' len r k n in
    let b = judged_alike κs p kind ρ σ' len s l n in
    (a.0 ∙ sym b.0, a.1 ∙ sym b.1)
