-- Laws of the origin: a verdict, and what was found of a body, at the live line and in a trace.
use Prim.Native.Nat.{ℕ}
use mathlib.Core.Path.{◌≡◌, refl, sym, ap, ◌∙◌}
use mathlib.Core.Logic.{◌⊎◌, inl, inr}
use mathlib.Core.Bool.{true, false, true≢false, false≢true}
use mathlib.Core.List.{List}
use native.Mathlib.Omega.{arith}
use Rattle.lists.specs.Choice.{Exactly}
use Rattle.answer.specs.Answer.{result, refused}
use Rattle.frame.specs.Frame.{Frame, standard, extended, frame_kind, frame_of}
use Rattle.frame.specs.Verdict.{Verdict}
use Rattle.frame.specs.Origin.{admit}
use Rattle.frame.specs.Conditions.{SenderNamed}
use Rattle.frame.specs.Private.{header_kind, admits, SoundAt}
use Rattle.frame.specs.declared.Origin.{Origin}
use Rattle.frame.specs.declared.Origin.TheVariants.{Live, Trace}
use Rattle.frame.specs.declared.Kind.{Kind}
use Rattle.frame.specs.declared.Kind.TheVariants.{Standard, Extended}
use Rattle.frame.specs.declared.Header.{Header}
use Rattle.frame.specs.declared.Header.TheVariants.{Plain, Addressed}

-- ---- the sender

pub trace_live : Trace ≡ Live → ⊥
trace_live e = let z : ◌≡◌ {A = ℕ} 0 1 = cc in omega arith

standard_extended : Standard ≡ Extended → ⊥
standard_extended e = let z : ◌≡◌ {A = ℕ} 0 1 = cc in omega arith

-- in a trace nothing is asked of the sender
pub trace_named : (kind : Kind) → SenderNamed Trace kind
trace_named kind e = absurd (trace_live e)

-- an extended frame names one anywhere
pub extended_named : (o : Origin) → SenderNamed o Extended
extended_named o e = refl

pub live_standard : SenderNamed Live Standard → ⊥
live_standard h = standard_extended (h refl)

-- a kind names its sender, or the line is live and the kind is the standard one
pub sender : (o : Origin) (kind : Kind) → SenderNamed o kind ⊎ ((o ≡ Live) × (kind ≡ Standard))
sender Live Standard = inr (refl, refl)
sender Live Extended = inl (extended_named Live)
sender Trace kind = inl (trace_named kind)

-- a kind names no sender exactly where the line is live and the kind is the standard one
pub sender_missing : (o : Origin) (kind : Kind)
    → Exactly (SenderNamed o kind → ⊥) ((o ≡ Live) × (kind ≡ Standard))
sender_missing Live Standard = ((λ n. (refl, refl)), (λ e. live_standard))
sender_missing Live Extended = (
  (λ n. absurd (n (extended_named Live))),
  (λ (l, e) h. let z : ◌≡◌ {A = ℕ} 0 1 = cc in omega arith),
)
sender_missing Trace kind = ((λ n. absurd (n (trace_named kind))), (λ (l, e) h. trace_live l))

-- ---- verdicts

pub admit_refused : (o : Origin) (v : Verdict) (n : ℕ) → v ≡ refused n → admit o v ≡ refused n
admit_refused Live v n e = ap (admit Live) e
admit_refused Trace v n e = e

admit_frame : (o : Origin) (f : Frame) → SenderNamed o (frame_kind f) → admit o (result f) ≡ result f
admit_frame Live (standard c) h = absurd (live_standard h)
admit_frame Live (extended to from c) h = refl
admit_frame Trace f h = refl

admit_no_sender : (o : Origin) (f : Frame) → (SenderNamed o (frame_kind f) → ⊥) → admit o (result f) ≡ refused 17
admit_no_sender Live (standard c) n = refl
admit_no_sender Live (extended to from c) n = absurd (n (extended_named Live))
admit_no_sender Trace f n = absurd (n (trace_named (frame_kind f)))

module _ (o : Origin) (v : Verdict) (f : Frame) where
  pub admit_result : v ≡ result f → SenderNamed o (frame_kind f) → admit o v ≡ result f
  admit_result e h = ap (admit o) e ∙ admit_frame o f h

  pub admit_unnamed : v ≡ result f → (SenderNamed o (frame_kind f) → ⊥) → admit o v ≡ refused 17
  admit_unnamed e n = ap (admit o) e ∙ admit_no_sender o f n

-- what is accepted at an origin is what the slice is judged to be, and names its sender there
pub admit_means : (o : Origin) (v : Verdict) (f : Frame) → admit o v ≡ result f
    → (v ≡ result f) × SenderNamed o (frame_kind f)
admit_means Live (refused n) f e = let z : ◌≡◌ {A = ℕ} 0 1 = cc in absurd (omega arith)
admit_means Live (result (standard c)) f e = let z : ◌≡◌ {A = ℕ} 0 1 = cc in absurd (omega arith)
admit_means Live (result (extended to from c)) f e =
    let q : extended to from c ≡ f = cc in (e, λ l. ap frame_kind (sym q))
admit_means Trace v f e = (e, trace_named (frame_kind f))

-- ---- a sound body

module _ (o : Origin) {v : Verdict} {body : List ℕ} where
  pub sound_admitted : {start len : ℕ} (h : Header) → SoundAt v body h start len → admits o (header_kind h) ≡ true
      → SoundAt (admit o v) body h start len
  sound_admitted {start} {len} h s a = record {
    contents = s.contents;
    judged = ap (admit o) s.judged ∙ kept o h a;
    counted = s.counted;
    follows = s.follows;
    inside = s.inside;
  }
    where
      kept : (o : Origin) (h : Header) → admits o (header_kind h) ≡ true
          → admit o (result (frame_of h s.contents)) ≡ result (frame_of h s.contents)
      kept Live Plain a = absurd (false≢true a)
      kept Live (Addressed to from) a = refl
      kept Trace h a = refl

  pub sound_unnamed : {start len : ℕ} (h : Header) → SoundAt v body h start len → admits o (header_kind h) ≡ false
      → admit o v ≡ refused 17
  sound_unnamed {start} {len} h s a = ap (admit o) s.judged ∙ refuses o h a
    where
      refuses : (o : Origin) (h : Header) → admits o (header_kind h) ≡ false
          → admit o (result (frame_of h s.contents)) ≡ refused 17
      refuses Live Plain a = refl
      refuses Live (Addressed to from) a = absurd (true≢false a)
      refuses Trace h a = absurd (true≢false a)
