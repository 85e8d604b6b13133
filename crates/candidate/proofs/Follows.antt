-- What holds a candidate answers each call as the reference decoder does: it is framing's bounded reader.
use mathlib.Core.Path.{◌≡◌, sym, ap, ap₂, ◌∙◌}
use mathlib.Core.List.{List, [], ◌∷◌, ◌++◌}
use Prim.Native.Nat.{ℕ}
use lib.ListN.{length}
use Rattle.framing.specs.Reference.{Call, Candidate, none, starts, stops, answer_to, candidate_after}
use Rattle.framing.specs.Bounded.{Suits}
use Rattle.framing.proofs.Bounded.{SeenFor, seen_call, seen_outside}
use Rattle.frame.specs.Flags.{role_of, kind_of, candidate_of}
use Rattle.frame.specs.Verdict.{verdict}
use Rattle.frame.specs.Origin.{admit}
use Rattle.frame.specs.declared.Origin.{Origin}
use Rattle.frame.proofs.FlagLaws.{role_start, role_stop, free_flagless}
use Rattle.frame.proofs.VerdictLaws.{whole_verdict, judge_long}
use Rattle.frame.proofs.ContentsLaws.{left_length}
use Rattle.frame.proofs.OriginLaws.{admit_refused}
use Rattle.candidate.specs.Outcome.{judged, capacity}
use Rattle.candidate.specs.Rowing.{rowing, rowing_bounds}
use Rattle.candidate.specs.Holder.{Holder, origin_held, seen, turn_held}
use Rattle.framing.specs.declared.Mode.TheVariants.{Outside}
use Rattle.candidate.proofs.HolderLaws.{call_seen}

-- a candidate is known by the kind that its start flag opens and the bytes between its flags
by_kind : (flag : ℕ) (body : List ℕ) (b : ℕ) → role_of flag ≡ starts → role_of b ≡ stops
    → flag ∷ (body ++ b ∷ []) ≡ candidate_of (kind_of flag) body
by_kind flag body b s e =
    ap₂ (λ (x y : ℕ). x ∷ (body ++ y ∷ [])) (sym (role_start flag s)) (role_stop b e)

-- A candidate is judged by its kind and the bytes between its flags, and one with more than 118 of them is refused with
-- 2 whatever they are.
pub rowing_suits : (o : Origin) → Suits (rowing o) (rowing_bounds o)
rowing_suits o = record {
  held = λ flag body b s e. ap (λ (w : List ℕ). judged (admit o (verdict w))) (by_kind flag body b s e);
  too_long = λ flag body b s f e l. ap judged
      (admit_refused o (verdict (flag ∷ (body ++ b ∷ []))) 2
      (ap verdict (by_kind flag body b s e) ∙ whole_verdict (kind_of flag) body (free_flagless body f)
      ∙ judge_long (kind_of flag) body l));
  kept = λ kind len bytes e. left_length o kind len bytes ∙ e;
}

-- What holds a candidate at an origin stands for the reference decoder's candidate.
abbrev pub StandsFor : Origin → Holder → Candidate → Type 0
StandsFor o r k =
    SeenFor (rowing o) (rowing_bounds o) (rowing_suits o) (λ (r : Holder). origin_held r ≡ o) turn_held seen (call_seen o) r k

-- Each call is answered as the decoder answers it, and keeps that.
pub held_follows : (o : Origin) (r : Holder) (k : Candidate) (c : Call) → StandsFor o r k
    → ((turn_held r c).answer ≡ answer_to (rowing o) k c) × StandsFor o (turn_held r c).next (candidate_after (rowing o) k c)
held_follows o =
    seen_call (rowing o) (rowing_bounds o) (rowing_suits o) (λ (r : Holder). origin_held r ≡ o) turn_held seen (call_seen o)

-- Outside of a candidate it stands for none: what is in the array, and the length, doesn't matter.
pub outside_stands : (o : Origin) (r : Holder) → origin_held r ≡ o → length r.bytes ≡ capacity → r.held.mode ≡ Outside
    → StandsFor o r none
outside_stands o r e h m =
    seen_outside (rowing o) (rowing_bounds o) (rowing_suits o) (λ (r : Holder). origin_held r ≡ o) turn_held seen (call_seen o)
    r e h m
