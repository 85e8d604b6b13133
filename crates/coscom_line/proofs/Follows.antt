-- The line reader answers every list of calls as the reference decoder does: it is framing's bounded reader.
use mathlib.Core.Path.{◌≡◌, refl, ap, ap₂, ◌∙◌}
use mathlib.Core.List.{List, [], ◌∷◌, ◌++◌}
use Prim.Native.Nat.{ℕ}
use Rattle.lists.specs.Machine.{run}
use Rattle.framing.specs.Reference.{starts, stops}
use Rattle.framing.specs.Demand3.{Follows}
use Rattle.framing.specs.Bounded.{Suits}
use Rattle.framing.proofs.Bounded.{bounded_follows}
use Rattle.coscom.specs.Flags.{role_of, candidate_of}
use Rattle.coscom.specs.Verdict.{verdict}
use Rattle.coscom.proofs.FlagLaws.{role_start, role_stop, free_flagless}
use Rattle.coscom.proofs.VerdictLaws.{whole_flagless, judge_long}
use Rattle.coscom_line.specs.Outcome.{judged}
use Rattle.coscom_line.specs.Reader.{coscom, coscom_bounds, new_reader, AsNew, seen, turn_of, outcome_at}
use Rattle.coscom_line.specs.Reader.{next_after}
use Rattle.coscom_line.specs.declared.LineReader.{LineReader}
use Rattle.coscom.proofs.CodeLaws.{left_length}
use Rattle.coscom_line.proofs.ReaderLaws.{call_seen}

-- a candidate is known by the bytes between its flags
by_body : (flag : ℕ) (body : List ℕ) (b : ℕ) → role_of flag ≡ starts → role_of b ≡ stops
    → flag ∷ (body ++ b ∷ []) ≡ candidate_of body
by_body flag body b s e = ap₂ (λ (x y : ℕ). x ∷ (body ++ y ∷ [])) (role_start flag s) (role_stop b e)

-- A candidate is judged by the bytes between its flags, and one with more than 254 of them is refused with 2 whatever
-- they are.
pub coscom_suits : Suits coscom coscom_bounds
coscom_suits = record {
  held = λ flag body b s e. ap (λ (w : List ℕ). judged (verdict w)) (by_body flag body b s e);
  too_long = λ flag body b s f e l. ap judged
      (ap verdict (by_body flag body b s e) ∙ whole_flagless body (free_flagless body f) ∙ judge_long body l);
  kept = λ kind len bytes e. left_length len bytes ∙ e;
}

-- Demand 3 of any reader that is as new.
pub as_new_follows : (r : LineReader) → AsNew r → Follows coscom (run outcome_at next_after r)
as_new_follows r n =
    bounded_follows coscom coscom_bounds coscom_suits (λ (r : LineReader). Unit {0}) turn_of seen
    (λ r c h. (refl, call_seen r c, tt)) r tt n.array n.outside_is

pub new_as_new : AsNew new_reader
new_as_new = record { array = refl; outside_is = refl }
