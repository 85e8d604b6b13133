-- What every outcome of what holds the candidate is: nothing, 6, 2 or a verdict at its origin. So it is never 1 or 16.
use mathlib.Core.Path.{◌≡◌, refl, sym, subst}
use mathlib.Core.Logic.{◌⊎◌, inl, inr}
use mathlib.Core.List.{List}
use native.Mathlib.Omega.{arith}
use Prim.Native.Nat.{ℕ, ◌≤◌}
use Rattle.framing.specs.Reference.{Call, byte, finish}
use Rattle.framing.specs.Bounded.{bounded_turn}
use Rattle.framing.proofs.Bounded.{bounded_answer}
use Rattle.framing.proofs.Chunk.{Extent}
use Rattle.framing.proofs.Chunk.{fed_extent as extent}
use Rattle.answer.specs.Answer.{refused}
use Rattle.frame.specs.Flags.{candidate_of}
use Rattle.frame.specs.Verdict.{Verdict, verdict}
use Rattle.frame.specs.Origin.{admit}
use Rattle.frame.specs.Conditions.{Judged, truncated, long, bad_escape, short, bad_sum, unnamed, sound}
use Rattle.frame.specs.declared.Origin.{Origin}
use Rattle.frame.proofs.Table.{verdict_by_table}
use Rattle.candidate.specs.Outcome.{Outcome, nothing, judged}
use Rattle.candidate.specs.Rowing.{rowing, rowing_bounds}
use Rattle.candidate.specs.Holder.{Holder, origin_held, seen, turn_held}
use Rattle.candidate.specs.Feed.{is_answer, feed_held}

-- What holds of nothing, of 6, of 2 and of every verdict at an origin holds of every outcome there.
module _ (o : Origin) (P : Outcome → Type 0) (none : P nothing) (cut : P (judged (refused 6)))
    (over : P (judged (refused 2))) (all : (w : List ℕ) → P (judged (admit o (verdict w)))) (r : Holder)
    (of_o : origin_held r ≡ o) where
  bounded_outcome : (c : Call)
      → P (bounded_turn (rowing (origin_held r)) (rowing_bounds (origin_held r)) (seen r) c).answer
  bounded_outcome c =
      bounded_answer (rowing (origin_held r)) (rowing_bounds (origin_held r)) P none cut over
      (λ kind body. subst (λ (p : Origin). P (judged (admit p (verdict (candidate_of kind body))))) (sym of_o)
      (all (candidate_of kind body))) (seen r) c

  pub every_outcome : (c : Call) → P (turn_held r c).answer
  every_outcome (byte b) = bounded_outcome (byte b)
  every_outcome finish = bounded_outcome finish

-- ---- the numbers of refusals

-- 2 to 6, and 17.
abbrev pub OwnNumber : ℕ → Type 0
OwnNumber n = ((2 ≤ n) × (n ≤ 6)) ⊎ (n ≡ 17)

-- A verdict that is a refusal has one of them.
pub verdict_own : (o : Origin) (w : List ℕ) (n : ℕ) → admit o (verdict w) ≡ refused n → OwnNumber n
verdict_own o w n e = table (admit o (verdict w)) ((verdict_by_table o w (admit o (verdict w))).0 refl) e
  where
    same : (m : ℕ) → 2 ≤ m → m ≤ 6 → ◌≡◌ {A = Verdict} (refused m) (refused n) → OwnNumber n
    same m h k e = let q : m ≡ n = cc in inl (omega arith, omega arith)

    table : (v : Verdict) → Judged o w v → v ≡ refused n → OwnNumber n
    table v (truncated k) e = same 6 (omega arith) (omega arith) e
    table v (long t k) e = same 2 (omega arith) (omega arith) e
    table v (bad_escape t l k) e = same 3 (omega arith) (omega arith) e
    table v (short t u l g x k) e = same 4 (omega arith) (omega arith) e
    table v (bad_sum t u l g x k m) e = same 5 (omega arith) (omega arith) e
    table v (unnamed t u l g x k s m) e = let q : ◌≡◌ {A = ℕ} 17 n = cc in inr (omega arith)
    table v (sound f s) e = let z : ◌≡◌ {A = ℕ} 0 1 = cc in absurd (omega arith)

-- An outcome that is a refusal has one of them.
abbrev pub OwnOutcome : Outcome → Type 0
OwnOutcome a = (n : ℕ) → a ≡ judged (refused n) → OwnNumber n

own_silent : OwnOutcome nothing
own_silent n e = let z : ◌≡◌ {A = ℕ} 0 1 = cc in absurd (omega arith)

pub own_outcome : (r : Holder) (c : Call) → OwnOutcome (turn_held r c).answer
own_outcome r c =
    every_outcome (origin_held r) OwnOutcome own_silent
    (λ n e. let q : ◌≡◌ {A = ℕ} 6 n = cc in inl (omega arith, omega arith))
    (λ n e. let q : ◌≡◌ {A = ℕ} 2 n = cc in inl (omega arith, omega arith))
    (λ w n e. let q : admit (origin_held r) (verdict w) ≡ refused n = cc in verdict_own (origin_held r) w n q) r refl c

-- ---- bytes up to the first that is answered

-- How far they are taken.
pub fed_extent : (h : Holder) (s : List ℕ) → Extent is_answer s (feed_held h s)
fed_extent h s = extent nothing is_answer turn_held refl h s
