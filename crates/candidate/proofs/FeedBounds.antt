-- What holds after every chunk that was fed: a frame's contents fit between two flags, the length held is short, and the
-- origin is the one before.
use mathlib.Core.Path.{◌≡◌, refl, ◌∙◌}
use mathlib.Core.List.{List}
use native.Mathlib.Omega.{arith}
use Prim.Native.Nat.{ℕ, ◌<◌}
use Rattle.framing.specs.Reference.{byte, finish, Call}
use Rattle.framing.proofs.Bounded.{bounded_len}
use Rattle.framing.proofs.Chunk.{fed_answer, fed_next}
use Rattle.frame.specs.Frame.{standard, extended, contents_of}
use Rattle.frame.specs.Verdict.{Verdict, verdict}
use Rattle.frame.specs.Origin.{admit}
use Rattle.answer.specs.Answer.{refused, result}
use Rattle.frame.specs.Answers.{judge_answer}
use Rattle.frame.specs.declared.Origin.{Origin}
use Rattle.frame.proofs.ContentsLaws.{admitted_short}
use Rattle.candidate.specs.Rowing.{rowing, rowing_bounds}
use Rattle.candidate.specs.Outcome.{Outcome, nothing, summary_of, tells, ContentsFit}
use Rattle.candidate.specs.Holder.{Holder, origin_held, seen, finish_held, turn_held}
use Rattle.candidate.specs.Feed.{is_answer, feed_held}
use Rattle.candidate.proofs.HolderLaws.{origin_kept}
use Rattle.candidate.proofs.OutcomeLaws.{every_outcome}

-- ---- contents

module _ (o : Origin) where
  -- The contents of a slice that is accepted are at most the bytes that may stand between flags.
  verdict-within : (w : List ℕ) → ContentsFit 118 (tells (judge_answer (admit o (verdict w))))
  unfolding judge_answer contents_of
  verdict-within w = fits (admit o (verdict w)) refl
    where
      fits : (v : Verdict) → admit o (verdict w) ≡ v → ContentsFit 118 (tells (judge_answer v))
      fits (refused n) e = tt
      fits (result (standard c)) e = omega (arith, admitted_short o w (standard c) e)
      fits (result (extended to from c)) e = omega (arith, admitted_short o w (extended to from c) e)

-- No outcome tells of contents of more than 118 bytes.
outcome_within : (r : Holder) (c : Call) → ContentsFit 118 (summary_of (turn_held r c).answer)
unfolding judge_answer
outcome_within r c =
    every_outcome (origin_held r) (λ (a : Outcome). ContentsFit 118 (summary_of a)) tt tt tt (verdict-within (origin_held r))
    r refl c

pub finish_within : (r : Holder) → ContentsFit 118 (summary_of (finish_held r).answer)
finish_within r = outcome_within r finish

-- The contents of a frame that is told are at most 118 bytes.
pub feed-within : (r : Holder) (s : List ℕ) → ContentsFit 118 (summary_of (feed_held r s).answer)
feed-within r s =
    fed_answer nothing is_answer turn_held (λ (a : Outcome). ContentsFit 118 (summary_of a)) tt
    (λ h b. outcome_within h (byte b)) r s

-- ---- the length held

-- A length below a limit above 118 stays below it.
pub feed_len : (limit : ℕ) → 118 < limit → (r : Holder) (s : List ℕ) → r.held.len < limit
    → (feed_held r s).next.held.len < limit
feed_len limit roomy r s h =
    fed_next nothing is_answer turn_held (λ (u : Holder). u.held.len < limit)
    (λ u b k. bounded_len (rowing (origin_held u)) (rowing_bounds (origin_held u)) limit roomy (seen u) (byte b) k) r s h

-- ---- the origin

-- Bytes that were fed leave the origin as it was.
pub feed_origin : (r : Holder) (s : List ℕ) → origin_held (feed_held r s).next ≡ origin_held r
feed_origin r s =
    fed_next nothing is_answer turn_held (λ (u : Holder). origin_held u ≡ origin_held r) (λ u b k. origin_kept u (byte b) ∙ k)
    r s refl
