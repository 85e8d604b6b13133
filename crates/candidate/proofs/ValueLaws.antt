-- The enum that a call answers with and the array that it leaves tell the whole outcome.
use mathlib.Core.Path.{◌≡◌, refl, ap}
use mathlib.Core.List.{List}
use Prim.Native.Nat.{ℕ}
use Rattle.framing.specs.Reference.{Call, byte, finish}
use Rattle.framing.specs.Bounded.{BoundedReader, bounded_turn}
use Rattle.framing.proofs.Bounded.{bounded_left}
use Rattle.framing.proofs.Chunk.{fed_has}
use Rattle.frame.specs.Flags.{candidate_of}
use Rattle.frame.specs.Verdict.{verdict}
use Rattle.frame.specs.Origin.{admit}
use Rattle.frame.specs.Answers.{judge_answer, frame_read}
use Rattle.frame.specs.declared.Origin.{Origin}
use Rattle.frame.specs.declared.Kind.{Kind}
use Rattle.frame.proofs.ContentsLaws.{left_whole}
use Rattle.candidate.specs.Outcome.{nothing, judged, summary_of, outcome_of}
use Rattle.candidate.specs.Rowing.{rowing, rowing_bounds}
use Rattle.candidate.specs.Holder.{Holder, HolderTurn, origin_held, seen, turn_held}
use Rattle.candidate.specs.Feed.{is_answer, feed_held}

-- A frame's contents are the first bytes of the array.
abbrev pub Whole : HolderTurn → Type 0
Whole t = outcome_of (summary_of t.answer) t.next.bytes ≡ t.answer

bounded_whole : (o : Origin) (r : BoundedReader Kind) (c : Call)
    → outcome_of (summary_of (bounded_turn (rowing o) (rowing_bounds o) r c).answer)
    (bounded_turn (rowing o) (rowing_bounds o) r c).next.bytes
    ≡ (bounded_turn (rowing o) (rowing_bounds o) r c).answer
unfolding judge_answer frame_read
bounded_whole o =
    bounded_left (rowing o) (rowing_bounds o) (λ a bytes. outcome_of (summary_of a) bytes ≡ a) (λ bytes. refl) (λ bytes. refl)
    (λ bytes. refl) (λ kind body bytes. ap judged (left_whole (admit o (verdict (candidate_of kind body))) bytes))

pub call_whole : (r : Holder) (c : Call) → Whole (turn_held r c)
call_whole r (byte b) = bounded_whole (origin_held r) (seen r) (byte b)
call_whole r finish = bounded_whole (origin_held r) (seen r) finish

-- The same of bytes up to the first that is answered.
pub fed_whole : (r : Holder) (s : List ℕ)
    → outcome_of (summary_of (feed_held r s).answer) (feed_held r s).next.bytes ≡ (feed_held r s).answer
fed_whole r s =
    fed_has nothing is_answer turn_held (λ u. Unit {0}) (λ o u. outcome_of (summary_of o) u.bytes ≡ o) (λ u k. refl)
    (λ u b k. (tt, call_whole u (byte b))) r s tt
