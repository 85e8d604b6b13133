-- When writing and measuring are refused with 17.
use Prim.Native.Nat.{ℕ}
use mathlib.Core.Path.{◌≡◌, refl}
use mathlib.Core.List.{List}
use native.Mathlib.Omega.{arith}
use lib.ListN.{length}
use Rattle.lists.specs.Choice.{Exactly}
use Rattle.answer.specs.Answer.{Answer, refused, through}
use Rattle.answer.specs.Draft.{Writes}
use Rattle.frame.specs.Frame.{Frame, frame_kind}
use Rattle.writer.specs.Answers.{sent_draft}
use Rattle.writer.specs.Conditions.{WriteJudged, not_sent, over_limit, no_room_to_write, written, LengthJudged}
use Rattle.writer.specs.Conditions.{not_measured, too_long, takes}
use Rattle.frame.specs.declared.Origin.{Origin}
use Rattle.frame.specs.declared.Origin.TheVariants.{Live}
use Rattle.frame.specs.declared.Kind.TheVariants.{Standard}
use Rattle.frame.proofs.OriginLaws.{sender_missing}
use Rattle.writer.proofs.Table.{written_by_table, writes_exactly, lengths_exactly}

-- A call that writes is refused with 17 exactly on the live line, for a standard frame.
pub unnamed_write : (o : Origin) (f : Frame) (out : List ℕ) (a : Answer ℕ) (last : List ℕ)
    → Writes (sent_draft o f) out a last → Exactly (a ≡ refused 17) ((o ≡ Live) × (frame_kind f ≡ Standard))
unnamed_write o f out a last p = (
  of_line a last ((written_by_table o f out a last).0 p),
  (λ m. ((writes_exactly o f out a (refused 17) last out p).1 (not_sent ((sender_missing o (frame_kind f)).1 m))).0),
)
  where
    of_line : (a : Answer ℕ) (last : List ℕ) → WriteJudged o f out a last → a ≡ refused 17
        → (o ≡ Live) × (frame_kind f ≡ Standard)
    of_line a last (not_sent n) e = (sender_missing o (frame_kind f)).0 n
    of_line a last (over_limit m n) e = let z : ◌≡◌ {A = ℕ} 2 17 = cc in absurd (omega arith)
    of_line a last (no_room_to_write m l h) e = let z : ◌≡◌ {A = ℕ} 1 17 = cc in absurd (omega arith)
    of_line a last (written m l h) e = let z : ◌≡◌ {A = ℕ} 0 1 = cc in absurd (omega arith)

-- So is a call that measures.
pub unnamed_length : (o : Origin) (f : Frame) (a : Answer ℕ) → a ≡ through length (sent_draft o f)
    → Exactly (a ≡ refused 17) ((o ≡ Live) × (frame_kind f ≡ Standard))
unnamed_length o f a p = (
  (λ e. of_line (refused 17) ((lengths_exactly o f a (refused 17) p).0 e) refl),
  (λ m. (lengths_exactly o f a (refused 17) p).1 (not_measured ((sender_missing o (frame_kind f)).1 m))),
)
  where
    of_line : (a : Answer ℕ) → LengthJudged o f a → a ≡ refused 17 → (o ≡ Live) × (frame_kind f ≡ Standard)
    of_line a (not_measured n) e = (sender_missing o (frame_kind f)).0 n
    of_line a (too_long m n) e = let z : ◌≡◌ {A = ℕ} 2 17 = cc in absurd (omega arith)
    of_line a (takes m l) e = let z : ◌≡◌ {A = ℕ} 0 1 = cc in absurd (omega arith)
