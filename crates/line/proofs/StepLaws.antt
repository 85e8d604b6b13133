-- Laws of one call on the line reader: a byte that is taken and one that is not, and what the code makes of each.
use mathlib.Core.Path.{◌≡◌, refl, sym, ap, ap₂, ◌∙◌, subst}
use mathlib.Core.Bool.{Bool}
use mathlib.Core.List.{List}
use Prim.Native.Nat.{ℕ, ◌≤◌, ◌<◌}
use lib.Dec.{ltb}
use borrow.Author.Tests.{lt-ltb, le-ltb, ltb-true, ltb-false}
use Rattle.lists.specs.Choice.{pick}
use Rattle.lists.specs.Machine.{turn}
use Rattle.lists.proofs.Cases.{by_bool}
use Rattle.framing.specs.Located.{located, answer_in, position_in}
use Rattle.framing.specs.Counting.{locate, taken_turn}
use Rattle.candidate.specs.Outcome.{Outcome, nothing, judged, Summary, told_means, summary_of}
use Rattle.candidate.specs.Holder.{Holder, HolderTurn, turn_held, HeldStepIs}
use Rattle.candidate.specs.Feed.{is_answer}
use Rattle.candidate.specs.declared.HeldStep.{HeldStep}
use Rattle.line.specs.Rowing.{most_bytes, full, located_rowing}
use Rattle.line.specs.Reader.{reader, origin_of, counter_of, ReaderTurn, turn_from, step_of}
use Rattle.line.specs.Reader.{LentStepIs}
use Rattle.line.specs.Private.{told_at}
use Rattle.line.specs.declared.LineReader.{LineReader}

-- ---- an outcome at a position

pub answer_located : (o : Outcome) (position : ℕ) → answer_in (locate is_answer position o) ≡ o
answer_located nothing position = refl
answer_located (judged v) position = refl

pub position_located : (o : Outcome) (position : ℕ)
    → position_in (locate is_answer position o) ≡ told_at (summary_of o) position
position_located nothing position = refl
position_located (judged v) position = refl

-- ---- a byte

module _ (r : LineReader) (b : ℕ) where
  abbrev by_room : Bool → ReaderTurn
  by_room room =
      turn_from (pick room (taken_turn (located_rowing (origin_of r)) is_answer turn_held (counter_of r) b)
      (turn (located 0 full) (counter_of r)))

  -- One that is taken.
  abbrev pub taken_step : ReaderTurn
  taken_step = turn_from (taken_turn (located_rowing (origin_of r)) is_answer turn_held (counter_of r) b)

  pub step_taken : r.state.count < most_bytes → step_of r b ≡ taken_step
  step_taken h = ap by_room (lt-ltb r.state.count most_bytes h)

  -- One at a full count is refused, and the reader stays as it is.
  pub step_full : most_bytes ≤ r.state.count → step_of r b ≡ turn (located 0 full) r
  step_full h = ap by_room (le-ltb r.state.count most_bytes h)

  -- What holds of a byte that is taken and of one at a full count holds of every byte that is fed.
  pub by_count : (P : ReaderTurn → Type 0) → (r.state.count < most_bytes → P taken_step)
      → (most_bytes ≤ r.state.count → P (turn (located 0 full) r)) → P (step_of r b)
  by_count P taken refused =
      by_bool (ltb r.state.count most_bytes)
      (λ y. let h = ltb-true r.state.count most_bytes y in subst P (sym (step_taken h)) (taken h))
      (λ n. let h = ltb-false r.state.count most_bytes n in subst P (sym (step_full h)) (refused h))

-- ---- as the code makes them

-- what is held, with a start and a count beside it, where the code has worked out the position and the next start
pub located_step : (left : List ℕ) (start next count : ℕ) (s : HeldStep) (t : HolderTurn) → HeldStepIs left s t
    → (position start' : ℕ) → position ≡ told_at (told_means s.told) start → start' ≡ next
    → LentStepIs left
    (record { told = s.told; position = position; state = record { held = s.held; start = start'; count = count } })
    (turn (locate is_answer start t.answer) (reader t.next.bytes t.next.held next count))
located_step left start next count s t k position start' p q = record {
  told_is = k.told_is ∙ ap summary_of (sym (answer_located t.answer start));
  position_is = p ∙ ap (λ (h : Summary). told_at h start) k.told_is ∙ sym (position_located t.answer start);
  next_is = ap₂ (λ (h : Holder) (n : ℕ). reader h.bytes h.held n count) k.next_is q;
}
