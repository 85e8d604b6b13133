-- Which answer writing and measuring are given exactly when: the papers' tables.
use Rattle.frame.specs.Frame.{Frame, frame_kind, wire_of}
use Rattle.writer.specs.Answers.{frame_draft, sent_draft}
use Rattle.frame.specs.Conditions.{WithinLimit, Sendable}
use Rattle.writer.specs.Conditions.{WriteJudged, not_sent, over_limit, no_room_to_write, written, LengthJudged}
use Rattle.writer.specs.Conditions.{not_measured, too_long, takes}
use Prim.Native.Nat.{ℕ}
use mathlib.Core.Path.{◌≡◌, sym, ap, ◌∙◌, subst}
use mathlib.Core.Logic.{◌⊎◌, inl, inr}
use mathlib.Core.List.{List}
use native.Mathlib.Nat.{zero-add}
use native.Mathlib.Omega.{arith}
use lib.Dec.{leb}
use lib.ListN.{length}
use borrow.Author.Tests.{leb-true, leb-false}
use Rattle.lists.specs.Choice.{Exactly}
use Rattle.lists.proofs.Cases.{by_bool, both_exactly}
use Rattle.answer.specs.Draft.{Writes}
use Rattle.answer.proofs.Drafts.{writes_refusal, writes_no_room, writes_done, lines_exactly}
use Rattle.answer.specs.Answer.{result, refused, Answer, through}
use Rattle.frame.specs.declared.Origin.{Origin}
use Rattle.frame.specs.declared.Origin.TheVariants.{Live}
use Rattle.frame.specs.declared.Kind.TheVariants.{Standard}
use Rattle.writer.proofs.WireLaws.{draft_long, draft_fits, sent_frame, sent_unnamed}
use Rattle.frame.proofs.OriginLaws.{sender, sender_missing}

-- ---- writing

over_draft : (f : Frame) → (WithinLimit (wire_of f) → ⊥) → frame_draft f ≡ refused 2
over_draft f n =
    by_bool (leb (length (wire_of f)) 120) (λ y. absurd (n (leb-true _ _ y))) (λ y. draft_long f (leb-false _ _ y))

-- the draft of a frame at an origin, by the first rule that fails
module _ (o : Origin) (f : Frame) where
  sent_over : Sendable o f → (WithinLimit (wire_of f) → ⊥) → sent_draft o f ≡ refused 2
  sent_over m n = sent_frame o f m ∙ over_draft f n

  sent_fits : Sendable o f → WithinLimit (wire_of f) → sent_draft o f ≡ result (wire_of f)
  sent_fits m l = sent_frame o f m ∙ draft_fits f l

  -- A frame is never refused for want of room before it is written.
  pub draft_never_1 : sent_draft o f ≡ refused 1 → ⊥
  unfolding frame_draft
  draft_never_1 e = of_sender (sender o (frame_kind f))
    where
      of_sender : Sendable o f ⊎ ((o ≡ Live) × (frame_kind f ≡ Standard)) → ⊥
      of_sender (inl m) =
          let d : frame_draft f ≡ refused 1 = sym (sent_frame o f m) ∙ e in
          by_bool (leb (length (wire_of f)) 120)
          (λ y. let q : result (wire_of f) ≡ refused 1 = simp y at d in
          let z : ◌≡◌ {A = ℕ} 0 1 = cc in absurd (omega arith))
          (λ y. let q : ◌≡◌ {A = Answer (List ℕ)} (refused 2) (refused 1) = simp y at d in
          let z : ◌≡◌ {A = ℕ} 2 1 = cc in absurd (omega arith))
      of_sender (inr m) =
          let q : ◌≡◌ {A = Answer (List ℕ)} (refused 17) (refused 1) =
          sym (sent_unnamed o f ((sender_missing o (frame_kind f)).1 m)) ∙ e in
          let z : ◌≡◌ {A = ℕ} 17 1 = cc in absurd (omega arith)

module _ (o : Origin) (f : Frame) (out : List ℕ) where
  line_write : (a : Answer ℕ) (last : List ℕ) → WriteJudged o f out a last → Writes (sent_draft o f) out a last
  line_write a last (not_sent n) = writes_refusal (sent_draft o f) 17 out (sent_unnamed o f n)
  line_write a last (over_limit m n) = writes_refusal (sent_draft o f) 2 out (sent_over o f m n)
  line_write a last (no_room_to_write m l h) = writes_no_room (sent_draft o f) (wire_of f) out (sent_fits o f m l) h
  line_write a last (written m l h) =
      writes_done (sent_draft o f) (wire_of f) out _ (sent_fits o f m l) h (sym (simp zero-add))

  -- every frame has a line
  write_line : Sendable o f ⊎ ((o ≡ Live) × (frame_kind f ≡ Standard))
      → (a : Answer ℕ) × (last : List ℕ) × WriteJudged o f out a last
  write_line (inr m) = (refused 17, out, not_sent ((sender_missing o (frame_kind f)).1 m))
  write_line (inl m) =
      by_bool (leb (length (wire_of f)) 120)
      (λ y. by_bool (leb (length (wire_of f)) (length out))
      (λ r. (result (length (wire_of f)), _, written m (leb-true _ _ y) (leb-true _ _ r)))
      (λ r. (refused 1, out, no_room_to_write m (leb-true _ _ y) (leb-false _ _ r))))
      (λ y. (refused 2, out, over_limit m (λ l. absurd (omega (arith, l, leb-false (length (wire_of f)) 120 y)))))

  -- Every answer to writing a frame, with the output that is left, is given exactly when the table gives it.
  pub written_by_table : (a : Answer ℕ) (last : List ℕ)
      → Exactly (Writes (sent_draft o f) out a last) (WriteJudged o f out a last)
  written_by_table =
      lines_exactly (sent_draft o f) out (WriteJudged o f out) line_write (write_line (sender o (frame_kind f)))

  -- The answer of a call that writes and the output that it left are given ones exactly when the table gives those.
  pub writes_exactly : (a b : Answer ℕ) (last left : List ℕ) → Writes (sent_draft o f) out a last
      → Exactly ((a ≡ b) × (last ≡ left)) (WriteJudged o f out b left)
  writes_exactly a b last left p = both_exactly p (written_by_table b left)

-- ---- the length on the wire

module _ (o : Origin) (f : Frame) where
  line-length : (a : Answer ℕ) → LengthJudged o f a → a ≡ through length (sent_draft o f)
  line-length a (not_measured n) = ap (through length) (sym (sent_unnamed o f n))
  line-length a (too_long m n) = ap (through length) (sym (sent_over o f m n))
  line-length a (takes m l) = ap (through length) (sym (sent_fits o f m l))

  length-line : Sendable o f ⊎ ((o ≡ Live) × (frame_kind f ≡ Standard)) → (a : Answer ℕ) × LengthJudged o f a
  length-line (inr m) = (refused 17, not_measured ((sender_missing o (frame_kind f)).1 m))
  length-line (inl m) =
      by_bool (leb (length (wire_of f)) 120) (λ y. (result (length (wire_of f)), takes m (leb-true _ _ y)))
      (λ y. (refused 2, too_long m (λ l. absurd (omega (arith, l, leb-false (length (wire_of f)) 120 y)))))

  -- The answer of a call that measures is a given one exactly when the table gives it.
  pub lengths_exactly : (a b : Answer ℕ) → a ≡ through length (sent_draft o f) → Exactly (a ≡ b) (LengthJudged o f b)
  lengths_exactly a b e = (
    (λ h. let l = length-line (sender o (frame_kind f)) in
        subst (LengthJudged o f) (line-length l.0 l.1 ∙ sym e ∙ h) l.1),
    (λ j. e ∙ sym (line-length b j)),
  )
