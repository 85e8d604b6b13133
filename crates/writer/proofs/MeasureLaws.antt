-- Laws of a frame that was measured: the draft that it is, the room that its parts have, and its parts written.
use Prim.Native.Nat.{ℕ, ◌+◌, ◌≤◌, ◌<◌}
use mathlib.Core.Path.{◌≡◌, sym, ap, ◌∙◌}
use mathlib.Core.List.{List, [], ◌∷◌, ◌++◌}
use native.Mathlib.Omega.{arith}
use lib.ListN.{length}
use Rattle.lists.specs.Splice.{splice}
use Rattle.answer.specs.Answer.{result, refused, through}
use Rattle.answer.specs.Draft.{Draft, Writes}
use Rattle.answer.proofs.Drafts.{writes_refusal, writes_no_room, writes_done}
use Rattle.frame.specs.Stuffing.{is_stuffed, stuff_byte, stuff}
use Rattle.lists.proofs.Tests.{count_most}
use Rattle.frame.specs.Frame.{wire_of, frame_of}
use Rattle.writer.specs.Answers.{frame_draft}
use Rattle.writer.specs.Private.{header_wire, Counts, Measures}
use Rattle.writer.specs.declared.contents.Counted.{Counted}
use Rattle.frame.specs.declared.Header.{Header}
use Rattle.answer.specs.Refusals.{number_of}
use Rattle.answer.specs.declared.Refusal.{Refusal}
use Rattle.writer.specs.declared.measure.Measured.{Measured}
use Rattle.std.specs.Prelude.{Ok, Err}
use Rattle.writer.proofs.WireLaws.{wire_length, header_between, draft_long, draft_fits, put_parts}
use Rattle.writer.proofs.StuffingLaws.{stuff_count, width_few}

-- what measuring adds up is the length of the frame, and is small
module _ (h : Header) (c : List ℕ) (f : Counted) (n k w : ℕ) (q : Counts c f) (en : n ≡ length c)
    (ek : k ≡ length (header_wire h)) (ew : w ≡ length (stuff_byte f.sum)) where
  pub counted_length : k + (n + f.escapes) + w + 1 ≡ length (wire_of (frame_of h c))
  counted_length =
      omega (arith, wire_length h c, ap (λ (b : ℕ). length (stuff_byte b)) q.sum, q.escapes, stuff_count c)

  pub counted_few : n ≤ 117 → k + (n + f.escapes) + w + 1 ≤ 400
  counted_few l = omega (arith, q.escapes, count_most is_stuffed c, header_between h, width_few _ ew)

module _ (h : Header) (c : List ℕ) where
  abbrev D : Draft
  D = frame_draft (frame_of h c)

  -- a frame that is too long
  pub long_length : (why : Refusal) → Measures h c (Err why) → refused (number_of why) ≡ through length D
  long_length why m =
      ap (λ (w : Refusal). refused (number_of w)) m.0 ∙ ap (through length) (sym (draft_long (frame_of h c) m.1))

  pub long_written : (why : Refusal) (out : List ℕ) → Measures h c (Err why) → Writes D out (refused (number_of why)) out
  long_written why out m =
      writes_refusal D (number_of why) out
      (draft_long (frame_of h c) m.1 ∙ sym (ap (λ (w : Refusal). refused (number_of w)) m.0))

  -- a frame that may be sent
  module _ (f : Measured) (m : Measures h c (Ok f)) where
    fits : D ≡ result (wire_of (frame_of h c))
    fits = draft_fits (frame_of h c) (omega (arith, m.2, m.1))

    pub fits_length : result f.len ≡ through length D
    fits_length = ap result m.1 ∙ ap (through length) (sym fits)

    -- the parts together are the length that was found
    parts_length : length (header_wire h) + length (stuff c) + length (stuff_byte f.counted.sum) + 1 ≡ f.len
    parts_length =
        omega (arith, wire_length h c, m.1, ap (λ (n : ℕ). length (stuff_byte n)) m.0.sum)

    -- the room that each part has in an output with room for the frame, which keeps its length
    module _ (n : ℕ) (room : f.len ≤ n) where
      pub header_room : length (header_wire h) ≤ n
      header_room = omega (arith, parts_length)

      pub contents_room : (a n₁ : ℕ) → a ≡ length (header_wire h) → n₁ ≡ n → a + length (stuff c) ≤ n₁
      contents_room a n₁ ea k = omega (arith, parts_length)

      pub end_room : (a b n₂ : ℕ) → a ≡ length (header_wire h) → b ≡ a + length (stuff c) → n₂ ≡ n
          → b + length (stuff_byte f.counted.sum) + 1 ≤ n₂
      end_room a b n₂ ea eb k = omega (arith, parts_length)

    pub no_room_written : (out : List ℕ) → length out < f.len → Writes D out (refused 1) out
    no_room_written out l = writes_no_room D (wire_of (frame_of h c)) out fits (omega (arith, m.1))

    -- the header, the contents and the end, written one after the other
    pub parts_written : (out out₁ out₂ out₃ : List ℕ) (a b : ℕ) → f.len ≤ length out
        → a ≡ length (header_wire h) → out₁ ≡ splice out 0 (header_wire h)
        → b ≡ a + length (stuff c) → out₂ ≡ splice out₁ a (stuff c)
        → out₃ ≡ splice out₂ b (stuff_byte f.counted.sum ++ (0xF2 ∷ []))
        → Writes D out (result f.len) out₃
    parts_written out out₁ out₂ out₃ a b room ea e₁ eb e₂ e₃ =
        let r : length (wire_of (frame_of h c)) ≤ length out = omega (arith, m.1) in
        let done = writes_done D (wire_of (frame_of h c)) out out₃ fits r
        (put_parts h c out out₁ out₂ out₃ f.counted.sum a b m.0.sum r ea e₁ eb e₂ e₃) in
        (ap result m.1 ∙ done.0, done.1)
