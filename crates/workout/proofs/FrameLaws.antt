-- Laws of a workout's frame and of writing it.
use Prim.Native.Nat.{ℕ, ◌≤◌}
use mathlib.Core.Path.{◌≡◌, sym, ap, ◌∙◌, subst}
use mathlib.Core.Bool.{true, false}
use mathlib.Core.List.{List, [], ◌∷◌, ◌++◌}
use native.Mathlib.Omega.{arith}
use lib.ListN.{length, length-append}
use Rattle.lists.proofs.Cases.{by_bool}
use Rattle.lists.proofs.Tests.{within_true}
use Rattle.answer.specs.Answer.{Answer, result, refused, through}
use Rattle.answer.specs.Draft.{Draft, Writes}
use Rattle.frame.specs.Address.{in_range}
use Rattle.frame.specs.Stuffing.{stuff}
use Rattle.frame.specs.Checksum.{checksum}
use Rattle.frame.specs.Frame.{extended, contents_of, addresses_of, payload, wire_of}
use Rattle.writer.specs.Answers.{frame_draft}
use Rattle.writer.proofs.StuffingLaws.{stuff_between}
use Rattle.writer.proofs.WireLaws.{draft_fits}
use Rattle.workout.specs.Limits.{Limits}
use Rattle.workout.specs.Workout.{Programmed, within_limits, workout_bytes, workout_frame}
use Rattle.workout.specs.Answers.{workout_draft, workout_frame_draft}
use Rattle.workout.proofs.WriteLaws.{contents_length, draft_outside, draft_inside}

-- The frame of a workout is never longer than 54 bytes on the wire: two flags, and 26 bytes that are at most doubled.
pub frame_short : (to : ℕ) (w : Programmed) → length (wire_of (workout_frame to w)) ≤ 54
unfolding wire_of payload addresses_of contents_of
frame_short to w =
    let c = workout_bytes w in
    let p = to ∷ 0x00 ∷ c ++ (checksum c ∷ []) in
    omega (
      arith,
      contents_length w,
      length-append c (checksum c ∷ []),
      stuff_between p,
      length-append (stuff p) (0xF2 ∷ []),
    )

-- ---- its draft

-- an address in range has 8 bits
pub address_fits : (to : ℕ) → in_range to ≡ true → to ≤ 0xFC
address_fits to e = (within_true 0x01 0xFC to e).1

module _ (limits : Limits) (to : ℕ) (w : Programmed) where
  pub frame_bad_address : in_range to ≡ false → workout_frame_draft limits to w ≡ refused 9
  unfolding workout_frame_draft
  frame_bad_address e = simp e

  -- the draft of the contents, as the contents of a frame
  framed : in_range to ≡ true → {d : Draft} → workout_draft limits w ≡ d
      → workout_frame_draft limits to w ≡ through (λ c. wire_of (extended to 0x00 c)) d
  unfolding workout_frame_draft
  framed e q = (simp e) ∙ ap (through (λ c. wire_of (extended to 0x00 c))) q

  pub frame_outside : in_range to ≡ true → within_limits limits w ≡ false → workout_frame_draft limits to w ≡ refused 12
  frame_outside e n = framed e (draft_outside limits w n)

  pub frame_inside : in_range to ≡ true → within_limits limits w ≡ true
      → workout_frame_draft limits to w ≡ result (wire_of (workout_frame to w))
  frame_inside e y = framed e (draft_inside limits w y)

  -- a draft is of that frame, and is made only within the limits
  pub frame_is : (s : List ℕ) → workout_frame_draft limits to w ≡ result s
      → (within_limits limits w ≡ true) × (s ≡ wire_of (workout_frame to w))
  frame_is s e =
      by_bool (in_range to)
      (λ r. by_bool (within_limits limits w)
      (λ y. let q : result (wire_of (workout_frame to w)) ≡ result s = sym (frame_inside r y) ∙ e in
      let z : s ≡ wire_of (workout_frame to w) = cc in (y, z))
      (λ n. absurd (never 12 (sym (frame_outside r n) ∙ e))))
      (λ r. absurd (never 9 (sym (frame_bad_address r) ∙ e)))
    where
      never : (k : ℕ) → ◌≡◌ {A = Draft} (refused k) (result s) → ⊥
      never k q = let z : ◌≡◌ {A = ℕ} 0 1 = cc in omega arith

  -- so it has at most 54 bytes
  pub frame_draft_short : (s : List ℕ) → workout_frame_draft limits to w ≡ result s → length s ≤ 54
  frame_draft_short s e = omega (arith, ap length (frame_is s e).1, frame_short to w)

  -- What the frame writer did with the contents is what the workout's frame writer does: the frame is short enough, so
  -- that it is never refused with 2.
  pub frame_written : in_range to ≡ true → within_limits limits w ≡ true → (contents out last : List ℕ) (a : Answer ℕ)
      → contents ≡ workout_bytes w → Writes (frame_draft (extended to 0x00 contents)) out a last
      → Writes (workout_frame_draft limits to w) out a last
  frame_written e y contents out last a q =
      subst (λ (d : Draft). Writes d out a last)
      (ap (λ (c : List ℕ). frame_draft (extended to 0x00 c)) q
      ∙ draft_fits (workout_frame to w) (omega (arith, frame_short to w)) ∙ sym (frame_inside e y))
