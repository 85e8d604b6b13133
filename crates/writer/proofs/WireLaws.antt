-- Laws of a frame's bytes on the wire, and of what a writer answers.
use Prim.Native.Nat.{ℕ, ◌+◌, ◌≤◌, ◌<◌}
use mathlib.Core.Path.{◌≡◌, refl, sym, ap, ◌∙◌}
use mathlib.Core.List.{List, [], ◌∷◌, ◌++◌, append_assoc, append-nil}
use native.Mathlib.Omega.{arith}
use lib.ListN.{length, set, length-append}
use borrow.Author.Tests.{lt-leb, le-leb}
use Rattle.lists.specs.Splice.{splice}
use Rattle.lists.proofs.Splices.{splice_next, set-splice}
use Rattle.frame.specs.Stuffing.{stuff_byte, stuff}
use Rattle.frame.specs.Checksum.{checksum}
use Rattle.frame.specs.Frame.{Frame, standard, extended, contents_of, frame_kind, addresses_of, payload, wire_of, frame_of}
use Rattle.writer.specs.Answers.{frame_draft, sent_draft}
use Rattle.answer.specs.Answer.{result, refused}
use Rattle.writer.specs.Private.{header_wire}
use Rattle.frame.specs.declared.Header.{Header}
use Rattle.frame.specs.declared.Header.TheVariants.{Plain, Addressed}
use Rattle.frame.specs.Conditions.{SenderNamed}
use Rattle.frame.specs.declared.Origin.{Origin}
use Rattle.frame.specs.declared.Origin.TheVariants.{Live, Trace}
use Rattle.frame.proofs.OriginLaws.{live_standard, extended_named, trace_named}
use Rattle.writer.proofs.StuffingLaws.{stuff-append, stuff-one, stuff_between, stuff_byte_between}

-- ---- the parts of a frame on the wire

abbrev tail : List ℕ → List ℕ
tail c = stuff c ++ (stuff_byte (checksum c) ++ (0xF2 ∷ []))

stuff_tail : (c : List ℕ) → stuff (c ++ (checksum c ∷ [])) ++ (0xF2 ∷ []) ≡ tail c
stuff_tail c =
    ap (λ (l : List ℕ). l ++ (0xF2 ∷ []))
    (stuff-append c (checksum c ∷ []) ∙ ap (λ (l : List ℕ). stuff c ++ l) (stuff-one (checksum c)))
    ∙ append_assoc (stuff c) (stuff_byte (checksum c)) (0xF2 ∷ [])

stuff_two : (a b : ℕ) → stuff (a ∷ b ∷ []) ≡ stuff_byte a ++ stuff_byte b
unfolding stuff
stuff_two a b = ap (λ (l : List ℕ). stuff_byte a ++ l) (append-nil (stuff_byte b))

pub wire_parts : (h : Header) (c : List ℕ)
    → wire_of (frame_of h c) ≡ header_wire h ++ (stuff c ++ (stuff_byte (checksum c) ++ (0xF2 ∷ [])))
unfolding wire_of payload addresses_of contents_of
wire_parts Plain c = ap (λ (l : List ℕ). 0xF1 ∷ l) (stuff_tail c)
wire_parts (Addressed to from) c =
    ap (λ (l : List ℕ). 0xF0 ∷ l)
    (ap (λ (l : List ℕ). l ++ (0xF2 ∷ [])) (stuff-append (to ∷ from ∷ []) (c ++ (checksum c ∷ [])))
    ∙ append_assoc (stuff (to ∷ from ∷ [])) (stuff (c ++ (checksum c ∷ []))) (0xF2 ∷ [])
    ∙ ap (λ (l : List ℕ). l ++ (stuff (c ++ (checksum c ∷ [])) ++ (0xF2 ∷ []))) (stuff_two to from)
    ∙ ap (λ (l : List ℕ). (stuff_byte to ++ stuff_byte from) ++ l) (stuff_tail c))

pub wire_length : (h : Header) (c : List ℕ)
    → length (wire_of (frame_of h c)) ≡ length (header_wire h) + length (stuff c) + length (stuff_byte (checksum c)) + 1
wire_length h c = ap length (wire_parts h c) ∙ simp length-append (omega arith)

-- a header takes one to five bytes
pub header_between : (h : Header) → (1 ≤ length (header_wire h)) × (length (header_wire h) ≤ 5)
header_between Plain = omega arith
header_between (Addressed to from) =
    omega (arith, length-append (stuff_byte to) (stuff_byte from), stuff_byte_between to, stuff_byte_between from)

-- contents over 117 bytes are too long for any frame
pub contents_long : (h : Header) (c : List ℕ) → 117 < length c → 120 < length (wire_of (frame_of h c))
contents_long h c l =
    omega (arith, wire_length h c, header_between h, stuff_between c, stuff_byte_between (checksum c))

-- ---- the draft of a frame

pub draft_long : (f : Frame) → 120 < length (wire_of f) → frame_draft f ≡ refused 2
unfolding frame_draft
draft_long f h = simp (lt-leb (length (wire_of f)) 120 h)

pub draft_fits : (f : Frame) → length (wire_of f) ≤ 120 → frame_draft f ≡ result (wire_of f)
unfolding frame_draft
draft_fits f h = simp (le-leb (length (wire_of f)) 120 h)

pub sent_frame : (o : Origin) (f : Frame) → SenderNamed o (frame_kind f) → sent_draft o f ≡ frame_draft f
sent_frame Live (standard c) h = absurd (live_standard h)
sent_frame Live (extended to from c) h = refl
sent_frame Trace f h = refl

pub sent_unnamed : (o : Origin) (f : Frame) → (SenderNamed o (frame_kind f) → ⊥) → sent_draft o f ≡ refused 17
sent_unnamed Live (standard c) n = refl
sent_unnamed Live (extended to from c) n = absurd (n (extended_named Live))
sent_unnamed Trace f n = absurd (n (trace_named (frame_kind f)))

-- ---- writing a header

module _ (out : List ℕ) (to from : ℕ) (room : length (header_wire (Addressed to from)) ≤ length out) where
  pub addressed_length : length (header_wire (Addressed to from)) ≡ 1 + length (stuff_byte to) + length (stuff_byte from)
  addressed_length = omega (arith, length-append (stuff_byte to) (stuff_byte from))

  pub put_addressed : (out₁ out₂ : List ℕ) (a r : ℕ) → a ≡ 1 + length (stuff_byte to)
      → out₁ ≡ splice (set out 0 0xF0) 1 (stuff_byte to)
      → r ≡ a + length (stuff_byte from) → out₂ ≡ splice out₁ a (stuff_byte from)
      → (r ≡ length (header_wire (Addressed to from))) × (out₂ ≡ splice out 0 (header_wire (Addressed to from)))
  put_addressed out₁ out₂ a r p q e f =
      let l = addressed_length in
      let first : out₁ ≡ splice out 0 (0xF0 ∷ stuff_byte to) =
      splice_next out 0 (0xF0 ∷ []) (stuff_byte to) 1 (omega arith) (set-splice out 0 0xF0 (omega arith)) refl q in
      (omega arith, splice_next out 0 (0xF0 ∷ stuff_byte to) (stuff_byte from) a (omega arith) first (omega arith) f)

-- ---- the parts written one after the other

pub put_parts : (h : Header) (c out out₁ out₂ out₃ : List ℕ) (sum a b : ℕ) → sum ≡ checksum c
    → length (wire_of (frame_of h c)) ≤ length out
    → a ≡ length (header_wire h) → out₁ ≡ splice out 0 (header_wire h)
    → b ≡ a + length (stuff c) → out₂ ≡ splice out₁ a (stuff c)
    → out₃ ≡ splice out₂ b (stuff_byte sum ++ (0xF2 ∷ []))
    → out₃ ≡ splice out 0 (wire_of (frame_of h c))
put_parts h c out out₁ out₂ out₃ sum a b s room ea e₁ eb e₂ e₃ =
    let w = wire_length h c in
    let l = length-append (header_wire h) (stuff c) in
    let two : out₂ ≡ splice out 0 (header_wire h ++ stuff c) =
    splice_next out 0 (header_wire h) (stuff c) a (omega arith) e₁ (omega arith) e₂ in
    splice_next out 0 (header_wire h ++ stuff c) (stuff_byte sum ++ (0xF2 ∷ [])) b (omega arith) two (omega arith) e₃
    ∙ ap (λ (k : ℕ). splice out 0 (header_wire h ++ stuff c ++ (stuff_byte k ++ (0xF2 ∷ [])))) s
    ∙ ap (splice out 0)
    (append_assoc (header_wire h) (stuff c) (stuff_byte (checksum c) ++ (0xF2 ∷ [])) ∙ sym (wire_parts h c))
