-- However a trace is cut into chunks and outputs, its listing is its text.
use Rattle.std.proofs.Common.{◌≡◌, ℕ, ◌+◌, ◌-◌, ◌<◌, ◌≤◌, Bool, false, ltb, List, [], ◌∷◌, ◌++◌, length, take, drop, sym, refl, ap, ◌∙◌, append_assoc, arith, take-append-drop, take_at, le-ltb}
use Rattle.lists.specs.Choice.{pick}
use Rattle.framing.specs.Reference.{finish}
use Rattle.framing.specs.Located.{Located, located_reference}
use Rattle.framing.specs.Demand3.{feed}
use Rattle.answer.specs.Answer.{Answer, result}
use Rattle.answer.proofs.Drafts.{written_first}
use Rattle.candidate.specs.Outcome.{Outcome}
use Rattle.frame.specs.declared.Origin.TheVariants.{Trace}
use Rattle.line.specs.Rowing.{most_bytes, located_rowing}
use Rattle.line.proofs.Follows.{reader_follows}
use Rattle.text.specs.Lines.{totals}
use Rattle.text.specs.Strays.{strays}
use Rattle.text.specs.Text.{located_in, verdicts, frames, refusals, lines, text}
use Rattle.text.specs.Writing.{line_room}
use Rattle.trace.specs.Machine.{new_listing, next_of, text_of, listing_after, texts, taken_of, last_text, Lists}
use Rattle.trace.specs.Cutting.{Calls, ended, call, WritesText, TakesSome}
use Rattle.trace.specs.declared.Listing.{Listing}
use Rattle.trace.specs.declared.Listed.{Listed}
use Rattle.trace.proofs.ChunkLaws.{after_append, texts-append}
use Rattle.trace.proofs.Counts.{Rest, all_text}

-- ---- calls in a row give what single bytes give

one_call : (s : Listing) (chunk rest out out' : List ℕ) (r : Listed) → Lists s chunk out out' r
    → (take r.wrote out' ++ texts r.next (drop r.taken chunk ++ rest) ≡ texts s (chunk ++ rest))
    × (listing_after r.next (drop r.taken chunk ++ rest) ≡ listing_after s (chunk ++ rest))
one_call s chunk rest out out' r l =
    let k = r.taken in
    let w : take r.wrote out' ≡ texts s (take k chunk) =
    ap (take r.wrote) l.out_is
    ∙ take_at (texts s (take k chunk)) (drop r.wrote out) r.wrote (sym l.wrote_is) in
    let whole : take k chunk ++ (drop k chunk ++ rest) ≡ chunk ++ rest =
    sym (append_assoc (take k chunk) (drop k chunk) rest)
    ∙ ap (λ (x : List ℕ). x ++ rest) (take-append-drop k chunk) in (
      ap (λ (x : List ℕ). x ++ texts r.next (drop k chunk ++ rest)) w
          ∙ ap (λ (u : Listing). texts s (take k chunk) ++ texts u (drop k chunk ++ rest)) l.next_is
          ∙ sym (texts-append s (take k chunk) (drop k chunk ++ rest))
          ∙ ap (texts s) whole,
      ap (λ (u : Listing). listing_after u (drop k chunk ++ rest)) l.next_is
          ∙ sym (after_append s (take k chunk) (drop k chunk ++ rest))
          ∙ ap (listing_after s) whole,
    )

calls_texts : {s s' : Listing} {bytes written : List ℕ} → Calls s bytes written s'
    → (written ≡ texts s bytes) × (s' ≡ listing_after s bytes)
calls_texts ended = (refl, refl)
calls_texts (call {s = s} chunk rest out out' r l t) =
    let k : (take r.wrote out' ++ texts r.next (drop r.taken chunk ++ rest) ≡ texts s (chunk ++ rest))
    × (listing_after r.next (drop r.taken chunk ++ rest) ≡ listing_after s (chunk ++ rest)) =
    one_call s chunk rest out out' r l in
    (ap (λ (x : List ℕ). take r.wrote out' ++ x) (calls_texts t).0 ∙ k.0, (calls_texts t).1 ∙ k.1)

-- ---- from a new state

from_zero : (os : List (Located Outcome)) (bytes : List ℕ)
    → Rest 0 0 0 false os bytes
    ≡ lines 0 (located_in os)
    ++ totals (frames (verdicts (located_in os))) (refusals (verdicts (located_in os))) (strays false bytes)
from_zero os bytes =
    let x : 0 + frames (verdicts (located_in os)) ≡ frames (verdicts (located_in os)) = omega arith in
    let y : 0 + refusals (verdicts (located_in os)) ≡ refusals (verdicts (located_in os)) = omega arith in
    let z : 0 + strays false bytes ≡ strays false bytes = omega arith in
    rw (x, y, z)

-- the lines of a trace, and the last text after it, are its text
pub new_text : (trace : List ℕ) → length trace ≤ most_bytes
    → texts new_listing trace ++ last_text (listing_after new_listing trace) ≡ text trace
new_text trace h =
    all_text new_listing trace (omega arith) (omega arith) (omega arith)
    ∙ ap (λ (os : List (Located Outcome)). Rest 0 0 0 false os trace)
    ((reader_follows Trace).same (feed trace ++ finish ∷ []))
    ∙ from_zero (located_reference (located_rowing Trace) (feed trace ++ finish ∷ [])) trace

same_result : (v w : List ℕ) → ◌≡◌ {A = Answer (List ℕ)} (result v) (result w) → v ≡ w
same_result v w e = cc

pub writes_text : WritesText
writes_text trace written h s =
    let k : (s.before ≡ texts new_listing trace) × (s.state ≡ listing_after new_listing trace) =
    calls_texts s.calls in
    let f = written_first (result (last_text s.state)) s.out s.wrote s.answered in
    let same : last_text s.state ≡ f.0 = same_result (last_text s.state) f.0 f.1 in
    let l : take s.wrote s.out' ≡ last_text s.state = ap (take s.wrote) s.left ∙ f.3 ∙ sym same in
    s.all
    ∙ ap (λ (x : List ℕ). x ++ take s.wrote s.out') k.0
    ∙ ap (λ (x : List ℕ). texts new_listing trace ++ x) (l ∙ ap last_text k.1)
    ∙ new_text trace h

-- ---- a call takes a byte

some : (t : Bool) (n : ℕ) → t ≡ false → 0 < pick t 0 (1 + n)
some t n e = rw e (omega arith)

pub takes_some : TakesSome
takes_some s [] out out' r h room l = absurd (omega arith)
takes_some s (b ∷ bytes) out out' r h room l =
    rw l.taken_is (some (ltb (length out) line_room) (taken_of (next_of s b) bytes (length out - length (text_of s b)))
    (le-ltb (length out) line_room room))
