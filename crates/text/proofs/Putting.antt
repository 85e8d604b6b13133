-- The laws of texts that are put into a buffer one after the other.
use mathlib.Core.Path.{◌≡◌, refl, sym, ap, ◌∙◌, subst}
use mathlib.Core.List.{List, [], ◌∷◌, ◌++◌}
use Prim.Native.Nat.{ℕ, ◌+◌, ◌/◌, ◌%◌, ◌≤◌, ◌<◌}
use native.Mathlib.Numerals.{add-one}
use native.Mathlib.Omega.{arith}
use lib.ListN.{length, take, set, get_or, length-append}
use lib.Seq.{length-take-le, take-suc}
use Rattle.lists.specs.Splice.{splice}
use Rattle.lists.proofs.Splices.{splice_nil, splice_next, length-splice, set-splice, set2_splice}
use Rattle.answer.specs.Answer.{result}
use Rattle.answer.specs.Draft.{Writes}
use Rattle.answer.proofs.Drafts.{writes_done}
use Rattle.frame.specs.Frame.{frame_of}
use Rattle.frame.specs.declared.Header.{Header}
use Rattle.frame.specs.declared.Header.TheVariants.{Plain, Addressed}
use Rattle.frame.specs.Answers.{outline_with, frame_read}
use Rattle.text.specs.Lines.{body, standard_body, extended_body}
use Rattle.text.specs.Digits.{decimal}
use Rattle.text.specs.Private.{Puts, pair, four}
use Rattle.text.specs.declared.buffer.Buffer.{Buffer}
use Rattle.text.proofs.DigitLaws.{decimal_hundreds, decimal_fours}

-- One text after another.
pub next : {b c d : Buffer} {v w : List ℕ} → Puts b c v → Puts c d w → Puts b d (v ++ w)
next {b} {c} {d} {v} {w} p q = record {
  same = q.same ∙ p.same;
  is = splice_next b.bytes.now b.len v w c.len (omega (arith, p.ends, p.room, p.fits)) p.is p.ends q.is;
  ends = omega (arith, q.ends, p.ends, length-append v w);
  room = q.room ∙ p.room;
  fits = q.fits;
}

-- The same text, by an equation.
pub put_as : {b c : Buffer} {v w : List ℕ} → v ≡ w → Puts b c v → Puts b c w
put_as {b} e p = record {
  same = p.same;
  is = p.is ∙ ap (splice b.bytes.now b.len) e;
  ends = p.ends ∙ ap (λ (l : List ℕ). b.len + length l) e;
  room = p.room;
  fits = p.fits;
}

-- The same buffer, by an equation.
pub put_from : {b c d : Buffer} {w : List ℕ} → c ≡ b → Puts c d w → Puts b d w
put_from {d = d} {w = w} e p = subst (λ (x : Buffer). Puts x d w) e p

-- A turn of the loop that puts a text.
pub copy_more : (s out₀ : List ℕ) (at i : ℕ) (out : List ℕ) → at + length s ≤ length out₀ → i < length s
    → out ≡ splice out₀ at (take i s)
    → set out (at + i) (get_or s i 0) ≡ splice out₀ at (take (i + 1) s)
copy_more s out₀ at i out room h p =
    let len : length (take i s) ≡ i = length-take-le i s (omega arith) in
    let long : length out ≡ length out₀ = ap length p ∙ length-splice out₀ at (take i s) (omega arith) in
    let e : take i s ++ (get_or s i 0 ∷ []) ≡ take (i + 1) s = rw (add-one, take-suc s i 0) in
    splice_next out₀ at (take i s) (get_or s i 0 ∷ []) (at + i) (omega arith) p (omega arith)
    (set-splice out (at + i) (get_or s i 0) (omega arith))
    ∙ ap (splice out₀ at) e

-- Four bytes put one after the other.
pub set4_splice : (out : List ℕ) (at a b c d : ℕ) → at + 4 ≤ length out
    → set (set (set (set out at a) (at + 1) b) (at + 2) c) (at + 3) d ≡ splice out at (a ∷ b ∷ c ∷ d ∷ [])
set4_splice out at a b c d room =
    let o : List ℕ = set (set out at a) (at + 1) b in
    let first : o ≡ splice out at (a ∷ b ∷ []) = set2_splice out at a b (omega arith) in
    let long : length o ≡ length out = ap length first ∙ length-splice out at (a ∷ b ∷ []) (omega arith) in
    let i : at + 3 ≡ at + 2 + 1 = omega arith in
    ap (λ (k : ℕ). set (set o (at + 2) c) k d) i
    ∙ splice_next out at (a ∷ b ∷ []) (c ∷ d ∷ []) (at + 2) (omega arith) first (omega arith)
    (set2_splice o (at + 2) c d (omega (arith, long)))

-- A number, its last digits after the others.
pub put_hundreds : {b c d : Buffer} {v : ℕ} → 100 ≤ v → Puts b c (decimal (v / 100)) → Puts c d (pair (v % 100))
    → Puts b d (decimal v)
put_hundreds {v = v} h p q = put_as (sym (decimal_hundreds v h)) (next p q)

pub put_fours : {b c d : Buffer} {v : ℕ} → 10000 ≤ v → Puts b c (decimal (v / 10000)) → Puts c d (four (v % 10000))
    → Puts b d (decimal v)
put_fours {v = v} h p q = put_as (sym (decimal_fours v h)) (next p q)

-- The body of a frame whose contents are a part of the bytes.
pub framed : (h : Header) (len : ℕ) (part bytes : List ℕ) → part ≡ take len bytes
    → body (result (frame_of h part)) ≡ body (frame_read (result (outline_with h len)) bytes)
unfolding frame_read
framed Plain len part bytes e = ap standard_body e
framed (Addressed to from) len part bytes e = ap (extended_body to from) e

-- What a writer answers whose text was put at the front of the output, and one that puts nothing.
pub written : (w out : List ℕ) {out' : List ℕ} {n : ℕ} → out' ≡ splice out 0 w → n ≡ length w → n ≤ length out
    → Writes (result w) out (result n) out'
written w out {out'} {n} p e fits =
    subst (λ (k : ℕ). Writes (result w) out (result k) out') (sym e)
    (writes_done (result w) w out out' refl (omega (arith, e, fits)) p)

pub written_nothing : (out : List ℕ) → Writes (result []) out (result 0) out
written_nothing out = writes_done (result []) [] out out refl (omega arith) (sym (splice_nil out 0))
