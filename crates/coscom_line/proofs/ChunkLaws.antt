-- Laws of a call that takes a chunk: how far it takes it, and the bytes fed singly.
use mathlib.Core.Path.{◌≡◌, refl, sym, ap, ◌∙◌, subst}
use mathlib.Core.Bool.{false, true≢false}
use mathlib.Core.List.{List}
use native.Mathlib.Omega.{arith}
use Prim.Native.Nat.{ℕ, zero, suc, ◌≤◌}
use Rattle.lists.proofs.Cases.{by_bool}
use Rattle.framing.specs.Demand3.{feed}
use Rattle.framing.specs.Chunk.{cut_chunk}
use Rattle.framing.proofs.Chunk.{fed_extent, chunk_singly}
use Rattle.coscom_line.specs.Outcome.{Outcome, nothing, judged, is_answer}
use Rattle.coscom_line.specs.Reader.{turn_of}
use Rattle.coscom_line.specs.Chunk.{feed_of, chunk_of, TakenToAnswer, by_byte, told_bytes, TakesFirst}
use Rattle.coscom_line.specs.declared.LineReader.{LineReader}

-- an outcome that is no answer
silent_nothing : (o : Outcome) → is_answer o ≡ false → o ≡ nothing
silent_nothing nothing e = refl
silent_nothing (judged v) e = absurd (true≢false e)

-- an answer takes a byte, so none stands by itself
told_taken : (n : ℕ) (o : Outcome) → ((o ≡ nothing → ⊥) → 1 ≤ n) → told_bytes n o ≡ by_byte n o
told_taken zero nothing h = refl
told_taken zero (judged v) h =
    let z : 1 ≤ 0 = h (λ e. let z : ◌≡◌ {A = ℕ} 0 1 = cc in omega arith) in absurd (omega arith)
told_taken (suc n) o h = refl

to_answer : (r : LineReader) (s : List ℕ) → TakenToAnswer s (feed_of r s).taken (feed_of r s).answer
to_answer r s =
    let k = fed_extent nothing is_answer turn_of refl r s in
    let o = (feed_of r s).answer in
    record {
      within = k.within;
      all = λ e. k.all (ap is_answer e);
      some = λ n. by_bool (is_answer o) (λ y. k.some y) (λ q. absurd (n (silent_nothing o q)));
    }

-- A call whose count, outcome and reader are those of a chunk.
module _ (r : LineReader) (given : List ℕ) (taken : ℕ) (o : Outcome) (n : taken ≡ (chunk_of r given).taken)
    (e : o ≡ (chunk_of r given).answer) where
  -- It takes its whole chunk with no answer, 65,536 bytes at the most, and with one at least a byte.
  pub takes_to_answer : TakenToAnswer (cut_chunk given) taken o
  takes_to_answer =
      subst (λ (m : ℕ). TakenToAnswer (cut_chunk given) m o) (sym n)
      (subst (TakenToAnswer (cut_chunk given) (chunk_of r given).taken) (sym e) (to_answer r (cut_chunk given)))

  -- The bytes that it takes are answered, and leave the reader, as they do singly; where none is taken nothing is told.
  pub takes_first : (next : LineReader) → next ≡ (chunk_of r given).next
      → TakesFirst r (feed given) taken (told_bytes taken o) next
  takes_first next q =
      let f = chunk_of r given in
      let k = chunk_singly nothing is_answer turn_of refl silent_nothing r given in
      subst (λ (m : ℕ). TakesFirst r (feed given) m (told_bytes m o) next) (sym n)
      (subst (λ (x : Outcome). TakesFirst r (feed given) f.taken (told_bytes f.taken x) next) (sym e)
      (subst (TakesFirst r (feed given) f.taken (told_bytes f.taken f.answer)) (sym q)
      (k.0, told_taken f.taken f.answer (to_answer r (cut_chunk given)).some ∙ k.1, k.2)))
