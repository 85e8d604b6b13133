-- What the exported functions of the line reader answer and leave, from what the library's functions do.
use Prim.Native.Nat.{ℕ, ◌/◌, ◌^◌, ◌<◌}
use mathlib.Core.Path.{◌≡◌, sym, ap, ◌∙◌, subst}
use mathlib.Core.List.{List, []}
use native.Mathlib.Omega.{arith}
use Rattle.coscom_line.specs.Outcome.{Summary, told_means}
use Rattle.coscom_line.specs.Reader.{lent_reader, finish_of, LentStepIs}
use Rattle.coscom_line.specs.Chunk.{ChunkTurn, chunk_of, ChunkStepIs}
use Rattle.coscom_line.specs.declared.LineReader.{LineReader}
use Rattle.framing.specs.declared.Held.{Held}
use Rattle.coscom_line.specs.declared.LentStep.{LentStep}
use Rattle.coscom_line.specs.declared.ChunkStep.{ChunkStep}
use Rattle.coscom_line.proofs.OutcomeLaws.{chunk_len}
use Rattle.exports.specs.Packed.{Tells}
use Rattle.coscom_exports.specs.Answers.{line_fields, ToldShort}
use Rattle.coscom_exports.specs.LineState.{packed_state, state_in, reader_in}
use Rattle.coscom_exports.specs.LineAnswers.{fed_to, finished, FedAs, FinishedAs}
use Rattle.coscom_exports.proofs.LineStateLaws.{state_tells}
use Rattle.coscom_exports.proofs.ToldLaws.{chunk_tells, finish_tells}

module _ (bytes input left : List ℕ) (before : Held (Unit {0})) (s : ChunkStep)
    (is : ChunkStepIs left s (chunk_of (lent_reader bytes before) input)) where
  -- the length that is left has room in the state's number
  pub fed_len_fits : (n : ℕ) → n < 2 ^ 64 → before ≡ state_in n → s.state.len < 2 ^ 62
  fed_len_fits n h e =
      let l : before.len ≡ n / 4 = ap (λ (x : Held (Unit {0})). x.len) e in
      subst (λ (u : LineReader). u.state.len < 2 ^ 62) (sym is.next_is)
      (chunk_len (2 ^ 62) (omega arith) (lent_reader bytes before) input (omega (arith, h, l)))

  -- the data unit that is told has room in the answer
  pub fed_short : ToldShort (told_means s.told)
  fed_short = subst ToldShort (sym is.told_is) (chunk_tells (lent_reader bytes before) input).1

  pub fed_as : (answer n₀ n : ℕ) → before ≡ state_in n₀ → n ≡ packed_state s.state
      → Tells answer (line_fields (told_means s.told)) → FedAs answer left n s.taken (fed_to bytes n₀ input)
  fed_as answer n₀ n e es t =
      subst (λ (x : Held (Unit {0})). FedAs answer left n s.taken (chunk_of (lent_reader bytes x) input)) e
      (record {
        answered = subst (λ (h : Summary). Tells answer (line_fields h)) is.told_is t;
        bytes_left = ap (λ (u : LineReader). u.bytes) is.next_is;
        state_left = es ∙ ap (λ (u : LineReader). packed_state u.state) is.next_is;
        count = is.taken_is;
      })

module _ (before : Held (Unit {0})) (s : LentStep)
    (is : (bytes : List ℕ) → LentStepIs bytes s (finish_of (lent_reader bytes before))) where
  pub finish_len : s.state.len ≡ 0
  finish_len = ap (λ (u : LineReader). u.state.len) (is []).next_is

  pub finish_short : ToldShort (told_means s.told)
  finish_short = subst ToldShort (sym (is []).told_is) (finish_tells (lent_reader [] before)).1

  pub finished_as : (answer n₀ n : ℕ) → before ≡ state_in n₀ → n ≡ packed_state s.state
      → Tells answer (line_fields (told_means s.told))
      → (bytes : List ℕ) → FinishedAs answer n (finished bytes n₀)
  finished_as answer n₀ n e es t bytes =
      let k = is bytes in
      subst (λ (x : Held (Unit {0})). FinishedAs answer n (finish_of (lent_reader bytes x))) e
      (record {
        answered = subst (λ (h : Summary). Tells answer (line_fields h)) k.told_is t;
        state_left = es ∙ ap (λ (u : LineReader). packed_state u.state) k.next_is;
      })

-- The reader that the next call finds in the array and the number is the one that the bytes left, so a portal's calls
-- are the line reader's.
pub fed_next : (answer : ℕ) (bytes : List ℕ) (n taken : ℕ) (f : ChunkTurn) → FedAs answer bytes n taken f
    → reader_in bytes n ≡ f.next
fed_next answer bytes n taken f k =
    ap (reader_in bytes) k.state_left ∙ state_tells bytes f.next.state
    ∙ ap (λ (b : List ℕ). lent_reader b f.next.state) k.bytes_left

pub finished_next : (answer : ℕ) (bytes : List ℕ) (n₀ n : ℕ) → FinishedAs answer n (finished bytes n₀)
    → reader_in bytes n ≡ (finished bytes n₀).next
finished_next answer bytes n₀ n k =
    ap (reader_in bytes) k.state_left ∙ state_tells bytes (finished bytes n₀).next.state
