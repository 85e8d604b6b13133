-- What the exported functions of the line reader answer and leave, from what the library's functions do.
use Prim.Native.Nat.{ℕ, ◌/◌, ◌%◌, ◌^◌, ◌<◌}
use mathlib.Core.Path.{◌≡◌, sym, ap, ap₂, ◌∙◌, subst}
use mathlib.Core.List.{List, []}
use native.Mathlib.Omega.{arith}
use Rattle.framing.specs.Located.{Located, answer_in, position_in}
use Rattle.framing.specs.Counting.{locate}
use Rattle.frame.specs.declared.Origin.{Origin}
use Rattle.candidate.specs.Outcome.{Outcome, Summary, told_means, summary_of, ContentsFit}
use Rattle.candidate.specs.Feed.{is_answer}
use Rattle.candidate.proofs.HolderLaws.{truncated_alike}
use Rattle.line.specs.Reader.{lent_reader, origin_of, finish_of, LentStepIs}
use Rattle.line.specs.Feed.{ChunkTurn, chunk_of, ChunkStepIs}
use Rattle.line.specs.declared.LineReader.{LineReader}
use Rattle.line.specs.declared.State.{State}
use Rattle.line.specs.declared.LentStep.{LentStep}
use Rattle.line.specs.declared.ChunkStep.{ChunkStep}
use Rattle.line.proofs.FeedBounds.{chunk_within, finish_within, chunk_len, chunk_start}
use Rattle.exports.specs.Packed.{Tells}
use Rattle.exports.specs.LineState.{mode_of, packed_state, packed_counts, start_of, state_in, reader_in}
use Rattle.exports.specs.LineAnswers.{line_fields, fed_to, finished, FedAs, FinishedAs}
use Rattle.exports.proofs.LineStateLaws.{state_tells}

module _ (o : Origin) (bytes input left : List ℕ) (before : State) (s : ChunkStep)
    (is : ChunkStepIs left s (chunk_of (lent_reader bytes before) input)) where
  -- the length that is left has room in the state's number
  pub fed_len_fits : (n counts : ℕ) → n < 2 ^ 64 → before ≡ state_in o n counts → s.state.held.len < 2 ^ 62
  fed_len_fits n counts h e =
      let l : before.held.len ≡ n / 4 = ap (λ (x : State). x.held.len) e in
      subst (λ (u : LineReader). u.state.held.len < 2 ^ 62) (sym is.next_is)
      (chunk_len (lent_reader bytes before) input (2 ^ 62) (omega arith) (omega (arith, h, l)))

  -- the contents that are told have room in the answer
  pub fed_within : ContentsFit 118 (told_means s.told)
  fed_within = subst (ContentsFit 118) (sym is.told_is) (chunk_within (lent_reader bytes before) input)

  pub fed_as : (answer n₀ counts₀ n counts : ℕ) → before ≡ state_in o n₀ counts₀ → n ≡ packed_state s.state
      → counts ≡ packed_counts s.state
      → Tells answer (line_fields (told_means s.told))
      → FedAs answer left n counts s.taken s.position (fed_to o bytes n₀ counts₀ input)
  fed_as answer n₀ counts₀ n counts e es ec t =
      subst (λ (x : State). FedAs answer left n counts s.taken s.position (chunk_of (lent_reader bytes x) input)) e
      (record {
        answered = subst (λ (h : Summary). Tells answer (line_fields h)) is.told_is t;
        position_is = is.position_is;
        bytes_left = ap (λ (u : LineReader). u.bytes) is.next_is;
        state_left = es ∙ ap (λ (u : LineReader). packed_state u.state) is.next_is;
        counts_left = ec ∙ ap (λ (u : LineReader). packed_counts u.state) is.next_is;
        count = is.taken_is;
      })

module _ (before : State) (s : LentStep)
    (is : (bytes : List ℕ) → LentStepIs bytes s (finish_of (lent_reader bytes before))) where
  pub finish_len : s.state.held.len ≡ 0
  finish_len = ap (λ (u : LineReader). u.state.held.len) (is []).next_is

  pub finish_fits : ContentsFit 118 (told_means s.told)
  finish_fits = subst (ContentsFit 118) (sym (is []).told_is) (finish_within (lent_reader [] before))

  -- a finish is answered alike at both origins, so the one that the code takes does not matter
  pub finished_as : (p : Origin) (answer n₀ counts₀ n counts : ℕ) → before ≡ state_in p n₀ counts₀
      → n ≡ packed_state s.state → counts ≡ packed_counts s.state
      → Tells answer (line_fields (told_means s.told))
      → (o : Origin) (bytes : List ℕ) → FinishedAs answer n counts s.position (finished o bytes n₀ counts₀)
  finished_as p answer n₀ counts₀ n counts e es ec t o bytes =
      let k = is bytes in
      let same : (finish_of (lent_reader bytes before)).answer ≡ (finished o bytes n₀ counts₀).answer =
      ap (λ (x : State). (finish_of (lent_reader bytes x)).answer) e
      ∙ ap (locate is_answer (start_of counts₀)) (truncated_alike p o (mode_of (n₀ % 4))) in
      record {
        answered = subst (λ (h : Summary). Tells answer (line_fields h))
            (k.told_is ∙ ap (λ (a : Located Outcome). summary_of (answer_in a)) same) t;
        position_is = k.position_is ∙ ap position_in same;
        state_left = es ∙ ap (λ (u : LineReader). packed_state u.state) k.next_is;
        counts_left = ec ∙ ap (λ (u : LineReader). packed_counts u.state) k.next_is;
      }

-- the start that is left has room in its half of the number
pub fed_start_fits : (o : Origin) (bytes input : List ℕ) (n counts : ℕ)
    → (fed_to o bytes n counts input).next.state.start < 2 ^ 32
fed_start_fits o bytes input n counts =
    omega (arith, chunk_start (reader_in o bytes n counts) input (omega arith))

-- The reader that the next call finds in the array and the two numbers is the one that the bytes left, so a portal's
-- calls are the line reader's.
pub fed_next : (o : Origin) (answer : ℕ) (bytes : List ℕ) (n counts taken position : ℕ) (f : ChunkTurn)
    → origin_of f.next ≡ o → f.next.state.start < 2 ^ 32
    → FedAs answer bytes n counts taken position f → reader_in o bytes n counts ≡ f.next
fed_next o answer bytes n counts taken position f e h k =
    ap (λ (p : Origin). reader_in p bytes n counts) (sym e)
    ∙ ap₂ (reader_in (origin_of f.next) bytes) k.state_left k.counts_left
    ∙ state_tells bytes f.next.state h
    ∙ ap (λ (b : List ℕ). lent_reader b f.next.state) k.bytes_left

pub finished_next : (o : Origin) (answer : ℕ) (bytes : List ℕ) (n₀ counts₀ n counts position : ℕ)
    → FinishedAs answer n counts position (finished o bytes n₀ counts₀)
    → reader_in o bytes n counts ≡ (finished o bytes n₀ counts₀).next
finished_next o answer bytes n₀ counts₀ n counts position k =
    ap₂ (reader_in o bytes) k.state_left k.counts_left
    ∙ state_tells bytes (finished o bytes n₀ counts₀).next.state (omega arith)
