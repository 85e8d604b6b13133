-- What holds after every chunk that was fed: a frame's contents fit between two flags, the length held is short, the
-- origin is the one before, and the position of the last start flag has room in 32 bits.
use mathlib.Core.Path.{◌≡◌, refl, sym, subst}
use mathlib.Core.List.{List}
use native.Mathlib.Omega.{arith}
use Prim.Native.Nat.{ℕ, ◌-◌, ◌≤◌, ◌<◌}
use lib.ListN.{take}
use Rattle.lists.proofs.Lists.{take_bounds}
use Rattle.framing.specs.Located.{answer_in}
use Rattle.framing.proofs.Counting.{start_within}
use Rattle.framing.specs.Chunk.{cut_chunk}
use Rattle.frame.specs.Flags.{role_of}
use Rattle.frame.specs.Answers.{judge_answer}
use Rattle.candidate.specs.Outcome.{Outcome, nothing, summary_of, ContentsFit}
use Rattle.candidate.specs.Holder.{Holder, holder, finish_held}
use Rattle.candidate.specs.Feed.{FedHeld, feed_held}
use Rattle.candidate.proofs.OutcomeLaws.{fed_extent}
use Rattle.candidate.proofs.FeedBounds.{feed-within, feed_len, feed_origin}
use Rattle.candidate.proofs.FeedBounds.{finish_within as held-finish-within}
use Rattle.line.specs.Rowing.{most_bytes, full}
use Rattle.line.specs.Reader.{origin_of, finish_of}
use Rattle.line.specs.Feed.{ChunkTurn, chunk_of}
use Rattle.line.specs.declared.LineReader.{LineReader}
use Rattle.line.proofs.StepLaws.{answer_located}
use Rattle.line.proofs.FeedLaws.{feed_held_lem}
use Rattle.line.proofs.ChunkLaws.{by_first}

module _ (r : LineReader) (s : List ℕ) where
  -- the bytes that can be counted
  abbrev part : List ℕ
  part = take (most_bytes - r.state.count) (cut_chunk s)

  abbrev fed : FedHeld
  fed = feed_held (holder r.bytes r.state.held) part

  -- What is answered is nothing, 16, or the answer of what holds the candidate.
  pub chunk_answer : (P : Outcome → Type 0) → P nothing → P full
      → ((h : Holder) (bytes : List ℕ) → P (feed_held h bytes).answer) → P (answer_in (chunk_of r s).answer)
  chunk_answer P none refused held =
      by_first r s (λ f. P (answer_in f.answer)) (λ e. none) (λ h k. refused)
      (λ room. subst (λ (f : ChunkTurn). P (answer_in f.answer)) (sym (feed_held_lem r (cut_chunk s)))
      (subst P (sym (answer_located fed.answer _)) (held (holder r.bytes r.state.held) part)))

  -- The contents of a frame that is told are at most 118 bytes.
  pub chunk_within : ContentsFit 118 (summary_of (answer_in (chunk_of r s).answer))
  unfolding judge_answer
  chunk_within = chunk_answer (λ o. ContentsFit 118 (summary_of o)) tt tt feed-within

  -- A length below a limit above 118 stays below it.
  pub chunk_len : (limit : ℕ) → 118 < limit → r.state.held.len < limit
      → (chunk_of r s).next.state.held.len < limit
  chunk_len limit roomy h =
      by_first r s (λ f. f.next.state.held.len < limit) (λ e. h) (λ l k. h)
      (λ room. subst (λ (f : ChunkTurn). f.next.state.held.len < limit) (sym (feed_held_lem r (cut_chunk s)))
      (feed_len limit roomy (holder r.bytes r.state.held) part h))

  -- The reader that is left is of the origin that it had.
  pub chunk_origin : origin_of (chunk_of r s).next ≡ origin_of r
  chunk_origin =
      by_first r s (λ f. origin_of f.next ≡ origin_of r) (λ e. refl) (λ h k. refl)
      (λ room. subst (λ (f : ChunkTurn). origin_of f.next ≡ origin_of r) (sym (feed_held_lem r (cut_chunk s)))
      (feed_origin (holder r.bytes r.state.held) part))

  -- The position of the last start flag stays within what the reader can count.
  pub chunk_start : r.state.start ≤ most_bytes → (chunk_of r s).next.state.start ≤ most_bytes
  chunk_start h =
      by_first r s (λ f. f.next.state.start ≤ most_bytes) (λ e. h) (λ l k. h)
      (λ room. subst (λ (f : ChunkTurn). f.next.state.start ≤ most_bytes) (sym (feed_held_lem r (cut_chunk s)))
      (start_within role_of most_bytes r.state.start r.state.count (take fed.taken (cut_chunk s)) h
      (omega (
        arith,
        room,
        (take_bounds fed.taken (cut_chunk s)).0,
        (fed_extent (holder r.bytes r.state.held) part).within,
        (take_bounds (most_bytes - r.state.count) (cut_chunk s)).0,
      ))))

-- A finish tells of no contents.
pub finish_within : (r : LineReader) → ContentsFit 118 (summary_of (answer_in (finish_of r).answer))
finish_within r =
    let h = holder r.bytes r.state.held in
    subst (λ (o : Outcome). ContentsFit 118 (summary_of o)) (sym (answer_located (finish_held h).answer r.state.start))
    (held-finish-within h)
