-- A number tells a caller exactly what a line reader told.
use Prim.Native.Nat.{ℕ}
use mathlib.Core.Path.{◌≡◌, refl, sym, ap, ◌∙◌, subst}
use mathlib.Core.List.{List}
use native.Mathlib.Omega.{arith}
use lib.Dec.{eqb}
use Rattle.lists.specs.Choice.{pick}
use Rattle.answer.specs.Answer.{result, refused}
use Rattle.framing.specs.Located.{answer_in}
use Rattle.framing.specs.Reference.{Call, byte, finish}
use Rattle.framing.proofs.Chunk.{fed_answer}
use Rattle.frame.specs.Verdict.{verdict}
use Rattle.frame.specs.Origin.{admit}
use Rattle.frame.specs.Answers.{standard_outline, extended_outline, outline_of, judge_answer}
use Rattle.candidate.specs.Outcome.{Outcome, nothing, Summary, silent, tells, summary_of}
use Rattle.candidate.specs.Feed.{is_answer}
use Rattle.candidate.specs.Holder.{Holder, holder, origin_held, finish_held, turn_held}
use Rattle.candidate.proofs.OutcomeLaws.{every_outcome}
use Rattle.line.specs.Reader.{finish_of}
use Rattle.line.specs.Feed.{chunk_of}
use Rattle.line.specs.declared.LineReader.{LineReader}
use Rattle.line.proofs.StepLaws.{answer_located}
use Rattle.line.proofs.FeedBounds.{chunk_answer}
use Rattle.exports.specs.Packed.{Fields, Tells}
use Rattle.exports.specs.LineAnswers.{line_fields}
use Rattle.exports.specs.Told.{told_read, told_line, NumberedLine}
use Rattle.exports.proofs.ToldLaws.{read_told, through_numbered, verdict_numbered}

pub line_told : (n : ℕ) (s : Summary) → NumberedLine s → Tells n (line_fields s) → told_line n ≡ s
unfolding told_line
line_told n silent h t = ap (λ (f : Fields). pick (eqb f.kind 2) silent (tells (told_read n))) t.unpacks
line_told n (tells (result (standard_outline len))) h t =
    ap (λ (f : Fields). pick (eqb f.kind 2) silent (tells (told_read n))) t.unpacks
    ∙ ap tells (read_told n (result (standard_outline len)) h t)
line_told n (tells (result (extended_outline to from len))) h t =
    ap (λ (f : Fields). pick (eqb f.kind 2) silent (tells (told_read n))) t.unpacks
    ∙ ap tells (read_told n (result (extended_outline to from len)) h t)
line_told n (tells (refused m)) h t =
    ap (λ (f : Fields). pick (eqb f.kind 2) silent (tells (told_read n))) t.unpacks
    ∙ ap tells (read_told n (refused m) h t)

-- ---- the refusals of a line reader are numbered

outcome_numbered : (r : Holder) (c : Call) → NumberedLine (summary_of (turn_held r c).answer)
unfolding judge_answer
outcome_numbered r c =
    every_outcome (origin_held r) (λ (a : Outcome). NumberedLine (summary_of a)) tt (λ e. omega arith) (λ e. omega arith)
    (λ w. through_numbered outline_of (admit (origin_held r) (verdict w)) (verdict_numbered (origin_held r) w)) r refl c

pub feed_numbered : (r : LineReader) (s : List ℕ) → NumberedLine (summary_of (answer_in (chunk_of r s).answer))
unfolding judge_answer
feed_numbered r s =
    chunk_answer r s (λ o. NumberedLine (summary_of o)) tt (λ e. omega arith)
    (fed_answer nothing is_answer turn_held (λ o. NumberedLine (summary_of o)) tt (λ h b. outcome_numbered h (byte b)))

pub finish_numbered : (r : LineReader) → NumberedLine (summary_of (answer_in (finish_of r).answer))
finish_numbered r =
    let h = holder r.bytes r.state.held in
    subst (λ (o : Outcome). NumberedLine (summary_of o)) (sym (answer_located (finish_held h).answer r.state.start))
    (outcome_numbered h finish)

-- ---- what the exported functions' answers tell

pub fed_told : (n : ℕ) (r : LineReader) (s : List ℕ)
    → Tells n (line_fields (summary_of (answer_in (chunk_of r s).answer)))
    → told_line n ≡ summary_of (answer_in (chunk_of r s).answer)
fed_told n r s = line_told n (summary_of (answer_in (chunk_of r s).answer)) (feed_numbered r s)

pub finish_told : (n : ℕ) (r : LineReader) → Tells n (line_fields (summary_of (answer_in (finish_of r).answer)))
    → told_line n ≡ summary_of (answer_in (finish_of r).answer)
finish_told n r = line_told n (summary_of (answer_in (finish_of r).answer)) (finish_numbered r)
