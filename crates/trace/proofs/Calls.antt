-- The listing of the functions themselves: any run of calls, known by nothing but what the contracts tell a caller,
-- writes the text of the trace.
use Rattle.std.proofs.Common.{Result, ◌≡◌, ℕ, ◌<◌, ◌≤◌, List, [], ◌++◌, length, take, drop, sym, refl, ◌∙◌, subst, arith, Bor, MutBor}
use contract.Lifetimes.{Lfts}
use Rattle.lists.specs.Choice.{Exactly}
use Rattle.lists.proofs.Cases.{exactly}
use Rattle.answer.specs.Answer.{result, refused}
use Rattle.answer.specs.Draft.{written_means}
use Rattle.answer.specs.declared.Refusal.{Refusal}
use Rattle.answer.proofs.Drafts.{writes_no_room}
use Rattle.line.specs.Rowing.{most_bytes}
use Rattle.text.specs.Text.{text}
use Rattle.text.specs.Writing.{line_room}
use Rattle.trace.specs.Machine.{last_room, last_text}
use Rattle.trace.specs.Cutting.{Calls, ended, call}
use Rattle.trace.specs.declared.Listing.{Listing}
use Rattle.trace.specs.declared.Listed.{Listed}
use Rattle.trace.proofs.AnswerLaws.{room_answers, no_room_exactly}
use Rattle.trace.proofs.Cuttings.{writes_text, takes_some}
use Rattle.trace.proofs.new.Reads as new-reads
use Rattle.trace.proofs.list.Reads as list-reads
use Rattle.trace.proofs.finish.Reads as finish-reads

-- Calls of `list` in a row, each on the state that the last one left, lent a chunk at the front of the bytes that are
-- left and any output.
pub data ListCalls : Listing → (bytes written : List ℕ) → Listing → Type 0 where
  ended_lent : {s : Listing} → ListCalls s [] [] s
  listed : {s s' : Listing} {written : List ℕ} (κs : Lfts 2) (chunk chunk' : Bor (List ℕ)) (out out' : MutBor (List ℕ)) (rest : List ℕ)
      (r : Listed)
      → list-reads.Learnt κs (s, (chunk, (out, tt))) r (s, (chunk', (out', tt)))
      → ListCalls r.next (drop r.taken chunk.now ++ rest) written s'
      → ListCalls s (chunk.now ++ rest) (take r.wrote out'.now ++ written) s'

ran : {s s' : Listing} {bytes written : List ℕ} → ListCalls s bytes written s' → Calls s bytes written s'
ran ended_lent = ended
ran (listed κs chunk chunk' out out' rest r l t) = call chunk.now rest out.now out'.now r l (ran t)

-- `new`, calls of `list` over the whole trace, and a `finish` that answered a length.
pub calls_write_text : (trace : List ℕ) → length trace ≤ most_bytes → (s : Listing) → new-reads.Learnt tt tt s tt
    → (s' : Listing) (before : List ℕ) → ListCalls s trace before s'
    → (κs : Lfts 1) (out out' : MutBor (List ℕ)) (r : Result ℕ Refusal)
    → finish-reads.Learnt κs (s', (out, tt)) r (s', (out', tt))
    → (wrote : ℕ) → written_means r ≡ result wrote → before ++ take wrote out'.now ≡ text trace
calls_write_text trace h s n s' before t κs out out' r e wrote a =
    writes_text trace (before ++ take wrote out'.now) h (record {
      state = s';
      before = before;
      calls = subst (λ (u : Listing). Calls u trace before s') n (ran t);
      out = out.now;
      out' = out'.now;
      wrote = wrote;
      answered = sym e.0 ∙ a;
      left = e.1.0;
      all = refl;
    })

module _ (s : Listing) (κs : Lfts 1) (out out' : MutBor (List ℕ)) (r : Result ℕ Refusal)
    (e : finish-reads.Learnt κs (s, (out, tt)) r (s, (out', tt))) where
  -- A `finish` with room for the line of an answer and for the totals answers a length.
  pub finish_answers : last_room ≤ length out.now → (wrote : ℕ) × (written_means r ≡ result wrote)
  finish_answers room = (
    length (last_text s),
    room_answers (last_text s) (length out.now) (written_means r) (omega (arith, e.1.1)) e.0,
  )

  -- It answers 1 exactly where the output is shorter than its text, and then leaves the output as it is.
  pub finish_refuses : Exactly (written_means r ≡ refused 1) (length out.now < length (last_text s))
      × (length out.now < length (last_text s) → out'.now ≡ out.now)
  finish_refuses = (
    exactly e.0 (no_room_exactly (last_text s) (length out.now)),
    λ h. e.1.0 ∙ sym (writes_no_room (result (last_text s)) (last_text s) out.now refl h).1,
  )

-- A call of `list` with a byte to take and room for the line of any answer takes a byte.
pub call_takes_some : (s : Listing) (κs : Lfts 2) (chunk chunk' : Bor (List ℕ)) (out out' : MutBor (List ℕ)) (r : Listed)
    → 0 < length chunk.now → line_room ≤ length out.now
    → list-reads.Learnt κs (s, (chunk, (out, tt))) r (s, (chunk', (out', tt))) → 0 < r.taken
call_takes_some s κs chunk chunk' out out' r h room l = takes_some s chunk.now out.now out'.now r h room l
