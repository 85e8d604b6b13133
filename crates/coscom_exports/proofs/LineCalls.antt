-- Demand 3 of the exported calls: `csafe_packet_feed` and `csafe_packet_finish`, in any order, known by nothing but what
-- the contracts tell the portal. It has the number that is answered, the array, the number of the state and the count of
-- the bytes taken.
use mathlib.Core.Path.{◌≡◌, refl, sym, ap, ap₂, ◌∙◌, subst}
use mathlib.Core.List.{List, [], ◌∷◌, ◌++◌}
use native.Mathlib.Omega.{arith}
use Prim.Native.Nat.{ℕ}
use lib.ListN.{length, take}
use contract.Lifetimes.{Lfts}
use denote.MutBor.{MutBor}
use denote.Ref.{Bor}
use Rattle.lists.specs.Choice.{Every, Exactly}
use Rattle.lists.specs.Machine.{left_after, RanBy, Through, AnsweredBy}
use Rattle.lists.proofs.Machines.{left_append}
use Rattle.framing.specs.Reference.{Call, byte, finish, reference}
use Rattle.framing.specs.Demand3.{feed, Demand3}
use Rattle.framing.specs.Table.{PlainLaws}
use Rattle.framing.specs.Chunk.{cut_chunk}
use Rattle.framing.proofs.Chunk.{singly_agree, rows_singly, stream_rows}
use Rattle.framing.proofs.Restart.{demand3_of}
use Rattle.framing.proofs.Table.{plain_laws}
use Rattle.answer.specs.Answer.{result}
use Rattle.coscom.specs.Flags.{stop_flag}
use Rattle.coscom.specs.Packet.{Packet}
use Rattle.coscom.specs.Verdict.{Verdict}
use Rattle.coscom.specs.Conditions.{Terminated, Judged}
use Rattle.coscom.proofs.RoundTrip.{written_wire}
use Rattle.coscom_line.specs.Outcome.{Outcome, judged, outcome_of, capacity, Not1}
use Rattle.coscom_line.specs.Reader.{coscom, turn_of, next_after, AsNew}
use Rattle.coscom_line.specs.Chunk.{TakenToAnswer, told_bytes, TakesFirst, AsSingly, told_alone}
use Rattle.coscom_line.proofs.ValueLaws.{call_whole, fed_whole}
use Rattle.coscom_line.proofs.ChunkLaws.{takes_to_answer, takes_first}
use Rattle.coscom_line.proofs.Follows.{as_new_follows}
use Rattle.coscom_line.proofs.WrittenTold.{reference_told_packet, demanded_judged}
use Rattle.coscom_line.proofs.Consequences.{run_never_1, left_new, left_closed}
use Rattle.framing.specs.declared.Held.{Held}
use Rattle.coscom_line.specs.declared.LineReader.{LineReader}
use Rattle.coscom_exports.specs.LineState.{LentLine, lent_line, new_line, reader_in, reader_of}
use Rattle.coscom_exports.specs.LineAnswers.{fed_to, FedAs}
use Rattle.coscom_exports.specs.Told.{told_outcome}
use Rattle.coscom_exports.proofs.ToldLaws.{fed_told, finish_told}
use Rattle.coscom_exports.proofs.LineStateLaws.{new_zero}
use Rattle.coscom_exports.proofs.LineAnswerLaws.{fed_next, finished_next}
use Rattle.coscom_exports.proofs.PacketCalls.{ExportedWrite, exported_writes}
use Rattle.coscom_exports.proofs.csafe_packet_feed.Reads as feed-reads
use Rattle.coscom_exports.proofs.csafe_packet_finish.Reads as finish-reads

-- ---- one call

-- A call of the portal that feeds, the bytes that it was given, how many of them it took, the outcome as the portal has
-- it, and the array and the state that it left.
pub data ExportedFed : LentLine → (given : List ℕ) → (taken : ℕ) → Outcome → LentLine → Type 0 where
  fed : (κs : Lfts 4) (bytes bytes' : MutBor (List ℕ)) (state state' : MutBor ℕ) (input : Bor (List ℕ))
      (taken taken' : MutBor ℕ) (n : ℕ)
      → feed-reads.Learnt κs (bytes, (state, (input, (taken, tt)))) n (bytes', (state', (input, (taken', tt))))
      → ExportedFed (lent_line bytes.now state.now) input.now taken'.now (told_outcome n bytes'.now)
      (lent_line bytes'.now state'.now)

-- A call that ends the input, its outcome, and the array and the state that it left.
pub data ExportedEnd : LentLine → Outcome → LentLine → Type 0 where
  ended : (κs : Lfts 1) {bytes : List ℕ} (state state' : MutBor ℕ) (n : ℕ)
      → finish-reads.Learnt κs (state, tt) n (state', tt)
      → ExportedEnd (lent_line bytes state.now) (told_outcome n bytes) (lent_line bytes state'.now)

-- Any call of the portal, the bytes and finishes that it was given, how many of them it took, the outcomes of these, and
-- the array and the state that it left.
pub data ExportedLine : LentLine → List Call → ℕ → List Outcome → LentLine → Type 0 where
  feeds : {l l' : LentLine} {given : List ℕ} {taken : ℕ} {o : Outcome} → ExportedFed l given taken o l'
      → ExportedLine l (feed given) taken (told_bytes taken o) l'
  ends : {l l' : LentLine} {o : Outcome} → ExportedEnd l o l' → ExportedLine l (finish ∷ []) 1 (o ∷ []) l'

-- what the contract of a call that feeds tells
module _ (n : ℕ) (bytes bytes' input : List ℕ) (state state' taken : ℕ)
    (k : FedAs n bytes' state' taken (fed_to bytes state input)) where
  -- the number and the array tell the outcome
  fed_outcome : told_outcome n bytes' ≡ (fed_to bytes state input).answer
  fed_outcome =
      ap₂ outcome_of (fed_told n (reader_in bytes state) input k.answered) k.bytes_left
      ∙ fed_whole (reader_in bytes state) (cut_chunk input)

-- With no answer a call takes its whole chunk, 65,536 bytes at the most; with one at least a byte.
pub fed_to_answer : {l l' : LentLine} {given : List ℕ} {taken : ℕ} {o : Outcome} → ExportedFed l given taken o l'
    → TakenToAnswer (cut_chunk given) taken o
fed_to_answer (fed κs bytes bytes' state state' input taken taken' n k) =
    takes_to_answer (reader_in bytes.now state.now) input.now taken'.now _ k.count
    (fed_outcome n bytes.now bytes'.now input.now state.now state'.now taken'.now k)

-- The calls that it took, and a finish, are answered, and leave the reader, as they do singly.
pub exported_takes : (l l' : LentLine) (given : List Call) (taken : ℕ) (outcomes : List Outcome)
    → ExportedLine l given taken outcomes l' → TakesFirst (reader_of l) given taken outcomes (reader_of l')
exported_takes l l' given m outcomes (feeds (fed κs bytes bytes' state state' input taken taken' n k)) =
    takes_first (reader_in bytes.now state.now) input.now taken'.now _ k.count
    (fed_outcome n bytes.now bytes'.now input.now state.now state'.now taken'.now k)
    (reader_in bytes'.now state'.now)
    (fed_next n bytes'.now state'.now taken'.now (fed_to bytes.now state.now input.now) k)
exported_takes l l' given m outcomes (ends (ended κs {bytes = bytes} state state' n k)) =
    let r = reader_in bytes state.now in
    let e = k bytes in (
      omega arith,
      ap (λ (o : Outcome). o ∷ [])
          (ap (λ h. outcome_of h bytes) (finish_told n r e.answered) ∙ call_whole r finish),
      finished_next n bytes state.now state'.now e,
    )

-- ---- calls in a row

-- Any calls in a row, from any array and any number of a state: each byte taken and each finish has the outcome that it
-- has singly, and the array and the number left are the reader of the single calls.
pub exported_singly : {l last : LentLine} {calls : List Call} {outcomes : List Outcome}
    → RanBy ExportedLine l calls outcomes last → AsSingly (reader_of l) calls outcomes (reader_of last)
exported_singly t = rows_singly turn_of ExportedLine reader_of exported_takes t

-- However a stream, with its finishes, is cut into chunks, each starting right after the last byte taken.
pub exported_stream : {l last : LentLine} {stream : List Call} {outcomes : List Outcome}
    → Through ExportedLine l stream outcomes last → AsSingly (reader_of l) stream outcomes (reader_of last)
exported_stream t = stream_rows turn_of ExportedLine reader_of exported_takes t

-- Two ways of cutting one stream give the same outcomes, and leave the same reader. The numbers may differ where the
-- number before has 3 in its lowest two bits, which no call leaves and a row of no calls keeps.
pub exported_stream_alike : {l last last' : LentLine} {stream : List Call} {outcomes outcomes' : List Outcome}
    → Through ExportedLine l stream outcomes last → Through ExportedLine l stream outcomes' last'
    → (outcomes ≡ outcomes') × (reader_of last ≡ reader_of last')
exported_stream_alike {l} {last} {last'} {stream} {outcomes} {outcomes'} t u =
    singly_agree turn_of (reader_of l) stream outcomes outcomes' (reader_of last) (reader_of last') (exported_stream t)
    (exported_stream u)

-- Demand 3, whole, from any array of 254 bytes and a number that is outside of a candidate.
pub exported_demand_3 : Demand3 coscom (AnsweredBy ExportedLine (λ l. AsNew (reader_of l)))
exported_demand_3 =
    demand3_of coscom (AnsweredBy ExportedLine (λ l. AsNew (reader_of l)))
    (λ calls outcomes k.
    (exported_singly k.ran).answers_are ∙ (as_new_follows (reader_of k.start) k.made).same calls)

-- 254 zeros and the number 0 are such a reader.
pub new_line_lem : AsNew (reader_of new_line)
new_line_lem = record { array = refl; outside_is = refl }

-- ---- consequences

-- What an exported call wrote, fed in whichever calls to a reader that is as new, is told as that packet and nothing
-- else.
pub exported_written_told : {p : Packet} {out last : List ℕ} {n : ℕ} {outcomes : List Outcome}
    → ExportedWrite p out (result n) last
    → AnsweredBy ExportedLine (λ l. AsNew (reader_of l)) (feed (take n last)) outcomes → outcomes ≡ told_alone p
exported_written_told {p} {out} {last} {n} {outcomes} k t =
    let w = written_wire p out last n (exported_writes k) in
    exported_demand_3.same (feed (take n last)) outcomes t
    ∙ ap (λ (s : List ℕ). reference coscom (feed s)) w.0 ∙ reference_told_packet p w.2 w.1

-- No call of a row, from whichever array and number, is answered 1.
pub exported_never_1 : {l last : LentLine} {calls : List Call} {outcomes : List Outcome}
    → RanBy ExportedLine l calls outcomes last → Every Not1 outcomes
exported_never_1 {l} {last} {calls} k =
    subst (Every Not1) (sym (exported_singly k).answers_are) (run_never_1 (reader_of l) calls)

-- Whatever calls came before, the last byte of a whole candidate is answered exactly as the table says of the slice that
-- it is.
pub exported_candidate_judged : (calls : List Call) (w : List ℕ) (earlier : List Outcome) (last : Outcome)
    → Terminated w → AnsweredBy ExportedLine (λ l. AsNew (reader_of l)) (calls ++ feed w) (earlier ++ last ∷ [])
    → (v : Verdict) → Exactly (last ≡ judged v) (Judged w v)
exported_candidate_judged = demanded_judged (AnsweredBy ExportedLine (λ l. AsNew (reader_of l))) exported_demand_3

-- What is told and to which call, and what a finish and the stop flag leave, by the table on the calls alone.
pub exported_laws : PlainLaws coscom (AnsweredBy ExportedLine (λ l. AsNew (reader_of l)))
exported_laws = plain_laws coscom (AnsweredBy ExportedLine (λ l. AsNew (reader_of l))) exported_demand_3

-- The array and the number that any calls leave, the last a finish or the stop flag, are as new. After a finish the
-- number is 0.
module _ (l last : LentLine) (calls : List Call) (outcomes : List Outcome) (h : length l.bytes ≡ capacity) where
  pub exported_left_new : RanBy ExportedLine l (calls ++ finish ∷ []) outcomes last
      → AsNew (reader_of last) × (last.state ≡ 0)
  exported_left_new k =
      let e : (reader_of last).state ≡ (next_after (left_after next_after (reader_of l) calls) finish).state =
      ap (λ (r : LineReader). r.state)
      ((exported_singly k).state_is ∙ left_append next_after (reader_of l) calls (finish ∷ [])) in (
        left_new (reader_of l) (reader_of last) calls outcomes h (exported_singly k),
        new_zero last.state (ap (λ (s : Held (Unit {0})). s.len) e) (ap (λ (s : Held (Unit {0})). s.mode) e),
      )

  pub exported_left_closed : RanBy ExportedLine l (calls ++ byte stop_flag ∷ []) outcomes last → AsNew (reader_of last)
  exported_left_closed k = left_closed (reader_of l) (reader_of last) calls outcomes h (exported_singly k)

-- The number that a finish leaves is 0.
pub finish_zero : {l l' : LentLine} {o : Outcome} → ExportedEnd l o l' → l'.state ≡ 0
finish_zero (ended κs {bytes = bytes} state state' n k) = (k bytes).state_left
