-- Document 02, No. 4, and demand 3 of bytes given in chunks: any calls on a reader, by the byte, by the chunk and
-- finishes, in each form that a caller has, known by nothing but what the contracts tell a caller.
use mathlib.Core.Path.{◌≡◌, sym, ap, ◌∙◌}
use mathlib.Core.List.{List, [], ◌∷◌}
use native.Mathlib.Omega.{arith}
use Prim.Native.Nat.{ℕ}
use contract.Lifetimes.{Lfts}
use denote.MutBor.{MutBor}
use denote.Ref.{Bor}
use Rattle.lists.specs.Machine.{Ran, RanBy, Through, AnsweredBy}
use Rattle.lists.proofs.Machines.{ran-run}
use Rattle.framing.specs.Reference.{Call}
use Rattle.framing.specs.Demand3.{feed, Demand3}
use Rattle.framing.proofs.Restart.{demand3_of}
use Rattle.coscom_line.specs.Outcome.{Outcome, Told, told_means, summary_of, outcome_of, ValueAnswer, value_outcome}
use Rattle.coscom_line.specs.Reader.{coscom, lent_reader, turn_of, outcome_at, next_after, AsNew}
use Rattle.framing.specs.Chunk.{cut_chunk}
use Rattle.framing.proofs.Chunk.{singly_agree, rows_singly, stream_rows}
use Rattle.coscom_line.specs.Chunk.{chunk_of, ChunkIs, TakenToAnswer, told_bytes}
use Rattle.coscom_line.specs.Chunk.{TakesFirst, AsSingly}
use Rattle.framing.specs.declared.Held.{Held}
use Rattle.coscom_line.specs.declared.LineReader.{LineReader}
use Rattle.coscom_line.specs.declared.ChunkStep.{ChunkStep}
use Rattle.coscom_line.specs.declared.ChunkFed.{ChunkFed}
use Rattle.coscom_line.proofs.ValueLaws.{fed_whole, value_outcome_lem}
use Rattle.coscom_line.proofs.Follows.{as_new_follows}
use Rattle.coscom_line.proofs.ChunkLaws.{takes_to_answer, takes_first}
use Rattle.coscom_line.proofs.Calls.{Called, called_turns, CalledLent, lent_turns}
use Rattle.coscom_line.proofs.LineReader.feed.Reads as feed-reads
use Rattle.coscom_line.proofs.feed_in.Reads as feed-in-reads

-- what is told and the array that is left make the outcome
chunk_outcome : (next : LineReader) (told : Told) (taken : ℕ) (r : LineReader) (s : List ℕ)
    → ChunkIs next told taken (chunk_of r s) → outcome_of (told_means told) next.bytes ≡ (chunk_of r s).answer
chunk_outcome next told taken r s k =
    (λ i. outcome_of (k.told_is i) next.bytes)
    ∙ ap (λ (u : LineReader). outcome_of (summary_of (chunk_of r s).answer) u.bytes) k.next_is
    ∙ fed_whole r (cut_chunk s)

-- ---- one call

-- A call on a chunk in any form, the chunk that it was given, how many of its bytes it took, its outcome, and the
-- reader that it left. A caller has the outcome in what is told and the array that is left.
pub data FedOn : LineReader → (given : List ℕ) → (taken : ℕ) → Outcome → LineReader → Type 0 where
  by_value : (κs : Lfts 1) (given : Bor (List ℕ)) {r : LineReader} (f : ChunkFed)
      → feed-reads.Learnt κs (r, (given, tt)) f (r, (given, tt))
      → FedOn r given.now f.answer.taken (outcome_of (told_means f.answer.told) f.next.bytes) f.next
  on_array : (κs : Lfts 2) (ρ ρ' : MutBor (List ℕ)) (given : Bor (List ℕ)) {state : Held (Unit {0})} (s : ChunkStep)
      → feed-in-reads.Learnt κs (ρ, (state, (given, tt))) s (ρ', (state, (given, tt)))
      → FedOn (lent_reader ρ.now state) given.now s.taken (outcome_of (told_means s.told) ρ'.now)
      (lent_reader ρ'.now s.state)

-- what the contract of each says
fed_is : (r u : LineReader) (given : List ℕ) (taken : ℕ) (o : Outcome) → FedOn r given taken o u
    → (taken ≡ (chunk_of r given).taken) × (o ≡ (chunk_of r given).answer) × (u ≡ (chunk_of r given).next)
fed_is r u given taken o (by_value κs ρ f k) = (k.taken_is, chunk_outcome u _ taken r given k, k.next_is)
fed_is r u given taken o (on_array κs ρ ρ' σ s k) = (k.taken_is, chunk_outcome u _ taken r given k, k.next_is)

-- With no answer a call takes its whole chunk, 65,536 bytes at the most; with one at least a byte.
pub chunk_to_answer : {r u : LineReader} {given : List ℕ} {taken : ℕ} {o : Outcome} → FedOn r given taken o u
    → TakenToAnswer (cut_chunk given) taken o
chunk_to_answer {r} {u} {given} {taken} {o} k =
    let e = fed_is r u given taken o k in takes_to_answer r given taken o e.0 e.1

-- The bytes that it took are answered, and leave the reader, as they do singly: nothing but the last of them is
-- answered, and that one with the call's outcome. Where it took none it told nothing.
pub chunk_takes : {r u : LineReader} {given : List ℕ} {taken : ℕ} {o : Outcome} → FedOn r given taken o u
    → TakesFirst r (feed given) taken (told_bytes taken o) u
chunk_takes {r} {u} {given} {taken} {o} k =
    let e = fed_is r u given taken o k in takes_first r given taken o e.0 e.1 u e.2

-- Any call on a reader, the bytes and finishes that it was given, how many of them it took, the outcomes of these, and
-- the reader that it left.
pub data CalledOn : LineReader → List Call → ℕ → List Outcome → LineReader → Type 0 where
  single : {r u : LineReader} {c : Call} {a : ValueAnswer} → Called r c a u
      → CalledOn r (c ∷ []) 1 (value_outcome a ∷ []) u
  single_in : {r u : LineReader} {c : Call} {o : Outcome} → CalledLent r c o u → CalledOn r (c ∷ []) 1 (o ∷ []) u
  chunk : {r u : LineReader} {given : List ℕ} {taken : ℕ} {o : Outcome} → FedOn r given taken o u
      → CalledOn r (feed given) taken (told_bytes taken o) u

call_takes : (r u : LineReader) (given : List Call) (taken : ℕ) (outcomes : List Outcome)
    → CalledOn r given taken outcomes u → TakesFirst r given taken outcomes u
call_takes r u given taken outcomes (single {c = c} {a = a} k) =
    let t = called_turns r u c a k in (
      omega arith,
      ap (λ (x : Outcome). x ∷ []) (ap value_outcome t.0 ∙ value_outcome_lem (outcome_at r c)),
      t.1,
    )
call_takes r u given taken outcomes (single_in {c = c} {o = o} k) =
    let t = lent_turns r u c o k in (omega arith, ap (λ (x : Outcome). x ∷ []) t.0, t.1)
call_takes r u given taken outcomes (chunk k) = chunk_takes k

-- ---- calls in a row

-- Any calls in a row, by the byte, by the chunk and finishes, in any form and order: from any reader each byte that
-- they took and each finish has the outcome that it has singly, and the reader left is that of the single calls, so
-- whatever is called later is answered alike.
pub chunks_singly : {r last : LineReader} {calls : List Call} {outcomes : List Outcome}
    → RanBy CalledOn r calls outcomes last → AsSingly r calls outcomes last
chunks_singly t = rows_singly turn_of CalledOn (λ r. r) call_takes t

-- The same of two rows of calls on one reader, of which one makes each call singly.
pub chunks_alike : {r last last' : LineReader} {calls : List Call} {outcomes outcomes' : List Outcome}
    → RanBy CalledOn r calls outcomes last
    → Ran CalledLent r calls outcomes' last' → (outcomes ≡ outcomes') × (last ≡ last')
chunks_alike t u =
    let k = chunks_singly t in
    let s = ran-run CalledLent outcome_at next_after (λ r. r) lent_turns u in
    (k.answers_are ∙ sym s.0, k.state_is ∙ sym s.1)

-- Demand 3 of all of these calls, whole.
pub chunks_demand_3 : Demand3 coscom (AnsweredBy CalledOn AsNew)
chunks_demand_3 =
    demand3_of coscom (AnsweredBy CalledOn AsNew)
    (λ calls outcomes k. (chunks_singly k.ran).answers_are ∙ (as_new_follows k.start k.made).same calls)

-- ---- a stream

-- However a stream, with its finishes, is cut into chunks, each starting right after the last byte taken, it has the
-- outcomes of its bytes and finishes singly, and leaves their reader.
pub stream_singly : {r last : LineReader} {stream : List Call} {outcomes : List Outcome}
    → Through CalledOn r stream outcomes last → AsSingly r stream outcomes last
stream_singly t = stream_rows turn_of CalledOn (λ r. r) call_takes t

-- Document 02, No. 4: two rows of calls through the same stream, each with cuts and forms of its own, have the same
-- outcomes and leave the same reader.
pub stream_alike : {r last last' : LineReader} {stream : List Call} {outcomes outcomes' : List Outcome}
    → Through CalledOn r stream outcomes last → Through CalledOn r stream outcomes' last'
    → (outcomes ≡ outcomes') × (last ≡ last')
stream_alike {r} {last} {last'} {stream} {outcomes} {outcomes'} t u =
    singly_agree turn_of r stream outcomes outcomes' last last' (stream_singly t) (stream_singly u)
