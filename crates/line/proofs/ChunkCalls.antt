-- Document 02, No. 4, and demand 3 of bytes given in chunks: any calls on a reader, by the byte, by the chunk and
-- finishes, in each form that a caller has, known by nothing but what the contracts tell a caller.
use mathlib.Core.Path.{◌≡◌, refl, sym, ap, ◌∙◌, subst}
use mathlib.Core.List.{List, [], ◌∷◌}
use native.Mathlib.Omega.{arith}
use Prim.Native.Nat.{ℕ, ◌-◌, ◌≤◌}
use lib.ListN.{take}
use seplogic.Ra.Ura.{Ura}
use base.Logic.{SProp, emp}
use prog.Memory.{Memory}
use prog.Routine.{Routine}
use types.Logic.{Logic}
use contract.Lifetimes.{Lfts}
use contract.Monad.{Fun, fact}
use denote.MutBor.{MutBor}
use denote.Ref.{Bor}
use Rattle.lists.specs.Machine.{Ran, RanBy, AnsweredBy}
use Rattle.lists.proofs.Machines.{ran-run}
use Rattle.framing.specs.Reference.{Call}
use Rattle.framing.specs.Demand3.{feed}
use Rattle.framing.specs.Located.{Located, answer_in, position_in}
use Rattle.framing.specs.Counting.{start_in}
use Rattle.framing.specs.LocatedDemand3.{LocatedDemand3}
use Rattle.framing.proofs.Located.{located_demand3_of}
use Rattle.framing.specs.Chunk.{cut_chunk}
use Rattle.frame.specs.Flags.{role_of}
use Rattle.frame.specs.declared.Origin.{Origin}
use Rattle.candidate.specs.Outcome.{Told, Outcome, told_means, summary_of}
use Rattle.candidate.specs.Holder.{holder}
use Rattle.candidate.specs.Feed.{feed_held, unanswered}
use Rattle.candidate.proofs.ValueLaws.{fed_whole}
use Rattle.line.specs.Rowing.{most_bytes, located_rowing}
use Rattle.line.specs.Answers.{located_outcome, ValueAnswer, value_outcome}
use Rattle.framing.proofs.Chunk.{rows_singly}
use Rattle.line.specs.Reader.{lent_reader, new_reader, turn_of, outcome_at, next_after, AsNew}
use Rattle.line.specs.Feed.{ChunkTurn, feed_of, chunk_of, ChunkIs, ChunkAnswerIs}
use Rattle.line.specs.Chunks.{stands_for, told_bytes, TakenToAnswer, AsSingly, TakesFirst}
use Rattle.line.specs.declared.LineReader.{LineReader}
use Rattle.line.specs.declared.State.{State}
use Rattle.line.specs.declared.ChunkStep.{ChunkStep}
use Rattle.line.specs.declared.ChunkAnswer.{ChunkAnswer}
use Rattle.line.specs.declared.ChunkFed.{ChunkFed}
use Rattle.line.proofs.ValueLaws.{located_whole, full_whole, value_outcome_lem}
use Rattle.line.proofs.Follows.{as_new_follows}
use Rattle.line.proofs.FeedLaws.{feed_held_lem}
use Rattle.line.proofs.ChunkLaws.{by_first, full_stays, takes_to_answer, takes_first}
use Rattle.line.proofs.Calls.{Called, called_turns, CalledLent, lent_turns}
use Rattle.line.proofs.LineReader.feed.Reads as feed-reads
use Rattle.line.proofs.feed_in.Reads as feed-in-reads
use Rattle.line.proofs.feed_lent.Reads as feed-lent-reads
use Rattle.line.specs.contracts.feed_lent as feed-lent

-- ---- the enum, the position and the array that is left tell the outcome

abbrev WholeFed : ChunkTurn → Type 0
WholeFed f = located_outcome (summary_of (answer_in f.answer)) (position_in f.answer) f.next.bytes ≡ f.answer

pub chunk_whole : (r : LineReader) (given : List ℕ) → WholeFed (chunk_of r given)
chunk_whole r given =
    by_first r given WholeFed (λ e. refl) (λ h k. full_whole r.bytes) (λ h.
    let s = cut_chunk given in
    let part = take (most_bytes - r.state.count) s in
    let f = feed_held (holder r.bytes r.state.held) part in
    subst WholeFed (sym (feed_held_lem r s))
    (located_whole f.answer (start_in role_of r.state.start r.state.count (take (unanswered f) s))
    f.next.bytes (fed_whole (holder r.bytes r.state.held) part)))

pub chunk_outcome : (next : LineReader) (told : Told) (position taken : ℕ) (r : LineReader) (s : List ℕ)
    → ChunkIs next told position taken (chunk_of r s)
    → located_outcome (told_means told) position next.bytes ≡ (chunk_of r s).answer
chunk_outcome next told position taken r s k =
    let a = (chunk_of r s).answer in
    (λ i. located_outcome (k.told_is i) (k.position_is i) next.bytes)
    ∙ ap (λ (u : LineReader). located_outcome (summary_of (answer_in a)) (position_in a) u.bytes) k.next_is
    ∙ chunk_whole r s

-- ---- what the contract of `feed_lent` ensures

-- What its contract ensures is written here once, over the reader alone; that it is the contract's own, antt sees by
-- computing, and any call tells it.
abbrev pub FedLent : LineReader → List ℕ → ChunkAnswer → LineReader → Type 0
FedLent r given a next = ChunkAnswerIs next a (chunk_of r given)

module _ {M : Type 1} {𝓤 : Ura M} (𝓛 : Logic 𝓤) (mem : Memory → SProp 𝓤) (run : Routine → Fun 𝓤) where
  pub feed_lent_ensures : (κs : Lfts 2) (ρ ρ' : MutBor LineReader) (given given' : Bor (List ℕ)) (a : ChunkAnswer)
      → (feed-lent.clauses 𝓛 mem run κs (ρ, (given, tt))).ensures tt a (ρ', (given', tt))
      ≡ fact 𝓤 (FedLent ρ.now given.now a ρ'.now)
  feed_lent_ensures κs ρ ρ' given given' a = refl

  -- It asks nothing of a caller.
  pub feed_lent_asks : (κs : Lfts 2) (ρ : MutBor LineReader) (given : Bor (List ℕ))
      → (feed-lent.clauses 𝓛 mem run κs (ρ, (given, tt))).requires tt ≡ emp 𝓤
  feed_lent_asks κs ρ given = refl

-- What any call tells, known by nothing but its contract.
pub feed_lent_told : (κs : Lfts 2) (ρ ρ' : MutBor LineReader) (given given' : Bor (List ℕ)) (a : ChunkAnswer)
    → feed-lent-reads.Learnt κs (ρ, (given, tt)) a (ρ', (given', tt)) → FedLent ρ.now given.now a ρ'.now
feed_lent_told κs ρ ρ' given given' a e = e

-- A lent reader that is left as it was does not meet it.
pub feed_lent_moves : (o : Origin) (a : ChunkAnswer) → FedLent (new_reader o) (0xF1 ∷ []) a (new_reader o) → ⊥
unfolding feed_of
feed_lent_moves o a k =
    let z : ◌≡◌ {A = ℕ} 0 1 = ap (λ (r : LineReader). r.state.count) k.next_is in omega (arith, z)

-- ---- one call

-- A call on a chunk in any form, the chunk that it was given, how many of its bytes it took, its outcome, and the reader
-- that it left. A caller has the outcome in what is told, its position and the array that is left.
pub data FedOn : LineReader → (given : List ℕ) → (taken : ℕ) → Located Outcome → LineReader → Type 0 where
  by_value : (κs : Lfts 1) (given : Bor (List ℕ)) {r : LineReader} (f : ChunkFed)
      → feed-reads.Learnt κs (r, (given, tt)) f (r, (given, tt))
      → FedOn r given.now f.answer.taken
      (located_outcome (told_means f.answer.told) f.answer.position f.next.bytes) f.next
  on_array : (κs : Lfts 2) (ρ ρ' : MutBor (List ℕ)) (given : Bor (List ℕ)) {state : State} (s : ChunkStep)
      → feed-in-reads.Learnt κs (ρ, (state, (given, tt))) s (ρ', (state, (given, tt)))
      → FedOn (lent_reader ρ.now state) given.now s.taken
      (located_outcome (told_means s.told) s.position ρ'.now) (lent_reader ρ'.now s.state)
  on_lent : {r u : LineReader} {given : List ℕ} (a : ChunkAnswer) → FedLent r given a u
      → FedOn r given a.taken (located_outcome (told_means a.told) a.position u.bytes) u

-- what the contract of each says
fed_is : (r u : LineReader) (given : List ℕ) (taken : ℕ) (a : Located Outcome) → FedOn r given taken a u
    → (taken ≡ (chunk_of r given).taken) × (a ≡ (chunk_of r given).answer) × (u ≡ (chunk_of r given).next)
fed_is r u given taken a (by_value κs ρ f k) = (k.taken_is, chunk_outcome u _ _ taken r given k, k.next_is)
fed_is r u given taken a (on_array κs ρ ρ' σ s k) = (k.taken_is, chunk_outcome u _ _ taken r given k, k.next_is)
fed_is r u given taken a (on_lent b k) = (k.taken_is, chunk_outcome u _ _ taken r given k, k.next_is)

-- With no answer a call takes its whole chunk, 65,536 bytes at the most and no more than can be counted; with one at
-- least a byte, but for 16, which it gives exactly where the reader is full before the chunk's first byte.
pub chunk_to_answer : {r u : LineReader} {given : List ℕ} {taken : ℕ} {a : Located Outcome} → FedOn r given taken a u
    → TakenToAnswer r (cut_chunk given) taken a
chunk_to_answer {r} {u} {given} {taken} {a} k =
    let e = fed_is r u given taken a k in takes_to_answer r given taken a e.0 e.1

-- A full reader that is given a chunk takes no byte of it and stays as it was.
pub full_chunk_kept : {r u : LineReader} {given : List ℕ} {taken : ℕ} {a : Located Outcome} → FedOn r given taken a u
    → most_bytes ≤ r.state.count → (taken ≡ 0) × (u ≡ r)
full_chunk_kept {r} {u} {given} {taken} {a} k h =
    let e = fed_is r u given taken a k in
    let q = full_stays r given h in
    (e.0 ∙ q.0, e.2 ∙ q.1)

-- The bytes that it stands for are answered, and leave the reader, as they do singly: nothing but the last of them is
-- answered, and that one with the call's outcome.
pub chunk_takes : {r u : LineReader} {given : List ℕ} {taken : ℕ} {a : Located Outcome} → FedOn r given taken a u
    → TakesFirst r (feed given) (stands_for taken a) (told_bytes taken a) u
chunk_takes {r} {u} {given} {taken} {a} k =
    let e = fed_is r u given taken a k in takes_first r given taken a e.0 e.1 u e.2

-- Any call on a reader, the bytes and finishes that it was given, how many of them it stands for, the outcomes of these,
-- and the reader that it left. A call on a chunk stands for the bytes that it took, and where it is answered 16 for the
-- byte that is refused.
pub data CalledOn : LineReader → List Call → ℕ → List (Located Outcome) → LineReader → Type 0 where
  single : {r u : LineReader} {c : Call} {a : Located ValueAnswer} → Called r c a u
      → CalledOn r (c ∷ []) 1 (value_outcome a ∷ []) u
  single_in : {r u : LineReader} {c : Call} {a : Located Outcome} → CalledLent r c a u
      → CalledOn r (c ∷ []) 1 (a ∷ []) u
  chunk : {r u : LineReader} {given : List ℕ} {taken : ℕ} {a : Located Outcome} → FedOn r given taken a u
      → CalledOn r (feed given) (stands_for taken a) (told_bytes taken a) u

pub call_takes : (r u : LineReader) (given : List Call) (taken : ℕ) (outcomes : List (Located Outcome))
    → CalledOn r given taken outcomes u → TakesFirst r given taken outcomes u
call_takes r u given taken outcomes (single {c = c} {a = a} k) =
    let t = called_turns r u c a k in (
      omega arith,
      ap (λ (x : Located Outcome). x ∷ []) (ap value_outcome t.0 ∙ value_outcome_lem (outcome_at r c)),
      t.1,
    )
call_takes r u given taken outcomes (single_in {c = c} {a = a} k) =
    let t = lent_turns r u c a k in (omega arith, ap (λ (x : Located Outcome). x ∷ []) t.0, t.1)
call_takes r u given taken outcomes (chunk k) = chunk_takes k

-- ---- calls in a row

-- Any calls in a row, by the byte, by the chunk and finishes, in any form and order: from any reader, full or not, each
-- byte that they stand for and each finish has the outcome that it has singly, and the reader left is that of the single
-- calls, so whatever is called later is answered alike.
pub chunks_singly : {r last : LineReader} {calls : List Call} {outcomes : List (Located Outcome)}
    → RanBy CalledOn r calls outcomes last → AsSingly r calls outcomes last
chunks_singly t = rows_singly turn_of CalledOn (λ r. r) call_takes t

-- The same of two rows of calls on one reader, of which one makes each call singly.
pub chunks_alike : {r last last' : LineReader} {calls : List Call} {outcomes outcomes' : List (Located Outcome)}
    → RanBy CalledOn r calls outcomes last
    → Ran CalledLent r calls outcomes' last' → (outcomes ≡ outcomes') × (last ≡ last')
chunks_alike t u =
    let k = chunks_singly t in
    let s = ran-run CalledLent outcome_at next_after (λ r. r) lent_turns u in
    (k.answers_are ∙ sym s.0, k.state_is ∙ sym s.1)

-- Demand 3 of all of these calls at any origin, whole.
pub chunks_demand_3 : (o : Origin) → LocatedDemand3 (located_rowing o) (AnsweredBy CalledOn (AsNew o))
chunks_demand_3 o =
    located_demand3_of (located_rowing o) (AnsweredBy CalledOn (AsNew o))
    (λ calls outcomes k. (chunks_singly k.ran).answers_are ∙ (as_new_follows o k.start k.made).same calls)
