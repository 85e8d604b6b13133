-- Document 02, No. 4, within the bound of No. 7: a stream given in chunks, each starting right after the last byte taken,
-- is answered as its bytes and finishes are singly.
use mathlib.Core.Path.{◌≡◌, refl, sym, subst}
use mathlib.Core.List.{List, [], ◌∷◌, ◌++◌}
use native.Mathlib.Omega.{arith}
use Prim.Native.Nat.{ℕ, zero, suc, ◌+◌, ◌≤◌, ◌<◌}
use lib.ListN.{length, take, drop}
use Rattle.lists.specs.Machine.{left_after, Through}
use Rattle.lists.proofs.Machines.{cut_append, through_known}
use Rattle.framing.specs.Reference.{Call, byte, finish}
use Rattle.framing.specs.Demand3.{feed}
use Rattle.framing.specs.Located.{Located, unlocated, located}
use Rattle.framing.specs.LocatedDemand3.{Within}
use Rattle.framing.proofs.Located.{within_now}
use Rattle.framing.specs.Chunk.{cut_chunk}
use Rattle.framing.proofs.Chunk.{singly_agree, cut_fits}
use Rattle.candidate.specs.Outcome.{Outcome}
use Rattle.line.specs.Rowing.{most_bytes}
use Rattle.line.specs.Reader.{ReaderTurn, turn_of, next_after}
use Rattle.line.specs.Chunks.{stands_for, told_bytes, TakenToAnswer, TakesFirst, AsSingly}
use Rattle.line.specs.declared.LineReader.{LineReader}
use Rattle.line.proofs.StepLaws.{step_taken}
use Rattle.line.proofs.ChunkCalls.{FedOn, chunk_to_answer, CalledOn, chunk, call_takes, chunks_singly}

-- A reader can count all bytes of calls to come up to each finish.
abbrev pub Counts : LineReader → List Call → Type 0
Counts r calls = Within most_bytes r.state.count calls

-- ---- the count goes on

next_counts : (r : LineReader) (c : Call) (rest : List Call) → Counts r (c ∷ rest) → Counts (next_after r c) rest
next_counts r (byte b) rest w =
    let h : r.state.count + 1 ≤ most_bytes = within_now most_bytes (r.state.count + 1) rest w in
    subst (λ (t : ReaderTurn). Within most_bytes t.next.state.count rest) (sym (step_taken r b (omega arith))) w
next_counts r finish rest w = w.1

pub left_counts : (r : LineReader) (calls rest : List Call) → Counts r (calls ++ rest)
    → Counts (left_after next_after r calls) rest
left_counts r [] rest w = w
left_counts r (c ∷ calls) rest w = left_counts (next_after r c) calls rest (next_counts r c (calls ++ rest) w)

-- what a call leaves that takes the first of several
pub taken_counts : (r u : LineReader) (given later : List Call) (taken : ℕ) (outcomes : List (Located Outcome))
    → TakesFirst r given taken outcomes u → Counts r (given ++ later) → Counts u (drop taken (given ++ later))
taken_counts r u given later taken outcomes k w =
    subst (λ (x : LineReader). Counts x (drop taken (given ++ later))) (sym k.2)
    (left_counts r (take taken given) (drop taken (given ++ later))
    (subst (Counts r) (sym (cut_append taken given later k.0)) w))

-- ---- a chunk whose bytes can be counted stands for what it took

room_first : (r : LineReader) (given : List ℕ) (later : List Call) → Counts r (feed given ++ later) → 1 ≤ length given
    → r.state.count < most_bytes
room_first r [] later w h = absurd (omega arith)
room_first r (b ∷ given) later w h =
    omega (arith, within_now most_bytes (r.state.count + 1) (feed given ++ later) w)

pub stands_counted : (r : LineReader) (given : List ℕ) (later : List Call) (taken : ℕ) (a : Located Outcome)
    → TakenToAnswer r (cut_chunk given) taken a → Counts r (feed given ++ later) → stands_for taken a ≡ taken
stands_counted r given later (suc n) a k w = refl
stands_counted r given later zero (unlocated o) k w = refl
stands_counted r given later zero (located position o) k w =
    let some : 1 ≤ 0 =
    k.some (λ e. let z : ◌≡◌ {A = ℕ} 0 1 = cc in omega arith)
    (λ e. let f = k.refuses.0 e in
    omega (arith, f.0, room_first r given later w (cut_fits given f.1))) in
    absurd (omega arith)

-- ---- a stream

-- Any call on a reader, the bytes and finishes that it was given, how many of them it took, the outcomes that it told,
-- and the reader that it left.
pub data TakenOn : LineReader → List Call → ℕ → List (Located Outcome) → LineReader → Type 0 where
  one : {r u : LineReader} {c : Call} {outcomes : List (Located Outcome)} → CalledOn r (c ∷ []) 1 outcomes u
      → TakenOn r (c ∷ []) 1 outcomes u
  part : {r u : LineReader} {given : List ℕ} {taken : ℕ} {a : Located Outcome} → FedOn r given taken a u
      → TakenOn r (feed given) taken (told_bytes taken a) u

each_counted : (r u : LineReader) (given later : List Call) (taken : ℕ) (outcomes : List (Located Outcome))
    → TakenOn r given taken outcomes u → Counts r (given ++ later)
    → (taken ≤ length given) × CalledOn r given taken outcomes u × Counts u (drop taken (given ++ later))
each_counted r u given later taken outcomes (one k) w =
    let t = call_takes r u given taken outcomes k in
    (t.0, k, taken_counts r u given later taken outcomes t w)
each_counted r u calls later taken outcomes (part {given = given} {a = a} k) w =
    let e = stands_counted r given later taken a (chunk_to_answer k) w in
    let c : CalledOn r (feed given) taken (told_bytes taken a) u =
    subst (λ (n : ℕ). CalledOn r (feed given) n (told_bytes taken a) u) e (chunk k) in
    let t = call_takes r u (feed given) taken (told_bytes taken a) c in
    (t.0, c, taken_counts r u (feed given) later taken (told_bytes taken a) t w)

-- However a stream, with its finishes, is cut into chunks, each starting right after the last byte taken, it has the
-- outcomes of its bytes and finishes singly, with their positions, and leaves their reader. With the bytes before it
-- since new or the last finish the stream is within the limit, up to each finish.
pub stream_singly : {r last : LineReader} {stream : List Call} {outcomes : List (Located Outcome)} → Counts r stream
    → Through TakenOn r stream outcomes last → AsSingly r stream outcomes last
stream_singly w t = chunks_singly (through_known TakenOn CalledOn Counts each_counted t w)

-- Document 02, No. 4: two rows of calls through the same stream, each with cuts and forms of its own, from a reader that
-- can count its bytes up to each finish, have the same outcomes and leave the same reader.
pub stream_alike : {r last last' : LineReader} {stream : List Call} {outcomes outcomes' : List (Located Outcome)}
    → Counts r stream → Through TakenOn r stream outcomes last → Through TakenOn r stream outcomes' last'
    → (outcomes ≡ outcomes') × (last ≡ last')
stream_alike {r} {last} {last'} {stream} {outcomes} {outcomes'} w t u =
    singly_agree turn_of r stream outcomes outcomes' last last' (stream_singly w t) (stream_singly w u)
