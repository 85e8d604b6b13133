-- Demand 3 of the exported calls: `csafe_feed`, or `feed` at an origin, and `csafe_finish`, in any order, known by
-- nothing but what the contracts tell the portal. It has the number that is answered, the position, the array, the two
-- numbers of the state and the count of the bytes taken.
use mathlib.Core.Path.{◌≡◌, refl, sym, ap, ap₂, ◌∙◌, subst}
use mathlib.Core.List.{List, [], ◌∷◌, ◌++◌, map}
use native.Mathlib.Omega.{arith}
use Prim.Native.Nat.{ℕ, ◌+◌, ◌≤◌, ◌<◌}
use lib.ListN.{length, drop}
use contract.Lifetimes.{Lfts}
use denote.MutBor.{MutBor}
use denote.Ref.{Bor}
use Rattle.lists.specs.Choice.{Every, EachPair, Exactly}
use Rattle.lists.specs.Machine.{left_after, RanBy, Through, AnsweredBy}
use Rattle.lists.proofs.Machines.{left_append, through_known}
use Rattle.framing.specs.Reference.{Call, byte, finish}
use Rattle.framing.specs.Demand3.{feed}
use Rattle.framing.specs.Located.{Located, answer_in, position_in, located_by}
use Rattle.framing.specs.LocatedDemand3.{bytes_since_finish, Within, Capped, LocatedDemand3}
use Rattle.framing.specs.LocatedTable.{LocatedLaws}
use Rattle.framing.proofs.Located.{located_demand3_of}
use Rattle.framing.proofs.LocatedTable.{located_laws}
use Rattle.framing.specs.Chunk.{cut_chunk}
use Rattle.framing.proofs.Chunk.{singly_agree, rows_singly}
use Rattle.answer.specs.Answer.{refused}
use Rattle.frame.specs.Flags.{stop_flag}
use Rattle.frame.specs.Frame.{standard}
use Rattle.frame.specs.Conditions.{Terminated, SoundFrame}
use Rattle.frame.specs.declared.Origin.{Origin}
use Rattle.frame.specs.declared.Origin.TheVariants.{Live, Trace}
use Rattle.candidate.specs.Outcome.{Outcome, judged, Summary, summary_of, capacity, Not1, NotStandard, Not17}
use Rattle.line.specs.Rowing.{most_bytes, full, located_rowing, outcome_from, UnnamedAt}
use Rattle.line.specs.Answers.{located_outcome}
use Rattle.line.specs.Reader.{turn_of, next_after, ClosedAt, AsNew}
use Rattle.line.specs.Chunks.{stands_for, told_bytes, TakenToAnswer, TakesFirst, AsSingly}
use Rattle.line.specs.declared.LineReader.{LineReader}
use Rattle.line.proofs.ValueLaws.{call_whole}
use Rattle.line.proofs.FeedBounds.{chunk_origin}
use Rattle.exports.specs.Told.{told_located}
use Rattle.exports.specs.LineState.{packed_state, packed_counts, count_of, reader_in}
use Rattle.exports.specs.LentLine.{LentLine, lent_line, new_line, reader_of}
use Rattle.exports.specs.LineAnswers.{fed_to, FedAs}
use Rattle.exports.proofs.LineStateLaws.{state_packs, counts_pack}
use Rattle.exports.proofs.LineAnswerLaws.{fed_start_fits, fed_next, finished_next}
use Rattle.exports.proofs.LineToldLaws.{fed_told, finish_told}
use Rattle.line.proofs.Follows.{as_new_follows}
use Rattle.line.proofs.ChunkLaws.{full_stays, takes_to_answer, takes_first}
use Rattle.line.proofs.ChunkCalls.{chunk_whole}
use Rattle.line.proofs.StreamCalls.{Counts, stands_counted, taken_counts}
use Rattle.line.proofs.FullCalls.{left_count, singly_16_exactly, left_counting}
use Rattle.line.proofs.Consequences.{run_never_1, left_new, left_closed}
use Rattle.line.proofs.Origins.{live_run, trace_run, each_unnamed, reference_from, judged_last}
use Rattle.exports.proofs.csafe_feed.Reads as feed-reads
use Rattle.exports.proofs.feed.Reads as feed-at-reads
use Rattle.exports.proofs.csafe_finish.Reads as finish-reads

-- ---- one call

-- A call of the portal that feeds at an origin, the bytes that it was given, how many of them it took, the outcome with
-- its position as the portal has it, and the array and the state that it left.
pub data ExportedFed : Origin → LentLine → (given : List ℕ) → (taken : ℕ) → Located Outcome → LentLine → Type 0 where
  fed : (κs : Lfts 6) (bytes bytes' : MutBor (List ℕ)) (state state' counts counts' : MutBor ℕ) (input : Bor (List ℕ))
      (taken taken' position position' : MutBor ℕ) (n : ℕ)
      → feed-reads.Learnt κs (bytes, (state, (counts, (input, (taken, (position, tt)))))) n
      (bytes', (state', (counts', (input, (taken', (position', tt))))))
      → ExportedFed Live (lent_line bytes.now state.now counts.now) input.now taken'.now
      (told_located n position'.now bytes'.now) (lent_line bytes'.now state'.now counts'.now)
  fed_at : {o : Origin} (κs : Lfts 6) (bytes bytes' : MutBor (List ℕ)) (state state' counts counts' : MutBor ℕ)
      (input : Bor (List ℕ)) (taken taken' position position' : MutBor ℕ) (n : ℕ)
      → feed-at-reads.Learnt κs (o, (bytes, (state, (counts, (input, (taken, (position, tt))))))) n
      (o, (bytes', (state', (counts', (input, (taken', (position', tt)))))))
      → ExportedFed o (lent_line bytes.now state.now counts.now) input.now taken'.now
      (told_located n position'.now bytes'.now) (lent_line bytes'.now state'.now counts'.now)

-- A call that ends the input, its outcome, and the array and the state that it left. It is one for both origins.
pub data ExportedEnd : LentLine → Located Outcome → LentLine → Type 0 where
  ended : (κs : Lfts 3) {bytes : List ℕ} (state state' counts counts' position position' : MutBor ℕ) (n : ℕ)
      → finish-reads.Learnt κs (state, (counts, (position, tt))) n (state', (counts', (position', tt)))
      → ExportedEnd (lent_line bytes state.now counts.now) (told_located n position'.now bytes)
      (lent_line bytes state'.now counts'.now)

-- Any call of the portal at an origin, the bytes and finishes that it was given, for how many of them it stands, the
-- outcomes of these, and the array and the state that it left. A call that feeds stands for the bytes that it took, and
-- where it is answered 16 for the byte that is refused.
pub data ExportedLine : Origin → LentLine → List Call → ℕ → List (Located Outcome) → LentLine → Type 0 where
  feeds : {o : Origin} {l l' : LentLine} {given : List ℕ} {taken : ℕ} {a : Located Outcome}
      → ExportedFed o l given taken a l' → ExportedLine o l (feed given) (stands_for taken a) (told_bytes taken a) l'
  ends : {o : Origin} {l l' : LentLine} {a : Located Outcome} → ExportedEnd l a l'
      → ExportedLine o l (finish ∷ []) 1 (a ∷ []) l'

-- The same with how many of them it took.
pub data ExportedTaken : Origin → LentLine → List Call → ℕ → List (Located Outcome) → LentLine → Type 0 where
  feeds_taken : {o : Origin} {l l' : LentLine} {given : List ℕ} {taken : ℕ} {a : Located Outcome}
      → ExportedFed o l given taken a l' → ExportedTaken o l (feed given) taken (told_bytes taken a) l'
  ends_taken : {o : Origin} {l l' : LentLine} {a : Located Outcome} → ExportedEnd l a l'
      → ExportedTaken o l (finish ∷ []) 1 (a ∷ []) l'

-- what the contract of a call that feeds tells, at its origin
module _ (o : Origin) (n : ℕ) (bytes bytes' input : List ℕ) (state state' counts counts' taken position : ℕ)
    (k : FedAs n bytes' state' counts' taken position (fed_to o bytes state counts input)) where
  -- the number, the position and the array tell the outcome
  fed_outcome : told_located n position bytes' ≡ (fed_to o bytes state counts input).answer
  fed_outcome =
      let r = reader_in o bytes state counts in
      let a = (fed_to o bytes state counts input).answer in
      ap₂ (λ (h : Summary) (p : ℕ). located_outcome h p bytes') (fed_told n r input k.answered) k.position_is
      ∙ ap (located_outcome (summary_of (answer_in a)) (position_in a)) k.bytes_left
      ∙ chunk_whole r input

  fed_takes_to_answer : TakenToAnswer (reader_in o bytes state counts) (cut_chunk input) taken
      (told_located n position bytes')
  fed_takes_to_answer = takes_to_answer (reader_in o bytes state counts) input taken _ k.count fed_outcome

  fed_takes : TakesFirst (reader_in o bytes state counts) (feed input) (stands_for taken (told_located n position bytes'))
      (told_bytes taken (told_located n position bytes')) (reader_in o bytes' state' counts')
  fed_takes =
      let r = reader_in o bytes state counts in
      takes_first r input taken _ k.count fed_outcome (reader_in o bytes' state' counts')
      (fed_next o n bytes' state' counts' taken position (fed_to o bytes state counts input) (chunk_origin r input)
      (fed_start_fits o bytes input state counts) k)

  -- a full reader takes no byte, and keeps its array and both numbers
  fed_full_keeps : most_bytes ≤ count_of counts
      → (taken ≡ 0) × (lent_line bytes' state' counts' ≡ lent_line bytes state counts)
  fed_full_keeps h =
      let e = full_stays (reader_in o bytes state counts) input h in
      let b : bytes' ≡ bytes = k.bytes_left ∙ ap (λ (r : LineReader). r.bytes) e.1 in
      let s : state' ≡ state =
      k.state_left ∙ ap (λ (r : LineReader). packed_state r.state) e.1 ∙ state_packs o state counts in
      let c : counts' ≡ counts =
      k.counts_left ∙ ap (λ (r : LineReader). packed_counts r.state) e.1 ∙ counts_pack o state counts in
      (k.count ∙ e.0, λ i. lent_line (b i) (s i) (c i))

-- With no answer a call takes its whole chunk, 65,536 bytes at the most and no more than can be counted; with one at
-- least a byte, but for 16, which it gives exactly where the reader is full before the chunk's first byte.
pub fed_to_answer : {o : Origin} {l l' : LentLine} {given : List ℕ} {taken : ℕ} {a : Located Outcome}
    → ExportedFed o l given taken a l' → TakenToAnswer (reader_of o l) (cut_chunk given) taken a
fed_to_answer (fed κs bytes bytes' state state' counts counts' input taken taken' position position' n k) =
    fed_takes_to_answer Live n bytes.now bytes'.now input.now state.now state'.now counts.now
    counts'.now taken'.now position'.now k
fed_to_answer (fed_at {o} κs bytes bytes' state state' counts counts' input taken taken' position position' n k) =
    fed_takes_to_answer o n bytes.now bytes'.now input.now state.now state'.now counts.now
    counts'.now taken'.now position'.now k

-- Where the count is full, a call takes no byte and leaves the array and both numbers as they were.
pub fed_full_kept : {o : Origin} {l l' : LentLine} {given : List ℕ} {taken : ℕ} {a : Located Outcome}
    → ExportedFed o l given taken a l' → most_bytes ≤ count_of l.counts → (taken ≡ 0) × (l' ≡ l)
fed_full_kept (fed κs bytes bytes' state state' counts counts' input taken taken' position position' n k) =
    fed_full_keeps Live n bytes.now bytes'.now input.now state.now state'.now counts.now
    counts'.now taken'.now position'.now k
fed_full_kept (fed_at {o} κs bytes bytes' state state' counts counts' input taken taken' position position' n k) =
    fed_full_keeps o n bytes.now bytes'.now input.now state.now state'.now counts.now
    counts'.now taken'.now position'.now k

fed_stands : {o : Origin} {l l' : LentLine} {given : List ℕ} {taken : ℕ} {a : Located Outcome}
    → ExportedFed o l given taken a l'
    → TakesFirst (reader_of o l) (feed given) (stands_for taken a) (told_bytes taken a) (reader_of o l')
fed_stands (fed κs bytes bytes' state state' counts counts' input taken taken' position position' n k) =
    fed_takes Live n bytes.now bytes'.now input.now state.now state'.now counts.now counts'.now
    taken'.now position'.now k
fed_stands (fed_at {o} κs bytes bytes' state state' counts counts' input taken taken' position position' n k) =
    fed_takes o n bytes.now bytes'.now input.now state.now state'.now counts.now counts'.now
    taken'.now position'.now k

-- The calls that it stands for, and a finish, are answered, and leave the reader, as they do singly.
pub exported_takes : (o : Origin) (l l' : LentLine) (given : List Call) (taken : ℕ) (outcomes : List (Located Outcome))
    → ExportedLine o l given taken outcomes l' → TakesFirst (reader_of o l) given taken outcomes (reader_of o l')
exported_takes o l l' given m outcomes (feeds k) = fed_stands k
exported_takes o l l' given m outcomes
    (ends (ended κs {bytes = bytes} state state' counts counts' position position' n k)) =
    let r = reader_in o bytes state.now counts.now in
    let e = k o bytes in (
      omega arith,
      ap (λ (a : Located Outcome). a ∷ [])
          (ap₂ (λ (h : Summary) (p : ℕ). located_outcome h p bytes) (finish_told n r e.answered) e.position_is
          ∙ call_whole r finish),
      finished_next o n bytes state.now counts.now state'.now counts'.now position'.now e,
    )

-- ---- calls in a row

-- an array and two numbers are those of the reader that they are
lent_is : (o : Origin) (l : LentLine)
    → lent_line (reader_of o l).bytes (packed_state (reader_of o l).state) (packed_counts (reader_of o l).state) ≡ l
lent_is o l =
    let s = state_packs o l.state l.counts in
    let c = counts_pack o l.state l.counts in
    λ i. lent_line l.bytes (s i) (c i)

module _ {o : Origin} where
  -- Any calls in a row at an origin, from any array and any two numbers of a state: each byte taken or refused and each
  -- finish has the outcome that it has singly, and the array and the numbers left are the reader of the single calls.
  pub exported_singly : {l last : LentLine} {calls : List Call} {outcomes : List (Located Outcome)}
      → RanBy (ExportedLine o) l calls outcomes last → AsSingly (reader_of o l) calls outcomes (reader_of o last)
  exported_singly t = rows_singly turn_of (ExportedLine o) (reader_of o) (exported_takes o) t

  each_counted : (l l' : LentLine) (given later : List Call) (taken : ℕ) (outcomes : List (Located Outcome))
      → ExportedTaken o l given taken outcomes l' → Counts (reader_of o l) (given ++ later)
      → (taken ≤ length given) × ExportedLine o l given taken outcomes l'
      × Counts (reader_of o l') (drop taken (given ++ later))
  each_counted l l' calls later taken outcomes (feeds_taken {given = given} {a = a} k) w =
      let e = stands_counted (reader_of o l) given later taken a (fed_to_answer k) w in
      let c : ExportedLine o l (feed given) taken (told_bytes taken a) l' =
      subst (λ (n : ℕ). ExportedLine o l (feed given) n (told_bytes taken a) l') e (feeds k) in
      let t = exported_takes o l l' (feed given) taken (told_bytes taken a) c in
      (t.0, c, taken_counts (reader_of o l) (reader_of o l') (feed given) later taken (told_bytes taken a) t w)
  each_counted l l' given later taken outcomes (ends_taken k) w =
      let t = exported_takes o l l' given taken outcomes (ends k) in
      (t.0, ends k, taken_counts (reader_of o l) (reader_of o l') given later taken outcomes t w)

  -- However a stream, with its finishes, is cut into chunks, each starting right after the last byte taken, where the
  -- reader can count all its bytes up to each finish.
  pub exported_stream : {l last : LentLine} {stream : List Call} {outcomes : List (Located Outcome)}
      → Counts (reader_of o l) stream → Through (ExportedTaken o) l stream outcomes last
      → AsSingly (reader_of o l) stream outcomes (reader_of o last)
  exported_stream w t =
      exported_singly
      (through_known (ExportedTaken o) (ExportedLine o) (λ l calls. Counts (reader_of o l) calls) each_counted t w)

  -- Two rows of calls through the same stream, each with cuts of its own, from a reader that can count its bytes up to
  -- each finish, have the same outcomes and leave the same array and numbers.
  pub exported_stream_alike : {l last last' : LentLine} {stream : List Call} {outcomes outcomes' : List (Located Outcome)}
      → Counts (reader_of o l) stream → Through (ExportedTaken o) l stream outcomes last
      → Through (ExportedTaken o) l stream outcomes' last' → (outcomes ≡ outcomes') × (last ≡ last')
  exported_stream_alike {l} {last} {last'} {stream} {outcomes} {outcomes'} w t u =
      let k = singly_agree turn_of (reader_of o l) stream outcomes outcomes' (reader_of o last) (reader_of o last')
      (exported_stream w t) (exported_stream w u) in (
        k.0,
        sym (lent_is o last)
            ∙ ap (λ (r : LineReader). lent_line r.bytes (packed_state r.state) (packed_counts r.state)) k.1
            ∙ lent_is o last',
      )

-- Demand 3 of the calls that feed at an origin and of `csafe_finish`, whole and with positions, from every array and
-- numbers that are a reader outside of a candidate that has taken no byte.
pub exported_demand_3 : (o : Origin)
    → LocatedDemand3 (located_rowing o) (AnsweredBy (ExportedLine o) (λ l. AsNew o (reader_of o l)))
exported_demand_3 o =
    located_demand3_of (located_rowing o) (AnsweredBy (ExportedLine o) (λ l. AsNew o (reader_of o l)))
    (λ calls outcomes k. (exported_singly k.ran).answers_are
    ∙ (as_new_follows o (reader_of o k.start) k.made).same calls)

-- 118 zeros and the numbers 0 and 0 are one, at both origins.
pub new_line_as_new : (o : Origin) → AsNew o (reader_of o new_line)
new_line_as_new o = record { array = refl; outside_is = refl; origin_is = refl; count_is = refl }

-- No call in a row of `csafe_feed` and `csafe_finish`, from any array and any two numbers, tells a standard frame.
pub exported_live_named : {l last : LentLine} {calls : List Call} {outcomes : List (Located Outcome)}
    → RanBy (ExportedLine Live) l calls outcomes last → Every (λ (a : Located Outcome). NotStandard (answer_in a)) outcomes
exported_live_named {l} {last} {calls} k =
    subst (Every (λ (a : Located Outcome). NotStandard (answer_in a))) (sym (exported_singly k).answers_are)
    (live_run (reader_of Live l) refl calls)

-- The same calls, live and of a trace, on readers that are as new: each outcome of the live ones is that of the trace,
-- with 17 in place of a standard frame, at the same position.
pub exported_origins_alike : {calls : List Call} {outcomes traced : List (Located Outcome)}
    → AnsweredBy (ExportedLine Live) (λ l. AsNew Live (reader_of Live l)) calls outcomes
    → AnsweredBy (ExportedLine Trace) (λ l. AsNew Trace (reader_of Trace l)) calls traced
    → outcomes ≡ map (located_by (outcome_from Live)) traced
exported_origins_alike {calls} {outcomes} {traced} k t =
    (exported_demand_3 Live).same calls outcomes k ∙ reference_from Live calls
    ∙ ap (map (located_by (outcome_from Live))) (sym ((exported_demand_3 Trace).same calls traced t))

-- Call by call the live outcome is 17 exactly where that of the trace is a standard frame, and is the same everywhere else.
pub exported_line_17_exactly : {calls : List Call} {outcomes traced : List (Located Outcome)}
    → AnsweredBy (ExportedLine Live) (λ l. AsNew Live (reader_of Live l)) calls outcomes
    → AnsweredBy (ExportedLine Trace) (λ l. AsNew Trace (reader_of Trace l)) calls traced
    → EachPair UnnamedAt outcomes traced
exported_line_17_exactly {calls} {outcomes} {traced} k t =
    each_unnamed outcomes traced (exported_origins_alike k t)
    (subst (Every (λ (a : Located Outcome). Not17 (answer_in a))) (sym (exported_singly t.ran).answers_are)
    (trace_run (reader_of Trace t.start) refl calls))

-- Whatever calls came before, the last byte of a whole candidate is answered 17 exactly on the live line, where the
-- candidate is a sound standard frame in a trace. The bytes since the last finish are within the limit.
pub exported_candidate_17_exactly : (o : Origin) (calls : List Call) (w : List ℕ) (earlier : List (Located Outcome))
    (last : Located Outcome)
    → Terminated w → bytes_since_finish 0 calls + length w ≤ most_bytes
    → AnsweredBy (ExportedLine o) (λ l. AsNew o (reader_of o l)) (calls ++ feed w) (earlier ++ last ∷ [])
    → Exactly (answer_in last ≡ judged (refused 17)) ((o ≡ Live) × ((c : List ℕ) × SoundFrame Trace w (standard c)))
exported_candidate_17_exactly o calls w earlier last t h k =
    judged_last o calls w t h earlier last ((exported_demand_3 o).same (calls ++ feed w) (earlier ++ last ∷ []) k)

-- ---- positions, a full reader, and what a finish leaves

-- What is told, and at which position, exactly where the table says so, and what a full reader, a finish and a stop flag
-- leave.
pub exported_laws : (o : Origin)
    → LocatedLaws (located_rowing o) (AnsweredBy (ExportedLine o) (λ l. AsNew o (reader_of o l)))
exported_laws o =
    located_laws (located_rowing o) (AnsweredBy (ExportedLine o) (λ l. AsNew o (reader_of o l))) (exported_demand_3 o)

-- A byte after any calls is answered 16 exactly where 4,294,967,295 bytes or more were fed since the last finish.
pub exported_16_exactly : (o : Origin) (calls : List Call) (b : ℕ) (earlier : List (Located Outcome))
    (last : Located Outcome)
    → AnsweredBy (ExportedLine o) (λ l. AsNew o (reader_of o l)) (calls ++ byte b ∷ []) (earlier ++ last ∷ [])
    → Exactly (answer_in last ≡ full) (most_bytes ≤ bytes_since_finish 0 calls)
exported_16_exactly o calls b earlier last k =
    subst (λ (n : ℕ). Exactly (answer_in last ≡ full) (most_bytes ≤ bytes_since_finish n calls)) k.made.count_is
    (singly_16_exactly (reader_of o k.start) (omega (arith, k.made.count_is)) calls b earlier last
    (reader_of o k.last) (exported_singly k.ran))

module _ {o : Origin} where
  -- A stream after any calls, where with the bytes since the last finish it is within the limit, up to each finish.
  pub exported_stream_after : {l m last : LentLine} {calls stream : List Call} {first outcomes : List (Located Outcome)}
      → AsNew o (reader_of o l) → RanBy (ExportedLine o) l calls first m
      → Within most_bytes (bytes_since_finish 0 calls) stream → Through (ExportedTaken o) m stream outcomes last
      → AsSingly (reader_of o m) stream outcomes (reader_of o last)
  exported_stream_after {l} {m} {last} {calls} {stream} n k w t =
      exported_stream (left_counting (reader_of o l) (reader_of o m) calls stream n.count_is (exported_singly k).state_is w) t

  -- The upper half of the second number that any calls leave is how many bytes were fed since the last finish, up to the
  -- limit.
  pub exported_count : {l last : LentLine} {calls : List Call} {outcomes : List (Located Outcome)}
      → RanBy (ExportedLine o) l calls outcomes last → count_of l.counts ≤ most_bytes
      → Capped most_bytes (bytes_since_finish (count_of l.counts) calls) (count_of last.counts)
  exported_count {l} {last} {calls} k h =
      subst (λ (r : LineReader). Capped most_bytes (bytes_since_finish (count_of l.counts) calls) r.state.count)
      (sym (exported_singly k).state_is) (left_count (reader_of o l) h calls)

  -- The array and the numbers that any calls leave, the last a finish, are a new reader, and both numbers are 0, whatever
  -- they were before, full or not.
  pub exported_left_new : (l last : LentLine) (calls : List Call) (outcomes : List (Located Outcome))
      → RanBy (ExportedLine o) l (calls ++ finish ∷ []) outcomes last → length l.bytes ≡ capacity
      → AsNew o (reader_of o last) × (last.state ≡ 0) × (last.counts ≡ 0)
  exported_left_new l last calls outcomes k h =
      let e : (reader_of o last).state ≡ (next_after (left_after next_after (reader_of o l) calls) finish).state =
      ap (λ (r : LineReader). r.state)
      ((exported_singly k).state_is ∙ left_append next_after (reader_of o l) calls (finish ∷ [])) in (
        left_new (reader_of o l) (reader_of o last) calls outcomes h (exported_singly k),
        sym (state_packs o last.state last.counts) ∙ ap packed_state e,
        sym (counts_pack o last.state last.counts) ∙ ap packed_counts e ∙ omega arith,
      )

  -- The array and the numbers that any calls leave, the last the stop flag and one that the reader can take, are a reader
  -- that is as new but for the count.
  pub exported_left_closed : (l last : LentLine) (calls : List Call) (outcomes : List (Located Outcome))
      → RanBy (ExportedLine o) l (calls ++ byte stop_flag ∷ []) outcomes last → length l.bytes ≡ capacity
      → count_of l.counts ≤ most_bytes → bytes_since_finish (count_of l.counts) calls < most_bytes
      → ClosedAt (bytes_since_finish (count_of l.counts) calls + 1) o (reader_of o last)
  exported_left_closed l last calls outcomes k h =
      left_closed (reader_of o l) (reader_of o last) calls outcomes h (exported_singly k)

  -- No call of a row, from whichever array and numbers, is answered 1.
  pub exported_never_1 : {l last : LentLine} {calls : List Call} {outcomes : List (Located Outcome)}
      → RanBy (ExportedLine o) l calls outcomes last → Every (λ (a : Located Outcome). Not1 (answer_in a)) outcomes
  exported_never_1 {l} {last} {calls} k =
      subst (Every (λ (a : Located Outcome). Not1 (answer_in a))) (sym (exported_singly k).answers_are)
      (run_never_1 (reader_of o l) calls)
