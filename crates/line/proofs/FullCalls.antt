-- 16 by the bytes that were fed: any calls in a row on a reader that is as new, then a byte, which is answered 16 exactly
-- where as many bytes as the reader takes came since the last finish.
use mathlib.Core.Path.{◌≡◌, refl, sym, ap, ◌∙◌, subst}
use mathlib.Core.List.{List, [], ◌∷◌, ◌++◌}
use native.Mathlib.Omega.{arith}
use Prim.Native.Nat.{ℕ, ◌+◌, ◌≤◌}
use lib.Dec.{leb, ltb}
use borrow.Author.Tests.{lt-ltb, le-ltb, leb-true, leb-false}
use Rattle.lists.specs.Choice.{pick, Exactly}
use Rattle.lists.specs.Machine.{run, left_after, RanBy, Through, AnsweredBy}
use Rattle.lists.proofs.Cases.{by_bool}
use Rattle.lists.proofs.Lists.{last_same}
use Rattle.lists.proofs.Machines.{run-append}
use Rattle.framing.specs.Reference.{Call, byte}
use Rattle.framing.specs.Located.{Located, answer_in}
use Rattle.framing.specs.LocatedDemand3.{bytes_since_finish, Within, Capped}
use Rattle.framing.proofs.Located.{within_now}
use Rattle.framing.proofs.LocatedCandidates.{capped_left}
use Rattle.frame.specs.declared.Origin.{Origin}
use Rattle.candidate.specs.Outcome.{Outcome}
use Rattle.line.specs.Rowing.{most_bytes, full}
use Rattle.line.specs.Reader.{ReaderTurn, outcome_at, next_after, AsNew}
use Rattle.line.specs.Chunks.{AsSingly}
use Rattle.line.specs.declared.LineReader.{LineReader}
use Rattle.line.proofs.StepLaws.{by_count}
use Rattle.line.proofs.ChunkLaws.{full_exactly}
use Rattle.line.proofs.ChunkCalls.{CalledOn, chunks_singly}
use Rattle.line.proofs.StreamCalls.{Counts, TakenOn, stream_singly}

-- a byte that is taken adds one to the count
count_after : (r : LineReader) (b : ℕ) → (next_after r (byte b)).state.count
    ≡ pick (ltb r.state.count most_bytes) (r.state.count + 1) r.state.count
count_after r b =
    let n = r.state.count in
    by_count r b (λ (t : ReaderTurn). t.next.state.count ≡ pick (ltb n most_bytes) (n + 1) n)
    (λ h. rw (lt-ltb n most_bytes h)) (λ h. rw (le-ltb n most_bytes h))

-- The count after single calls is that of the bytes since the last finish, up to the limit.
pub left_count : (r : LineReader) → r.state.count ≤ most_bytes → (calls : List Call)
    → Capped most_bytes (bytes_since_finish r.state.count calls) (left_after next_after r calls).state.count
left_count r h calls =
    capped_left most_bytes next_after (λ (u : LineReader). u.state.count) count_after (λ u. refl) r r.state.count
    ((λ l. refl), (λ l. omega (arith, h, l))) calls

-- So it is after any calls in a row, in whichever form.
pub calls_count : {r last : LineReader} {calls : List Call} {outcomes : List (Located Outcome)}
    → RanBy CalledOn r calls outcomes last → r.state.count ≤ most_bytes
    → Capped most_bytes (bytes_since_finish r.state.count calls) last.state.count
calls_count {r} {last} {calls} k h =
    subst (λ (u : LineReader). Capped most_bytes (bytes_since_finish r.state.count calls) u.state.count)
    (sym (chunks_singly k).state_is) (left_count r h calls)

-- the count is full exactly where so many bytes were fed
capped_full : (n c : ℕ) → Capped most_bytes n c → Exactly (most_bytes ≤ c) (most_bytes ≤ n)
capped_full n c k = (
  (λ h. by_bool (leb n most_bytes) (λ y. omega (arith, k.0 (leb-true n most_bytes y)))
      (λ z. omega (arith, leb-false n most_bytes z))),
  (λ h. omega (arith, k.1 h)),
)

-- of what is answered as single calls are
pub singly_16_exactly : (r : LineReader) → r.state.count ≤ most_bytes → (calls : List Call) (b : ℕ)
    (earlier : List (Located Outcome)) (last : Located Outcome) (left : LineReader)
    → AsSingly r (calls ++ byte b ∷ []) (earlier ++ last ∷ []) left
    → Exactly (answer_in last ≡ full) (most_bytes ≤ bytes_since_finish r.state.count calls)
singly_16_exactly r h calls b earlier last left k =
    let u = left_after next_after r calls in
    let is : last ≡ outcome_at u (byte b) =
    last_same earlier (run outcome_at next_after r calls) last (outcome_at u (byte b))
    (k.answers_are ∙ run-append outcome_at next_after r calls (byte b ∷ [])) in
    let f = (full_exactly u (byte b)).exactly in
    let c = capped_full (bytes_since_finish r.state.count calls) u.state.count (left_count r h calls) in
    ((λ q. c.0 (f.0 (ap answer_in (sym is) ∙ q))), (λ h. ap answer_in is ∙ f.1 (c.1 h)))

-- A byte after any calls in a row, in whichever form, is answered 16 exactly where 4,294,967,295 bytes or more were fed
-- since the last finish.
pub calls_16_exactly : (o : Origin) (calls : List Call) (b : ℕ) (earlier : List (Located Outcome))
    (last : Located Outcome) → AnsweredBy CalledOn (AsNew o) (calls ++ byte b ∷ []) (earlier ++ last ∷ [])
    → Exactly (answer_in last ≡ full) (most_bytes ≤ bytes_since_finish 0 calls)
calls_16_exactly o calls b earlier last k =
    subst (λ (n : ℕ). Exactly (answer_in last ≡ full) (most_bytes ≤ bytes_since_finish n calls)) k.made.count_is
    (singly_16_exactly k.start (omega (arith, k.made.count_is)) calls b earlier last k.last
    (chunks_singly k.ran))

-- ---- a stream after other calls

-- what single calls leave of a reader that has taken no byte can count a stream, by the bytes since the last finish
pub left_counting : (r u : LineReader) (calls stream : List Call) → r.state.count ≡ 0 → u ≡ left_after next_after r calls
    → Within most_bytes (bytes_since_finish 0 calls) stream → Counts u stream
left_counting r u calls stream e f w =
    let n = bytes_since_finish 0 calls in
    let c : Capped most_bytes n (left_after next_after r calls).state.count =
    subst (λ (m : ℕ). Capped most_bytes (bytes_since_finish m calls) (left_after next_after r calls).state.count) e
    (left_count r (omega (arith, e)) calls) in
    subst (λ (m : ℕ). Within most_bytes m stream)
    (sym (ap (λ (x : LineReader). x.state.count) f ∙ c.0 (within_now most_bytes n stream w))) w

-- Document 02, No. 4, after any calls in a row: a stream is answered as its bytes and finishes are singly, where with the
-- bytes since the last finish it is within the limit, up to each finish.
pub stream_after : {o : Origin} {r u last : LineReader} {calls stream : List Call} {first outcomes : List (Located Outcome)}
    → AsNew o r → RanBy CalledOn r calls first u → Within most_bytes (bytes_since_finish 0 calls) stream
    → Through TakenOn u stream outcomes last → AsSingly u stream outcomes last
stream_after {o} {r} {u} {last} {calls} {stream} n k w t =
    stream_singly (left_counting r u calls stream n.count_is (chunks_singly k).state_is w) t
