-- The located reference decoder: without positions it is the plain one, and it starts again at each start flag with
-- positions larger by the bytes before it. What answers as it does has demand 3 with positions.
use mathlib.Core.Path.{◌≡◌, refl, sym, ap, ◌∙◌}
use mathlib.Core.List.{List, [], ◌∷◌, ◌++◌, map, append_assoc, append-nil}
use native.Mathlib.Omega.{arith}
use Prim.Native.Nat.{ℕ, ◌+◌, ◌≤◌, ◌<◌}
use lib.ListN.{length, length-append}
use borrow.Author.Tests.{lt-ltb, le-ltb}
use Rattle.lists.specs.Machine.{run, left_after}
use Rattle.lists.proofs.Machines.{simulates, run-append, left_append, runs_anew}
use Rattle.framing.specs.Reference.{Call, byte, finish, Role, starts, stops, plain, FlagFree, Candidate}
use Rattle.framing.specs.Reference.{byte_answer, byte_after, end_answer, answer_to, candidate_after, reference}
use Rattle.framing.specs.Demand3.{feed, LeftOpen}
use Rattle.framing.specs.Located.{Located, located, answer_in, CandidateAt, no_candidate, candidate_at, candidate_in}
use Rattle.framing.specs.Located.{Counted, counted, new_counted, LocatedProtocol, byte_answer_at, byte_after_at}
use Rattle.framing.specs.Located.{end_answer_at, located_answer, located_after, located_reference}
use Rattle.framing.specs.LocatedDemand3.{bytes_before_finish, Within, shift, shift_to_finish, Together}
use Rattle.framing.specs.LocatedDemand3.{LocatedRestarts, LocatedFollows, LocatedDemand3}
use Rattle.framing.proofs.Restart.{feed-append, opened_left}

pub fed_before_finish : (bytes : List ℕ) (calls : List Call) → bytes_before_finish (feed bytes ++ calls)
    ≡ length bytes + bytes_before_finish calls
fed_before_finish [] calls = omega arith
fed_before_finish (b ∷ bytes) calls = omega (arith, fed_before_finish bytes calls)

feed-length : (bytes : List ℕ) → length (feed bytes) ≡ length bytes
feed-length [] = refl
feed-length (b ∷ bytes) = omega (arith, feed-length bytes)

-- No more bytes than the limit were fed before.
pub within_now : (limit n : ℕ) (calls : List Call) → Within limit n calls → n ≤ limit
within_now limit n [] w = w
within_now limit n (byte b ∷ calls) w = omega (arith, within_now limit (n + 1) calls w)
within_now limit n (finish ∷ calls) w = w.0

module _ {A : Type 0} (Q : LocatedProtocol A) where
  -- the answers from any state on
  abbrev pub from : Counted → List Call → List (Located A)
  from s calls = run (located_answer Q) (located_after Q) s calls

  -- the state after bytes
  abbrev fed_to : Counted → List ℕ → Counted
  fed_to s bytes = left_after (located_after Q) s (feed bytes)

  -- ---- a byte that is taken, and one that is not

  pub taken_answer : (k : CandidateAt) (n b : ℕ) → n < Q.limit → located_answer Q (counted k n) (byte b)
      ≡ byte_answer_at Q (Q.protocol.role b) k b
  taken_answer k n b h = rw (lt-ltb n Q.limit h)

  pub taken_after : (k : CandidateAt) (n b : ℕ) → n < Q.limit → located_after Q (counted k n) (byte b)
      ≡ counted (byte_after_at Q (Q.protocol.role b) k n b) (n + 1)
  taken_after k n b h = rw (lt-ltb n Q.limit h)

  -- A byte at a full count gets the refusal, and every later call is answered as if it had not been made.
  pub full_refused : (s : Counted) (b : ℕ) (calls : List Call) → Q.limit ≤ s.count
      → run (located_answer Q) (located_after Q) s (byte b ∷ calls)
      ≡ located 0 Q.full ∷ run (located_answer Q) (located_after Q) s calls
  full_refused s b calls h = rw (le-ltb s.count Q.limit h)

  -- a byte and the calls after it
  pub from_byte : (k : CandidateAt) (n b : ℕ) (calls : List Call) → n < Q.limit
      → from (counted k n) (byte b ∷ calls) ≡ byte_answer_at Q (Q.protocol.role b) k b ∷ from
      (counted (byte_after_at Q (Q.protocol.role b) k n b) (n + 1)) calls
  from_byte k n b calls h = rw (lt-ltb n Q.limit h)

  -- ---- without positions

  answer_without : (ρ : Role) (k : CandidateAt) (b : ℕ) → answer_in (byte_answer_at Q ρ k b)
      ≡ byte_answer Q.protocol ρ (candidate_in k) b
  answer_without starts no_candidate b = refl
  answer_without starts (candidate_at p s) b = refl
  answer_without stops no_candidate b = refl
  answer_without stops (candidate_at p s) b = refl
  answer_without plain k b = refl

  pub after_without : (ρ : Role) (k : CandidateAt) (n b : ℕ) → candidate_in (byte_after_at Q ρ k n b)
      ≡ byte_after Q.protocol ρ (candidate_in k) b
  after_without starts k n b = refl
  after_without stops k n b = refl
  after_without plain no_candidate n b = refl
  after_without plain (candidate_at p s) n b = refl

  end_without : (k : CandidateAt) → answer_in (end_answer_at Q k) ≡ end_answer Q.protocol (candidate_in k)
  end_without no_candidate = refl
  end_without (candidate_at p s) = refl

  from_without : (k : CandidateAt) (n : ℕ) (calls : List Call) → Within Q.limit n calls
      → map answer_in (from (counted k n) calls)
      ≡ run (answer_to Q.protocol) (candidate_after Q.protocol) (candidate_in k) calls
  from_without k n [] w = refl
  from_without k n (finish ∷ calls) w =
      ap (λ (a : A). a ∷ map answer_in (from new_counted calls)) (end_without k)
      ∙ ap (λ (l : List A). end_answer Q.protocol (candidate_in k) ∷ l)
      (from_without no_candidate 0 calls w.1)
  from_without k n (byte b ∷ calls) w =
      ap (map answer_in) (from_byte k n b calls (omega (arith, within_now Q.limit (n + 1) calls w)))
      ∙ ap (λ (a : A). a ∷ map answer_in (from (counted (byte_after_at Q (Q.protocol.role b) k n b) (n + 1)) calls))
      (answer_without (Q.protocol.role b) k b)
      ∙ ap (λ (l : List A). byte_answer Q.protocol (Q.protocol.role b) (candidate_in k) b ∷ l)
      (from_without (byte_after_at Q (Q.protocol.role b) k n b) (n + 1) calls w
      ∙ ap (λ (x : Candidate). run (answer_to Q.protocol) (candidate_after Q.protocol) x calls)
      (after_without (Q.protocol.role b) k n b))

  -- While no more bytes come before a finish than the limit, the answers without their positions are those of the plain
  -- reference decoder.
  pub without_positions : (calls : List Call) → Within Q.limit 0 calls
      → map answer_in (located_reference Q calls) ≡ reference Q.protocol calls
  without_positions calls w = from_without no_candidate 0 calls w

  -- ---- bytes within the limit

  fed_count : (k : CandidateAt) (n : ℕ) (bytes : List ℕ) → n + length bytes ≤ Q.limit
      → (fed_to (counted k n) bytes).count ≡ n + length bytes
  fed_count k n [] h = omega arith
  fed_count k n (b ∷ bytes) h =
      ap (λ (s : Counted). (fed_to s bytes).count) (taken_after k n b (omega arith))
      ∙ fed_count (byte_after_at Q (Q.protocol.role b) k n b) (n + 1) bytes (omega arith) ∙ omega arith

  fed_without : (k : CandidateAt) (n : ℕ) (bytes : List ℕ) → n + length bytes ≤ Q.limit
      → candidate_in (fed_to (counted k n) bytes).candidate
      ≡ left_after (candidate_after Q.protocol) (candidate_in k) (feed bytes)
  fed_without k n [] h = refl
  fed_without k n (b ∷ bytes) h =
      ap (λ (s : Counted). candidate_in (fed_to s bytes).candidate) (taken_after k n b (omega arith))
      ∙ fed_without (byte_after_at Q (Q.protocol.role b) k n b) (n + 1) bytes (omega arith)
      ∙ ap (λ (x : Candidate). left_after (candidate_after Q.protocol) x (feed bytes))
      (after_without (Q.protocol.role b) k n b)

  -- ---- positions larger by n

  abbrev ahead : ℕ → CandidateAt → CandidateAt
  ahead n no_candidate = no_candidate
  ahead n (candidate_at p s) = candidate_at (n + p) s

  ahead_answer : (ρ : Role) (n : ℕ) (k : CandidateAt) (b : ℕ) → byte_answer_at Q ρ (ahead n k) b
      ≡ shift n (byte_answer_at Q ρ k b)
  ahead_answer starts n no_candidate b = refl
  ahead_answer starts n (candidate_at p s) b = refl
  ahead_answer stops n no_candidate b = refl
  ahead_answer stops n (candidate_at p s) b = refl
  ahead_answer plain n k b = refl

  ahead_after : (ρ : Role) (n : ℕ) (k : CandidateAt) (c b : ℕ) → byte_after_at Q ρ (ahead n k) (n + c) b
      ≡ ahead n (byte_after_at Q ρ k c b)
  ahead_after starts n k c b = refl
  ahead_after stops n k c b = refl
  ahead_after plain n no_candidate c b = refl
  ahead_after plain n (candidate_at p s) c b = refl

  ahead_end : (n : ℕ) (k : CandidateAt) → end_answer_at Q (ahead n k) ≡ shift n (end_answer_at Q k)
  ahead_end n no_candidate = refl
  ahead_end n (candidate_at p s) = refl

  -- a decoder that took n bytes more, its candidate n further on
  pub from_ahead : (n : ℕ) (k : CandidateAt) (c : ℕ) (calls : List Call) → n + c + bytes_before_finish calls ≤ Q.limit
      → from (counted (ahead n k) (n + c)) calls ≡ shift_to_finish n calls (from (counted k c) calls)
  from_ahead n k c [] h = refl
  from_ahead n k c (finish ∷ calls) h = ap (λ (a : Located A). a ∷ from new_counted calls) (ahead_end n k)
  from_ahead n k c (byte b ∷ calls) h =
      let e : n + c + 1 ≡ n + (c + 1) = omega arith in
      from_byte (ahead n k) (n + c) b calls (omega arith)
      ∙ ap (λ (a : Located A). a ∷ from (counted (byte_after_at Q (Q.protocol.role b) (ahead n k) (n + c) b)
      (n + c + 1)) calls) (ahead_answer (Q.protocol.role b) n k b)
      ∙ ap (λ (x : CandidateAt). shift n (byte_answer_at Q (Q.protocol.role b) k b) ∷ from (counted x (n + c + 1))
      calls) (ahead_after (Q.protocol.role b) n k c b)
      ∙ ap (λ (m : ℕ). shift n (byte_answer_at Q (Q.protocol.role b) k b) ∷ from
      (counted (ahead n (byte_after_at Q (Q.protocol.role b) k c b)) m) calls) e
      ∙ ap (λ (l : List (Located A)). shift n (byte_answer_at Q (Q.protocol.role b) k b) ∷ l)
      (from_ahead n (byte_after_at Q (Q.protocol.role b) k c b) (c + 1) calls (omega arith))
      ∙ sym (ap (shift_to_finish n (byte b ∷ calls)) (from_byte k c b calls (omega arith)))

  -- ---- what D leaves open

  -- a start flag opens a candidate at the count, whatever was open
  pub opens_at : (k : CandidateAt) (n w : ℕ) → n < Q.limit → Q.protocol.role w ≡ starts
      → located_after Q (counted k n) (byte w) ≡ counted (candidate_at n (w ∷ [])) (n + 1)
  opens_at k n w h e = taken_after k n w h ∙ ap (λ (ρ : Role). counted (byte_after_at Q ρ k n w) (n + 1)) e

  -- bytes that are no flags keep it open, at its position
  pub keeps_at : (p n : ℕ) (s bytes : List ℕ) → n + length bytes ≤ Q.limit → FlagFree Q.protocol.role bytes
      → fed_to (counted (candidate_at p s) n) bytes ≡ counted (candidate_at p (s ++ bytes)) (n + length bytes)
  keeps_at p n s [] h f = let e : n ≡ n + 0 =
      omega arith in ap (λ (l : List ℕ). counted (candidate_at p l) n) (sym (append-nil s))
      ∙ ap (counted (candidate_at p (s ++ []))) e
  keeps_at p n s (b ∷ bytes) h f =
      let e : n + 1 + length bytes ≡ n + length (b ∷ bytes) = omega arith in
      ap (λ (t : Counted). fed_to t bytes)
      (taken_after (candidate_at p s) n b (omega arith)
      ∙ ap (λ (ρ : Role). counted (byte_after_at Q ρ (candidate_at p s) n b) (n + 1)) f.0)
      ∙ keeps_at p (n + 1) (s ++ b ∷ []) bytes (omega arith) f.1
      ∙ ap (λ (l : List ℕ). counted (candidate_at p l) (n + 1 + length bytes)) (append_assoc s (b ∷ []) bytes)
      ∙ ap (counted (candidate_at p (s ++ b ∷ bytes))) e

  -- the state after any bytes, a start flag and bytes that are no flags
  fed_open : (before : List ℕ) (w : ℕ) (body : List ℕ) → length before + length (w ∷ body) ≤ Q.limit
      → Q.protocol.role w ≡ starts → FlagFree Q.protocol.role body
      → fed_to new_counted (before ++ w ∷ body) ≡ counted (candidate_at (length before) (w ∷ body))
      (length before + length (w ∷ body))
  fed_open before w body h e f =
      let s = fed_to new_counted before in
      let q : s.count ≡ length before = fed_count no_candidate 0 before (omega arith) ∙ omega arith in
      let m : length before + 1 + length body ≡ length before + length (w ∷ body) = omega arith in
      ap (left_after (located_after Q) new_counted) (feed-append before (w ∷ body))
      ∙ left_append (located_after Q) new_counted (feed before) (feed (w ∷ body))
      ∙ ap (λ (t : Counted). fed_to t body) (opens_at s.candidate s.count w (omega arith) e)
      ∙ ap (λ (n : ℕ). fed_to (counted (candidate_at n (w ∷ [])) (n + 1)) body) q
      ∙ keeps_at (length before) (length before + 1) (w ∷ []) body (omega arith) f
      ∙ ap (counted (candidate_at (length before) (w ∷ body))) m

  left_open_at : (D : List ℕ) (o : LeftOpen Q.protocol D) → length D ≤ Q.limit → (fed_to new_counted D).candidate
      ≡ candidate_at (length o.before) (o.flag ∷ o.rest)
  left_open_at D o h =
      let l : length D ≡ length o.before + length (o.flag ∷ o.rest) =
      ap length o.splits ∙ length-append o.before (o.flag ∷ o.rest) in
      ap (λ (s : List ℕ). (fed_to new_counted s).candidate) o.splits
      ∙ ap (λ (s : Counted). s.candidate) (fed_open o.before o.flag o.rest (omega arith) o.starting
      o.flag_free)

  nothing_open : (D : List ℕ) (k : CandidateAt) → (fed_to new_counted D).candidate ≡ k → length D ≤ Q.limit
      → (LeftOpen Q.protocol D → ⊥) → k ≡ no_candidate
  nothing_open D no_candidate e h n = refl
  nothing_open D (candidate_at p s) e h n =
      absurd (n (opened_left Q.protocol D s (sym (fed_without no_candidate 0 D (omega arith)) ∙ ap candidate_in e)))

  -- ---- D, W and L

  -- Demand 3's second part, with positions, of the located reference decoder.
  pub reference_restarts_at : (D : List ℕ) (w : ℕ) (W : List ℕ) (L : List Call) → Q.protocol.role w ≡ starts
      → Together Q D w W L
      → LocatedRestarts Q D W L (located_reference Q (feed D ++ (feed (w ∷ W) ++ L))) (located_reference Q (feed D))
      (located_reference Q (feed (w ∷ W) ++ L))
  reference_restarts_at D w W L e h =
      let s = fed_to new_counted D in
      let n : s.count ≡ length D = fed_count no_candidate 0 D (omega arith) ∙ omega arith in
      let z : length D ≡ length D + 0 = omega arith in
      let a : located_answer Q s (byte w) ≡ byte_answer_at Q starts s.candidate w =
      taken_answer s.candidate s.count w (omega arith) ∙ ap (λ (ρ : Role). byte_answer_at Q ρ s.candidate w) e in
      record {
        first = located_answer Q s (byte w);
        whole = run-append (located_answer Q) (located_after Q) new_counted (feed D) (feed (w ∷ W) ++ L)
            ∙ ap (λ (l : List (Located A)). located_reference Q (feed D) ++ located_answer Q s (byte w) ∷ l)
            (ap (λ (t : Counted). from t (feed W ++ L)) (opens_at s.candidate s.count w (omega arith) e)
            ∙ ap (λ (m : ℕ). from (counted (candidate_at m (w ∷ [])) (m + 1)) (feed W ++ L)) n
            ∙ ap (λ (m : ℕ). from (counted (candidate_at m (w ∷ [])) (length D + 1)) (feed W ++ L)) z
            ∙ from_ahead (length D) (candidate_at 0 (w ∷ [])) 1 (feed W ++ L) (omega (arith, fed_before_finish W L))
            ∙ ap (λ (t : Counted). shift_to_finish (length D) (feed W ++ L) (from t (feed W ++ L)))
            (sym (opens_at no_candidate 0 w (omega arith) e)));
        truncated = λ o. a ∙ ap (λ (k : CandidateAt). byte_answer_at Q starts k w) (left_open_at D o (omega arith));
        nothing = λ o. a ∙ ap (λ (k : CandidateAt). byte_answer_at Q starts k w)
            (nothing_open D s.candidate refl (omega arith) o);
      }

  -- Demand 3 of any relation whose answers are the located reference decoder's.
  pub located_demand3_of : (answered : List Call → List (Located A) → Type 0)
      → ((calls : List Call) (answers : List (Located A)) → answered calls answers → answers ≡ located_reference Q calls)
      → LocatedDemand3 Q answered
  located_demand3_of answered e = record {
    same = e;
    restarts = λ D w W L all alone later s h a b c.
        restarts_alike D w W L all alone later _ _ _ (e _ all a) (e _ alone b) (e _ later c)
        (reference_restarts_at D w W L s h);
  }
    where
      restarts_alike : (D : List ℕ) (w : ℕ) (W : List ℕ) (L : List Call)
          (all alone later all' alone' later' : List (Located A)) → all ≡ all' → alone ≡ alone' → later ≡ later'
          → LocatedRestarts Q D W L all' alone' later' → LocatedRestarts Q D W L all alone later
      restarts_alike D w W L all alone later all' alone' later' p q r k =
          record { first = k.first; whole = rw (p, q, r) k.whole; truncated = k.truncated; nothing = k.nothing }

  -- Demand 3 of what answers every list of calls as the located reference decoder does.
  pub follows_same : (f : List Call → List (Located A)) → ((calls : List Call) → f calls ≡ located_reference Q calls)
      → LocatedFollows Q f
  follows_same f e =
      let d =
      located_demand3_of (λ (calls : List Call) (answers : List (Located A)). answers ≡ f calls)
      (λ calls answers q. q ∙ e calls) in
      record { same = e; restarts = λ D w W L q h. d.restarts D w W L _ _ _ q h refl refl refl }

  -- Demand 3 of any machine, from a relation that each of its calls keeps.
  pub follows_located : {S : Type 0} (answer : S → Call → Located A) (next : S → Call → S) (R : S → Counted → Type 0)
      → ((s : S) (t : Counted) (c : Call) → R s t
      → (answer s c ≡ located_answer Q t c) × R (next s c) (located_after Q t c))
      → (s : S) → R s new_counted → LocatedFollows Q (run answer next s)
  follows_located answer next R step s r =
      follows_same (run answer next s)
      (simulates answer next (located_answer Q) (located_after Q) R step s new_counted r)

  -- ---- a full count

  -- Bytes at a full count get the refusal, and every later call is answered as if they had not been fed.
  pub full_after : (s : Counted) (more : List ℕ) (rest : List Call) → Q.limit ≤ s.count → from s (feed more ++ rest)
      ≡ map (λ b. located 0 Q.full) more ++ from s rest
  full_after s [] rest h = refl
  full_after s (b ∷ more) rest h = full_refused s b (feed more ++ rest) h
      ∙ ap (λ (l : List (Located A)). located 0 Q.full ∷ l) (full_after s more rest h)

  -- ---- after a finish

  -- A finish leaves the decoder as new, full or not; so does everything that answers as it does.
  pub as_new_at_finish : (f : List Call → List (Located A)) → ((calls : List Call) → f calls ≡ located_reference Q calls)
      → (calls rest : List Call)
      → f (calls ++ finish ∷ rest) ≡ f (calls ++ finish ∷ []) ++ f rest
  as_new_at_finish f e calls rest = simp e (runs_anew (located_answer Q) (located_after Q) new_counted finish (λ s. refl)
      new_counted calls rest)
