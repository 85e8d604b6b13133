-- A count beside a reader that answers as the plain reference decoder does makes it answer as the located one does.
use mathlib.Core.Path.{◌≡◌, refl, sym, ap, ap₂, ◌∙◌, subst}
use mathlib.Core.Bool.{Bool, true, false}
use mathlib.Core.List.{List, [], ◌∷◌, ◌++◌, map}
use native.Mathlib.Omega.{arith}
use Prim.Native.Nat.{ℕ, ◌+◌, ◌≤◌}
use lib.Dec.{ltb}
use lib.ListN.{length}
use Rattle.lists.specs.Choice.{pick, Every}
use Rattle.lists.specs.Machine.{Turn, turn, run}
use Rattle.lists.proofs.Machines.{run_told, simulates}
use Rattle.framing.specs.Reference.{Call, byte, finish, Role, starts, stops, plain, FlagFree, Candidate, none}
use Rattle.framing.specs.Reference.{byte_answer, end_answer, answer_to, candidate_after}
use Rattle.framing.specs.Located.{Located, unlocated, located, located_by, CandidateAt, no_candidate, candidate_at}
use Rattle.framing.specs.Located.{candidate_in, Counted, counted, new_counted, LocatedProtocol, byte_answer_at}
use Rattle.framing.specs.Located.{byte_after_at, end_answer_at, located_answer, located_after, located_reference}
use Rattle.framing.specs.LocatedDemand3.{LocatedFollows, located_told_by}
use Rattle.framing.specs.Counting.{Counter, start_after, start_in, locate, TellsApart, taken_turn, counted_turn}
use Rattle.framing.proofs.Located.{follows_located, after_without}

-- Neither the stop flag nor any other byte moves the position of the last start flag.
pub start_kept : (t : Bool) (start count : ℕ) → start ≡ start_after (pick t stops plain) start count
start_kept true start count = refl
start_kept false start count = refl

module _ {S A : Type 0} (Q : LocatedProtocol A) (is_answer : A → Bool) (apart : TellsApart Q.protocol is_answer)
    (turn_of : S → Call → Turn S A) (R : S → Candidate → Type 0)
    (step : (s : S) (k : Candidate) (c : Call) → R s k
    → ((turn_of s c).answer ≡ answer_to Q.protocol k c) × R (turn_of s c).next (candidate_after Q.protocol k c)) where
  -- the position of an open candidate
  abbrev StartsAt : CandidateAt → ℕ → Type 0
  StartsAt no_candidate start = Unit {0}
  StartsAt (candidate_at position s) start = start ≡ position

  -- the reader stands for the candidate, whose position and count are those beside it
  abbrev Tracks : Counter S → Counted → Type 0
  Tracks s t = R s.reader (candidate_in t.candidate) × StartsAt t.candidate s.start × (s.count ≡ t.count)

  -- ---- an answer gets its position

  silent : (start : ℕ) (a : A) → a ≡ Q.protocol.nothing → locate is_answer start a ≡ unlocated Q.protocol.nothing
  silent start a e =
      ap (locate is_answer start) e
      ∙ ap (λ (t : Bool). pick t (located start Q.protocol.nothing) (unlocated Q.protocol.nothing))
      apart.nothing

  told : (start position : ℕ) (a b : A) → start ≡ position → is_answer b ≡ true → a ≡ b
      → locate is_answer start a ≡ located position b
  told start position a b p y e =
      ap₂ (locate is_answer) p e
      ∙ ap (λ (t : Bool). pick t (located position b) (unlocated b)) y

  byte_located : (ρ : Role) (k : CandidateAt) (start b : ℕ) (a : A) → StartsAt k start
      → a ≡ byte_answer Q.protocol ρ (candidate_in k) b → locate is_answer start a ≡ byte_answer_at Q ρ k b
  byte_located starts no_candidate start b a p e = silent start a e
  byte_located starts (candidate_at position s) start b a p e = told start position a _ p apart.truncated e
  byte_located stops no_candidate start b a p e = silent start a e
  byte_located stops (candidate_at position s) start b a p e =
      told start position a _ p (apart.judged (s ++ b ∷ [])) e
  byte_located plain k start b a p e = silent start a e

  end_located : (k : CandidateAt) (start : ℕ) (a : A) → StartsAt k start → a ≡ end_answer Q.protocol (candidate_in k)
      → locate is_answer start a ≡ end_answer_at Q k
  end_located no_candidate start a p e = silent start a e
  end_located (candidate_at position s) start a p e = told start position a _ p apart.truncated e

  start_located : (ρ : Role) (k : CandidateAt) (start n b : ℕ) → StartsAt k start
      → StartsAt (byte_after_at Q ρ k n b) (start_after ρ start n)
  start_located starts k start n b p = refl
  start_located stops k start n b p = tt
  start_located plain no_candidate start n b p = tt
  start_located plain (candidate_at position s) start n b p = p

  -- ---- a call

  -- a call that is answered as the located decoder answers, and leaves a state that tracks the decoder's
  abbrev Agrees : Turn (Counter S) (Located A) → Located A → Counted → Type 0
  Agrees t a next = (t.answer ≡ a) × Tracks t.next next

  taken_agrees : (s : Counter S) (k : CandidateAt) (b : ℕ) → Tracks s (counted k s.count)
      → Agrees (taken_turn Q is_answer turn_of s b) (byte_answer_at Q (Q.protocol.role b) k b)
      (counted (byte_after_at Q (Q.protocol.role b) k s.count b) (s.count + 1))
  taken_agrees s k b r =
      let ρ = Q.protocol.role b in
      let u = step s.reader (candidate_in k) (byte b) r.0 in (
        byte_located ρ k s.start b _ r.1 u.0,
        (
          subst (R (turn_of s.reader (byte b)).next) (sym (after_without Q ρ k s.count b)) u.1,
          start_located ρ k s.start s.count b r.1,
          refl,
        ),
      )

  by_room : (room : Bool) (s : Counter S) (k : CandidateAt) (b : ℕ) → Tracks s (counted k s.count)
      → Agrees (pick room (taken_turn Q is_answer turn_of s b) (turn (located 0 Q.full) s))
      (pick room (byte_answer_at Q (Q.protocol.role b) k b) (located 0 Q.full))
      (pick room (counted (byte_after_at Q (Q.protocol.role b) k s.count b) (s.count + 1)) (counted k s.count))
  by_room true s k b r = taken_agrees s k b r
  by_room false s k b r = (refl, r)

  call_agrees : (s : Counter S) (t : Counted) (c : Call) → Tracks s t
      → Agrees (counted_turn Q is_answer turn_of s c) (located_answer Q t c) (located_after Q t c)
  call_agrees s t (byte b) r =
      subst (λ (n : ℕ). Agrees (counted_turn Q is_answer turn_of s (byte b))
      (located_answer Q (counted t.candidate n) (byte b))
      (located_after Q (counted t.candidate n) (byte b))) r.2
      (by_room (ltb s.count Q.limit) s t.candidate b (r.0, r.1, refl))
  call_agrees s t finish r =
      let u = step s.reader (candidate_in t.candidate) finish r.0 in
      (end_located t.candidate s.start _ r.1 u.0, (u.1, tt, refl))

  -- Demand 3 with positions of the counted reader, from one that stands for no candidate and whose count is 0: what its
  -- start is doesn't matter.
  pub counted_follows : (s : Counter S) → R s.reader none → s.count ≡ 0
      → LocatedFollows Q (run (λ s c. (counted_turn Q is_answer turn_of s c).answer)
      (λ s c. (counted_turn Q is_answer turn_of s c).next) s)
  counted_follows s r e =
      follows_located Q (λ s c. (counted_turn Q is_answer turn_of s c).answer)
      (λ s c. (counted_turn Q is_answer turn_of s c).next) Tracks call_agrees s (r, tt, e)

-- ---- answers told in another way

module _ {A B : Type 0} (tell : A → B) (Q : LocatedProtocol A) where
  byte_told : (ρ : Role) (k : CandidateAt) (n b : ℕ)
      → (byte_answer_at (located_told_by tell Q) ρ k b ≡ located_by tell (byte_answer_at Q ρ k b))
      × (byte_after_at (located_told_by tell Q) ρ k n b ≡ byte_after_at Q ρ k n b)
  byte_told starts no_candidate n b = (refl, refl)
  byte_told starts (candidate_at position s) n b = (refl, refl)
  byte_told stops no_candidate n b = (refl, refl)
  byte_told stops (candidate_at position s) n b = (refl, refl)
  byte_told plain no_candidate n b = (refl, refl)
  byte_told plain (candidate_at position s) n b = (refl, refl)

  abbrev AnsweredAlike : Counted → Call → Type 0
  AnsweredAlike t c =
      (located_answer (located_told_by tell Q) t c ≡ located_by tell (located_answer Q t c))
      × (located_after (located_told_by tell Q) t c ≡ located_after Q t c)

  told_by_room : (room : Bool) (t : Counted) (b : ℕ)
      → (pick room (byte_answer_at (located_told_by tell Q) (Q.protocol.role b) t.candidate b)
      (located 0 (tell Q.full))
      ≡ located_by tell (pick room (byte_answer_at Q (Q.protocol.role b) t.candidate b) (located 0 Q.full)))
      × (pick room (counted (byte_after_at (located_told_by tell Q) (Q.protocol.role b) t.candidate t.count b)
      (t.count + 1)) t
      ≡ pick room (counted (byte_after_at Q (Q.protocol.role b) t.candidate t.count b) (t.count + 1)) t)
  told_by_room true t b =
      let k = byte_told (Q.protocol.role b) t.candidate t.count b in
      (k.0, ap (λ (x : CandidateAt). counted x (t.count + 1)) k.1)
  told_by_room false t b = (refl, refl)

  call_told : (t t' : Counted) (c : Call) → t ≡ t'
      → (located_answer (located_told_by tell Q) t c ≡ located_by tell (located_answer Q t' c))
      × (located_after (located_told_by tell Q) t c ≡ located_after Q t' c)
  call_told t t' c e =
      subst (λ (u : Counted). (located_answer (located_told_by tell Q) t c ≡ located_by tell (located_answer Q u c))
      × (located_after (located_told_by tell Q) t c ≡ located_after Q u c)) e (own c)
    where
      end_told : (k : CandidateAt) → end_answer_at (located_told_by tell Q) k ≡ located_by tell (end_answer_at Q k)
      end_told no_candidate = refl
      end_told (candidate_at position s) = refl

      own : (c : Call) → AnsweredAlike t c
      own (byte b) = told_by_room (ltb t.count Q.limit) t b
      own finish = (end_told t.candidate, refl)

  -- The located reference decoder's answers are told so.
  pub located_told : (calls : List Call)
      → map (located_by tell) (located_reference Q calls) ≡ located_reference (located_told_by tell Q) calls
  located_told calls =
      sym (run_told (located_by tell) (located_answer Q) (located_after Q) new_counted calls)
      ∙ sym (simulates (located_answer (located_told_by tell Q)) (located_after (located_told_by tell Q))
      (λ t c. located_by tell (located_answer Q t c)) (located_after Q) (λ t t'. t
      ≡ t') call_told new_counted new_counted refl
      calls)

-- ---- the last start flag

module _ (role : ℕ → Role) where
  pub start_append : (start count : ℕ) (xs ys : List ℕ)
      → start_in role start count (xs ++ ys) ≡ start_in role (start_in role start count xs) (count + length xs) ys
  start_append start count [] ys =
      let z : count ≡ count + 0 = omega arith in ap (λ (n : ℕ). start_in role start n ys) z
  start_append start count (x ∷ xs) ys =
      let n : count + 1 + length xs ≡ count + length (x ∷ xs) = omega arith in
      start_append (start_after (role x) start count) (count + 1) xs ys
      ∙ ap (λ (m : ℕ). start_in role (start_in role (start_after (role x) start count) (count + 1) xs) m ys) n

  -- Bytes that are no flags have none.
  pub start_free : (start count : ℕ) (s : List ℕ) → FlagFree role s → start_in role start count s ≡ start
  start_free start count [] f = refl
  start_free start count (b ∷ s) f =
      ap (λ (ρ : Role). start_in role (start_after ρ start count) (count + 1) s) f.0
      ∙ start_free start (count + 1) s f.1

  -- A start flag stays the last before bytes that are no flags.
  pub start_opens : (start count flag : ℕ) (body : List ℕ) → role flag ≡ starts → FlagFree role body
      → start_in role start count (flag ∷ body) ≡ count
  start_opens start count flag body e f =
      ap (λ (ρ : Role). start_in role (start_after ρ start count) (count + 1) body) e
      ∙ start_free count (count + 1) body f

  -- Bytes without a start flag leave it where it was.
  pub start_none : (start count : ℕ) (s : List ℕ) → Every (λ (b : ℕ). role b ≡ starts → ⊥) s
      → start_in role start count s ≡ start
  start_none start count [] n = refl
  start_none start count (b ∷ s) n =
      ap (λ (m : ℕ). start_in role m (count + 1) s) (by_role (role b) refl) ∙ start_none start (count + 1) s n.1
    where
      by_role : (ρ : Role) → role b ≡ ρ → start_after ρ start count ≡ start
      by_role starts e = absurd (n.0 e)
      by_role stops e = refl
      by_role plain e = refl

  -- The last start flag is the one after which there is none.
  pub start_last : (start count : ℕ) (before : List ℕ) (flag : ℕ) (after : List ℕ) → role flag ≡ starts
      → Every (λ (b : ℕ). role b ≡ starts → ⊥) after
      → start_in role start count (before ++ flag ∷ after) ≡ count + length before
  start_last start count before flag after e n =
      start_append start count before (flag ∷ after)
      ∙ ap (λ (ρ : Role). start_in role (start_after ρ (start_in role start count before) (count + length before))
      (count + length before + 1) after) e
      ∙ start_none (count + length before) (count + length before + 1) after n

  -- It stands among the bytes.
  pub start_within : (most start count : ℕ) (s : List ℕ) → start ≤ most → count + length s ≤ most + 1
      → start_in role start count s ≤ most
  start_within most start count [] h k = h
  start_within most start count (b ∷ s) h k =
      start_within most (start_after (role b) start count) (count + 1) s (by_role (role b)) (omega arith)
    where
      by_role : (ρ : Role) → start_after ρ start count ≤ most
      by_role starts = omega arith
      by_role stops = h
      by_role plain = h
