-- A bounded reader answers every list of calls as the reference decoder does, and so does everything that is known to
-- be one. A reader stands for the decoder's candidate: outside for none, inside for its flag and the bytes held,
-- over-long for any that has more bytes than there is room for.
use mathlib.Core.Path.{◌≡◌, refl, sym, ap, ◌∙◌, subst}
use mathlib.Core.Bool.{Bool, true, false}
use mathlib.Core.List.{List, [], ◌∷◌, ◌++◌}
use native.Mathlib.Numerals.{add-one}
use native.Mathlib.Omega.{arith}
use Prim.Native.Nat.{ℕ, ◌+◌, ◌≤◌, ◌<◌}
use lib.Dec.{ltb}
use lib.ListN.{length, take, set, length-append, length-set}
use lib.Seq.{take-suc-set, length-take-le}
use borrow.Author.Tests.{ltb-true, ltb-false}
use Rattle.lists.specs.Choice.{pick}
use Rattle.lists.specs.Machine.{Turn, run, Answered}
use Rattle.lists.proofs.Cases.{by_bool}
use Rattle.lists.proofs.Machines.{ran-run}
use Rattle.framing.specs.Reference.{Call, byte, finish, Role, starts, stops, plain, FlagFree, Candidate, none}
use Rattle.framing.specs.Reference.{opened, Protocol, byte_answer, byte_after, end_answer, answer_to, candidate_after}
use Rattle.framing.specs.Reference.{reference}
use Rattle.framing.specs.Demand3.{Follows, Demand3}
use Rattle.framing.specs.declared.Mode.TheVariants.{Outside, Inside, Overlong}
use Rattle.framing.specs.Bounded.{BoundedMode, BoundedReader, bounded, Bounds, Suits}
use Rattle.framing.specs.Bounded.{truncated_in, terminated_in, left_by_stop, grown_in, byte_turn, bounded_turn}
use Rattle.framing.proofs.Restart.{follows, demand3_of}

-- bytes that are no flags, and one more
pub more_free : (role : ℕ → Role) (body : List ℕ) (b : ℕ) → FlagFree role body → role b ≡ plain
    → FlagFree role (body ++ b ∷ [])
more_free role [] b f e = (e, tt)
more_free role (x ∷ body) b f e = (f.0, more_free role body b f.1 e)

module _ {K A : Type 0} (P : Protocol A) (B : Bounds K A) (suits : Suits P B) where
  -- the decoder's candidate is of a kind, with these bytes after its start flag
  pub record HoldsBody (kind : K) (body : List ℕ) (k : Candidate) : Type 0 where
    pub flag : ℕ
    pub starting : P.role flag ≡ starts
    pub opens : B.kind flag ≡ kind
    pub holds : k ≡ opened (flag ∷ body)
    pub flag_free : FlagFree P.role body

  abbrev pub StandsAt : BoundedMode K → List ℕ → ℕ → Candidate → Type 0
  StandsAt Outside bytes len k = k ≡ none
  StandsAt (Inside kind) bytes len k = (len ≤ B.capacity) × HoldsBody kind (take len bytes) k
  StandsAt Overlong bytes len k = (kind : K) × (body : List ℕ) × (B.capacity < length body) × HoldsBody kind body k

  abbrev pub StandsFor : BoundedReader K → Candidate → Type 0
  StandsFor r k = (length r.bytes ≡ B.capacity) × StandsAt r.mode r.bytes r.len k

  -- ---- a start flag, and the end of input

  truncated_at : (m : BoundedMode K) (bytes : List ℕ) (len : ℕ) (k : Candidate) (b : ℕ) → StandsAt m bytes len k
      → (truncated_in P B m ≡ byte_answer P starts k b) × (truncated_in P B m ≡ end_answer P k)
  truncated_at Outside bytes len k b s = rw s (refl, refl)
  truncated_at (Inside kind) bytes len k b s = rw s.1.holds (refl, refl)
  truncated_at Overlong bytes len k b s = rw s.3.holds (refl, refl)

  -- ---- the stop flag

  terminated_at : (m : BoundedMode K) (bytes : List ℕ) (len : ℕ) (k : Candidate) (b : ℕ) → P.role b ≡ stops
      → length bytes ≡ B.capacity
      → StandsAt m bytes len k → terminated_in P B m bytes len ≡ byte_answer P stops k b
  terminated_at Outside bytes len k b e n s = rw s
  terminated_at (Inside kind) bytes len k b e n s =
      let h = s.1 in
      let judged = suits.held h.flag (take len bytes) b h.starting e in
      rw h.holds (sym (judged ∙ ap (λ (x : K). B.judge x (take len bytes)) h.opens))
  terminated_at Overlong bytes len k b e n s =
      let h = s.3 in
      rw h.holds (sym (suits.too_long h.flag s.1 b h.starting h.flag_free e s.2))

  kept_at : (m : BoundedMode K) (bytes : List ℕ) (len : ℕ) → length bytes ≡ B.capacity
      → length (left_by_stop P B m bytes len) ≡ B.capacity
  kept_at Outside bytes len e = e
  kept_at (Inside kind) bytes len e = suits.kept kind len bytes e
  kept_at Overlong bytes len e = e

  grown_kept : (m : BoundedMode K) (bytes : List ℕ) (len b : ℕ) → length bytes ≡ B.capacity
      → length (grown_in P B m bytes len b).bytes ≡ B.capacity
  grown_kept Outside bytes len b h = h
  grown_kept (Inside kind) bytes len b h =
      by_bool (ltb len B.capacity) (λ y. simp (y, length-set bytes len b) h) (λ n. simp n h)
  grown_kept Overlong bytes len b h = h

  byte_kept : (r : BoundedReader K) (b : ℕ) → length r.bytes ≡ B.capacity → (ρ : Role)
      → length (byte_turn P B ρ r b).next.bytes ≡ B.capacity
  byte_kept r b h starts = h
  byte_kept r b h stops = kept_at r.mode r.bytes r.len h
  byte_kept r b h plain = grown_kept r.mode r.bytes r.len b h

  -- Every call keeps the array's length.
  pub bounded_kept : (r : BoundedReader K) (c : Call) → length r.bytes ≡ B.capacity
      → length (bounded_turn P B r c).next.bytes ≡ B.capacity
  bounded_kept r (byte b) h = byte_kept r b h (P.role b)
  bounded_kept r finish h = h

  -- ---- any other byte

  grows : (kind : K) (body : List ℕ) (k : Candidate) (b : ℕ) → P.role b ≡ plain → HoldsBody kind body k
      → HoldsBody kind (body ++ b ∷ []) (byte_after P plain k b)
  grows kind body k b e h = record {
    flag = h.flag;
    starting = h.starting;
    opens = h.opens;
    holds = rw h.holds;
    flag_free = more_free P.role body b h.flag_free e;
  }

  grown_at : (m : BoundedMode K) (bytes : List ℕ) (len : ℕ) (k : Candidate) (b : ℕ) → length bytes ≡ B.capacity
      → P.role b ≡ plain
      → StandsAt m bytes len k → StandsFor (grown_in P B m bytes len b) (byte_after P plain k b)
  grown_at Outside bytes len k b e q s = (e, rw s)
  grown_at (Inside kind) bytes len k b e q s = by_capacity (ltb len B.capacity) refl
    where
      by_capacity : (t : Bool) → ltb len B.capacity ≡ t
          → StandsFor (pick t (bounded (set bytes len b) (len + 1) (Inside kind)) (bounded bytes 0 Overlong))
          (byte_after P plain k b)
      by_capacity true y =
          let l : len < B.capacity = ltb-true len B.capacity y in
          let f : take len bytes ++ b ∷ [] ≡ take (len + 1) (set bytes len b) =
          rw (add-one, take-suc-set bytes len b (omega arith)) in
          let g = grows kind (take len bytes) k b q s.1 in
          (simp length-set e, (omega arith, subst (λ (x : List ℕ). HoldsBody kind x (byte_after P plain k b)) f g))
      by_capacity false y =
          let l : B.capacity ≤ len = ltb-false len B.capacity y in
          let u : length (take len bytes) ≡ len = length-take-le len bytes (omega (arith, s.0)) in (
            e,
            (
              kind,
              take len bytes ++ b ∷ [],
              omega (arith, length-append (take len bytes) (b ∷ [])),
              grows kind
                  (take len bytes) k b q s.1,
            ),
          )
  grown_at Overlong bytes len k b e q s =
      (e, (s.0, s.1 ++ b ∷ [], omega (arith, length-append s.1 (b ∷ []), s.2), grows s.0 s.1 k b q s.3))

  -- ---- a call

  -- a call that is answered as the decoder answers at a role, and goes where the decoder goes
  abbrev Agrees : Turn (BoundedReader K) A → Role → Candidate → ℕ → Type 0
  Agrees t ρ k b = (t.answer ≡ byte_answer P ρ k b) × StandsFor t.next (byte_after P ρ k b)

  byte_at : (r : BoundedReader K) (k : Candidate) (b : ℕ) → StandsFor r k → (ρ : Role) → P.role b ≡ ρ
      → Agrees (byte_turn P B ρ r b) ρ k b
  byte_at r k b s starts e =
      let begins : HoldsBody (B.kind b) [] (opened (b ∷ [])) =
      record { flag = b; starting = e; opens = refl; holds = refl; flag_free = tt } in
      ((truncated_at r.mode r.bytes r.len k b s.1).0, (s.0, (omega arith, begins)))
  byte_at r k b s stops e = (
    terminated_at r.mode r.bytes r.len k b e s.0 s.1,
    (kept_at r.mode r.bytes r.len s.0, refl),
  )
  byte_at r k b s plain e = (refl, grown_at r.mode r.bytes r.len k b s.0 e s.1)

  call_at : (r : BoundedReader K) (k : Candidate) (c : Call) → StandsFor r k
      → ((bounded_turn P B r c).answer ≡ answer_to P k c) × StandsFor (bounded_turn P B r c).next (candidate_after P k c)
  call_at r k (byte b) s = byte_at r k b s (P.role b) refl
  call_at r k finish s = ((truncated_at r.mode r.bytes r.len k 0 s.1).1, (s.0, refl))

  -- ---- what can be seen as a bounded reader

  module _ {S : Type 0} (sort : S → Type 0) (turn_of : S → Call → Turn S A) (seen : S → BoundedReader K)
      (same : (s : S) (c : Call) → sort s → ((turn_of s c).answer ≡ (bounded_turn P B (seen s) c).answer)
      × (seen (turn_of s c).next ≡ (bounded_turn P B (seen s) c).next) × sort (turn_of s c).next) where
    -- A state of one sort is seen as a bounded reader that stands for the decoder's candidate.
    abbrev pub SeenFor : S → Candidate → Type 0
    SeenFor s k = sort s × StandsFor (seen s) k

    -- Each call is answered as the decoder answers it, and keeps that.
    pub seen_call : (s : S) (k : Candidate) (c : Call) → SeenFor s k
        → ((turn_of s c).answer ≡ answer_to P k c) × SeenFor (turn_of s c).next (candidate_after P k c)
    seen_call s k c r =
        let q = call_at (seen s) k c r.1 in
        let t = same s c r.0 in (
          t.0 ∙ q.0,
          (t.2, subst (λ (x : BoundedReader K). StandsFor x (candidate_after P k c)) (sym t.1) q.1),
        )

    -- One that is outside of a candidate stands for none: what the array and the length are doesn't matter.
    pub seen_outside : (s : S) → sort s → length (seen s).bytes ≡ B.capacity → (seen s).mode ≡ Outside → SeenFor s none
    seen_outside s h e o =
        (h, (e, subst (λ (m : BoundedMode K). StandsAt m (seen s).bytes (seen s).len none) (sym o) refl))

    -- Demand 3 of a machine whose states of one sort can be seen as a bounded reader and stay of that sort, from a state
    -- that is outside of a candidate.
    pub bounded_follows : (s : S) → sort s → length (seen s).bytes ≡ B.capacity → (seen s).mode ≡ Outside
        → Follows P (run (λ s c. (turn_of s c).answer) (λ s c. (turn_of s c).next) s)
    bounded_follows s h e o =
        follows P (λ s c. (turn_of s c).answer) (λ s c. (turn_of s c).next) SeenFor seen_call s (seen_outside s h e o)

  -- Demand 3 of functions whose contracts say that each call on a state is one on the bounded reader that the state is
  -- seen as, from what is known of a new state.
  module _ {S : Type 0} (called : S → Call → A → S → Type 0) (new : S → Type 0) (seen : S → BoundedReader K)
      (each : (s t : S) (c : Call) (a : A) → called s c a t
      → (a ≡ (bounded_turn P B (seen s) c).answer) × (seen t ≡ (bounded_turn P B (seen s) c).next))
      (new_outside : (s : S) → new s → (length (seen s).bytes ≡ B.capacity) × ((seen s).mode ≡ Outside)) where
    abbrev from : BoundedReader K → List Call → List A
    from r calls = run (λ s c. (bounded_turn P B s c).answer) (λ s c. (bounded_turn P B s c).next) r calls

    from_new : (s : S) → new s → (calls : List Call) → from (seen s) calls ≡ reference P calls
    from_new s n calls =
        let o = new_outside s n in
        (bounded_follows (λ r. Unit {0}) (bounded_turn P B) (λ r. r) (λ r c h. (refl, refl, tt)) (seen s) tt o.0 o.1).same
        calls

    pub bounded_demand_3 : Demand3 P (Answered called new)
    bounded_demand_3 =
        demand3_of P (Answered called new)
        (λ calls answers k. (ran-run called (λ s c. (bounded_turn P B s c).answer)
        (λ s c. (bounded_turn P B s c).next) seen each k.ran).0
        ∙ from_new k.start k.made calls)

-- ---- what every answer has, and what every call keeps

module _ {K A : Type 0} (P : Protocol A) (B : Bounds K A) where
  -- What nothing, the truncation and the answer to an over-long candidate have with every array, and every judgement with
  -- the array that it leaves, every answer has with the array that is left.
  module _ (T : A → List ℕ → Type 0) (quiet : (bytes : List ℕ) → T P.nothing bytes)
      (cut : (bytes : List ℕ) → T P.truncated bytes) (long : (bytes : List ℕ) → T B.long bytes)
      (judges : (kind : K) (body bytes : List ℕ) → T (B.judge kind body) (B.left (B.judge kind body) bytes)) where
    at_truncation : (m : BoundedMode K) (bytes : List ℕ) → T (truncated_in P B m) bytes
    at_truncation Outside bytes = quiet bytes
    at_truncation (Inside kind) bytes = cut bytes
    at_truncation Overlong bytes = cut bytes

    at_termination : (m : BoundedMode K) (bytes : List ℕ) (len : ℕ)
        → T (terminated_in P B m bytes len) (left_by_stop P B m bytes len)
    at_termination Outside bytes len = quiet bytes
    at_termination (Inside kind) bytes len = judges kind (take len bytes) bytes
    at_termination Overlong bytes len = long bytes

    at_byte : (r : BoundedReader K) (b : ℕ) (ρ : Role) → T (byte_turn P B ρ r b).answer (byte_turn P B ρ r b).next.bytes
    at_byte r b starts = at_truncation r.mode r.bytes
    at_byte r b stops = at_termination r.mode r.bytes r.len
    at_byte r b plain = quiet (grown_in P B r.mode r.bytes r.len b).bytes

    pub bounded_left : (r : BoundedReader K) (c : Call)
        → T (bounded_turn P B r c).answer (bounded_turn P B r c).next.bytes
    bounded_left r (byte b) = at_byte r b (P.role b)
    bounded_left r finish = at_truncation r.mode r.bytes

  -- What they have whatever the array is.
  pub bounded_answer : (T : A → Type 0) → T P.nothing → T P.truncated → T B.long
      → ((kind : K) (body : List ℕ) → T (B.judge kind body)) → (r : BoundedReader K) (c : Call)
      → T (bounded_turn P B r c).answer
  bounded_answer T quiet cut long judges =
      bounded_left (λ a bytes. T a) (λ bytes. quiet) (λ bytes. cut) (λ bytes. long) (λ kind body bytes. judges kind body)

  -- A length below a limit above the capacity stays below it.
  pub bounded_len : (limit : ℕ) → B.capacity < limit → (r : BoundedReader K) (c : Call) → r.len < limit
      → (bounded_turn P B r c).next.len < limit
  bounded_len limit room r (byte b) h = of_byte (P.role b)
    where
      grown : (m : BoundedMode K) → (grown_in P B m r.bytes r.len b).len < limit
      grown Outside = h
      grown (Inside kind) =
          by_bool (ltb r.len B.capacity) (λ y. simp y (omega (arith, room, ltb-true r.len B.capacity y)))
          (λ n. simp n (omega (arith, room)))
      grown Overlong = h

      of_byte : (ρ : Role) → (byte_turn P B ρ r b).next.len < limit
      of_byte starts = omega (arith, room)
      of_byte stops = omega (arith, room)
      of_byte plain = grown r.mode
  bounded_len limit room r finish h = omega (arith, room)
