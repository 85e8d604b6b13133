-- What keeps demand 3 with positions answers as the table says: what is told, and where, by the calls alone.
use mathlib.Core.Path.{◌≡◌, refl, sym, ap, ap₂, ◌∙◌, subst}
use mathlib.Core.Bool.{Bool, true, false}
use mathlib.Core.List.{List, [], ◌∷◌, ◌++◌, map, append_assoc, append-nil}
use native.Mathlib.Omega.{arith}
use Prim.Native.Nat.{ℕ, ◌+◌, ◌≤◌, ◌<◌}
use lib.Dec.{ltb}
use lib.ListN.{length, drop, length-append}
use lib.Seq.{drop_at}
use borrow.Author.Tests.{le-ltb, ltb-true, ltb-false}
use Rattle.lists.specs.Choice.{pick}
use Rattle.lists.specs.Machine.{left_after}
use Rattle.lists.proofs.Cases.{by_bool}
use Rattle.lists.proofs.Lists.{last_same}
use Rattle.lists.proofs.Machines.{run-append, run_length, left_append}
use Rattle.framing.specs.Reference.{Call, byte, finish, Role, starts, stops, plain}
use Rattle.framing.specs.Demand3.{feed}
use Rattle.framing.specs.Located.{Located, unlocated, located, answer_in, position_in, CandidateAt, no_candidate}
use Rattle.framing.specs.Located.{candidate_at, Counted, counted, new_counted, LocatedProtocol, byte_answer_at}
use Rattle.framing.specs.Located.{byte_after_at, end_answer_at, located_answer, located_after, located_reference}
use Rattle.framing.specs.LocatedDemand3.{bytes_since_finish, LocatedDemand3}
use Rattle.framing.specs.LocatedTable.{OpenAt, ToldAt, terminates, truncates, finishes, overruns, LocatedLaws}
use Rattle.framing.proofs.Restart.{feed-append}
use Rattle.framing.proofs.Bounded.{more_free}
use Rattle.framing.proofs.Located.{from, taken_answer, full_after, as_new_at_finish}
use Rattle.framing.proofs.Located.{without_positions as erased}
use Rattle.framing.proofs.LocatedCandidates.{counted_capped, left_opened_at, as_new_at_stop}

-- ---- candidates and answers apart

abbrev place_in : CandidateAt → ℕ
place_in no_candidate = 0
place_in (candidate_at position s) = position

abbrev bytes_in : CandidateAt → List ℕ
bytes_in no_candidate = []
bytes_in (candidate_at position s) = s

-- how many candidates are open
abbrev open_in : CandidateAt → ℕ
open_in no_candidate = 0
open_in (candidate_at position s) = 1

-- how many answers tell something
abbrev told_in : {A : Type 0} → Located A → ℕ
told_in (unlocated a) = 0
told_in (located position a) = 1

module _ {A : Type 0} (Q : LocatedProtocol A) where
  -- the state after calls
  abbrev after : List Call → Counted
  after calls = left_after (located_after Q) new_counted calls

  -- ---- the count

  room_after : (calls : List Call) → bytes_since_finish 0 calls < Q.limit → (after calls).count < Q.limit
  room_after calls h = omega (arith, h, (counted_capped Q calls).0 (omega (arith, h)))

  room_before : (calls : List Call) → (after calls).count < Q.limit → bytes_since_finish 0 calls < Q.limit
  room_before calls h =
      by_bool (ltb (bytes_since_finish 0 calls) Q.limit) (λ y. ltb-true (bytes_since_finish 0 calls) Q.limit y)
      (λ n. absurd (omega (arith, h, (counted_capped Q calls).1 (ltb-false (bytes_since_finish 0 calls) Q.limit n))))

  full_count : (calls : List Call) → Q.limit ≤ bytes_since_finish 0 calls → Q.limit ≤ (after calls).count
  full_count calls h = omega (arith, (counted_capped Q calls).1 h)

  full_before : (calls : List Call) → Q.limit ≤ (after calls).count → Q.limit ≤ bytes_since_finish 0 calls
  full_before calls h =
      by_bool (ltb (bytes_since_finish 0 calls) Q.limit)
      (λ y. let l : bytes_since_finish 0 calls < Q.limit = ltb-true (bytes_since_finish 0 calls) Q.limit y in
      absurd (omega (arith, l, h, (counted_capped Q calls).0 (omega (arith, l)))))
      (λ n. ltb-false (bytes_since_finish 0 calls) Q.limit n)

  -- bytes at a full count leave the state
  full_left : (s : Counted) (over : List ℕ) → Q.limit ≤ s.count → left_after (located_after Q) s (feed over) ≡ s
  full_left s [] h = refl
  full_left s (b ∷ over) h =
      let e : located_after Q s (byte b) ≡ s = rw (le-ltb s.count Q.limit h) in
      ap (λ (t : Counted). left_after (located_after Q) t (feed over)) e ∙ full_left s over h

  -- ---- what is open, by the calls

  open_state : (calls : List Call) (position : ℕ) (o : OpenAt Q calls position)
      → (after calls).candidate ≡ candidate_at position (o.flag ∷ o.body)
  open_state calls position o =
      let k = counted (candidate_at position (o.flag ∷ o.body)) (position + length (o.flag ∷ o.body)) in
      let s : after (o.before ++ feed (o.flag ∷ o.body)) ≡ k =
      left_opened_at Q o.before o.flag o.body o.starting o.flag_free (omega (arith, o.place, o.taken))
      ∙ ap (λ (n : ℕ). counted (candidate_at n (o.flag ∷ o.body)) (n + length (o.flag ∷ o.body))) o.place in
      ap (λ (l : List Call). (after l).candidate) o.splits
      ∙ ap (λ (t : Counted). t.candidate)
      (left_append (located_after Q) new_counted (o.before ++ feed (o.flag ∷ o.body)) (feed o.over))
      ∙ ap (λ (t : Counted). (left_after (located_after Q) t (feed o.over)).candidate) s
      ∙ by_over k o.over o.reached
    where
      by_over : (k : Counted) (over : List ℕ) → (0 < length over → k.count ≡ Q.limit)
          → (left_after (located_after Q) k (feed over)).candidate ≡ k.candidate
      by_over k [] h = refl
      by_over k (b ∷ over) h =
          ap (λ (t : Counted). t.candidate) (full_left k (b ∷ over) (omega (arith, h (omega arith))))

  -- The candidate that the decoder holds began where the calls say, has these bytes, and ends at the count.
  abbrev Opens : List Call → Counted → Type 0
  Opens calls u = (position : ℕ) (s : List ℕ) → u.candidate ≡ candidate_at position s
      → (o : OpenAt Q calls position) × ((s ≡ o.flag ∷ o.body) × (u.count ≡ position + length s))

  -- a start flag that is taken
  opens_start : (pre : List Call) (b : ℕ) → Q.protocol.role b ≡ starts → (after pre).count < Q.limit
      → Opens (pre ++ byte b ∷ []) (counted (candidate_at (after pre).count (b ∷ [])) ((after pre).count + 1))
  opens_start pre b q h position s e =
      let n = (after pre).count in
      let l : bytes_since_finish 0 pre < Q.limit = room_before pre h in
      let c : n ≡ bytes_since_finish 0 pre = (counted_capped Q pre).0 (omega (arith, l)) in
      let p : n ≡ position = ap place_in e in
      let t : b ∷ [] ≡ s = ap bytes_in e in
      let m : n + 1 ≡ position + length s = omega (arith, p, ap length t) in (
        record {
          before = pre;
          flag = b;
          body = [];
          over = [];
          splits = sym (append-nil (pre ++ byte b ∷ []));
          starting = q;
          flag_free = tt;
          place = sym c ∙ p;
          taken = omega (arith, h, p);
          reached = λ z. absurd (omega (arith, z));
        },
        (sym t, m),
      )

  -- a byte that is no flag, in an open candidate
  opens_plain : (pre : List Call) (b position : ℕ) (s : List ℕ) → Q.protocol.role b ≡ plain
      → (after pre).count < Q.limit → (o : OpenAt Q pre position) → s ≡ o.flag ∷ o.body
      → (after pre).count ≡ position + length s → (over : List ℕ) → o.over ≡ over
      → (p : OpenAt Q (pre ++ byte b ∷ []) position) × (s ++ b ∷ [] ≡ p.flag ∷ p.body)
  opens_plain pre b position s q h o t n [] v =
      let fed : pre ≡ o.before ++ feed (o.flag ∷ o.body) =
      o.splits
      ∙ ap (λ (l : List ℕ). (o.before ++ feed (o.flag ∷ o.body)) ++ feed l) v
      ∙ append-nil (o.before ++ feed (o.flag ∷ o.body)) in
      let whole : feed (o.flag ∷ o.body) ++ byte b ∷ [] ≡ feed (o.flag ∷ (o.body ++ b ∷ [])) =
      sym (feed-append (o.flag ∷ o.body) (b ∷ [])) in
      let m : length (o.body ++ b ∷ []) ≡ length o.body + 1 = length-append o.body (b ∷ []) in (
        record {
          before = o.before;
          flag = o.flag;
          body = o.body ++ b ∷ [];
          over = [];
          splits = ap (λ (l : List Call). l ++ byte b ∷ []) fed
              ∙ append_assoc o.before (feed (o.flag ∷ o.body)) (byte b ∷ [])
              ∙ ap (λ (l : List Call). o.before ++ l) whole
              ∙ sym (append-nil (o.before ++ feed (o.flag ∷ (o.body ++ b ∷ []))));
          starting = o.starting;
          flag_free = more_free Q.protocol.role o.body b o.flag_free q;
          place = o.place;
          taken = omega (arith, h, n, ap length t, m);
          reached = λ z. absurd (omega (arith, z));
        },
        ap (λ (l : List ℕ). l ++ b ∷ []) t,
      )
  opens_plain pre b position s q h o t n (x ∷ over) v =
      let r = o.reached (omega (arith, ap length v)) in
      absurd (omega (arith, h, n, ap length t, r))

  -- a byte that is refused
  opens_over : (pre : List Call) (b position : ℕ) (s : List ℕ) → Q.limit ≤ (after pre).count
      → (o : OpenAt Q pre position) → s ≡ o.flag ∷ o.body → (after pre).count ≡ position + length s
      → (p : OpenAt Q (pre ++ byte b ∷ []) position) × (s ≡ p.flag ∷ p.body)
  opens_over pre b position s h o t n = (
    record {
      before = o.before;
      flag = o.flag;
      body = o.body;
      over = o.over ++ b ∷ [];
      splits = ap (λ (l : List Call). l ++ byte b ∷ []) o.splits
          ∙ append_assoc (o.before ++ feed (o.flag ∷ o.body)) (feed o.over) (byte b ∷ [])
          ∙ ap (λ (l : List Call). (o.before ++ feed (o.flag ∷ o.body)) ++ l) (sym (feed-append o.over (b ∷ [])));
      starting = o.starting;
      flag_free = o.flag_free;
      place = o.place;
      taken = o.taken;
      reached = λ z. omega (arith, h, n, ap length t, o.taken);
    },
    t,
  )

  -- one call more
  opens_step : (pre : List Call) (c : Call) → Opens pre (after pre) → Opens (pre ++ c ∷ []) (located_after Q (after pre) c)
  opens_step pre finish k = λ position s e. absurd (omega (arith, ap open_in e))
  opens_step pre (byte b) k = by_room (ltb (after pre).count Q.limit) refl
    where
      u : Counted
      u = after pre

      by_role : u.count < Q.limit → (ρ : Role) → Q.protocol.role b ≡ ρ → (x : CandidateAt) → u.candidate ≡ x
          → Opens (pre ++ byte b ∷ []) (counted (byte_after_at Q ρ x u.count b) (u.count + 1))
      by_role h starts q x f position s e = opens_start pre b q h position s e
      by_role h stops q x f position s e = absurd (omega (arith, ap open_in e))
      by_role h plain q no_candidate f position s e = absurd (omega (arith, ap open_in e))
      by_role h plain q (candidate_at p t) f position s e =
          let old = k p t f in
          let new = opens_plain pre b p t q h old.0 old.1.0 old.1.1 old.0.over refl in
          let g : t ++ b ∷ [] ≡ s = ap bytes_in e in
          let m : length (t ++ b ∷ []) ≡ length t + 1 = length-append t (b ∷ []) in
          subst (λ (z : ℕ). (o : OpenAt Q (pre ++ byte b ∷ []) z)
          × ((s ≡ o.flag ∷ o.body) × (u.count + 1 ≡ z + length s))) (ap place_in e)
          (new.0, (sym g ∙ new.1, omega (arith, old.1.1, m, ap length g)))

      by_room : (room : Bool) → ltb u.count Q.limit ≡ room
          → Opens (pre ++ byte b ∷ [])
          (pick room (counted (byte_after_at Q (Q.protocol.role b) u.candidate u.count b) (u.count + 1)) u)
      by_room true y position s e =
          by_role (ltb-true u.count Q.limit y) (Q.protocol.role b) refl u.candidate refl position s e
      by_room false n position s e =
          let old = k position s e in
          let new = opens_over pre b position s (ltb-false u.count Q.limit n) old.0 old.1.0 old.1.1 in
          (new.0, (new.1, old.1.1))

  opens_on : (pre rest : List Call) → Opens pre (after pre) → Opens (pre ++ rest) (after (pre ++ rest))
  opens_on pre [] k = subst (λ (l : List Call). Opens l (after l)) (sym (append-nil pre)) k
  opens_on pre (c ∷ rest) k =
      let one : Opens (pre ++ c ∷ []) (after (pre ++ c ∷ [])) =
      subst (Opens (pre ++ c ∷ [])) (sym (left_append (located_after Q) new_counted pre (c ∷ []))) (opens_step pre c k) in
      subst (λ (l : List Call). Opens l (after l)) (append_assoc pre (c ∷ []) rest) (opens_on (pre ++ c ∷ []) rest one)

  state_open : (calls : List Call) → Opens calls (after calls)
  state_open calls = opens_on [] calls (λ position s e. absurd (omega (arith, ap open_in e)))

  -- ---- the answer to a call, by the calls before it

  -- a byte that is taken
  at_room : (calls : List Call) (b : ℕ) → bytes_since_finish 0 calls < Q.limit
      → located_answer Q (after calls) (byte b) ≡ byte_answer_at Q (Q.protocol.role b) (after calls).candidate b
  at_room calls b h = taken_answer Q (after calls).candidate (after calls).count b (room_after calls h)

  -- what the table says is told
  is_told : (calls : List Call) (c : Call) (position : ℕ) (a : A) → ToldAt Q calls c position a
      → located_answer Q (after calls) c ≡ located position a
  is_told calls c position a (terminates {b} o q h) =
      at_room calls b h ∙ ap₂ (λ (ρ : Role) (k : CandidateAt). byte_answer_at Q ρ k b) q (open_state calls position o)
  is_told calls c position a (truncates {b} o q h) =
      at_room calls b h ∙ ap₂ (λ (ρ : Role) (k : CandidateAt). byte_answer_at Q ρ k b) q (open_state calls position o)
  is_told calls c position a (finishes o) = ap (end_answer_at Q) (open_state calls position o)
  is_told calls c position a (overruns {b} h) = rw (le-ltb (after calls).count Q.limit (full_count calls h))

  -- what is told is in the table
  told_is : (calls : List Call) (c : Call) (position : ℕ) (a : A) → located_answer Q (after calls) c ≡ located position a
      → ToldAt Q calls c position a
  told_is calls finish position a e = by_candidate (after calls).candidate refl e
    where
      by_candidate : (k : CandidateAt) → (after calls).candidate ≡ k → end_answer_at Q k ≡ located position a
          → ToldAt Q calls finish position a
      by_candidate no_candidate f e = absurd (omega (arith, ap told_in e))
      by_candidate (candidate_at p s) f e =
          subst (ToldAt Q calls finish position) (ap answer_in e)
          (subst (λ (n : ℕ). ToldAt Q calls finish n Q.protocol.truncated) (ap position_in e)
          (finishes (state_open calls p s f).0))
  told_is calls (byte b) position a e = by_room (ltb (after calls).count Q.limit) refl e
    where
      at : {x : A} {n : ℕ} → ToldAt Q calls (byte b) n x → n ≡ position → x ≡ a → ToldAt Q calls (byte b) position a
      at {x} {n} t p q = subst (ToldAt Q calls (byte b) position) q (subst (λ (m : ℕ). ToldAt Q calls (byte b) m x) p t)

      by_role : bytes_since_finish 0 calls < Q.limit → (ρ : Role) → Q.protocol.role b ≡ ρ → (k : CandidateAt)
          → (after calls).candidate ≡ k → byte_answer_at Q ρ k b ≡ located position a → ToldAt Q calls (byte b) position a
      by_role h starts q no_candidate f e = absurd (omega (arith, ap told_in e))
      by_role h starts q (candidate_at p s) f e =
          at (truncates (state_open calls p s f).0 q h) (ap position_in e) (ap answer_in e)
      by_role h stops q no_candidate f e = absurd (omega (arith, ap told_in e))
      by_role h stops q (candidate_at p s) f e =
          let o = state_open calls p s f in
          at (terminates o.0 q h) (ap position_in e)
          (sym (ap (λ (t : List ℕ). Q.protocol.judge (t ++ b ∷ [])) o.1.0) ∙ ap answer_in e)
      by_role h plain q k f e = absurd (omega (arith, ap told_in e))

      by_room : (room : Bool) → ltb (after calls).count Q.limit ≡ room
          → pick room (byte_answer_at Q (Q.protocol.role b) (after calls).candidate b) (located 0 Q.full)
          ≡ located position a → ToldAt Q calls (byte b) position a
      by_room true y e =
          by_role (room_before calls (ltb-true (after calls).count Q.limit y)) (Q.protocol.role b) refl
          (after calls).candidate refl e
      by_room false n e =
          at (overruns (full_before calls (ltb-false (after calls).count Q.limit n))) (ap position_in e) (ap answer_in e)

  -- an answer without a position is nothing
  told_or_nothing : (u : Counted) (c : Call) (x : Located A) → located_answer Q u c ≡ x
      → ((position : ℕ) (a : A) → x ≡ located position a → ⊥) → x ≡ unlocated Q.protocol.nothing
  told_or_nothing u c (located position a) e n = absurd (n position a refl)
  told_or_nothing u finish (unlocated a) e n = by_candidate u.candidate e
    where
      by_candidate : (k : CandidateAt) → end_answer_at Q k ≡ unlocated a → unlocated a ≡ unlocated Q.protocol.nothing
      by_candidate no_candidate f = sym f
      by_candidate (candidate_at p s) f = absurd (omega (arith, ap told_in f))
  told_or_nothing u (byte b) (unlocated a) e n = by_room (ltb u.count Q.limit) e
    where
      by_role : (ρ : Role) (k : CandidateAt) → byte_answer_at Q ρ k b ≡ unlocated a
          → unlocated a ≡ unlocated Q.protocol.nothing
      by_role starts no_candidate f = sym f
      by_role starts (candidate_at p s) f = absurd (omega (arith, ap told_in f))
      by_role stops no_candidate f = sym f
      by_role stops (candidate_at p s) f = absurd (omega (arith, ap told_in f))
      by_role plain k f = sym f

      by_room : (room : Bool) → pick room (byte_answer_at Q (Q.protocol.role b) u.candidate b) (located 0 Q.full)
          ≡ unlocated a → unlocated a ≡ unlocated Q.protocol.nothing
      by_room true f = by_role (Q.protocol.role b) u.candidate f
      by_room false f = absurd (omega (arith, ap told_in f))

  -- ---- bytes past the limit

  pub full_keeps : (calls : List Call) (more : List ℕ) (rest : List Call) → Q.limit ≤ bytes_since_finish 0 calls
      → located_reference Q (calls ++ (feed more ++ rest))
      ≡ located_reference Q calls ++ (map (λ b. located 0 Q.full) more ++ drop (length calls)
      (located_reference Q (calls ++ rest)))
  full_keeps calls more rest h =
      let s = after calls in
      let l = run_length (located_answer Q) (located_after Q) new_counted calls in
      let d : drop (length calls) (located_reference Q (calls ++ rest)) ≡ from Q s rest =
      ap (drop (length calls)) (run-append (located_answer Q) (located_after Q) new_counted calls rest)
      ∙ drop_at (located_reference Q calls) (from Q s rest) (length calls) l in
      run-append (located_answer Q) (located_after Q) new_counted calls (feed more ++ rest)
      ∙ ap (λ (x : List (Located A)). located_reference Q calls ++ x) (full_after Q s more rest (full_count calls h))
      ∙ sym (ap (λ (x : List (Located A)). located_reference Q calls ++ (map (λ b. located 0 Q.full) more ++ x)) d)

  -- ---- of what keeps demand 3 with positions

  module _ (answered : List Call → List (Located A) → Type 0) (d : LocatedDemand3 Q answered) where
    last_is : (calls : List Call) (c : Call) (earlier : List (Located A)) (last : Located A)
        → answered (calls ++ c ∷ []) (earlier ++ last ∷ []) → last ≡ located_answer Q (after calls) c
    last_is calls c earlier last k =
        last_same earlier (located_reference Q calls) last (located_answer Q (after calls) c)
        (d.same (calls ++ c ∷ []) (earlier ++ last ∷ []) k
        ∙ run-append (located_answer Q) (located_after Q) new_counted calls (c ∷ []))

    pub located_laws : LocatedLaws Q answered
    located_laws = record {
      told_exactly = λ calls c earlier last k position a.
          let e = last_is calls c earlier last k in
          ((λ f. told_is calls c position a (sym e ∙ f)), (λ t. e ∙ is_told calls c position a t));
      nothing_else = λ calls c earlier last k n.
          let e = last_is calls c earlier last k in
          told_or_nothing (after calls) c last (sym e) (λ position a f. n position a
          (told_is calls c position a (sym e ∙ f)));
      full_kept = λ calls more rest h all first without k l m.
          rw (d.same _ all k, d.same _ first l, d.same _ without m) (full_keeps calls more rest h);
      finish_renews = λ calls rest all first later k l m.
          rw (d.same _ all k, d.same _ first l, d.same _ later m)
          (as_new_at_finish Q (located_reference Q) (λ c. refl) calls rest);
      stop_closes = λ calls b rest q h all first later k l m.
          rw (d.same _ all k, d.same _ first l, d.same _ later m) (as_new_at_stop Q calls b q rest h);
      without_positions = λ calls answers k w. ap (map answer_in) (d.same calls answers k) ∙ erased Q calls w;
    }
