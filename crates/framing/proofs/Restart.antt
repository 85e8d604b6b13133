-- The reference decoder starts again at each start flag, and so does every machine that it simulates.
use mathlib.Core.Path.{◌≡◌, refl, sym, ap, ap₂, ◌∙◌}
use mathlib.Core.Logic.{◌⊎◌, inl, inr}
use mathlib.Core.List.{List, [], ◌∷◌, ◌++◌, map}
use native.Mathlib.Omega.{arith}
use Prim.Native.Nat.{ℕ}
use lib.ListN.{drop}
use Rattle.framing.specs.Reference.{Call, byte, finish, Role, starts, stops, plain, Candidate, none, opened}
use Rattle.framing.specs.Reference.{Protocol, byte_answer, byte_after, end_answer, answer_to, candidate_after, reference}
use Rattle.framing.specs.Reference.{FlagFree}
use Rattle.lists.specs.Machine.{run, left_after}
use Rattle.framing.specs.Demand3.{feed, told_by, LeftOpen, Restarts, Follows, Demand3}
use Rattle.lists.proofs.Machines.{run-append, left_append, runs_anew, run_told, simulates}

pub feed-append : (xs ys : List ℕ) → feed (xs ++ ys) ≡ feed xs ++ feed ys
feed-append [] ys = refl
feed-append (x ∷ xs) ys = ap (λ (l : List Call). byte x ∷ l) (feed-append xs ys)

module _ {A : Type 0} (P : Protocol A) where
  -- the answers from any open candidate on
  abbrev from : Candidate → List Call → List A
  from k calls = run (answer_to P) (candidate_after P) k calls

  -- the candidate that is open after bytes
  abbrev fed : Candidate → List ℕ → Candidate
  fed k bytes = left_after (candidate_after P) k (feed bytes)

  fed_append : (k : Candidate) (xs ys : List ℕ) → fed k (xs ++ ys) ≡ fed (fed k xs) ys
  fed_append k xs ys =
      ap (left_after (candidate_after P) k) (feed-append xs ys) ∙ left_append (candidate_after P) k (feed xs) (feed ys)

  -- a start flag opens a candidate, whatever was open
  opens : (k : Candidate) (w : ℕ) → P.role w ≡ starts → candidate_after P k (byte w) ≡ opened (w ∷ [])
  opens k w e = rw e

  -- ---- bytes that leave a candidate open

  -- bytes that are no flags keep it open
  keeps : (s bytes : List ℕ) → FlagFree P.role bytes → (t : List ℕ) × (fed (opened s) bytes ≡ opened t)
  keeps s [] n = (s, refl)
  keeps s (b ∷ bytes) n =
      let k : (t : List ℕ) × (fed (opened (s ++ b ∷ [])) bytes ≡ opened t) = keeps (s ++ b ∷ []) bytes n.1 in
      (k.0, ap (λ (ρ : Role). fed (byte_after P ρ (opened s) b) bytes) n.0 ∙ k.1)

  left_opened : (bytes : List ℕ) → LeftOpen P bytes → (t : List ℕ) × (fed none bytes ≡ opened t)
  left_opened bytes o =
      let k : (t : List ℕ) × (fed (opened (o.flag ∷ [])) o.rest ≡ opened t) =
      keeps (o.flag ∷ []) o.rest o.flag_free in (
        k.0,
        ap (fed none) o.splits ∙ fed_append none o.before (o.flag ∷ o.rest)
            ∙ ap (λ x. fed x o.rest) (opens (fed none o.before) o.flag o.starting) ∙ k.1,
      )

  -- what follows a start flag: bytes that are no flags, or bytes that leave a candidate open themselves
  data Since (bytes : List ℕ) : Type 0 where
    flagless : FlagFree P.role bytes → Since bytes
    again : LeftOpen P bytes → Since bytes

  later : (b : ℕ) (bytes : List ℕ) → LeftOpen P bytes → LeftOpen P (b ∷ bytes)
  later b bytes o =
      record {
        before = b ∷ o.before;
        flag = o.flag;
        rest = o.rest;
        splits = ap (λ l. b ∷ l) o.splits;
        starting = o.starting;
        flag_free = o.flag_free;
      }

  since : (b : ℕ) (bytes : List ℕ) → P.role b ≡ starts → Since bytes → LeftOpen P (b ∷ bytes)
  since b bytes e (flagless n) =
      record { before = []; flag = b; rest = bytes; splits = refl; starting = e; flag_free = n }
  since b bytes e (again o) = later b bytes o

  plainly : (b : ℕ) (bytes : List ℕ) → P.role b ≡ plain → Since bytes → Since (b ∷ bytes)
  plainly b bytes e (flagless n) = flagless (e, n)
  plainly b bytes e (again o) = again (later b bytes o)

  -- what an open candidate says of the bytes fed, from none and from one that was open
  abbrev Says : List ℕ → Type 0
  Says bytes =
      ((t : List ℕ) → fed none bytes ≡ opened t → LeftOpen P bytes)
      × ((s t : List ℕ) → fed (opened s) bytes ≡ opened t → Since bytes)

  from_none : (b : ℕ) (bytes : List ℕ) → Says bytes → (t : List ℕ) (ρ : Role) → P.role b ≡ ρ
      → fed (byte_after P ρ none b) bytes ≡ opened t → LeftOpen P (b ∷ bytes)
  from_none b bytes k t starts q e = since b bytes q (k.1 (b ∷ []) t e)
  from_none b bytes k t stops q e = later b bytes (k.0 t e)
  from_none b bytes k t plain q e = later b bytes (k.0 t e)

  from_opened : (b : ℕ) (bytes : List ℕ) → Says bytes → (s t : List ℕ) (ρ : Role) → P.role b ≡ ρ
      → fed (byte_after P ρ (opened s) b) bytes ≡ opened t
      → Since (b ∷ bytes)
  from_opened b bytes k s t starts q e = again (since b bytes q (k.1 (b ∷ []) t e))
  from_opened b bytes k s t stops q e = again (later b bytes (k.0 t e))
  from_opened b bytes k s t plain q e = plainly b bytes q (k.1 (s ++ b ∷ []) t e)

  says : (bytes : List ℕ) → Says bytes
  says [] = ((λ t e. let z : ◌≡◌ {A = ℕ} 0 1 = cc in absurd (omega arith)), λ s t e. flagless tt)
  says (b ∷ bytes) =
      let k : Says bytes = says bytes in
      ((λ t e. from_none b bytes k t (P.role b) refl e), λ s t e. from_opened b bytes k s t (P.role b) refl e)

  -- Bytes leave a candidate open or they don't, so that demand 3 says which answer the start flag gets.
  pub left_open_or_not : (bytes : List ℕ) → LeftOpen P bytes ⊎ (LeftOpen P bytes → ⊥)
  left_open_or_not bytes = by_candidate (fed none bytes) refl
    where
      by_candidate : (k : Candidate) → fed none bytes ≡ k → LeftOpen P bytes ⊎ (LeftOpen P bytes → ⊥)
      by_candidate none e = inr (λ o. let q : none ≡ opened (left_opened bytes o).0 = sym e ∙ (left_opened bytes o).1 in
          let z : ◌≡◌ {A = ℕ} 0 1 = cc in omega arith)
      by_candidate (opened t) e = inl ((says bytes).0 t e)

  -- A candidate that is open after bytes is one that they left open.
  pub opened_left : (bytes t : List ℕ) → left_after (candidate_after P) none (feed bytes) ≡ opened t → LeftOpen P bytes
  opened_left bytes t e = (says bytes).0 t e

  -- ---- D, W and L

  not_left_open : (D : List ℕ) (w : ℕ) (k : Candidate) → fed none D ≡ k → (LeftOpen P D → ⊥)
      → byte_answer P starts k w ≡ P.nothing
  not_left_open D w none e n = refl
  not_left_open D w (opened t) e n = absurd (n ((says D).0 t e))

  -- Demand 3's second part of the reference decoder.
  pub reference_restarts : (D : List ℕ) (w : ℕ) (W : List ℕ) (L : List Call) → P.role w ≡ starts
      → Restarts P D (reference P (feed D ++ (feed (w ∷ W) ++ L))) (reference P (feed D))
      (reference P (feed (w ∷ W) ++ L))
  reference_restarts D w W L e = record {
    first = answer_to P (fed none D) (byte w);
    whole = run-append (answer_to P) (candidate_after P) none (feed D) (feed (w ∷ W) ++ L)
        ∙ ap (λ k. from none (feed D) ++ answer_to P (fed none D) (byte w) ∷ from k (feed W ++ L))
        (opens (fed none D) w e ∙ sym (opens none w e));
    truncated = λ o. let k : (t : List ℕ) × (fed none D ≡ opened t) = left_opened D o in rw (e, k.1);
    nothing = λ n. rw e (not_left_open D w (fed none D) refl n);
  }

  -- ---- demand 3

  -- Demand 3 of any machine, from a relation that each of its calls keeps.
  pub follows : {S : Type 0} (answer : S → Call → A) (next : S → Call → S) (R : S → Candidate → Type 0)
      → ((s : S) (k : Candidate) (c : Call) → R s k
      → (answer s c ≡ answer_to P k c) × R (next s c) (candidate_after P k c))
      → (s : S) → R s none → Follows P (run answer next s)
  follows answer next R step s r =
      follows_of (run answer next s) (simulates answer next (answer_to P) (candidate_after P) R step s none r)
    where
      follows_of : (f : List Call → List A) → ((calls : List Call) → f calls ≡ reference P calls) → Follows P f
      follows_of f e = record {
        same = e;
        restarts = λ D w W L q.
            let k = reference_restarts D w W L q in
            record { first = k.first; whole = simp e k.whole; truncated = k.truncated; nothing = k.nothing };
      }

  -- Demand 3 of any relation whose answers are the reference decoder's.
  pub demand3_of : (answered : List Call → List A → Type 0)
      → ((calls : List Call) (answers : List A) → answered calls answers → answers ≡ reference P calls)
      → Demand3 P answered
  demand3_of answered e = record {
    same = e;
    restarts = λ D w W L all alone later s a b c.
        let k = reference_restarts D w W L s in
        record {
          first = k.first;
          whole = e _ all a ∙ k.whole
              ∙ sym (ap (λ (l : List A). l ++ k.first ∷ drop 1 later) (e _ alone b)
              ∙ ap (λ (l : List A). reference P (feed D) ++ k.first ∷ drop 1 l) (e _ later c));
          truncated = k.truncated;
          nothing = k.nothing;
        };
  }

  -- ---- after a candidate that was terminated, and after a finish

  -- A call that leaves none open leaves the decoder as new; so does everything that answers as it does.
  pub as_new : (c : Call) → ((k : Candidate) → candidate_after P k c ≡ none) → (f : List Call → List A)
      → ((calls : List Call) → f calls ≡ reference P calls)
      → (calls rest : List Call) → f (calls ++ c ∷ rest) ≡ f (calls ++ c ∷ []) ++ f rest
  as_new c ends f e calls rest = simp e (runs_anew (answer_to P) (candidate_after P) none c ends none calls rest)

  -- A call that leaves none open makes what answers as the decoder does new: all that comes after it is answered as it is
  -- where it comes first.
  pub renews : (answered : List Call → List A → Type 0) → Demand3 P answered → (c : Call)
      → ((k : Candidate) → candidate_after P k c ≡ none) → (calls rest : List Call) (all first later : List A)
      → answered (calls ++ c ∷ rest) all → answered (calls ++ c ∷ []) first → answered rest later → all ≡ first ++ later
  renews answered d c ends calls rest all first later a b e =
      d.same (calls ++ c ∷ rest) all a ∙ runs_anew (answer_to P) (candidate_after P) none c ends none calls rest
      ∙ sym (ap₂ (λ (x y : List A). x ++ y) (d.same (calls ++ c ∷ []) first b) (d.same rest later e))

-- ---- answers told in another way

module _ {A B : Type 0} (tell : A → B) (P : Protocol A) where
  byte_told : (ρ : Role) (k : Candidate) (b : ℕ)
      → (byte_answer (told_by tell P) ρ k b ≡ tell (byte_answer P ρ k b))
      × (byte_after (told_by tell P) ρ k b ≡ byte_after P ρ k b)
  byte_told starts none b = (refl, refl)
  byte_told starts (opened s) b = (refl, refl)
  byte_told stops none b = (refl, refl)
  byte_told stops (opened s) b = (refl, refl)
  byte_told plain none b = (refl, refl)
  byte_told plain (opened s) b = (refl, refl)

  call_told : (k k' : Candidate) (c : Call) → k ≡ k'
      → (answer_to (told_by tell P) k c ≡ tell (answer_to P k' c))
      × (candidate_after (told_by tell P) k c ≡ candidate_after P k' c)
  call_told k k' (byte b) e = rw e (byte_told (P.role b) k' b)
  call_told k k' finish e = rw e (end_told k')
    where
      end_told : (k : Candidate) → (end_answer (told_by tell P) k ≡ tell (end_answer P k)) × (none ≡ none)
      end_told none = (refl, refl)
      end_told (opened s) = (refl, refl)

  -- The reference decoder's answers are told so.
  pub reference_told : (calls : List Call) → map tell (reference P calls) ≡ reference (told_by tell P) calls
  reference_told calls =
      sym (run_told tell (answer_to P) (candidate_after P) none calls)
      ∙ sym (simulates (answer_to (told_by tell P)) (candidate_after (told_by tell P)) (λ k c. tell (answer_to P k c))
      (candidate_after P) (λ k k'. k ≡ k') call_told none none refl calls)
