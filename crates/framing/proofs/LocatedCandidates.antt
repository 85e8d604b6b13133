-- A whole candidate, as the located reference decoder answers it: at its stop flag, with the position of its start flag,
-- which is how many bytes came before it since the last finish.
use mathlib.Core.Path.{◌≡◌, refl, sym, ap, ap₂, ◌∙◌, subst}
use mathlib.Core.Bool.{Bool, true, false}
use mathlib.Core.List.{List, [], ◌∷◌, ◌++◌, map, append_assoc, append-nil}
use native.Mathlib.Omega.{arith}
use Prim.Native.Nat.{ℕ, ◌+◌, ◌≤◌, ◌<◌}
use lib.Dec.{leb, ltb}
use lib.ListN.{length}
use borrow.Author.Tests.{leb-true, leb-false, ltb-true, ltb-false}
use Rattle.lists.specs.Choice.{pick}
use Rattle.lists.specs.Machine.{left_after}
use Rattle.lists.proofs.Cases.{by_bool}
use Rattle.lists.proofs.Machines.{run-append, left_append}
use Rattle.framing.specs.Reference.{Call, byte, finish, Role, starts, stops, FlagFree}
use Rattle.framing.specs.Demand3.{feed}
use Rattle.framing.specs.Located.{Located, unlocated, located, no_candidate, candidate_at, Counted, counted}
use Rattle.framing.specs.Located.{new_counted, LocatedProtocol, byte_answer_at, byte_after_at, located_answer}
use Rattle.framing.specs.Located.{located_after, located_reference}
use Rattle.framing.specs.LocatedDemand3.{bytes_before_finish, bytes_since_finish, Capped, shift_to_finish}
use Rattle.framing.proofs.Restart.{feed-append}
use Rattle.framing.proofs.Located.{from, from_byte, taken_answer, taken_after, opens_at, keeps_at, from_ahead}

-- ---- the count

capped_next : (limit n c : ℕ) → Capped limit n c → Capped limit (n + 1) (pick (ltb c limit) (c + 1) c)
capped_next limit n c k =
    by_bool (ltb c limit)
    (λ y. let h : c < limit = ltb-true c limit y in simp y (below h (leb n limit) refl))
    (λ z. let h : limit ≤ c = ltb-false c limit z in simp z (above h (leb n limit) refl))
  where
    below : c < limit → (q : Bool) → leb n limit ≡ q → Capped limit (n + 1) (c + 1)
    below h true e =
        let s : c ≡ n = k.0 (leb-true n limit e) in ((λ l. omega arith), (λ l. omega arith))
    below h false e =
        let s : c ≡ limit = k.1 (omega (arith, leb-false n limit e)) in absurd (omega arith)

    above : limit ≤ c → (q : Bool) → leb n limit ≡ q → Capped limit (n + 1) c
    above h true e =
        let s : c ≡ n = k.0 (leb-true n limit e) in
        let l : n ≤ limit = leb-true n limit e in ((λ m. absurd (omega arith)), (λ m. omega arith))
    above h false e =
        let l : limit < n = leb-false n limit e in
        let s : c ≡ limit = k.1 (omega arith) in ((λ m. absurd (omega arith)), (λ m. s))

-- Whatever counts the bytes that it takes and stops at the limit has counted those since the last finish.
pub capped_left : {S : Type 0} (limit : ℕ) (next : S → Call → S) (count : S → ℕ)
    → ((s : S) (b : ℕ) → count (next s (byte b)) ≡ pick (ltb (count s) limit) (count s + 1) (count s))
    → ((s : S) → count (next s finish) ≡ 0) → (s : S) (n : ℕ) → Capped limit n (count s) → (calls : List Call)
    → Capped limit (bytes_since_finish n calls) (count (left_after next s calls))
capped_left limit next count one end s n k [] = k
capped_left limit next count one end s n k (byte b ∷ calls) =
    capped_left limit next count one end (next s (byte b)) (n + 1)
    (subst (Capped limit (n + 1)) (sym (one s b)) (capped_next limit n (count s) k)) calls
capped_left limit next count one end s n k (finish ∷ calls) =
    capped_left limit next count one end (next s finish) 0
    ((λ h. end s), (λ h. end s ∙ omega (arith, h))) calls

module _ {A : Type 0} (Q : LocatedProtocol A) where
  abbrev silence : Located A
  silence = unlocated Q.protocol.nothing

  count_after : (u : Counted) (b : ℕ)
      → (located_after Q u (byte b)).count ≡ pick (ltb u.count Q.limit) (u.count + 1) u.count
  count_after u b = by_room (ltb u.count Q.limit)
    where
      by_room : (room : Bool)
          → (pick room (counted (byte_after_at Q (Q.protocol.role b) u.candidate u.count b) (u.count + 1)) u).count
          ≡ pick room (u.count + 1) u.count
      by_room true = refl
      by_room false = refl

  -- The count is that of the bytes since the last finish, up to the limit, whatever was refused before it.
  pub counted_capped : (calls : List Call)
      → Capped Q.limit (bytes_since_finish 0 calls) (left_after (located_after Q) new_counted calls).count
  counted_capped calls =
      capped_left Q.limit (located_after Q) (λ (u : Counted). u.count) count_after (λ u. refl) new_counted 0
      ((λ l. refl), (λ l. omega (arith, l))) calls

  pub counted_since : (calls : List Call) → bytes_since_finish 0 calls ≤ Q.limit
      → (left_after (located_after Q) new_counted calls).count ≡ bytes_since_finish 0 calls
  counted_since calls h = (counted_capped calls).0 h

  -- the bytes of an open candidate are answered with nothing
  silently : (p n : ℕ) (t body : List ℕ) (rest : List Call) → n + length body ≤ Q.limit
      → FlagFree Q.protocol.role body
      → from Q (counted (candidate_at p t) n) (feed body ++ rest)
      ≡ map (λ (x : ℕ). silence) body ++ from Q (counted (candidate_at p (t ++ body)) (n + length body)) rest
  silently p n t [] rest h f =
      let z : n ≡ n + 0 = omega arith in
      ap₂ (λ (l : List ℕ) (m : ℕ). from Q (counted (candidate_at p l) m) rest) (sym (append-nil t)) z
  silently p n t (b ∷ body) rest h f =
      let m : n + 1 + length body ≡ n + length (b ∷ body) = omega arith in
      from_byte Q (candidate_at p t) n b (feed body ++ rest) (omega arith)
      ∙ ap (λ (ρ : Role). byte_answer_at Q ρ (candidate_at p t) b
      ∷ from Q (counted (byte_after_at Q ρ (candidate_at p t) n b) (n + 1)) (feed body ++ rest)) f.0
      ∙ ap (λ (l : List (Located A)). silence ∷ l)
      (silently p (n + 1) (t ++ b ∷ []) body rest (omega arith) f.1
      ∙ ap₂ (λ (l : List ℕ) (k : ℕ). map (λ (x : ℕ). silence) body ++ from Q (counted (candidate_at p l) k) rest)
      (append_assoc t (b ∷ []) body) m)

  module _ (flag : ℕ) (body : List ℕ) (b : ℕ) (s : Q.protocol.role flag ≡ starts)
      (f : FlagFree Q.protocol.role body) (e : Q.protocol.role b ≡ stops) where
    -- Whatever the decoder took before, and whatever was open, within the limit: the candidate is judged at its stop flag,
    -- at the position of its start flag, and nothing is answered between them. None is open after it.
    candidate_from : (u : Counted) (rest : List Call) → u.count + (length body + 2) ≤ Q.limit
        → from Q u (feed (flag ∷ (body ++ b ∷ [])) ++ rest)
        ≡ located_answer Q u (byte flag) ∷ (map (λ (x : ℕ). silence) body
        ++ located u.count (Q.protocol.judge (flag ∷ (body ++ b ∷ [])))
        ∷ from Q (counted no_candidate (u.count + (length body + 2))) rest)
    candidate_from u rest h =
        let n = u.count in
        let k : n + 1 + length body + 1 ≡ n + (length body + 2) = omega arith in
        let first = located_answer Q u (byte flag) in
        ap (λ (t : Counted). first ∷ from Q t (feed (body ++ b ∷ []) ++ rest))
        (opens_at Q u.candidate n flag (omega arith) s)
        ∙ ap (λ (l : List (Located A)). first ∷ l)
        (ap (λ (calls : List Call). from Q (counted (candidate_at n (flag ∷ [])) (n + 1)) (calls ++ rest))
        (feed-append body (b ∷ []))
        ∙ ap (from Q (counted (candidate_at n (flag ∷ [])) (n + 1))) (append_assoc (feed body) (byte b ∷ []) rest)
        ∙ silently n (n + 1) (flag ∷ []) body (byte b ∷ rest) (omega arith) f
        ∙ ap (λ (l : List (Located A)). map (λ (x : ℕ). silence) body ++ l)
        (from_byte Q (candidate_at n (flag ∷ body)) (n + 1 + length body) b rest (omega arith)
        ∙ ap (λ (ρ : Role). byte_answer_at Q ρ (candidate_at n (flag ∷ body)) b
        ∷ from Q (counted (byte_after_at Q ρ (candidate_at n (flag ∷ body)) (n + 1 + length body) b)
        (n + 1 + length body + 1)) rest) e
        ∙ ap (λ (m : ℕ). located n (Q.protocol.judge (flag ∷ (body ++ b ∷ []))) ∷ from Q (counted no_candidate m) rest)
        k))

    -- A whole candidate alone is answered at its stop flag, at position 0.
    pub located_candidate : length body + 2 ≤ Q.limit
        → located_reference Q (feed (flag ∷ (body ++ b ∷ [])))
        ≡ silence ∷ (map (λ (x : ℕ). silence) body ++ located 0 (Q.protocol.judge (flag ∷ (body ++ b ∷ []))) ∷ [])
    located_candidate h =
        ap (located_reference Q) (sym (append-nil (feed (flag ∷ (body ++ b ∷ [])))))
        ∙ candidate_from new_counted [] (omega arith)
        ∙ ap (λ (a : Located A). a ∷ (map (λ (x : ℕ). silence) body
        ++ located 0 (Q.protocol.judge (flag ∷ (body ++ b ∷ []))) ∷ []))
        (taken_answer Q no_candidate 0 flag (omega arith) ∙ ap (λ (ρ : Role). byte_answer_at Q ρ no_candidate flag) s)

    -- After any calls, and before any, within the limit.
    pub located_around : (calls rest : List Call)
        → (left_after (located_after Q) new_counted calls).count + (length body + 2) ≤ Q.limit
        → located_reference Q (calls ++ (feed (flag ∷ (body ++ b ∷ [])) ++ rest))
        ≡ located_reference Q calls ++ (located_answer Q (left_after (located_after Q) new_counted calls) (byte flag)
        ∷ (map (λ (x : ℕ). silence) body ++ located (left_after (located_after Q) new_counted calls).count
        (Q.protocol.judge (flag ∷ (body ++ b ∷ [])))
        ∷ from Q (counted no_candidate ((left_after (located_after Q) new_counted calls).count + (length body + 2))) rest))
    located_around calls rest h =
        let u = left_after (located_after Q) new_counted calls in
        run-append (located_answer Q) (located_after Q) new_counted calls (feed (flag ∷ (body ++ b ∷ [])) ++ rest)
        ∙ ap (λ (l : List (Located A)). located_reference Q calls ++ l) (candidate_from u rest h)

    -- The last answer to any calls and then the candidate is the judgement, at the bytes since the last finish.
    pub located_judges : (calls : List Call) → bytes_since_finish 0 calls + (length body + 2) ≤ Q.limit
        → (earlier : List (Located A)) × (located_reference Q (calls ++ feed (flag ∷ (body ++ b ∷ [])))
        ≡ earlier ++ located (bytes_since_finish 0 calls) (Q.protocol.judge (flag ∷ (body ++ b ∷ []))) ∷ [])
    located_judges calls h =
        let n = counted_since calls (omega arith) in
        let first = located_answer Q (left_after (located_after Q) new_counted calls) (byte flag) in
        let between = first ∷ map (λ (x : ℕ). silence) body in
        let judged = Q.protocol.judge (flag ∷ (body ++ b ∷ [])) in (
          located_reference Q calls ++ between,
          ap (λ (l : List Call). located_reference Q (calls ++ l)) (sym (append-nil (feed (flag ∷ (body ++ b ∷ [])))))
              ∙ located_around calls [] (omega (arith, n))
              ∙ ap (λ (p : ℕ). located_reference Q calls ++ (between ++ located p judged ∷ [])) n
              ∙ sym (append_assoc (located_reference Q calls) between (located (bytes_since_finish 0 calls) judged ∷ [])),
        )

  -- ---- after a stop flag

  -- A stop flag leaves the decoder as new but for the count: every later call is answered with positions larger by the
  -- bytes since the last finish, within the limit.
  pub as_new_at_stop : (calls : List Call) (b : ℕ) → Q.protocol.role b ≡ stops → (rest : List Call)
      → bytes_since_finish 0 calls + 1 + bytes_before_finish rest ≤ Q.limit
      → located_reference Q (calls ++ byte b ∷ rest)
      ≡ located_reference Q (calls ++ byte b ∷ [])
      ++ shift_to_finish (bytes_since_finish 0 calls + 1) rest (located_reference Q rest)
  as_new_at_stop calls b q rest h =
      let u = left_after (located_after Q) new_counted calls in
      let n : u.count ≡ bytes_since_finish 0 calls = counted_since calls (omega arith) in
      let m = bytes_since_finish 0 calls + 1 in
      let z : m ≡ m + 0 = omega arith in
      let later : from Q (located_after Q u (byte b)) rest ≡ shift_to_finish m rest (located_reference Q rest) =
      ap (λ (t : Counted). from Q t rest) (taken_after Q u.candidate u.count b (omega arith)
      ∙ ap (λ (ρ : Role). counted (byte_after_at Q ρ u.candidate u.count b) (u.count + 1)) q)
      ∙ ap (λ (k : ℕ). from Q (counted no_candidate (k + 1)) rest) n
      ∙ ap (λ (k : ℕ). from Q (counted no_candidate k) rest) z
      ∙ from_ahead Q m no_candidate 0 rest (omega arith) in
      run-append (located_answer Q) (located_after Q) new_counted calls (byte b ∷ rest)
      ∙ ap (λ (l : List (Located A)). located_reference Q calls ++ located_answer Q u (byte b) ∷ l) later
      ∙ sym (append_assoc (located_reference Q calls) (located_answer Q u (byte b) ∷ [])
      (shift_to_finish m rest (located_reference Q rest)))
      ∙ ap (λ (l : List (Located A)). l ++ shift_to_finish m rest (located_reference Q rest))
      (sym (run-append (located_answer Q) (located_after Q) new_counted calls (byte b ∷ [])))

  -- ---- an open candidate

  -- Any calls, a start flag and bytes that are no flags leave a candidate open at the bytes since the last finish.
  pub left_opened_at : (calls : List Call) (w : ℕ) (body : List ℕ) → Q.protocol.role w ≡ starts
      → FlagFree Q.protocol.role body → bytes_since_finish 0 calls + length (w ∷ body) ≤ Q.limit
      → left_after (located_after Q) new_counted (calls ++ feed (w ∷ body))
      ≡ counted (candidate_at (bytes_since_finish 0 calls) (w ∷ body)) (bytes_since_finish 0 calls + length (w ∷ body))
  left_opened_at calls w body s f h =
      let u = left_after (located_after Q) new_counted calls in
      let p = bytes_since_finish 0 calls in
      let n : u.count ≡ p = counted_since calls (omega arith) in
      let m : p + 1 + length body ≡ p + length (w ∷ body) = omega arith in
      left_append (located_after Q) new_counted calls (feed (w ∷ body))
      ∙ ap (λ (t : Counted). left_after (located_after Q) t (feed body)) (opens_at Q u.candidate u.count w (omega arith) s)
      ∙ ap (λ (k : ℕ). left_after (located_after Q) (counted (candidate_at k (w ∷ [])) (k + 1)) (feed body)) n
      ∙ keeps_at Q p (p + 1) (w ∷ []) body (omega arith) f
      ∙ ap (counted (candidate_at p (w ∷ body))) m
