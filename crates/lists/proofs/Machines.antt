-- Laws of a machine run on a list of calls.
use mathlib.Core.Path.{◌≡◌, refl, sym, ap, ap₂, ◌∙◌, subst}
use mathlib.Core.List.{List, [], ◌∷◌, ◌++◌, map, append_assoc}
use Prim.Native.Nat.{ℕ, suc, ◌≤◌}
use lib.ListN.{length, take, drop, take-append-drop}
use lib.Seq.{drop-append-le}
use Rattle.lists.specs.Machine.{run, left_after, Ran, ended, call, RanBy, ended_by, call_by}
use Rattle.lists.specs.Machine.{Through, ended_through, call_through}
use Rattle.lists.specs.Choice.{Every}

-- ---- one machine

module _ {S C A : Type 0} (answer : S → C → A) (next : S → C → S) where
  pub run-append : (s : S) (calls rest : List C)
      → run answer next s (calls ++ rest) ≡ run answer next s calls ++ run answer next (left_after next s calls) rest
  run-append s [] rest = refl
  run-append s (c ∷ calls) rest = ap (λ (l : List A). answer s c ∷ l) (run-append (next s c) calls rest)

  -- As many answers as calls.
  pub run_length : (s : S) (calls : List C) → length (run answer next s calls) ≡ length calls
  run_length s [] = refl
  run_length s (c ∷ calls) = ap suc (run_length (next s c) calls)

  -- A call that leaves one state, whatever was before it, leaves the machine as it is from there.
  pub runs_anew : (new : S) (c : C) → ((s : S) → next s c ≡ new) → (s : S) (calls rest : List C)
      → run answer next s (calls ++ c ∷ rest) ≡ run answer next s (calls ++ c ∷ []) ++ run answer next new rest
  runs_anew new c ends s [] rest = ap (λ (t : S). answer s c ∷ run answer next t rest) (ends s)
  runs_anew new c ends s (x ∷ calls) rest =
      ap (λ (l : List A). answer s x ∷ l) (runs_anew new c ends (next s x) calls rest)

pub left_append : {S C : Type 0} (next : S → C → S) (s : S) (calls rest : List C)
    → left_after next s (calls ++ rest) ≡ left_after next (left_after next s calls) rest
left_append next s [] rest = refl
left_append next s (c ∷ calls) rest = left_append next (next s c) calls rest

-- What every call keeps, calls in a row keep.
pub left_keeps : {S C : Type 0} (next : S → C → S) (R : S → Type 0) → ((s : S) (c : C) → R s → R (next s c)) → (s : S)
    (calls : List C) → R s → R (left_after next s calls)
left_keeps next R each s [] k = k
left_keeps next R each s (c ∷ calls) k = left_keeps next R each (next s c) calls (each s c k)

-- Where every call keeps R and its answer has P, all answers of a run from a state of R have P.
pub run_every : {S C A : Type 0} (answer : S → C → A) (next : S → C → S) (R : S → Type 0) (P : A → Type 0)
    → ((s : S) (c : C) → R s → R (next s c) × P (answer s c)) → (s : S) (calls : List C) → R s
    → Every P (run answer next s calls)
run_every answer next R P each s [] k = tt
run_every answer next R P each s (c ∷ calls) k =
    ((each s c k).1, run_every answer next R P each (next s c) calls (each s c k).0)

-- Answers told in another way.
pub run_told : {S C A B : Type 0} (tell : A → B) (answer : S → C → A) (next : S → C → S) (s : S) (calls : List C)
    → run (λ s c. tell (answer s c)) next s calls ≡ map tell (run answer next s calls)
run_told tell answer next s [] = refl
run_told tell answer next s (c ∷ calls) =
    ap (λ l. tell (answer s c) ∷ l) (run_told tell answer next (next s c) calls)

-- ---- two machines

-- Two machines that keep a relation and answer alike at each call with a property answer every list of such calls
-- alike, and the states that they leave are related.
module _ {S T C A : Type 0} (answer : S → C → A) (next : S → C → S) (answer' : T → C → A) (next' : T → C → T)
    (P : C → Type 0) (R : S → T → Type 0)
    (step : (s : S) (t : T) (c : C) → P c → R s t → (answer s c ≡ answer' t c) × R (next s c) (next' t c)) where
  pub simulates_every : (s : S) (t : T) → R s t → (calls : List C) → Every P calls
      → (run answer next s calls ≡ run answer' next' t calls) × R (left_after next s calls) (left_after next' t calls)
  simulates_every s t r [] ps = (refl, r)
  simulates_every s t r (c ∷ calls) ps =
      let k = step s t c ps.0 r in
      let rest = simulates_every (next s c) (next' t c) k.1 calls ps.1 in
      (ap₂ (λ (x : A) (xs : List A). x ∷ xs) k.0 rest.0, rest.1)

-- The same where no property is asked of the calls.
module _ {S T C A : Type 0} (answer : S → C → A) (next : S → C → S) (answer' : T → C → A) (next' : T → C → T)
    (R : S → T → Type 0)
    (step : (s : S) (t : T) (c : C) → R s t → (answer s c ≡ answer' t c) × R (next s c) (next' t c)) where
  pub simulates : (s : S) (t : T) → R s t → (calls : List C) → run answer next s calls ≡ run answer' next' t calls
  simulates s t r calls =
      (simulates_every answer next answer' next' (λ c. Unit {0}) R (λ s t c p k. step s t c k) s t r calls (any calls)).0
    where
      any : (cs : List C) → Every (λ c. Unit {0}) cs
      any [] = tt
      any (c ∷ cs) = (tt, any cs)

-- ---- calls known by what is known of each

-- Where each call is answered, and leaves what is seen of its state, as a machine says, so is every row of calls.
module _ {S T C A : Type 0} (called : S → C → A → S → Type 0) (answer : T → C → A) (next : T → C → T) (seen : S → T)
    (each : (s t : S) (c : C) (a : A) → called s c a t → (a ≡ answer (seen s) c) × (seen t ≡ next (seen s) c)) where
  pub ran-run : {s u : S} {calls : List C} {answers : List A} → Ran called s calls answers u
      → (answers ≡ run answer next (seen s) calls) × (seen u ≡ left_after next (seen s) calls)
  ran-run ended = (refl, refl)
  ran-run (call s t c a {calls = calls} k rest) =
      let e = each s t c a k in
      let r = ran-run rest in (
        ap₂ (λ (x : A) (xs : List A). x ∷ xs) e.0 (r.0 ∙ ap (λ (v : T). run answer next v calls) e.1),
        r.1 ∙ ap (λ (v : T). left_after next v calls) e.1,
      )

-- The same where one call is given several, and takes the first of them.
module _ {S T C A : Type 0} (made : S → List C → ℕ → List A → S → Type 0) (answer : T → C → A) (next : T → C → T)
    (seen : S → T)
    (each : (s t : S) (given : List C) (taken : ℕ) (first : List A) → made s given taken first t
    → (taken ≤ length given) × (first ≡ run answer next (seen s) (take taken given))
    × (seen t ≡ left_after next (seen s) (take taken given))) where
  pub ran_by_run : {s u : S} {calls : List C} {answers : List A} → RanBy made s calls answers u
      → (answers ≡ run answer next (seen s) calls) × (seen u ≡ left_after next (seen s) calls)
  ran_by_run ended_by = (refl, refl)
  ran_by_run (call_by s t given taken first {calls = calls} k rest) =
      let e = each s t given taken first k in
      let r = ran_by_run rest in
      let taking = take taken given in (
        ap₂ (λ (xs ys : List A). xs ++ ys) e.1 (r.0 ∙ ap (λ (v : T). run answer next v calls) e.2)
            ∙ sym (run-append answer next (seen s) taking calls),
        r.1 ∙ ap (λ (v : T). left_after next v calls) e.2 ∙ sym (left_append next (seen s) taking calls),
      )

-- The first elements of a list, and what is left of it with others after it.
pub cut_append : {C : Type 0} (n : ℕ) (given later : List C) → n ≤ length given
    → take n given ++ drop n (given ++ later) ≡ given ++ later
cut_append n given later h =
    ap (λ l. take n given ++ l) (drop-append-le n given later h)
    ∙ sym (append_assoc (take n given) (drop n given) later)
    ∙ ap (λ l. l ++ later) (take-append-drop n given)

-- Calls that get through a list take all of it, where what is known of a state and the calls to come says that each call
-- takes what it is given, and stays known.
module _ {S C A : Type 0} (made made' : S → List C → ℕ → List A → S → Type 0) (known : S → List C → Type 0)
    (each : (s t : S) (given later : List C) (taken : ℕ) (first : List A) → made s given taken first t
    → known s (given ++ later)
    → (taken ≤ length given) × made' s given taken first t × known t (drop taken (given ++ later))) where
  pub through_known : {s u : S} {calls : List C} {answers : List A} → Through made s calls answers u → known s calls
      → RanBy made' s calls answers u
  through_known ended_through k = ended_by
  through_known (call_through s t given later taken first {u = u} {answers = answers} m rest) k =
      let e = each s t given later taken first m k in
      subst (λ l. RanBy made' s l (first ++ answers) u) (cut_append taken given later e.0)
      (call_by s t given taken first e.1 (through_known rest e.2))

-- What each call shows of itself, every call of a row has.
module _ {S C A : Type 0} (called : S → C → A → S → Type 0) (P : C → Type 0)
    (each : (s t : S) (c : C) (a : A) → called s c a t → P c) where
  pub ran_every : {s u : S} {calls : List C} {answers : List A} → Ran called s calls answers u → Every P calls
  ran_every ended = tt
  ran_every (call s t c a k rest) = (each s t c a k, ran_every rest)
