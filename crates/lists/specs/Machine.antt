-- A machine with a state of any kind, run on a list of calls: each call gets the state as the last one left it.
use Rattle.std.specs.Prelude.{Bool, List, [], ◌∷◌, ◌++◌, ℕ, take, drop}
use Rattle.lists.specs.Choice.{pick}

-- The answer to a call, and the state afterwards.
pub record Turn (S A : Type 0) : Type 0 where
  pub answer : A
  pub next : S

abbrev pub turn : {S A : Type 0} → A → S → Turn S A
turn a s = record { answer = a; next = s }

-- The answers to the calls.
abbrev pub run : {S C A : Type 0} → (S → C → A) → (S → C → S) → S → List C → List A
run answer next s [] = []
run answer next s (c ∷ calls) = answer s c ∷ run answer next (next s c) calls

-- The state after them.
abbrev pub left_after : {S C : Type 0} → (S → C → S) → S → List C → S
left_after next s [] = s
left_after next s (c ∷ calls) = left_after next (next s c) calls

-- ---- calls of one sort

-- The calls that pass a test.
abbrev pub only : {C : Type 0} → (C → Bool) → List C → List C
only p [] = []
only p (c ∷ calls) = pick (p c) (c ∷ only p calls) (only p calls)

-- ---- calls known by nothing but what is known of each

-- `called s c a t`: the call c on the state s was answered a and left the state t.
module _ {S C A : Type 0} (called : S → C → A → S → Type 0) where
  -- Calls in a row from a state on, with their answers, and the state that the last one left.
  pub data Ran : S → List C → List A → S → Type 0 where
    ended : {s : S} → Ran s [] [] s
    call : (s t : S) (c : C) (a : A) {u : S} {calls : List C} {answers : List A} → called s c a t
        → Ran t calls answers u → Ran s (c ∷ calls) (a ∷ answers) u

-- `made s given taken answers t`: one call on the state s was given the calls `given`, took the first `taken` of them,
-- which were answered so, and left the state t.
module _ {S C A : Type 0} (made : S → List C → ℕ → List A → S → Type 0) where
  -- Such calls in a row from a state on, with all calls that they took, the answers to these, and the state that the
  -- last one left. What a call did not take may be given to the next one, or not.
  pub data RanBy : S → List C → List A → S → Type 0 where
    ended_by : {s : S} → RanBy s [] [] s
    call_by : (s t : S) (given : List C) (taken : ℕ) (first : List A) {u : S} {calls : List C} {answers : List A}
        → made s given taken first t → RanBy t calls answers u
        → RanBy s (take taken given ++ calls) (first ++ answers) u

  -- Such calls in a row that get through a list of calls: each is given any first part of what the one before it did
  -- not take.
  pub data Through : S → List C → List A → S → Type 0 where
    ended_through : {s : S} → Through s [] [] s
    call_through : (s t : S) (given later : List C) (taken : ℕ) (first : List A) {u : S} {answers : List A}
        → made s given taken first t → Through t (drop taken (given ++ later)) answers u
        → Through s (given ++ later) (first ++ answers) u

module _ {S C A : Type 0} where
  -- Calls in a row from a new state on, with their answers, by what calls in a row are.
  pub record FromNew (row : S → List C → List A → S → Type 0) (new : S → Type 0) (calls : List C) (answers : List A)
      : Type 0 where
    pub start : S
    pub made : new start
    pub last : S
    pub ran : row start calls answers last

  abbrev pub Answered : (S → C → A → S → Type 0) → (S → Type 0) → List C → List A → Type 0
  Answered called new calls answers = FromNew (Ran called) new calls answers

  abbrev pub AnsweredBy : (S → List C → ℕ → List A → S → Type 0) → (S → Type 0) → List C → List A → Type 0
  AnsweredBy made new calls answers = FromNew (RanBy made) new calls answers
