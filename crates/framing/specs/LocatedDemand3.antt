-- Demand 3 with positions, as document 02's No. 7 words it, over a protocol's parameters.
use Rattle.std.specs.Prelude.{◌≡◌, List, [], ◌∷◌, ◌++◌, ℕ, ◌+◌, ◌≤◌, length, drop}
use Rattle.framing.specs.Reference.{Call, byte, finish, starts}
use Rattle.framing.specs.Demand3.{feed, told_by, LeftOpen}
use Rattle.framing.specs.Located.{Located, unlocated, located, LocatedProtocol, located_reference}

-- How many bytes are fed before the first finish, or to the list's end where none comes.
abbrev pub bytes_before_finish : List Call → ℕ
bytes_before_finish [] = 0
bytes_before_finish (byte b ∷ calls) = 1 + bytes_before_finish calls
bytes_before_finish (finish ∷ calls) = 0

-- How many bytes are fed since the last finish, where n were before these calls.
abbrev pub bytes_since_finish : (n : ℕ) → List Call → ℕ
bytes_since_finish n [] = n
bytes_since_finish n (byte b ∷ calls) = bytes_since_finish (n + 1) calls
bytes_since_finish n (finish ∷ calls) = bytes_since_finish 0 calls

-- At most the limit are fed up to each finish and after the last one, where n bytes were fed before these calls.
abbrev pub Within : (limit n : ℕ) → List Call → Type 0
Within limit n [] = n ≤ limit
Within limit n (byte b ∷ calls) = Within limit (n + 1) calls
Within limit n (finish ∷ calls) = (n ≤ limit) × Within limit 0 calls

-- A count of n bytes that stops at the limit.
abbrev pub Capped : (limit n count : ℕ) → Type 0
Capped limit n count = (n ≤ limit → count ≡ n) × (limit ≤ n → count ≡ limit)

-- An answer with its position, if it has one, larger by n.
abbrev pub shift : {A : Type 0} → ℕ → Located A → Located A
shift n (unlocated a) = unlocated a
shift n (located position a) = located (n + position) a

-- The answers to a list of calls with positions larger by n up to and with the first finish's own, and equal after it.
abbrev pub shift_to_finish : {A : Type 0} → ℕ → List Call → List (Located A) → List (Located A)
shift_to_finish n [] answers = answers
shift_to_finish n (c ∷ calls) [] = []
shift_to_finish n (byte b ∷ calls) (a ∷ answers) = shift n a ∷ shift_to_finish n calls answers
shift_to_finish n (finish ∷ calls) (a ∷ answers) = shift n a ∷ answers

-- A located protocol with each of its answers told in another way.
abbrev pub located_told_by : {A B : Type 0} → (A → B) → LocatedProtocol A → LocatedProtocol B
located_told_by tell Q = record { protocol = told_by tell Q.protocol; limit = Q.limit; full = tell Q.full }

module _ {A : Type 0} (Q : LocatedProtocol A) where
  -- D, then w and W, and the bytes of L before its first finish, or to its end, are together within the limit.
  abbrev pub Together : (D : List ℕ) (w : ℕ) (W : List ℕ) (L : List Call) → Type 0
  Together D w W L = length D + length (w ∷ W) + bytes_before_finish L ≤ Q.limit

  -- The answers to D, a start flag, W and L, to D alone, and to the flag, W and L where they come first. D is answered as
  -- D alone is. The flag is answered with the truncation of the candidate that D left open, at the position of D's last
  -- start flag, or with nothing. Every later call is answered as it is where the flag comes first, with positions larger
  -- by the length of D up to and with the next finish's own.
  pub record LocatedRestarts (D W : List ℕ) (L : List Call) (all alone later : List (Located A)) : Type 0 where
    pub first : Located A
    pub whole : all ≡ alone ++ first ∷ shift_to_finish (length D) (feed W ++ L) (drop 1 later)
    pub truncated : (o : LeftOpen Q.protocol D) → first ≡ located (length o.before) Q.protocol.truncated
    pub nothing : (LeftOpen Q.protocol D → ⊥) → first ≡ unlocated Q.protocol.nothing

  -- Demand 3, one claim of what answers every list of calls from the start.
  pub record LocatedFollows (answers : List Call → List (Located A)) : Type 0 where
    pub same : (calls : List Call) → answers calls ≡ located_reference Q calls
    pub restarts : (D : List ℕ) (w : ℕ) (W : List ℕ) (L : List Call) → Q.protocol.role w ≡ starts → Together D w W L
        → LocatedRestarts D W L (answers (feed D ++ (feed (w ∷ W) ++ L))) (answers (feed D)) (answers (feed (w ∷ W) ++ L))

  -- Demand 3 of calls and answers of which no more is known than that each list of answers was given to its list of
  -- calls.
  pub record LocatedDemand3 (answered : List Call → List (Located A) → Type 0) : Type 0 where
    pub same : (calls : List Call) (answers : List (Located A)) → answered calls answers
        → answers ≡ located_reference Q calls
    pub restarts : (D : List ℕ) (w : ℕ) (W : List ℕ) (L : List Call) (all alone later : List (Located A))
        → Q.protocol.role w ≡ starts → Together D w W L
        → answered (feed D ++ (feed (w ∷ W) ++ L)) all → answered (feed D) alone → answered (feed (w ∷ W) ++ L) later
        → LocatedRestarts D W L all alone later
