-- Demand 3 of what answers lists of calls, over a protocol's parameters.
use Rattle.std.specs.Prelude.{◌≡◌, List, ◌∷◌, ◌++◌, map, drop, ℕ}
use Rattle.framing.specs.Reference.{Call, byte, starts, FlagFree, Protocol, reference}

-- Bytes fed one by one.
abbrev pub feed : List ℕ → List Call
feed bytes = map byte bytes

-- A protocol with each of its answers told in another way.
abbrev pub told_by : {A B : Type 0} → (A → B) → Protocol A → Protocol B
told_by tell P =
    record {
      role = P.role;
      nothing = tell P.nothing;
      truncated = tell P.truncated;
      judge = λ s. tell (P.judge s);
    }

module _ {A : Type 0} (P : Protocol A) where
  -- The bytes hold a start flag, and no stop flag after their last start flag. It speaks of the bytes alone.
  pub record LeftOpen (bytes : List ℕ) : Type 0 where
    pub before : List ℕ
    pub flag : ℕ
    pub rest : List ℕ
    pub splits : bytes ≡ before ++ flag ∷ rest
    pub starting : P.role flag ≡ starts
    pub flag_free : FlagFree P.role rest

  -- Any bytes D, then bytes W that begin with a start flag, then any calls L: the answers to all of them, to D alone,
  -- and to W and L where they come first. D is answered as D alone is. The flag is answered with the truncation if D
  -- left a candidate open, else with nothing. Every later call is answered as it is where W and L come first.
  pub record Restarts (D : List ℕ) (all alone later : List A) : Type 0 where
    pub first : A
    pub whole : all ≡ alone ++ first ∷ drop 1 later
    pub truncated : LeftOpen D → first ≡ P.truncated
    pub nothing : (LeftOpen D → ⊥) → first ≡ P.nothing

  -- Demand 3, one claim of what answers every list of calls from the start.
  pub record Follows (answers : List Call → List A) : Type 0 where
    pub same : (calls : List Call) → answers calls ≡ reference P calls
    pub restarts : (D : List ℕ) (w : ℕ) (W : List ℕ) (L : List Call) → P.role w ≡ starts
        → Restarts D (answers (feed D ++ (feed (w ∷ W) ++ L))) (answers (feed D)) (answers (feed (w ∷ W) ++ L))

  -- Demand 3 of calls and answers of which no more is known than that each list of answers was given to its list of
  -- calls.
  pub record Demand3 (answered : List Call → List A → Type 0) : Type 0 where
    pub same : (calls : List Call) (answers : List A) → answered calls answers → answers ≡ reference P calls
    pub restarts : (D : List ℕ) (w : ℕ) (W : List ℕ) (L : List Call) (all alone later : List A) → P.role w ≡ starts
        → answered (feed D ++ (feed (w ∷ W) ++ L)) all → answered (feed D) alone → answered (feed (w ∷ W) ++ L) later
        → Restarts D all alone later
