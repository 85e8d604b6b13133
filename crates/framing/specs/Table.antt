-- Demand 3 as a table, over a protocol's parameters: which call is answered with what, said of the calls alone, and what a
-- finish and a stop flag leave.
use Rattle.std.specs.Prelude.{◌≡◌, List, [], ◌∷◌, ◌++◌, ℕ}
use Rattle.lists.specs.Choice.{Exactly}
use Rattle.framing.specs.Reference.{Call, byte, finish, starts, stops, FlagFree, Protocol}
use Rattle.framing.specs.Demand3.{feed}

module _ {A : Type 0} (P : Protocol A) where
  -- After these calls a candidate is open: the last of them are a start flag and bytes that are no flags.
  pub record OpenAfter (calls : List Call) : Type 0 where
    pub before : List Call
    pub flag : ℕ
    pub body : List ℕ
    pub splits : calls ≡ before ++ feed (flag ∷ body)
    pub starting : P.role flag ≡ starts
    pub flag_free : FlagFree P.role body

  -- What a call is answered with that tells something, where these calls came before it.
  pub data ToldTo (calls : List Call) : Call → A → Type 0 where
    terminates : {b : ℕ} (o : OpenAfter calls) → P.role b ≡ stops
        → ToldTo calls (byte b) (P.judge ((o.flag ∷ o.body) ++ b ∷ []))
    truncates : {b : ℕ} → OpenAfter calls → P.role b ≡ starts → ToldTo calls (byte b) P.truncated
    finishes : OpenAfter calls → ToldTo calls finish P.truncated

  -- Of calls and answers of which no more is known than that each list of answers was given to its list of calls.
  pub record PlainLaws (answered : List Call → List A → Type 0) : Type 0 where
    -- The last of any calls is told something exactly where the table says so, and else nothing.
    pub told_exactly : (calls : List Call) (c : Call) (earlier : List A) (last : A)
        → answered (calls ++ c ∷ []) (earlier ++ last ∷ []) → (a : A) → (a ≡ P.nothing → ⊥)
        → Exactly (last ≡ a) (ToldTo calls c a)
    pub nothing_else : (calls : List Call) (c : Call) (earlier : List A) (last : A)
        → answered (calls ++ c ∷ []) (earlier ++ last ∷ []) → ((a : A) → ToldTo calls c a → ⊥) → last ≡ P.nothing
    -- After a finish, and after a stop flag, every call is answered as by one that is new.
    pub finish_renews : (calls rest : List Call) (all first later : List A) → answered (calls ++ finish ∷ rest) all
        → answered (calls ++ finish ∷ []) first → answered rest later → all ≡ first ++ later
    pub stop_renews : (calls : List Call) (b : ℕ) (rest : List Call) (all first later : List A) → P.role b ≡ stops
        → answered (calls ++ byte b ∷ rest) all → answered (calls ++ byte b ∷ []) first → answered rest later
        → all ≡ first ++ later
