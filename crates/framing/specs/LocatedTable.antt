-- Demand 3 with positions as a table, over a protocol's parameters: which call is answered with what and at which
-- position, said of the calls alone, what a full count, a finish and a stop flag leave, and what is told without positions.
use Rattle.std.specs.Prelude.{◌≡◌, List, [], ◌∷◌, ◌++◌, map, ℕ, ◌+◌, ◌≤◌, ◌<◌, length, drop}
use Rattle.lists.specs.Choice.{Exactly}
use Rattle.framing.specs.Reference.{Call, byte, finish, starts, stops, FlagFree, reference}
use Rattle.framing.specs.Demand3.{feed}
use Rattle.framing.specs.Located.{Located, unlocated, located, answer_in, LocatedProtocol}
use Rattle.framing.specs.LocatedDemand3.{bytes_before_finish, bytes_since_finish, Within, shift_to_finish}

module _ {A : Type 0} (Q : LocatedProtocol A) where
  -- After these calls a candidate is open that began at this position: as many bytes came since the last finish, then a
  -- start flag, bytes that are no flags and, only where the limit was reached with them, any further bytes.
  pub record OpenAt (calls : List Call) (position : ℕ) : Type 0 where
    pub before : List Call
    pub flag : ℕ
    pub body : List ℕ
    pub over : List ℕ
    pub splits : calls ≡ (before ++ feed (flag ∷ body)) ++ feed over
    pub starting : Q.protocol.role flag ≡ starts
    pub flag_free : FlagFree Q.protocol.role body
    pub place : bytes_since_finish 0 before ≡ position
    pub taken : position + length (flag ∷ body) ≤ Q.limit
    pub reached : 0 < length over → position + length (flag ∷ body) ≡ Q.limit

  -- What a call is answered with that tells something, and at which position, where these calls came before it.
  pub data ToldAt (calls : List Call) : Call → (position : ℕ) → A → Type 0 where
    terminates : {b position : ℕ} (o : OpenAt calls position) → Q.protocol.role b ≡ stops
        → bytes_since_finish 0 calls < Q.limit
        → ToldAt calls (byte b) position (Q.protocol.judge ((o.flag ∷ o.body) ++ b ∷ []))
    truncates : {b position : ℕ} → OpenAt calls position → Q.protocol.role b ≡ starts
        → bytes_since_finish 0 calls < Q.limit → ToldAt calls (byte b) position Q.protocol.truncated
    finishes : {position : ℕ} → OpenAt calls position → ToldAt calls finish position Q.protocol.truncated
    overruns : {b : ℕ} → Q.limit ≤ bytes_since_finish 0 calls → ToldAt calls (byte b) 0 Q.full

  -- Of calls and answers of which no more is known than that each list of answers was given to its list of calls.
  pub record LocatedLaws (answered : List Call → List (Located A) → Type 0) : Type 0 where
    -- The last of any calls is told something exactly where the table says so, at its position, and else nothing.
    pub told_exactly : (calls : List Call) (c : Call) (earlier : List (Located A)) (last : Located A)
        → answered (calls ++ c ∷ []) (earlier ++ last ∷ []) → (position : ℕ) (a : A)
        → Exactly (last ≡ located position a) (ToldAt calls c position a)
    pub nothing_else : (calls : List Call) (c : Call) (earlier : List (Located A)) (last : Located A)
        → answered (calls ++ c ∷ []) (earlier ++ last ∷ [])
        → ((position : ℕ) (a : A) → ToldAt calls c position a → ⊥) → last ≡ unlocated Q.protocol.nothing
    -- After as many bytes as the limit each byte more is refused at position 0, and every later call is answered as if
    -- those bytes had not been fed.
    pub full_kept : (calls : List Call) (more : List ℕ) (rest : List Call) → Q.limit ≤ bytes_since_finish 0 calls
        → (all first without : List (Located A)) → answered (calls ++ (feed more ++ rest)) all → answered calls first
        → answered (calls ++ rest) without
        → all ≡ first ++ (map (λ b. located 0 Q.full) more ++ drop (length calls) without)
    -- After a finish every call is answered as by one that is new.
    pub finish_renews : (calls rest : List Call) (all first later : List (Located A))
        → answered (calls ++ finish ∷ rest) all → answered (calls ++ finish ∷ []) first → answered rest later
        → all ≡ first ++ later
    -- After a stop flag so too, but that the count runs on: positions are larger by the bytes since the last finish.
    pub stop_closes : (calls : List Call) (b : ℕ) (rest : List Call) → Q.protocol.role b ≡ stops
        → bytes_since_finish 0 calls + 1 + bytes_before_finish rest ≤ Q.limit
        → (all first later : List (Located A)) → answered (calls ++ byte b ∷ rest) all
        → answered (calls ++ byte b ∷ []) first → answered rest later
        → all ≡ first ++ shift_to_finish (bytes_since_finish 0 calls + 1) rest later
    -- Where no more bytes than the limit come up to each finish, the answers without their positions are those of the
    -- plain reference decoder.
    pub without_positions : (calls : List Call) (answers : List (Located A)) → answered calls answers
        → Within Q.limit 0 calls → map answer_in answers ≡ reference Q.protocol calls
