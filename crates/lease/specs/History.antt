-- Lists of calls: what they are answered by a table and by lent bytes, and whose token an address has, by the calls and
-- the answers that they got.
use Rattle.std.specs.Prelude.{ℕ, ◌^◌, ◌<◌, ◌≡◌, List, [], ◌∷◌, ◌++◌, map, eqb, length, replicate}
use Rattle.lists.specs.Choice.{Every}
use Rattle.lists.specs.Machine.{run, left_after, only}
use Rattle.answer.specs.Answer.{Answer, result, refused}
use Rattle.lease.specs.Lease.{LeaseCall, hold, release, address_of, token_of, table_answer, table_after, lent_answer}
use Rattle.lease.specs.Lease.{lent_after}

-- ---- runs: the first call first

-- The tokens of a table on which every address is free.
abbrev pub new_table : List ℕ
new_table = replicate 256 0

-- The answers of a table to calls.
abbrev pub answers_on : List ℕ → List LeaseCall → List (Answer (List ℕ))
answers_on tokens calls = run table_answer table_after tokens calls

-- The table after calls.
abbrev pub table_on : List ℕ → List LeaseCall → List ℕ
table_on tokens calls = left_after table_after tokens calls

-- The bytes of a table on which every address is free.
abbrev pub new_bytes : List ℕ
new_bytes = replicate 2048 0

-- The answers of lent bytes to calls.
abbrev pub lent_answers_on : List ℕ → List LeaseCall → List (Answer (List ℕ))
lent_answers_on bytes calls = run lent_answer lent_after bytes calls

-- Lent bytes after calls.
abbrev pub lent_on : List ℕ → List LeaseCall → List ℕ
lent_on bytes calls = left_after lent_after bytes calls

-- The call's token has 64 bits.
abbrev pub TokenFits : LeaseCall → Type 0
TokenFits c = token_of c < 2 ^ 64

-- Every token of the calls has 64 bits.
abbrev pub Tokens : List LeaseCall → Type 0
Tokens calls = Every TokenFits calls

-- ---- calls and the answers that they got

-- A call, and the answer that it got.
pub record Exchange : Type 0 where
  pub call : LeaseCall
  pub answer : Answer (List ℕ)

abbrev pub exchange : LeaseCall → Answer (List ℕ) → Exchange
exchange c x = record { call = c; answer = x }

-- A history is a list of exchanges, the first one first.
abbrev pub calls_of : List Exchange → List LeaseCall
calls_of history = map (λ (e : Exchange). e.call) history

abbrev pub answers_of : List Exchange → List (Answer (List ℕ))
answers_of history = map (λ (e : Exchange). e.answer) history

-- The exchanges of an address.
abbrev pub history_at : ℕ → List Exchange → List Exchange
history_at a history = only (λ (e : Exchange). eqb (address_of e.call) a) history

-- ---- the holder

abbrev pub Accepted : Answer (List ℕ) → Type 0
Accepted (result w) = Unit {0}
Accepted (refused n) = ⊥

-- Neither a hold nor a release at address a was accepted.
pub record Passes (a : ℕ) (e : Exchange) : Type 0 where
  pub no_hold : (t : ℕ) → e.call ≡ hold a t → Accepted e.answer → ⊥
  pub no_release : (t : ℕ) → e.call ≡ release a t → Accepted e.answer → ⊥

-- Token t is that of the last accepted hold of address a, which was not released since (document 01: the holder's
-- pass).
pub record LastHold (a t : ℕ) (history : List Exchange) : Type 0 where
  pub before : List Exchange
  pub last : Exchange
  pub after : List Exchange
  pub splits : history ≡ before ++ last ∷ after
  pub held : last.call ≡ hold a t
  pub accepted : Accepted last.answer
  pub since : Every (Passes a) after

-- An address has a holder.
pub record Held (a : ℕ) (history : List Exchange) : Type 0 where
  pub token : ℕ
  pub last_hold : LastHold a token history

-- An address has no holder.
abbrev pub Free : ℕ → List Exchange → Type 0
Free a history = (t : ℕ) → LastHold a t history → ⊥

-- ---- lent bytes in a row of calls

-- `called s c x t`: the call c on the bytes s was answered x and left the bytes t.
module _ (called : List ℕ → LeaseCall → Answer (List ℕ) → List ℕ → Type 0) where
  -- Calls in a row that lend the bytes of a table, with their answers, and the bytes that the last one left. Between
  -- them a call may lend bytes of another length, o, and leave o'. It has no place in the history. The table's bytes
  -- may be a part of o, or o a part of them, or neither: `table` says how they follow from what was lent.
  pub data RanLent : List ℕ → List Exchange → List ℕ → Type 0 where
    ended : {s : List ℕ} → RanLent s [] s
    call : (s t : List ℕ) (c : LeaseCall) (x : Answer (List ℕ)) {u : List ℕ} {history : List Exchange}
        → called s c x t → RanLent t history u → RanLent s (exchange c x ∷ history) u
    aside : (s t : List ℕ) (table : List ℕ → List ℕ) (o o' : List ℕ) (c : LeaseCall) (x : Answer (List ℕ))
        {u : List ℕ} {history : List Exchange} → (length o ≡ 2048 → ⊥) → called o c x o' → s ≡ table o → t ≡ table o'
        → RanLent t history u → RanLent s history u
