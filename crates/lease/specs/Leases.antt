-- Document 01's sentences on leases, stated of histories: calls in a row, each with the answer that it got.
use Rattle.std.specs.Prelude.{ℕ, ◌+◌, ◌*◌, ◌≤◌, ◌<◌, ◌≡◌, ◌⊎◌, List, [], ◌∷◌, ◌++◌, length, get_or}
use Rattle.lists.specs.Choice.{Every, Exactly}
use Rattle.answer.specs.Answer.{Answer, result, refused}
use Rattle.lease.specs.Lease.{LeaseCall, address_of, hold, release, stop, stop_frame, table_of}
use Rattle.lease.specs.History.{new_table, Exchange, exchange, calls_of, history_at, LastHold, Held, Free, RanLent}

-- An address of a machine or a console.
abbrev pub InRange : ℕ → Type 0
InRange a = (0x01 ≤ a) × (a ≤ 0xFC)

-- ---- one call after a history

-- What a hold at address a with token t is answered.
pub record HoldGets (history : List Exchange) (a t : ℕ) (x : Answer (List ℕ)) : Type 0 where
  pub accepted : Exactly (x ≡ result []) (InRange a × (t ≡ 0 → ⊥) × Free a history)
  pub outside : Exactly (x ≡ refused 9) (InRange a → ⊥)
  pub zero_token : Exactly (x ≡ refused 14) (InRange a × (t ≡ 0))
  pub taken : Exactly (x ≡ refused 10) (InRange a × (t ≡ 0 → ⊥) × Held a history)

-- What a release at address a with token t is answered.
pub record ReleaseGets (history : List Exchange) (a t : ℕ) (x : Answer (List ℕ)) : Type 0 where
  pub accepted : Exactly (x ≡ result []) (LastHold a t history)
  pub outside : Exactly (x ≡ refused 9) (InRange a → ⊥)
  pub not_holder : Exactly (x ≡ refused 11) (InRange a × (LastHold a t history → ⊥))

-- What a stop at address a with token t and an output of length `room` is answered: the bytes that it writes, or a
-- refusal.
pub record StopGets (history : List Exchange) (a t room : ℕ) (x : Answer (List ℕ)) : Type 0 where
  pub written : (w : List ℕ) → Exactly (x ≡ result w) ((w ≡ stop_frame a) × (length w ≤ room) × LastHold a t history)
  pub outside : Exactly (x ≡ refused 9) (InRange a → ⊥)
  pub not_holder : Exactly (x ≡ refused 11) (InRange a × (LastHold a t history → ⊥))
  pub no_room : Exactly (x ≡ refused 1) ((room < length (stop_frame a)) × LastHold a t history)

-- The holder t releases, then any token u but 0 holds, then v stops: the release and the hold are accepted, and the
-- stop is written exactly where v is u and there is room.
pub record HeldAgain (a u v room : ℕ) (x y z : Answer (List ℕ)) : Type 0 where
  pub releases : x ≡ result []
  pub holds : y ≡ result []
  pub stops : (w : List ℕ) → Exactly (z ≡ result w) ((w ≡ stop_frame a) × (length w ≤ room) × (v ≡ u))

-- A release or a stop whose token is not that of the holder of address a.
abbrev pub Probes : ℕ → List Exchange → LeaseCall → Type 0
Probes a history (hold b t) = ⊥
Probes a history (release b t) = LastHold a t history → ⊥
Probes a history (stop b t room) = LastHold a t history → ⊥

-- ---- all of them

-- `answered tokens history`: from a table with these 256 tokens on, each call of the history got its answer, on the
-- table as the call before it left it.
pub record Leases (answered : (tokens : List ℕ) → List Exchange → Type 0) : Type 0 where
  -- After a history from a new table on an address has a holder, or is free.
  pub held_or_free : (history : List Exchange) (a : ℕ) → answered new_table history → Held a history ⊎ Free a history
  -- What every hold, release and stop of a history from a new table on is answered, whatever follows it.
  pub holds : (before after : List Exchange) (a t : ℕ) (x : Answer (List ℕ))
      → answered new_table (before ++ exchange (hold a t) x ∷ after) → HoldGets before a t x
  pub releases : (before after : List Exchange) (a t : ℕ) (x : Answer (List ℕ))
      → answered new_table (before ++ exchange (release a t) x ∷ after) → ReleaseGets before a t x
  pub stops : (before after : List Exchange) (a t room : ℕ) (x : Answer (List ℕ))
      → answered new_table (before ++ exchange (stop a t room) x ∷ after) → StopGets before a t room x
  -- A release by the holder, a hold by any token but 0 and a stop by any token, one right after the other.
  pub again : (before after : List Exchange) (a t u v room : ℕ) (x y z : Answer (List ℕ)) → LastHold a t before
      → (u ≡ 0 → ⊥)
      → answered new_table
      (before ++ exchange (release a t) x ∷ exchange (hold a u) y ∷ exchange (stop a v room) z ∷ after)
      → HeldAgain a u v room x y z
  -- No answer tells a wrong token from a free address. One history goes on with releases and stops at address a whose
  -- tokens are not the holder's. After the other the address is free, and gets the same calls. Both may have calls at
  -- other addresses in between. The answers at address a are the same.
  pub wrong_or_free : (a : ℕ) (held free more also : List Exchange) → answered new_table (held ++ more)
      → answered new_table (free ++ also) → Free a free → Every (Probes a held) (calls_of (history_at a more))
      → calls_of (history_at a more) ≡ calls_of (history_at a also) → history_at a more ≡ history_at a also
  -- An address's answers depend on its token at the start, its calls and the lengths of their outputs alone, from any
  -- tables on.
  pub isolated : (a : ℕ) (tokens tokens' : List ℕ) (one other : List Exchange) → answered tokens one
      → answered tokens' other → get_or tokens a 0 ≡ get_or tokens' a 0
      → calls_of (history_at a one) ≡ calls_of (history_at a other) → history_at a one ≡ history_at a other

-- ---- lent bytes

-- A run on 2,048 bytes that are those of a table with these tokens. Calls that lend bytes of another length may stand
-- between its calls.
pub record LentRun (called : List ℕ → LeaseCall → Answer (List ℕ) → List ℕ → Type 0) (tokens : List ℕ)
    (history : List Exchange) : Type 0 where
  pub start : List ℕ
  pub size : length start ≡ 2048
  pub table : table_of start ≡ tokens
  pub end : List ℕ
  pub ran : RanLent called start history end

-- Document 01's sentences of calls on lent bytes. 18 is answered exactly where the bytes have another length. A refusal
-- changes none of them, and no call changes a byte but the eight of its own address.
pub record LentLeases (called : List ℕ → LeaseCall → Answer (List ℕ) → List ℕ → Type 0) : Type 0 where
  pub leases : Leases (LentRun called)
  pub other_length : (s s' : List ℕ) (c : LeaseCall) (x : Answer (List ℕ)) → called s c x s'
      → Exactly (x ≡ refused 18) (length s ≡ 2048 → ⊥)
  pub refusal_leaves : (s s' : List ℕ) (c : LeaseCall) (n : ℕ) → called s c (refused n) s' → s' ≡ s
  pub own_bytes : (s s' : List ℕ) (c : LeaseCall) (x : Answer (List ℕ)) (i : ℕ) → called s c x s'
      → (i < 8 * address_of c) ⊎ (8 * address_of c + 8 ≤ i) → get_or s' i 0 ≡ get_or s i 0
