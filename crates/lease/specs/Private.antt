-- Contracts of private functions, which no caller reads: the token in lent bytes, and the store of hold and release.
use Rattle.std.specs.Prelude.{ℕ, ◌≤◌, ◌≡◌, List, length, get_or, set, Result, Ok, Err}
use Rattle.lists.specs.Choice.{pick}
use Rattle.answer.specs.Answer.{Answer, result, refused}
use Rattle.frame.specs.Address.{in_range}
use Rattle.answer.specs.declared.Refusal.{Refusal}
use Rattle.answer.specs.declared.Refusal.TheVariants.{BadTable}
use Rattle.lease.specs.Lease.{table_of}

-- The token of a machine or a console, 0 for any other address, whose call is refused whatever its bytes are.
abbrev pub token_in : (table : List ℕ) (address : ℕ) → ℕ
token_in table address = pick (in_range address) (get_or (table_of table) address 0) 0

-- An accepted call has an address of a machine or a console.
abbrev pub Settles : ℕ → Answer (List ℕ) → Type 0
Settles address (result w) = (1 ≤ address) × (address ≤ 252)
Settles address (refused n) = Unit {0}

abbrev pub settled : Answer (List ℕ) → (address token : ℕ) → List ℕ → List ℕ
settled (result w) address token tokens = set tokens address token
settled (refused n) address token tokens = tokens

-- Bytes of another length are refused with 18. Else the token is told.
abbrev pub TokenIn : (table : List ℕ) (address : ℕ) → Result ℕ Refusal → Type 0
TokenIn table address (Ok held) = (length table ≡ 2048) × (held ≡ token_in table address)
TokenIn table address (Err why) = (why ≡ BadTable) × (length table ≡ 2048 → ⊥)
