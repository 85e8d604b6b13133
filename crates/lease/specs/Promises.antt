-- What the public functions promise.
use Rattle.std.specs.Prelude.{ℕ, ◌^◌, ◌<◌, ◌≡◌, List, length}
use Rattle.answer.specs.Answer.{Answer}
use Rattle.numbers.specs.Number.{Bytes}
use Rattle.lease.specs.Lease.{LeaseCall, stop, token_of, table_answer, table_after, lent_answer, lent_after}
use Rattle.lease.specs.Answers.{written_length, out_after}

-- Hold and release on a table: the answer, and the table afterwards.
pub record TableCall (tokens : List ℕ) (c : LeaseCall) (answer : Answer (List ℕ)) (after : List ℕ) : Type 0 where
  pub answered : answer ≡ table_answer tokens c
  pub left : after ≡ table_after tokens c

-- Stop on a table: the answer, and the output afterwards.
pub record TableStop (tokens : List ℕ) (address token : ℕ) (out : List ℕ) (answer : Answer ℕ) (last : List ℕ)
    : Type 0 where
  pub answered : answer ≡ written_length (table_answer tokens (stop address token (length out)))
  pub written : last ≡ out_after (table_answer tokens (stop address token (length out))) out

-- What every call on lent bytes shows of its arguments: the elements are bytes, and the token has 64 bits.
pub record Real (table : List ℕ) (token : ℕ) : Type 0 where
  pub bytes : Bytes table
  pub fits : token < 2 ^ 64

-- Hold and release on lent bytes: the answer, and all bytes afterwards.
pub record LentCall (table : List ℕ) (c : LeaseCall) (answer : Answer (List ℕ)) (after : List ℕ) : Type 0 where
  pub answered : answer ≡ lent_answer table c
  pub left : after ≡ lent_after table c
  pub real : Real table (token_of c)

-- Stop on lent bytes, which stay as they were: the answer, and the output afterwards.
pub record LentStop (table : List ℕ) (address token : ℕ) (out : List ℕ) (answer : Answer ℕ) (last : List ℕ)
    : Type 0 where
  pub answered : answer ≡ written_length (lent_answer table (stop address token (length out)))
  pub written : last ≡ out_after (lent_answer table (stop address token (length out))) out
  pub real : Real table token
