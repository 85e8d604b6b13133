-- The lease table (document 01, "Stop desk"): what each call answers, writes and leaves, given the token at its
-- address.
use Rattle.std.specs.Prelude.{ℕ, ◌*◌, Bool, false, List, [], ◌∷◌, leb, eqb, length, get_or, set}
use Rattle.lists.specs.Choice.{pick}
use Rattle.answer.specs.Answer.{Answer, result, refused}
use Rattle.frame.specs.Address.{in_range}
use Rattle.frame.specs.Frame.{wire_of, extended}
use Rattle.numbers.specs.Number.{numbers, put}

-- A call, with the length of the output that a stop is lent.
pub data LeaseCall : Type 0 where
  hold : (address token : ℕ) → LeaseCall
  release : (address token : ℕ) → LeaseCall
  stop : (address token room : ℕ) → LeaseCall

abbrev pub address_of : LeaseCall → ℕ
address_of (hold a t) = a
address_of (release a t) = a
address_of (stop a t room) = a

abbrev pub token_of : LeaseCall → ℕ
token_of (hold a t) = t
token_of (release a t) = t
token_of (stop a t room) = t

-- The holder's token: not 0, and the one that is held.
abbrev pub owns : (token held : ℕ) → Bool
owns t held = pick (eqb t 0) false (eqb t held)

-- The frame that stops the machine at an address: from 00, terminate workout.
unfoldable pub stop_frame : ℕ → List ℕ
stop_frame a = wire_of (extended a 0x00 (0x76 ∷ 0x04 ∷ 0x13 ∷ 0x02 ∷ 0x01 ∷ 0x02 ∷ []))

-- The answer, where `held` is the token at the call's address, 0 for free: the bytes that are written, which only a
-- stop has, or a refusal. Hold 9, 14, 10; release 9, 11; stop 9, 11, 1.
unfoldable pub answer_of : (held : ℕ) → LeaseCall → Answer (List ℕ)
answer_of held (hold a t) =
    pick (in_range a) (pick (eqb t 0) (refused 14) (pick (eqb held 0) (result []) (refused 10))) (refused 9)
answer_of held (release a t) = pick (in_range a) (pick (owns t held) (result []) (refused 11)) (refused 9)
answer_of held (stop a t room) =
    pick (in_range a)
    (pick (owns t held) (pick (leb (length (stop_frame a)) room) (result (stop_frame a)) (refused 1)) (refused 11))
    (refused 9)

-- ---- a table: a list of 256 tokens

abbrev pub table_answer : List ℕ → LeaseCall → Answer (List ℕ)
table_answer tokens c = answer_of (get_or tokens (address_of c) 0) c

-- The table after a call, by its answer. A refusal leaves the table as it is. An accepted hold puts its token at its
-- address, an accepted release puts 0 there, and a stop leaves the table.
abbrev pub table_left : Answer (List ℕ) → LeaseCall → List ℕ → List ℕ
table_left (refused n) c tokens = tokens
table_left (result w) (hold a t) tokens = set tokens a t
table_left (result w) (release a t) tokens = set tokens a 0
table_left (result w) (stop a t room) tokens = tokens

abbrev pub table_after : List ℕ → LeaseCall → List ℕ
table_after tokens c = table_left (table_answer tokens c) c tokens

-- ---- lent bytes: eight for each address in order, lowest first

abbrev pub table_of : List ℕ → List ℕ
table_of bytes = numbers 8 256 0 bytes

-- Refusal 18 comes before every other; else the answer is that of the table that the bytes are.
unfoldable pub lent_answer : List ℕ → LeaseCall → Answer (List ℕ)
lent_answer bytes c = pick (eqb (length bytes) 2048) (table_answer (table_of bytes) c) (refused 18)

-- The bytes after a call, by its answer. A refusal leaves them as they are. An accepted hold writes its token over its
-- address's own eight bytes, an accepted release writes 0 there, and a stop leaves them.
abbrev pub lent_left : Answer (List ℕ) → LeaseCall → List ℕ → List ℕ
lent_left (refused n) c bytes = bytes
lent_left (result w) (hold a t) bytes = put 8 (8 * a) t bytes
lent_left (result w) (release a t) bytes = put 8 (8 * a) 0 bytes
lent_left (result w) (stop a t room) bytes = bytes

abbrev pub lent_after : List ℕ → LeaseCall → List ℕ
lent_after bytes c = lent_left (lent_answer bytes c) c bytes
