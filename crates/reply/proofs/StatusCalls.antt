-- The status functions: what any call of them, known by nothing but its contract, answers.
use Prim.Native.Nat.{ℕ}
use mathlib.Core.Path.{◌≡◌, refl, sym, ap, ◌∙◌}
use mathlib.Core.Bool.{Bool}
use native.Mathlib.Omega.{arith}
use Rattle.std.specs.Prelude.{Result, Ok, Err}
use lib.Dec.{eqb}
use Rattle.lists.specs.Choice.{pick, Exactly}
use Rattle.lists.proofs.Cases.{exactly}
use Rattle.answer.specs.Answer.{Answer, result}
use Rattle.answer.specs.declared.Refusal.{Refusal}
use Rattle.reply.specs.Status.{StatusParts, status, parts_of, status_means, StatusByte, StatusJudged, PartsJudged}
use Rattle.reply.specs.Status.{Previous, previous_number, ok, reject, bad, not_ready, State, state_number, error, ready}
use Rattle.reply.specs.Status.{idle, have_id, in_use, pause, finish, manual, offline}
use Rattle.reply.specs.declared.status.Status.{Status}
use Rattle.reply.proofs.StatusLaws.{named_parts, named_result, sound_byte, byte_sound, made_of, made_of_names}
use Rattle.reply.proofs.StatusLaws.{byte_again, status_by_table, parts_by_table}
use Rattle.reply.proofs.status.Status.of.Reads as of-reads
use Rattle.reply.proofs.status.Status.from_byte.Reads as from-byte-reads
use Rattle.reply.proofs.status.Status.to_byte.Reads as to-byte-reads

-- A call of each, with its answer.
abbrev pub CalledFromByte : ℕ → Result Status Refusal → Type 0
CalledFromByte b r = from-byte-reads.Learnt tt (b, tt) r (b, tt)

abbrev pub CalledOf : (toggle : Bool) (previous state : ℕ) → Result Status Refusal → Type 0
CalledOf t p s r = of-reads.Learnt tt (t, (p, (s, tt))) r (t, (p, (s, tt)))

abbrev pub CalledToByte : Status → ℕ → Type 0
CalledToByte s b = to-byte-reads.Learnt tt (s, tt) b (s, tt)

-- `from_byte` answers the parts of a status exactly when its argument is the byte of that status, and 8 exactly when it
-- is the byte of none.
pub from_byte_exactly : (b : ℕ) (r : Result Status Refusal) → CalledFromByte b r → (a : Answer StatusParts)
    → Exactly (status_means r ≡ a) (StatusJudged b a)
from_byte_exactly b r k a = exactly k (status_by_table b a)

-- `of` answers its arguments as a status exactly when both numbers have names, and 8 exactly when one has none.
pub of_exactly : (t : Bool) (p s : ℕ) (r : Result Status Refusal) → CalledOf t p s r → (a : Answer StatusParts)
    → Exactly (status_means r ≡ a) (PartsJudged (status t p s) a)
of_exactly t p s r k a = exactly k (parts_by_table t p s a)

-- a name again, from its number
result_of : ℕ → Previous
result_of n = pick (eqb n 0) ok (pick (eqb n 1) reject (pick (eqb n 2) bad not_ready))

same_result : (p q : Previous) → previous_number p ≡ previous_number q → p ≡ q
unfolding result_of
same_result p q e = sym (back p) ∙ ap result_of e ∙ back q
  where
    back : (p : Previous) → result_of (previous_number p) ≡ p
    back ok = refl
    back reject = refl
    back bad = refl
    back not_ready = refl

state_of : ℕ → State
state_of n =
    pick (eqb n 0) error (pick (eqb n 1) ready (pick (eqb n 2) idle (pick (eqb n 3) have_id (pick (eqb n 5) in_use
    (pick (eqb n 6) pause (pick (eqb n 7) finish (pick (eqb n 8) manual offline)))))))

same_state : (s r : State) → state_number s ≡ state_number r → s ≡ r
unfolding state_of
same_state s r e = sym (back s) ∙ ap state_of e ∙ back r
  where
    back : (s : State) → state_of (state_number s) ≡ s
    back error = refl
    back ready = refl
    back idle = refl
    back have_id = refl
    back in_use = refl
    back pause = refl
    back finish = refl
    back manual = refl
    back offline = refl

-- an answer with the parts of a status is that status
same_status : (r : Result Status Refusal) (s : Status) → status_means r ≡ result (parts_of s) → r ≡ Ok s
same_status (Ok u) s e =
    let i : u.toggle ≡ s.toggle = cc in
    let j : previous_number u.previous ≡ previous_number s.previous = cc in
    let k : state_number u.state ≡ state_number s.state = cc in
    ap (λ (x : Bool). Ok (record { toggle = x; previous = u.previous; state = u.state })) i
    ∙ ap (λ (x : Previous). Ok (record { toggle = s.toggle; previous = x; state = u.state })) (same_result _ _ j)
    ∙ ap (λ (x : State). Ok (record { toggle = s.toggle; previous = s.previous; state = x })) (same_state _ _ k)
same_status (Err why) s e = let z : ◌≡◌ {A = ℕ} 0 1 = cc in absurd (omega arith)

-- The byte of a status that `from_byte` read is the byte that it was read from.
pub read_made : (b c : ℕ) (s : Status) → CalledFromByte b (Ok s) → CalledToByte s c → c ≡ b
read_made b c s k m = m ∙ byte_again b s.toggle (previous_number s.previous) (state_number s.state) (sym k)

-- The byte of a status that `of` made has the parts that it was made of.
pub made_byte : (t : Bool) (p x c : ℕ) (s : Status) → CalledOf t p x (Ok s) → CalledToByte s c
    → StatusByte c (status t p x)
made_byte t p x c s k m =
    let n = named_result t p x (parts_of s) (sym k) in
    record {
      named = n.1.named;
      byte = m ∙ ap made_of (n.0 ∙ n.1.parts) ∙ made_of_names n.1.named;
      parts = n.1.parts;
    }

-- And `from_byte` reads that byte as the same status.
pub made_read : (t : Bool) (p x c : ℕ) (s : Status) (r : Result Status Refusal) → CalledOf t p x (Ok s)
    → CalledToByte s c → CalledFromByte c r → r ≡ Ok s
made_read t p x c s r k m l =
    same_status r s (l ∙ byte_sound c (status t p x) (made_byte t p x c s k m)
    ∙ ap result (sym (named_result t p x (parts_of s) (sym k)).0))

-- A status that `from_byte` read, made of its parts again, is the same status.
pub read_parts : (b : ℕ) (s : Status) (r : Result Status Refusal) → CalledFromByte b (Ok s)
    → CalledOf s.toggle (previous_number s.previous) (state_number s.state) r → r ≡ Ok s
read_parts b s r k l =
    let j = sound_byte b (parts_of s) (sym k) in
    same_status r s (l ∙ named_parts (parts_of s) (record { named = j.named; parts = j.parts }))
