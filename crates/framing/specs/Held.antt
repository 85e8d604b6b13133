-- What the code of a bounded reader returns, beside the definitions that it is.
use Rattle.std.specs.Prelude.{◌≡◌, ℕ, ◌+◌, ltb, set, List, Option, None, Some, Result, Err}
use Rattle.lists.specs.Choice.{pick}
use Rattle.lists.specs.Machine.{Turn, turn, left_after}
use Rattle.answer.specs.declared.Refusal.{Refusal}
use Rattle.answer.specs.declared.Refusal.TheVariants.{Truncated}
use Rattle.framing.specs.Reference.{Role, starts, stops, plain, Protocol}
use Rattle.framing.specs.Bounded.{Bounds, BoundedReader, bounded, terminated_in, left_by_stop}
use Rattle.framing.specs.declared.Role.{Role as RoleTold}
use Rattle.framing.specs.declared.Role.TheVariants.{Start, Stop, Plain}
use Rattle.framing.specs.declared.Mode.{Mode}
use Rattle.framing.specs.declared.Mode.TheVariants.{Outside, Inside, Overlong}
use Rattle.framing.specs.declared.Held.{Held}
use Rattle.framing.specs.declared.Step.{Step}

-- A byte's role, with the kind of candidate that it opens.
abbrev pub role_told : {K : Type 0} → Role → K → RoleTold K
role_told starts kind = Start kind
role_told stops kind = Stop
role_told plain kind = Plain

-- An array, and what is known of it, as a reader.
abbrev pub reader : {K : Type 0} → List ℕ → Held K → BoundedReader K
reader bytes held = bounded bytes held.len held.mode

-- What is told, and what is held afterwards, with `bytes` in the array.
pub record StepIs {K T A : Type 0} (tells : Option (Result T Refusal) → A → Type 0) (bytes : List ℕ) (s : Step K T)
    (t : Turn (BoundedReader K) A) : Type 0 where
  pub told_is : tells s.told t.answer
  pub next_is : reader bytes s.held ≡ t.next

-- ---- private functions

-- Whatever is open is truncated.
abbrev pub cut : {K T : Type 0} → Mode K → Option (Result T Refusal)
cut Outside = None
cut (Inside kind) = Some (Err Truncated)
cut Overlong = Some (Err Truncated)

-- The stop flag terminates what is open.
abbrev pub stopped : {K A : Type 0} → Protocol A → Bounds K A → BoundedReader K → Turn (BoundedReader K) A
stopped P B r =
    turn (terminated_in P B r.mode r.bytes r.len) (bounded (left_by_stop P B r.mode r.bytes r.len) 0 Outside)

-- An open candidate of a kind has one byte more, or is over-long where there is no room for it.
abbrev pub with_byte : {K : Type 0} → (room : ℕ) → List ℕ → (len : ℕ) → K → (b : ℕ) → BoundedReader K
with_byte room bytes len kind b =
    pick (ltb len room) (bounded (set bytes len b) (len + 1) (Inside kind)) (bounded bytes 0 Overlong)

abbrev pub plain_in : {K : Type 0} → (room : ℕ) → Mode K → List ℕ → (len b : ℕ) → BoundedReader K
plain_in room Outside bytes len b = bounded bytes len Outside
plain_in room (Inside kind) bytes len b = with_byte room bytes len kind b
plain_in room Overlong bytes len b = bounded bytes len Overlong

-- A reader after a byte that is no flag.
abbrev pub with_plain : {K : Type 0} → (room : ℕ) → BoundedReader K → ℕ → BoundedReader K
with_plain room r b = plain_in room r.mode r.bytes r.len b

-- A reader after the bytes of a run, fed singly.
abbrev pub after_run : {K : Type 0} → (room : ℕ) → BoundedReader K → List ℕ → BoundedReader K
after_run room r run = left_after (with_plain room) r run
