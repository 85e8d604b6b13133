-- What every writer of these crates answers and leaves in the output that it is lent, and what a length that was told
-- beforehand says of it.
use Rattle.std.specs.Prelude.{ℕ, ◌≤◌, ◌<◌, ◌≡◌, List, ◌++◌, leb, length, drop, Result, Ok, Err}
use Rattle.lists.specs.Choice.{pick, Exactly}
use Rattle.answer.specs.Answer.{Answer, result, refused}
use Rattle.answer.specs.Refusals.{number_of}
use Rattle.answer.specs.declared.Refusal.{Refusal}

-- The bytes to put first in an output, or a refusal that needs no output to be known.
abbrev pub Draft : Type 0
Draft = Answer (List ℕ)

-- How many bytes were written, or a refusal.
abbrev pub written_means : Result ℕ Refusal → Answer ℕ
written_means (Ok n) = result n
written_means (Err why) = refused (number_of why)

-- The answer with so much room: the draft's refusal, then 1, then the length.
unfoldable pub draft_answer : Draft → ℕ → Answer ℕ
draft_answer (refused n) room = refused n
draft_answer (result w) room = pick (leb (length w) room) (result (length w)) (refused 1)

-- The output afterwards: a refusal changes nothing, and what stands past the result stays.
unfoldable pub draft_out : Draft → List ℕ → List ℕ
draft_out (refused n) out = out
draft_out (result w) out = pick (leb (length w) (length out)) (w ++ drop (length w) out) out

-- What a call that writes a draft answers, and the output that it was lent before and after.
abbrev pub Writes : Draft → (out : List ℕ) → Answer ℕ → (last : List ℕ) → Type 0
Writes d out a last = (a ≡ draft_answer d (length out)) × (last ≡ draft_out d out)

-- What the answer of a call that measures tells of a call that writes the same into so much room: that many bytes are
-- written exactly where they fit; 1 is answered exactly where the room is less; every other refusal is the same, and
-- measuring is never refused with 1.
pub record Foretells (measured written : Answer ℕ) (room : ℕ) : Type 0 where
  pub fits : (n : ℕ) → Exactly (written ≡ result n) ((measured ≡ result n) × (n ≤ room))
  pub lacks : Exactly (written ≡ refused 1) ((n : ℕ) × (measured ≡ result n) × (room < n))
  pub alike : (k : ℕ) → (k ≡ 1 → ⊥) → Exactly (written ≡ refused k) (measured ≡ refused k)
  pub never_1 : measured ≡ refused 1 → ⊥
