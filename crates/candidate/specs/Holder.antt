-- What holds the open candidate of a line, and its calls: those of framing's bounded reader, at the rowing protocol of
-- its own origin. It has no positions.
use Rattle.std.specs.Prelude.{◌≡◌, List, ℕ}
use Rattle.lists.specs.Machine.{Turn, turn}
use Rattle.framing.specs.Reference.{Call, byte, finish, Role}
use Rattle.framing.specs.Bounded.{BoundedReader, bounded, byte_turn, bounded_turn}
use Rattle.framing.specs.declared.Mode.{Mode}
use Rattle.frame.specs.Flags.{role_of}
use Rattle.frame.specs.declared.Origin.{Origin}
use Rattle.frame.specs.declared.Kind.{Kind}
use Rattle.candidate.specs.Outcome.{Outcome, told_means, summary_of}
use Rattle.candidate.specs.Rowing.{rowing, rowing_bounds}
use Rattle.candidate.specs.declared.Held.{Held}
use Rattle.candidate.specs.declared.HeldStep.{HeldStep}

-- An array, and what is known of it: how many bytes are held, the mode and the origin.
pub record Holder : Type 0 where
  pub bytes : List ℕ
  pub held : Held

abbrev pub holder : List ℕ → Held → Holder
holder bytes held = record { bytes = bytes; held = held }

abbrev pub holder_of : Origin → List ℕ → ℕ → Mode Kind → Holder
holder_of o bytes len mode = holder bytes (record { len = len; mode = mode; origin = o })

abbrev pub origin_held : Holder → Origin
origin_held r = r.held.origin

-- ---- as a bounded reader, and back

abbrev pub seen : Holder → BoundedReader Kind
seen r = bounded r.bytes r.held.len r.held.mode

abbrev pub holder_seen : Origin → BoundedReader Kind → Holder
holder_seen o r = holder_of o r.bytes r.len r.mode

-- ---- the calls

-- An outcome, and the holder afterwards.
abbrev pub HolderTurn : Type 0
HolderTurn = Turn Holder Outcome

-- It keeps its origin.
abbrev pub turn_seen : Origin → Turn (BoundedReader Kind) Outcome → HolderTurn
turn_seen o t = turn t.answer (holder_seen o t.next)

-- A byte of a role.
abbrev pub role_step : Role → Holder → ℕ → HolderTurn
role_step ρ r b = turn_seen (origin_held r) (byte_turn (rowing (origin_held r)) (rowing_bounds (origin_held r)) ρ (seen r) b)

-- A byte is fed.
abbrev pub step_held : Holder → ℕ → HolderTurn
step_held r b = role_step (role_of b) r b

-- The input ends.
abbrev pub finish_held : Holder → HolderTurn
finish_held r = turn_seen (origin_held r) (bounded_turn (rowing (origin_held r)) (rowing_bounds (origin_held r)) (seen r) finish)

abbrev pub turn_held : Holder → Call → HolderTurn
turn_held r (byte b) = step_held r b
turn_held r finish = finish_held r

abbrev pub next_held : Holder → Call → Holder
next_held r c = (turn_held r c).next

-- ---- what a function returns

-- Over a lent array, with `bytes` in it afterwards.
pub record HeldStepIs (bytes : List ℕ) (s : HeldStep) (t : HolderTurn) : Type 0 where
  pub told_is : told_means s.told ≡ summary_of t.answer
  pub next_is : holder bytes s.held ≡ t.next
