-- Laws of what holds the open candidate, seen as a bounded reader.
use mathlib.Core.Path.{◌≡◌, refl, ap, subst}
use Prim.Native.Nat.{ℕ}
use Rattle.framing.specs.Reference.{Call, byte, finish, plain}
use Rattle.framing.specs.Bounded.{BoundedMode, BoundedReader, truncated_in, grown_in, bounded_turn}
use Rattle.framing.specs.Held.{plain_in, with_plain}
use Rattle.framing.specs.declared.Mode.{Mode}
use Rattle.framing.specs.declared.Mode.TheVariants.{Outside, Inside, Overlong}
use Rattle.frame.specs.declared.Origin.{Origin}
use Rattle.frame.specs.declared.Kind.{Kind}
use Rattle.candidate.specs.Outcome.{capacity}
use Rattle.candidate.specs.Rowing.{rowing, rowing_bounds}
use Rattle.candidate.specs.Holder.{Holder, origin_held, seen, holder_seen, role_step, turn_held}

-- ---- the struct and the bounded reader determine each other

pub seen_again : (o : Origin) (r : BoundedReader Kind) → seen (holder_seen o r) ≡ r
seen_again o r = refl

-- Every call keeps the origin.
pub origin_kept : (r : Holder) (c : Call) → origin_held (turn_held r c).next ≡ origin_held r
origin_kept r (byte b) = refl
origin_kept r finish = refl

-- Each call at an origin, whatever is held, is the call on the bounded reader.
pub call_seen : (o : Origin) (r : Holder) (c : Call) → origin_held r ≡ o
    → ((turn_held r c).answer ≡ (bounded_turn (rowing o) (rowing_bounds o) (seen r) c).answer)
    × (seen (turn_held r c).next ≡ (bounded_turn (rowing o) (rowing_bounds o) (seen r) c).next)
    × (origin_held (turn_held r c).next ≡ o)
call_seen o r c e =
    subst (λ (p : Origin). ((turn_held r c).answer ≡ (bounded_turn (rowing p) (rowing_bounds p) (seen r) c).answer)
    × (seen (turn_held r c).next ≡ (bounded_turn (rowing p) (rowing_bounds p) (seen r) c).next)
    × (origin_held (turn_held r c).next ≡ p)) e (own c)
  where
    own : (c : Call) → ((turn_held r c).answer ≡ (bounded_turn (rowing (origin_held r)) (rowing_bounds (origin_held r)) (seen r) c).answer)
        × (seen (turn_held r c).next ≡ (bounded_turn (rowing (origin_held r)) (rowing_bounds (origin_held r)) (seen r) c).next)
        × (origin_held (turn_held r c).next ≡ origin_held r)
    own (byte b) = (refl, seen_again (origin_held r) _, refl)
    own finish = (refl, seen_again (origin_held r) _, refl)

-- Truncation is told alike at every origin.
pub truncated_alike : (o p : Origin) (m : BoundedMode Kind)
    → truncated_in (rowing o) (rowing_bounds o) m ≡ truncated_in (rowing p) (rowing_bounds p) m
truncated_alike o p Outside = refl
truncated_alike o p (Inside kind) = refl
truncated_alike o p Overlong = refl

-- ---- a byte that is no flag

-- What it leaves.
pub plain_byte : (o : Origin) (r : BoundedReader Kind) (b : ℕ)
    → (role_step plain (holder_seen o r) b).next ≡ holder_seen o (with_plain capacity r b)
plain_byte o r b = ap (holder_seen o) (at_mode r.mode)
  where
    at_mode : (m : Mode Kind)
        → grown_in (rowing o) (rowing_bounds o) m r.bytes r.len b ≡ plain_in capacity m r.bytes r.len b
    at_mode Outside = refl
    at_mode (Inside kind) = refl
    at_mode Overlong = refl
