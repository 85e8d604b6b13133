-- What the calls over a lent array hand out, made of what those of framing hand out.
use mathlib.Core.Path.{◌≡◌, refl, sym, ap, subst}
use mathlib.Core.List.{List}
use Prim.Native.Nat.{ℕ}
use Rattle.lists.specs.Machine.{Turn}
use Rattle.frame.specs.declared.Kind.{Kind}
use Rattle.frame.specs.declared.Origin.{Origin}
use Rattle.frame.specs.declared.Outline.{Outline}
use Rattle.framing.specs.Bounded.{BoundedReader, bounded, bounded_turn}
use Rattle.frame.specs.Flags.{role_of}
use Rattle.framing.specs.Fed.{feed_of, FedIs, OpensIs}
use Rattle.framing.specs.Held.{StepIs}
use Rattle.framing.specs.declared.Step.{Step}
use Rattle.framing.specs.declared.feeds.Fed.{Fed}
use Rattle.framing.proofs.FedLaws.{fed_viewed}
use Rattle.candidate.specs.Outcome.{Outcome, nothing, told_means, summary_of}
use Rattle.candidate.specs.Rowing.{rowing, rowing_bounds}
use Rattle.candidate.specs.Holder.{holder, holder_seen, turn_seen, turn_held, HeldStepIs}
use Rattle.candidate.specs.Feed.{is_answer, feed_held, FedHeld, HeldChunkIs, Opens}
use Rattle.candidate.specs.declared.Held.{Held}
use Rattle.candidate.specs.declared.HeldChunk.{HeldChunk}

pub step_handed : (o : Origin) (new : List ℕ) (s : Step Kind Outline) (t : Turn (BoundedReader Kind) Outcome)
    → StepIs (λ told a. told_means told ≡ summary_of a) new s t
    → HeldStepIs new (record { told = s.told; held = record { len = s.held.len; mode = s.held.mode; origin = o } })
    (turn_seen o t)
step_handed o new s t k = record { told_is = k.told_is; next_is = ap (holder_seen o) k.next_is }

abbrev pub chunk_handed : Origin → Fed Kind Outline → HeldChunk
chunk_handed o f =
    record {
      told = f.told;
      held = record { len = f.held.len; mode = f.held.mode; origin = o };
      taken = f.taken;
      began = f.began;
      opened = f.opened;
    }

module _ (held : Held) (old new input : List ℕ) (f : Fed Kind Outline) where
  pub fed_handed : FedIs (λ told a. told_means told ≡ summary_of a) new f.told f.held f.taken
      (feed_of (rowing held.origin) (rowing_bounds held.origin) is_answer (bounded old held.len held.mode) input)
      → HeldChunkIs new (chunk_handed held.origin f) (feed_held (holder old held) input)
  fed_handed k =
      subst (λ (t : FedHeld). HeldChunkIs new (chunk_handed held.origin f) t)
      (sym (fed_viewed nothing is_answer (bounded_turn (rowing held.origin) (rowing_bounds held.origin)) turn_held
      (holder_seen held.origin) (λ u b. refl) (bounded old held.len held.mode) input))
      (record { told_is = k.told_is; next_is = ap (holder_seen held.origin) k.next_is; taken_is = k.taken_is })

  pub opens_handed : OpensIs role_of is_answer input f.began f.opened
      (feed_of (rowing held.origin) (rowing_bounds held.origin) is_answer (bounded old held.len held.mode) input)
      → Opens input (chunk_handed held.origin f) (feed_held (holder old held) input)
  opens_handed k =
      subst (λ (t : FedHeld). Opens input (chunk_handed held.origin f) t)
      (sym (fed_viewed nothing is_answer (bounded_turn (rowing held.origin) (rowing_bounds held.origin)) turn_held
      (holder_seen held.origin) (λ u b. refl) (bounded old held.len held.mode) input))
      (record { began_is = k.began_is; opened_is = k.opened_is })
