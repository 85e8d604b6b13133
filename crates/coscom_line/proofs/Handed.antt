-- What the calls over a lent array hand out, made of what those of framing hand out.
use mathlib.Core.Path.{◌≡◌, refl, sym, ap, subst}
use mathlib.Core.List.{List}
use Prim.Native.Nat.{ℕ}
use Rattle.lists.specs.Machine.{Turn}
use Rattle.coscom.specs.declared.Outline.{Outline}
use Rattle.framing.specs.Bounded.{BoundedReader, bounded, bounded_turn}
use Rattle.framing.specs.Chunk.{fed_by}
use Rattle.framing.specs.Fed.{FedIs}
use Rattle.framing.specs.Held.{StepIs}
use Rattle.framing.specs.declared.Held.{Held}
use Rattle.framing.specs.declared.Step.{Step}
use Rattle.framing.specs.declared.feeds.Fed.{Fed}
use Rattle.framing.proofs.FedLaws.{fed_viewed}
use Rattle.coscom_line.specs.Outcome.{Outcome, nothing, told_means, summary_of, is_answer}
use Rattle.coscom_line.specs.Reader.{coscom, coscom_bounds, lent_reader, reader_seen, turn_of, turn_seen, LentStepIs}
use Rattle.coscom_line.specs.Chunk.{ChunkTurn, feed_of, ChunkIs}

pub step_handed : (new : List ℕ) (s : Step (Unit {0}) Outline) (t : Turn (BoundedReader (Unit {0})) Outcome)
    → StepIs (λ told a. told_means told ≡ summary_of a) new s t
    → LentStepIs new (record { told = s.told; state = s.held }) (turn_seen t)
step_handed new s t k = record { told_is = k.told_is; next_is = ap reader_seen k.next_is }

pub fed_handed : (state : Held (Unit {0})) (old new input : List ℕ) (f : Fed (Unit {0}) Outline)
    → FedIs (λ told a. told_means told ≡ summary_of a) new f.told f.held f.taken
    (fed_by nothing is_answer (bounded_turn coscom coscom_bounds) (bounded old state.len state.mode) input)
    → ChunkIs (lent_reader new f.held) f.told f.taken (feed_of (lent_reader old state) input)
fed_handed state old new input f k =
    subst (λ (t : ChunkTurn). ChunkIs (lent_reader new f.held) f.told f.taken t)
    (sym (fed_viewed nothing is_answer (bounded_turn coscom coscom_bounds) turn_of reader_seen (λ u b. refl)
    (bounded old state.len state.mode) input))
    (record { told_is = k.told_is; next_is = ap reader_seen k.next_is; taken_is = k.taken_is })
