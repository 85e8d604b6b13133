-- A turn of the loop over a chunk's bytes, its end, and where the start flags stand.
use mathlib.Core.Path.{◌≡◌, refl, sym, ap, ap₂, ◌∙◌, subst}
use mathlib.Core.Bool.{Bool, true, false}
use mathlib.Core.List.{List, [], ◌∷◌}
use native.Mathlib.Numerals.{add-one}
use native.Mathlib.Omega.{arith}
use lib.ListN.{length, take, drop, get_or}
use lib.Seq.{take-suc, take-add, length-take-le}
use Prim.Native.Nat.{ℕ, ◌+◌, ◌-◌, ◌≤◌, ◌<◌}
use Rattle.std.specs.Prelude.{Option, None, Some, Result, is_some}
use Rattle.lists.specs.Choice.{pick, count_before}
use Rattle.lists.specs.Machine.{Turn, turn}
use Rattle.lists.proofs.Lists.{rest_part}
use Rattle.lists.proofs.Tests.{none_every}
use Rattle.answer.specs.declared.Refusal.{Refusal}
use Rattle.framing.specs.Reference.{Call, byte, Role, plain, Protocol}
use Rattle.framing.specs.Bounded.{Bounds, BoundedReader, bounded, grown_in, byte_turn, bounded_turn}
use Rattle.framing.specs.Counting.{start_after, start_in}
use Rattle.framing.specs.Chunk.{FedTurn, fed_turn, later_by, fed_by}
use Rattle.framing.specs.Held.{reader, plain_in, with_plain, after_run, StepIs}
use Rattle.framing.specs.Fed.{feed_of, last_start, OpensIs, Feeds, StandsWhole}
use Rattle.framing.specs.declared.Mode.{Mode}
use Rattle.framing.specs.declared.Mode.TheVariants.{Outside, Inside, Overlong}
use Rattle.framing.specs.declared.Held.{Held}
use Rattle.framing.specs.declared.Step.{Step}
use Rattle.framing.specs.declared.Whole.{Whole}
use Rattle.framing.proofs.Counting.{start_append, start_free}
use Rattle.framing.proofs.Chunk.{run_clear, run_on, not_answered, answered, no_byte_left}

-- ---- where the start flags stand

module _ (role : ℕ → Role) where
  -- one byte more
  pub start_more : (s : List ℕ) (i : ℕ) → i < length s
      → last_start role (take (i + 1) s) ≡ start_after (role (get_or s i 0)) (last_start role (take i s)) (i + 1)
  start_more s i below =
      let n : 1 + length (take i s) ≡ i + 1 = omega (arith, length-take-le i s (omega arith)) in
      ap (λ (k : ℕ). last_start role (take k s)) (add-one i) ∙ ap (last_start role) (take-suc s i 0 below)
      ∙ start_append role 0 1 (take i s) (get_or s i 0 ∷ [])
      ∙ ap (start_after (role (get_or s i 0)) (last_start role (take i s))) n

  -- after so many bytes past an index, as the code takes them
  last_past : (s : List ℕ) (at k : ℕ)
      → last_start role (take (at + k) s)
      ≡ start_in role (last_start role (take at s)) (1 + length (take at s)) (take k (take (length s - at) (drop at s)))
  last_past s at k =
      ap (last_start role) (take-add at k s)
      ∙ start_append role 0 1 (take at s) (take k (drop at s))
      ∙ ap (λ (l : List ℕ). start_in role (last_start role (take at s)) (1 + length (take at s)) (take k l)) (sym (rest_part s at))

  module _ {S A : Type 0} (is_answer : A → Bool) where
    -- by whether something is told, and how many bytes were taken
    opens_at : (s : List ℕ) (began opened : ℕ) (f : FedTurn S A) (n : ℕ) (q : Bool) → is_answer f.answer ≡ q
        → f.taken ≡ n → began ≡ last_start role (take (pick q (n - 1) n) s) → opened ≡ last_start role (take n s)
        → OpensIs role is_answer s began opened f
    opens_at s began opened f n q a t e o = record {
      began_is = e ∙ sym (ap₂ (λ (x : Bool) (m : ℕ). last_start role (take (pick x (m - 1) m) s)) a t);
      opened_is = o ∙ ap (λ (m : ℕ). last_start role (take m s)) (sym t);
    }

-- ---- a run of bytes that are no flags

module _ {K A : Type 0} (P : Protocol A) (B : Bounds K A) (is_answer : A → Bool) (silent : is_answer P.nothing ≡ false)
    (ends_run : ℕ → Bool) (free : (b : ℕ) → ends_run b ≡ false → P.role b ≡ plain) (room : ℕ)
    (fits : B.capacity ≡ room) where
  plain_next : (m : Mode K) (bytes : List ℕ) (len b : ℕ) → grown_in P B m bytes len b ≡ plain_in room m bytes len b
  plain_next Outside bytes len b = refl
  plain_next (Inside kind) bytes len b = ap (λ (n : ℕ). plain_in n (Inside kind) bytes len b) fits
  plain_next Overlong bytes len b = refl

  -- A byte of it is not answered.
  pub quiet_byte : (r : BoundedReader K) (b : ℕ) → ends_run b ≡ false
      → (is_answer (bounded_turn P B r (byte b)).answer ≡ false) × ((bounded_turn P B r (byte b)).next ≡ with_plain room r b)
  quiet_byte r b n =
      let e : bounded_turn P B r (byte b) ≡ byte_turn P B plain r b = ap (λ (ρ : Role). byte_turn P B ρ r b) (free b n) in (
        ap (λ (t : Turn (BoundedReader K) A). is_answer t.answer) e ∙ silent,
        ap (λ (t : Turn (BoundedReader K) A). t.next) e ∙ plain_next r.mode r.bytes r.len b,
      )

  module _ (s : List ℕ) (from at : ℕ) (below : from < length s) (e : at ≡ from + count_before ends_run (drop from s)) where
    pub run_feeds : (r next : BoundedReader K) → next ≡ after_run room r (take (at - from) (drop from s))
        → later_by from (feed_of P B is_answer r (drop from s)) ≡ later_by at (feed_of P B is_answer next (drop at s))
    run_feeds r next q =
        run_on P.nothing is_answer (bounded_turn P B) ends_run (with_plain room) quiet_byte s from at (omega arith) e r next q

    pub run_starts : last_start P.role (take at s) ≡ last_start P.role (take from s)
    run_starts =
        let part = take (at - from) (drop from s) in
        let n : from + (at - from) ≡ at = omega arith in
        ap (last_start P.role) (ap (λ (k : ℕ). take k s) (sym n) ∙ take-add from (at - from) s)
        ∙ start_append P.role 0 1 (take from s) part
        ∙ start_free P.role (last_start P.role (take from s)) _ part
        (none_every ends_run (λ (b : ℕ). P.role b ≡ plain) free part (run_clear ends_run s from at e))

module _ {K T A : Type 0} (P : Protocol A) (B : Bounds K A) (tells : Option (Result T Refusal) → A → Type 0)
    (is_answer : A → Bool) where
  -- ---- a turn of a loop over the bytes s, where f is what all of them give

  module _ (f : FedTurn (BoundedReader K) A) (s : List ℕ) where
    module _ (r₀ : BoundedReader K) (i : ℕ) (below : i < length s)
        (so_far : f ≡ later_by i (feed_of P B is_answer r₀ (drop i s))) (bytes : List ℕ) (m : Step K T)
        (moves : StepIs tells bytes m (bounded_turn P B r₀ (byte (get_or s i 0))))
        (told : is_some m.told ≡ is_answer (bounded_turn P B r₀ (byte (get_or s i 0))).answer) where
      abbrev at : Turn (BoundedReader K) A
      at = bounded_turn P B r₀ (byte (get_or s i 0))

      pub goes_on : is_some m.told ≡ false
          → f ≡ later_by (i + 1) (feed_of P B is_answer (reader bytes m.held) (drop (i + 1) s))
      goes_on e =
          so_far ∙ not_answered P.nothing is_answer (bounded_turn P B) r₀ s i below (sym told ∙ e)
          ∙ ap (λ (u : BoundedReader K). later_by (i + 1) (feed_of P B is_answer u (drop (i + 1) s))) (sym moves.next_is)

      pub answers : is_some m.told ≡ true → (began opened : ℕ) → began ≡ last_start P.role (take i s)
          → opened ≡ start_after (P.role (get_or s i 0)) began (i + 1)
          → Feeds P tells is_answer bytes s (record { told = m.told; held = m.held; taken = i + 1; began = began; opened = opened }) f
      answers e began opened fe oe =
          let q : f ≡ fed_turn at.answer at.next (i + 1) =
          so_far ∙ answered P.nothing is_answer (bounded_turn P B) r₀ s i below (sym told ∙ e) in
          let z : i ≡ i + 1 - 1 = omega arith in (
            record {
              told_is = subst (λ (g : FedTurn (BoundedReader K) A). tells m.told g.answer) (sym q) moves.told_is;
              next_is = moves.next_is ∙ ap (λ (g : FedTurn (BoundedReader K) A). g.next) (sym q);
              taken_is = ap (λ (g : FedTurn (BoundedReader K) A). g.taken) (sym q);
            },
            opens_at P.role is_answer s began opened f (i + 1) true
                (ap (λ (g : FedTurn (BoundedReader K) A). is_answer g.answer) q ∙ sym told ∙ e)
                (ap (λ (g : FedTurn (BoundedReader K) A). g.taken) q)
                (fe ∙ ap (λ (n : ℕ). last_start P.role (take n s)) z)
                (oe ∙ ap (λ (n : ℕ). start_after (P.role (get_or s i 0)) n (i + 1)) fe ∙ sym (start_more P.role s i below)),
          )

    -- no byte is left
    pub ends : is_answer P.nothing ≡ false → tells None P.nothing → (bytes : List ℕ) (held : Held K) (i : ℕ)
        → length s ≤ i → f ≡ later_by i (feed_of P B is_answer (reader bytes held) (drop i s)) → (opened : ℕ)
        → opened ≡ last_start P.role (take i s)
        → Feeds P tells is_answer bytes s (record { told = None; held = held; taken = i; began = opened; opened = opened }) f
    ends silent none bytes held i h so_far opened oe =
        let q : f ≡ fed_turn P.nothing (reader bytes held) i =
        so_far ∙ no_byte_left P.nothing is_answer (bounded_turn P B) (reader bytes held) s i h in (
          record {
            told_is = subst (λ (g : FedTurn (BoundedReader K) A). tells None g.answer) (sym q) none;
            next_is = ap (λ (g : FedTurn (BoundedReader K) A). g.next) (sym q);
            taken_is = ap (λ (g : FedTurn (BoundedReader K) A). g.taken) (sym q);
          },
          opens_at P.role is_answer s opened opened f i false
              (ap (λ (g : FedTurn (BoundedReader K) A). is_answer g.answer) q ∙ silent)
              (ap (λ (g : FedTurn (BoundedReader K) A). g.taken) q) oe oe,
        )

    -- a candidate stands whole at an index
    pub whole_answers : ((t : Option (Result T Refusal)) (a : A) → tells t a → is_some t ≡ is_answer a)
        → (old new : List ℕ) (held : Held K) (at : ℕ) → at ≤ length s → held.mode ≡ Outside
        → f ≡ later_by at (feed_of P B is_answer (reader old held) (drop at s)) → (w : Whole T)
        → StandsWhole P B tells is_answer old new (take (length s - at) (drop at s)) w
        → Feeds P tells is_answer new s (record {
          told = Some w.told;
          held = record { len = 0; mode = Outside };
          taken = at + w.taken;
          began = at + 1;
          opened = at + 1;
        }) f
    whole_answers apart old new held at h m so_far w j =
        let rest = take (length s - at) (drop at s) in
        let g = feed_of P B is_answer (bounded old held.len Outside) rest in
        let k = j.fed held.len in
        let q : f ≡ later_by at g =
        so_far
        ∙ ap₂ (λ (x : Mode K) (l : List ℕ). later_by at (feed_of P B is_answer (bounded old held.len x) l)) m
        (sym (rest_part s at)) in
        let place : 1 + length (take at s) ≡ at + 1 = omega (arith, length-take-le at s h) in
        let before : at + w.taken - 1 ≡ at + (w.taken - 1) = omega (arith, j.some) in (
          record {
            told_is = subst (λ (x : FedTurn (BoundedReader K) A). tells (Some w.told) x.answer) (sym q) k.told_is;
            next_is = k.next_is ∙ ap (λ (x : FedTurn (BoundedReader K) A). x.next) (sym q);
            taken_is = ap (λ (n : ℕ). at + n) k.taken_is ∙ ap (λ (x : FedTurn (BoundedReader K) A). x.taken) (sym q);
          },
          opens_at P.role is_answer s (at + 1) (at + 1) f (at + w.taken) true
              (ap (λ (x : FedTurn (BoundedReader K) A). is_answer x.answer) q ∙ sym (apart (Some w.told) g.answer k.told_is))
              (ap (λ (x : FedTurn (BoundedReader K) A). x.taken) q ∙ ap (λ (n : ℕ). at + n) (sym k.taken_is))
              (sym (ap (λ (n : ℕ). last_start P.role (take n s)) before ∙ last_past P.role s at (w.taken - 1)
              ∙ j.begins (last_start P.role (take at s)) (1 + length (take at s)) ∙ place))
              (sym (last_past P.role s at w.taken
              ∙ j.opens (last_start P.role (take at s)) (1 + length (take at s)) ∙ place)),
        )

-- ---- what can be seen of another machine

-- Bytes fed to a machine that is a view of another are answered as there, and leave the view of what they leave there.
module _ {R S A : Type 0} (nothing : A) (is_answer : A → Bool) (turn_in : R → Call → Turn R A)
    (turn_of : S → Call → Turn S A) (view : R → S)
    (same : (r : R) (b : ℕ) → turn_of (view r) (byte b) ≡ turn (turn_in r (byte b)).answer (view (turn_in r (byte b)).next)) where
  abbrev pub viewed : FedTurn R A → FedTurn S A
  viewed f = fed_turn f.answer (view f.next) f.taken

  viewed_pick : (q : Bool) (f h : FedTurn R A) → pick q (viewed f) (viewed h) ≡ viewed (pick q f h)
  viewed_pick true f h = refl
  viewed_pick false f h = refl

  pub fed_viewed : (r : R) (bytes : List ℕ)
      → fed_by nothing is_answer turn_of (view r) bytes ≡ viewed (fed_by nothing is_answer turn_in r bytes)
  unfolding fed_by
  fed_viewed r [] = refl
  fed_viewed r (b ∷ bytes) =
      let t = turn_in r (byte b) in
      ap (λ (u : Turn S A). pick (is_answer u.answer) (fed_turn u.answer u.next 1)
      (later_by 1 (fed_by nothing is_answer turn_of u.next bytes))) (same r b)
      ∙ ap (λ (f : FedTurn S A). pick (is_answer t.answer) (fed_turn t.answer (view t.next) 1) (later_by 1 f)) (fed_viewed t.next bytes)
      ∙ viewed_pick (is_answer t.answer) (fed_turn t.answer t.next 1) (later_by 1 (fed_by nothing is_answer turn_in t.next bytes))
