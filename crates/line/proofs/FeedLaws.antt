-- Laws of the call that takes a chunk: what holds the candidate takes the bytes that can be counted, and its places of
-- start flags give the positions.
use mathlib.Core.Path.{◌≡◌, refl, sym, ap, ap₂, ◌∙◌, subst}
use mathlib.Core.Bool.{Bool, true, false}
use mathlib.Core.List.{List, [], ◌∷◌}
use native.Mathlib.Omega.{arith}
use Prim.Native.Nat.{ℕ, suc, ◌+◌, ◌-◌, ◌≤◌, ◌<◌, min}
use Rattle.std.proofs.lemmas.List.{take_min, length-take}
use lib.Dec.{ltb}
use lib.ListN.{length, take}
use lib.Seq.{take-nil, take-take}
use borrow.Author.Tests.{lt-ltb, le-ltb, ltb-true, ltb-false, ne_eqb}
use Rattle.lists.specs.Choice.{pick}
use Rattle.lists.specs.Machine.{turn}
use Rattle.lists.proofs.Cases.{by_bool}
use Rattle.lists.proofs.Lists.{take_bounds}
use Rattle.framing.proofs.Counting.{start_within}
use Rattle.framing.specs.Reference.{Role, starts, stops, plain}
use Rattle.framing.specs.Located.{located, answer_in}
use Rattle.framing.specs.Counting.{start_after, start_in, locate}
use Rattle.framing.specs.Chunk.{fed_turn, later_by, fed_by, chunk_limit, cut_chunk}
use Rattle.frame.specs.Flags.{role_of}
use Rattle.candidate.specs.Outcome.{Outcome, nothing, judged, told_means, summary_of}
use Rattle.candidate.specs.Holder.{Holder, holder, step_held}
use Rattle.candidate.specs.Feed.{is_answer, FedHeld, feed_held, unanswered, last_start, HeldChunkIs, Opens}
use Rattle.candidate.specs.declared.HeldChunk.{HeldChunk}
use Rattle.candidate.proofs.OutcomeLaws.{fed_extent}
use Rattle.line.specs.Rowing.{most_bytes, full}
use Rattle.line.specs.Reader.{reader, lent_reader, ReaderTurn, step_of}
use Rattle.line.specs.Feed.{ChunkTurn, no_turn, feed_of, chunk_of, ChunkStepIs}
use Rattle.line.specs.Private.{told_at, place_at, Advances}
use Rattle.line.specs.declared.LineReader.{LineReader}
use Rattle.line.specs.declared.State.{State}
use Rattle.line.specs.declared.ChunkStep.{ChunkStep}
use Rattle.line.proofs.StepLaws.{answer_located, position_located, step_taken}

-- ---- one byte

-- what a byte's turn and the bytes after it give
abbrev pub from_turn : ReaderTurn → List ℕ → ChunkTurn
from_turn t s =
    pick (is_answer (answer_in t.answer)) (fed_turn t.answer t.next 1) (later_by 1 (feed_of t.next s))

pub fed_none : (r : LineReader) → feed_of r [] ≡ no_turn r
unfolding feed_of
fed_none r = refl

-- a byte that is taken, and one that can't be
pub fed_taken : (r : LineReader) (b : ℕ) (s : List ℕ) → r.state.count < most_bytes
    → feed_of r (b ∷ s) ≡ from_turn (step_of r b) s
unfolding feed_of
fed_taken r b s h =
    ap (λ (room : Bool). pick room (from_turn (step_of r b) s) (no_turn r)) (lt-ltb r.state.count most_bytes h)

pub fed_full : (r : LineReader) (b : ℕ) (s : List ℕ) → most_bytes ≤ r.state.count → feed_of r (b ∷ s) ≡ no_turn r
unfolding feed_of
fed_full r b s h =
    ap (λ (room : Bool). pick room (from_turn (step_of r b) s) (no_turn r)) (le-ltb r.state.count most_bytes h)

-- ---- the chunk's first byte

pub chunk_none : (r : LineReader) (s : List ℕ) → length s ≡ 0 → chunk_of r s ≡ no_turn r
chunk_none r [] e = refl
chunk_none r (b ∷ s) e = absurd (omega arith)

pub chunk_full : (r : LineReader) (s : List ℕ) → 0 < length s → most_bytes ≤ r.state.count
    → chunk_of r s ≡ fed_turn (located 0 full) r 0
chunk_full r [] h k = absurd (omega arith)
chunk_full r (b ∷ s) h k =
    ap (λ (room : Bool). pick room (feed_of r (cut_chunk (b ∷ s))) (fed_turn (located 0 full) r 0))
    (le-ltb r.state.count most_bytes k)

pub chunk_taken : (r : LineReader) (s : List ℕ) → r.state.count < most_bytes → chunk_of r s ≡ feed_of r (cut_chunk s)
chunk_taken r [] h = sym (fed_none r)
chunk_taken r (b ∷ s) h =
    ap (λ (room : Bool). pick room (feed_of r (cut_chunk (b ∷ s))) (fed_turn (located 0 full) r 0))
    (lt-ltb r.state.count most_bytes h)

-- ---- bytes that can be counted

-- one byte more before others
unanswered_more : (f : FedHeld) → (is_answer f.answer ≡ true → 1 ≤ f.taken)
    → unanswered (later_by 1 f) ≡ suc (unanswered f)
unanswered_more f h = by_answer (is_answer f.answer) h
  where
    by_answer : (q : Bool) → (q ≡ true → 1 ≤ f.taken)
        → pick q (1 + f.taken - 1) (1 + f.taken) ≡ suc (pick q (f.taken - 1) f.taken)
    by_answer true k = omega (arith, k refl)
    by_answer false k = omega arith

-- what holds the candidate, with the count beside it
abbrev from_held : LineReader → List ℕ → FedHeld → ChunkTurn
from_held r s f =
    fed_turn (locate is_answer (start_in role_of r.state.start r.state.count (take (unanswered f) s)) f.answer)
    (reader f.next.bytes f.next.held (start_in role_of r.state.start r.state.count (take f.taken s))
    (r.state.count + f.taken)) f.taken

-- no byte
untaken : (r : LineReader) (s : List ℕ) → no_turn r ≡ from_held r s (fed_turn nothing (holder r.bytes r.state.held) 0)
untaken r s =
    let z : r.state.count ≡ r.state.count + 0 = omega arith in
    ap (λ (n : ℕ). no_turn (reader r.bytes r.state.held r.state.start n)) z

-- one byte more that is not answered
held_more : (r : LineReader) (b : ℕ) (s : List ℕ) (h : Holder) (f : FedHeld)
    → (is_answer f.answer ≡ true → 1 ≤ f.taken)
    → later_by 1 (from_held
    (reader h.bytes h.held (start_after (role_of b) r.state.start r.state.count) (r.state.count + 1)) s f)
    ≡ from_held r (b ∷ s) (later_by 1 f)
held_more r b s h f some =
    let start = r.state.start in
    let count = r.state.count in
    let next = start_after (role_of b) start count in
    let u : unanswered (later_by 1 f) ≡ suc (unanswered f) = unanswered_more f some in
    let t : 1 + f.taken ≡ suc f.taken = omega arith in
    let c : count + 1 + f.taken ≡ count + (1 + f.taken) = omega arith in
    ap₂ (λ (x y : ℕ). fed_turn (locate is_answer x f.answer)
    (reader f.next.bytes f.next.held y (count + 1 + f.taken)) (1 + f.taken))
    (ap (λ (n : ℕ). start_in role_of start count (take n (b ∷ s))) (sym u))
    (ap (λ (n : ℕ). start_in role_of start count (take n (b ∷ s))) (sym t))
    ∙ ap (λ (n : ℕ). fed_turn (locate is_answer (start_in role_of start count (take (unanswered (later_by 1 f)) (b ∷ s)))
    f.answer)
    (reader f.next.bytes f.next.held (start_in role_of start count (take (1 + f.taken) (b ∷ s))) n) (1 + f.taken))
    c

-- the reader after a byte that is taken
abbrev next_of : LineReader → ℕ → Holder → LineReader
next_of r b next =
    reader next.bytes next.held (start_after (role_of b) r.state.start r.state.count) (r.state.count + 1)

-- a byte that is taken, by its outcome, where the bytes after it are known
by_outcome : (r : LineReader) (b : ℕ) (s part : List ℕ) (o : Outcome) (next : Holder)
    → feed_of (next_of r b next) s ≡ from_held (next_of r b next) s (feed_held next part)
    → from_turn (turn (locate is_answer r.state.start o) (next_of r b next)) s
    ≡ from_held r (b ∷ s) (pick (is_answer o) (fed_turn o next 1) (later_by 1 (feed_held next part)))
by_outcome r b s part nothing next e =
    ap (later_by 1) e ∙ held_more r b s next (feed_held next part) (fed_extent next part).some
by_outcome r b s part (judged v) next e = refl

-- Bytes are fed as what holds the candidate takes them, as far as they can be counted.
pub feed_held_lem : (r : LineReader) (s : List ℕ)
    → feed_of r s
    ≡ from_held r s (feed_held (holder r.bytes r.state.held) (take (most_bytes - r.state.count) s))
unfolding fed_by
feed_held_lem r [] =
    fed_none r ∙ untaken r []
    ∙ ap (λ (l : List ℕ). from_held r [] (feed_held (holder r.bytes r.state.held) l))
    (sym (take-nil (most_bytes - r.state.count)))
feed_held_lem r (b ∷ s) = by_bool (ltb r.state.count most_bytes)
    (λ y.
    let h : r.state.count < most_bytes = ltb-true r.state.count most_bytes y in
    let m : most_bytes - r.state.count ≡ suc (most_bytes - (r.state.count + 1)) = omega arith in
    let held = holder r.bytes r.state.held in
    let next = (step_held held b).next in
    fed_taken r b s h
    ∙ ap (λ (t : ReaderTurn). from_turn t s) (step_taken r b h)
    ∙ by_outcome r b s (take (most_bytes - (r.state.count + 1)) s) (step_held held b).answer next
    (feed_held_lem (next_of r b next) s)
    ∙ ap (λ (n : ℕ). from_held r (b ∷ s) (feed_held held (take n (b ∷ s)))) (sym m))
    (λ n.
    let h : most_bytes ≤ r.state.count = ltb-false r.state.count most_bytes n in
    let z : most_bytes - r.state.count ≡ 0 = omega arith in
    fed_full r b s h ∙ untaken r (b ∷ s)
    ∙ ap (λ (k : ℕ). from_held r (b ∷ s) (feed_held (holder r.bytes r.state.held) (take k (b ∷ s)))) (sym z))

-- ---- as the code takes them

unanswered-within : (f : FedHeld) → unanswered f ≤ f.taken
unanswered-within f = by_answer (is_answer f.answer)
  where
    by_answer : (q : Bool) → pick q (f.taken - 1) f.taken ≤ f.taken
    by_answer true = omega arith
    by_answer false = omega arith

-- the place of a start flag in a chunk gives its position
module _ (start count : ℕ) where
  place_after : (ρ : Role) (o i : ℕ)
      → start_after ρ (place_at start count o) (count + i) ≡ place_at start count (start_after ρ o (1 + i))
  place_after starts o i =
      let n : count + i ≡ count + (1 + i - 1) = omega arith in
      n ∙ sym (ap (λ (t : Bool). pick t start (count + (1 + i - 1))) (ne_eqb (1 + i) 0 (λ e. omega arith)))
  place_after stops o i = refl
  place_after plain o i = refl

  place_in : (o i : ℕ) (s : List ℕ)
      → start_in role_of (place_at start count o) (count + i) s ≡ place_at start count (start_in role_of o (1 + i) s)
  place_in o i [] = refl
  place_in o i (b ∷ s) =
      let c : count + i + 1 ≡ count + (i + 1) = omega arith in
      let n : 1 + (i + 1) ≡ 1 + i + 1 = omega arith in
      ap₂ (λ (x y : ℕ). start_in role_of x y s) (place_after (role_of b) o i) c
      ∙ place_in (start_after (role_of b) o (1 + i)) (i + 1) s
      ∙ ap (λ (y : ℕ). place_at start count (start_in role_of (start_after (role_of b) o (1 + i)) y s)) n

  place_last : (s : List ℕ) → place_at start count (last_start s) ≡ start_in role_of start count s
  place_last s =
      let z : count + 0 ≡ count = omega arith in
      let one : ◌≡◌ {A = ℕ} (1 + 0) 1 = omega arith in
      sym (ap (λ (n : ℕ). start_in role_of start n s) (sym z) ∙ place_in 0 0 s
      ∙ ap (λ (n : ℕ). place_at start count (start_in role_of 0 n s)) one)

last_within : (k most : ℕ) (s : List ℕ) → k ≤ most → last_start (take k s) ≤ most
last_within k most s h =
    start_within role_of most 0 1 (take k s) (omega arith) (omega (arith, (take_bounds k s).0))

-- the part of a chunk, as the code cuts it: to 65,536 bytes, and to those that can be counted
part_cut : (s : List ℕ) (room most n : ℕ) → most ≡ min (length s) chunk_limit → n ≡ min most room
    → take n s ≡ take room (cut_chunk s)
part_cut s room most n e k =
    let l : n ≡ min room (length (cut_chunk s)) = omega (arith, length-take chunk_limit s) in
    sym (take-take n chunk_limit s (omega arith)) ∙ ap (λ (m : ℕ). take m (cut_chunk s)) l ∙ take_min room (cut_chunk s)

-- the part of a chunk that is taken, by how many bytes can be counted
module _ (bytes left : List ℕ) (state : State) (s : List ℕ) (most n : ℕ) (cut : most ≡ min (length s) chunk_limit)
    (fits : n ≡ min most (most_bytes - state.count)) (room : most_bytes - state.count ≡ 0 → ⊥) (fed : HeldChunk)
    (taken : HeldChunkIs left fed (feed_held (holder bytes state.held) (take n s)))
    (opens : Opens (take n s) fed (feed_held (holder bytes state.held) (take n s))) where
  abbrev given : FedHeld
  given = feed_held (holder bytes state.held) (take n s)

  abbrev counted : FedHeld
  counted = feed_held (holder bytes state.held) (take (most_bytes - state.count) (cut_chunk s))

  part : take n s ≡ take (most_bytes - state.count) (cut_chunk s)
  part = part_cut s (most_bytes - state.count) most n cut fits

  same : given ≡ counted
  same = ap (feed_held (holder bytes state.held)) part

  within : given.taken ≤ most_bytes - state.count
  within =
      omega (
        arith,
        (fed_extent (holder bytes state.held) (take n s)).within,
        ap length part,
        (take_bounds (most_bytes - state.count) (cut_chunk s)).0,
      )

  -- what the code asks for
  pub part_fits : (state.count + fed.taken ≤ most_bytes) × (fed.began ≤ fed.taken) × (fed.opened ≤ fed.taken)
  part_fits = (
    omega (arith, within, taken.taken_is),
    omega (
      arith,
      opens.began_is,
      taken.taken_is,
      last_within (unanswered given) given.taken (take n s)
          (unanswered-within given),
    ),
    omega (arith, opens.opened_is, taken.taken_is, last_within given.taken given.taken (take n s) (omega arith)),
  )

  -- places in the part are places in the chunk
  start_at : (k place : ℕ) → k ≤ given.taken → place ≡ last_start (take k (take n s))
      → place_at state.start state.count place
      ≡ start_in role_of state.start state.count (take k (cut_chunk s))
  start_at k place h e =
      ap (place_at state.start state.count)
      (e ∙ ap (λ (l : List ℕ). last_start (take k l)) part
      ∙ ap last_start (take-take k (most_bytes - state.count) (cut_chunk s) (omega (arith, within))))
      ∙ place_last state.start state.count (take k (cut_chunk s))

  abbrev whole : ChunkTurn
  whole = from_held (lent_reader bytes state) (cut_chunk s) counted

  chunk_is : chunk_of (lent_reader bytes state) s ≡ whole
  chunk_is = chunk_taken (lent_reader bytes state) s (omega (arith, room)) ∙ feed_held_lem (lent_reader bytes state) (cut_chunk s)

  pub chunk_advances : (r : ChunkStep) → Advances state.start state.count fed r
      → ChunkStepIs left r (chunk_of (lent_reader bytes state) s)
  chunk_advances r k =
      let began = start_at (unanswered given) fed.began (unanswered-within given) opens.began_is in
      let opened = start_at given.taken fed.opened (omega arith) opens.opened_is in
      let position = start_in role_of state.start state.count (take (unanswered counted) (cut_chunk s)) in
      let told : told_means fed.told ≡ summary_of counted.answer =
      taken.told_is ∙ ap (λ (f : FedHeld). summary_of f.answer) same in
      let at : place_at state.start state.count fed.began ≡ position =
      began ∙ ap (λ (f : FedHeld). start_in role_of state.start state.count (take (unanswered f) (cut_chunk s))) same in
      let start : place_at state.start state.count fed.opened
      ≡ start_in role_of state.start state.count (take counted.taken (cut_chunk s)) =
      opened ∙ ap (λ (f : FedHeld). start_in role_of state.start state.count (take f.taken (cut_chunk s))) same in
      let next : holder left fed.held ≡ counted.next = taken.next_is ∙ ap (λ (f : FedHeld). f.next) same in
      let many : fed.taken ≡ counted.taken = taken.taken_is ∙ ap (λ (f : FedHeld). f.taken) same in
      subst (ChunkStepIs left r) (sym chunk_is) (record {
        told_is = ap told_means k.told_is ∙ told ∙ ap summary_of (sym (answer_located counted.answer position));
        position_is = k.position_is ∙ ap₂ told_at told at ∙ sym (position_located counted.answer position);
        next_is = ap (lent_reader left) k.state_is
            ∙ ap₂ (λ (h : Holder) (p : ℕ). reader h.bytes h.held p (state.count + fed.taken)) next start
            ∙ ap (λ (m : ℕ). reader counted.next.bytes counted.next.held
            (start_in role_of state.start state.count (take counted.taken (cut_chunk s))) (state.count + m)) many;
        taken_is = k.taken_is ∙ many;
      })
