-- The stray bytes among those up to an answer stand before the first start flag, and may be passed over before the rest
-- is fed.
use Rattle.std.proofs.Common.{min, leb, ◌≡◌, ℕ, suc, ◌+◌, ◌-◌, ◌<◌, ◌≤◌, Bool, true, false, eqb, ltb, List, [], ◌∷◌, length, take, drop, sym, refl, ap, ◌∙◌, ap₂, true≢false, zero-add, arith, length-drop, take_all, take-take, ltb-false, ltb-true, eqb-true}
use lib.Seq.{take-nil}
use borrow.Author.Tests.{leb-true, leb-false}
use Rattle.lists.specs.Choice.{pick, count_before}
use Rattle.lists.specs.Machine.{turn}
use Rattle.lists.proofs.Before.{before_fits}
use Rattle.lists.proofs.Cases.{by_bool}
use Rattle.lists.proofs.Lists.{take_bounds, rest_part}
use Rattle.framing.specs.Reference.{Role, starts, stops, plain}
use Rattle.framing.specs.Located.{unlocated, answer_in, position_in}
use Rattle.framing.specs.Bounded.{terminated_in}
use Rattle.framing.specs.Counting.{counter, start_after, locate}
use Rattle.framing.proofs.Chunk.{plus_plus}
use Rattle.framing.specs.Chunk.{fed_turn, later_by, fed_by, chunk_limit, cut_chunk}
use Rattle.frame.proofs.FlagLaws.{is_starts, role_tests}
use Rattle.frame.specs.Flags.{role_of, is_start}
use Rattle.frame.specs.declared.Origin.{Origin}
use Rattle.candidate.specs.Outcome.{nothing, summary_of}
use Rattle.candidate.specs.Rowing.{rowing, rowing_bounds}
use Rattle.candidate.specs.Holder.{Holder, holder, holder_of, role_step, step_held}
use Rattle.candidate.specs.Feed.{is_answer, FedHeld, feed_held}
use Rattle.frame.specs.declared.Kind.{Kind}
use Rattle.frame.specs.declared.Kind.TheVariants.{Standard, Extended}
use Rattle.framing.specs.declared.Mode.{Mode}
use Rattle.framing.specs.declared.Mode.TheVariants.{Outside, Inside, Overlong}
use Rattle.line.specs.Rowing.{most_bytes}
use Rattle.line.specs.Reader.{reader, lent_reader, held_of, ReaderTurn, turn_from, step_of}
use Rattle.line.specs.Feed.{ChunkTurn, no_turn, feed_of, chunk_of, ChunkStepIs}
use Rattle.line.proofs.StepLaws.{step_taken}
use Rattle.line.proofs.FeedLaws.{from_turn, fed_none, fed_taken, fed_full, chunk_none, chunk_taken, feed_held_lem}
use Rattle.candidate.proofs.OutcomeLaws.{fed_extent}
use Rattle.line.specs.declared.ChunkStep.{ChunkStep}
use Rattle.line.specs.declared.LineReader.{LineReader}
use Rattle.text.specs.Strays.{stray_at, open_after, strays}
use Rattle.trace.specs.Private.{stray_count, countable, passed_over}
use Rattle.trace.specs.Machine.{is_open}
use Rattle.trace.proofs.Counts.{open_held, count_is}

-- ---- how many there are

none_stray : (o : Bool) → 0 ≡ stray_count o []
unfolding count_before
none_stray true = refl
none_stray false = refl

-- a byte before others, unless it stops an open candidate
by_role : (ρ : Role) (o : Bool) (b : ℕ) (front bytes : List ℕ) → is_start b ≡ is_starts ρ
    → (o ≡ true → ρ ≡ stops → ⊥)
    → strays (open_after ρ o) front ≡ stray_count (open_after ρ o) bytes
    → stray_at ρ o + strays (open_after ρ o) front ≡ stray_count o (b ∷ bytes)
unfolding count_before
by_role starts true b front bytes e goes h = zero-add _ ∙ h
by_role starts false b front bytes e goes h = simp e (zero-add _ ∙ h)
by_role stops true b front bytes e goes h = absurd (goes refl refl)
by_role stops false b front bytes e goes h = simp e (ap (λ (n : ℕ). 1 + n) h)
by_role plain true b front bytes e goes h = zero-add _ ∙ h
by_role plain false b front bytes e goes h = simp e (ap (λ (n : ℕ). 1 + n) h)

-- a byte that ends an open candidate
at_answer : (ρ : Role) (o : Bool) (bytes : List ℕ) → o ≡ true
    → stray_at ρ o + strays (open_after ρ o) [] ≡ stray_count o bytes
at_answer ρ false bytes e = absurd (true≢false (sym e))
at_answer starts true bytes e = refl
at_answer stops true bytes e = refl
at_answer plain true bytes e = refl

-- only a byte of an open candidate is answered, and its stop flag is
answered_open : (o : Origin) (m : Mode Kind) (bytes : List ℕ) (len b : ℕ) (ρ : Role)
    → is_answer (role_step ρ (holder_of o bytes len m) b).answer ≡ true → is_open m ≡ true
answered_open o Outside bytes len b starts e = e
answered_open o Outside bytes len b stops e = e
answered_open o Outside bytes len b plain e = e
answered_open o (Inside Standard) bytes len b ρ e = refl
answered_open o (Inside Extended) bytes len b ρ e = refl
answered_open o Overlong bytes len b ρ e = refl

terminated_answers : (o : Origin) (m : Mode Kind) (bytes : List ℕ) (len : ℕ) → is_open m ≡ true
    → is_answer (terminated_in (rowing o) (rowing_bounds o) m bytes len) ≡ true
terminated_answers o Outside bytes len e = absurd (true≢false (sym e))
terminated_answers o (Inside Standard) bytes len e = refl
terminated_answers o (Inside Extended) bytes len e = refl
terminated_answers o Overlong bytes len e = refl

stop_answers : (h : Holder) (b : ℕ) (ρ : Role) → is_open h.held.mode ≡ true → ρ ≡ stops
    → is_answer (role_step ρ h b).answer ≡ true
stop_answers h b ρ k e =
    ap (λ (x : Role). is_answer (role_step x h b).answer) e
    ∙ terminated_answers h.held.origin h.held.mode h.bytes h.held.len k

held_strays : (h : Holder) (bytes : List ℕ)
    → strays (is_open h.held.mode) (take (feed_held h bytes).taken bytes)
    ≡ stray_count (is_open h.held.mode) bytes
unfolding fed_by
held_strays h [] = none_stray (is_open h.held.mode)
held_strays h (b ∷ bytes) =
    by_answer (is_answer (step_held h b).answer) refl (feed_held (step_held h b).next bytes)
    (held_strays (step_held h b).next bytes)
  where
    by_answer : (q : Bool) → is_answer (step_held h b).answer ≡ q → (f : FedHeld)
        → strays (is_open (step_held h b).next.held.mode) (take f.taken bytes)
        ≡ stray_count (is_open (step_held h b).next.held.mode) bytes
        → strays (is_open h.held.mode)
        (take (pick q (fed_turn (step_held h b).answer (step_held h b).next 1) (later_by 1 f)).taken (b ∷ bytes))
        ≡ stray_count (is_open h.held.mode) (b ∷ bytes)
    by_answer true e f k =
        at_answer (role_of b) (is_open h.held.mode) (b ∷ bytes)
        (answered_open h.held.origin h.held.mode h.bytes h.held.len b (role_of b) e)
    by_answer false e f k =
        let m : 1 + f.taken ≡ suc f.taken = omega arith in
        rw m (by_role (role_of b) (is_open h.held.mode) b (take f.taken bytes) bytes (role_tests b).0
        (λ o ρ. true≢false (sym (stop_answers h b (role_of b) o ρ) ∙ e))
        (ap (λ (o : Bool). strays o (take f.taken bytes)) (sym (open_held h b)) ∙ k
        ∙ ap (λ (o : Bool). stray_count o bytes) (open_held h b)))

-- of the bytes of a chunk that are taken
module _ (r : LineReader) (rest : List ℕ) (room : r.state.count < most_bytes) where
  taken_held : (chunk_of r rest).taken
      ≡ (feed_held (holder r.bytes r.state.held) (countable r.state.count rest)).taken
  taken_held =
      ap (λ (t : ChunkTurn). t.taken) (chunk_taken r rest room)
      ∙ ap (λ (t : ChunkTurn). t.taken) (feed_held_lem r (cut_chunk rest))

  -- the bytes taken are the chunk's first
  pub taken_within : (chunk_of r rest).taken ≤ length (countable r.state.count rest)
  taken_within =
      omega (
        arith,
        taken_held,
        (fed_extent (holder r.bytes r.state.held) (countable r.state.count rest)).within,
      )

  pub first_of_countable : take (chunk_of r rest).taken (countable r.state.count rest)
      ≡ take (chunk_of r rest).taken rest
  first_of_countable =
      let n = (chunk_of r rest).taken in
      let k = take_bounds (most_bytes - r.state.count) (cut_chunk rest) in
      take-take n (most_bytes - r.state.count) (cut_chunk rest) (omega (arith, taken_within, k.0))
      ∙ take-take n chunk_limit rest (omega (arith, taken_within, k.1, (take_bounds chunk_limit rest).0))

  pub stray_count_is : strays (is_open r.state.held.mode) (take (chunk_of r rest).taken rest)
      ≡ stray_count (is_open r.state.held.mode) (countable r.state.count rest)
  stray_count_is =
      let o = is_open r.state.held.mode in
      let s = countable r.state.count rest in
      ap (strays o) (sym first_of_countable)
      ∙ ap (λ (n : ℕ). strays o (take n s)) taken_held
      ∙ held_strays (holder r.bytes r.state.held) s

-- a full reader takes none
pub full-strays : (o : Bool) (count : ℕ) (rest : List ℕ) → count ≡ most_bytes → 0 ≡ stray_count o (countable count rest)
full-strays o count rest e =
    let z : 0 ≡ most_bytes - count = omega (arith, e) in
    none_stray o ∙ ap (λ (n : ℕ). stray_count o (take n (cut_chunk rest))) z

pub countable_fits : (count : ℕ) (rest : List ℕ) → length (countable count rest) ≤ length rest
countable_fits count rest =
    omega (arith, (take_bounds (most_bytes - count) (cut_chunk rest)).1, (take_bounds chunk_limit rest).1)

-- as the code cuts a chunk
cut_twice : (s : List ℕ) (limit room n : ℕ) → n ≡ min (min (length s) limit) room → take n s ≡ take room (take limit s)
cut_twice s limit room n e =
    by_bool (leb room limit)
    (λ y. let h : room ≤ limit = leb-true room limit y in
    by_bool (leb room (length s))
    (λ z. let g : room ≤ length s = leb-true room (length s) z in
    let m : n ≡ room = omega arith in ap (λ (k : ℕ). take k s) m ∙ sym (take-take room limit s h))
    (λ z. let g : length s < room = leb-false room (length s) z in
    let m : n ≡ length s = omega arith in
    take_all n s (omega arith) ∙ sym (take_all room s (omega arith)) ∙ sym (take-take room limit s h)))
    (λ y. let h : limit < room = leb-false room limit y in
    let b = take_bounds limit s in
    all h (leb (length s) limit) refl ∙ sym (take_all room (take limit s) (omega (arith, b.0))))
  where
    all : limit < room → (t : Bool) → leb (length s) limit ≡ t → take n s ≡ take limit s
    all h true z =
        let g : length s ≤ limit = leb-true (length s) limit z in
        take_all n s (omega arith) ∙ sym (take_all limit s g)
    all h false z =
        let g : limit < length s = leb-false (length s) limit z in
        let m : n ≡ limit = omega arith in ap (λ (k : ℕ). take k s) m

pub cut_countable : (count n : ℕ) (rest : List ℕ) → n ≡ min (min (length rest) chunk_limit) (most_bytes - count)
    → take n rest ≡ countable count rest
cut_countable count n rest e = cut_twice rest chunk_limit (most_bytes - count) n e

-- ---- what passing over them changes

strays_fit : (o : Bool) (bytes : List ℕ) → stray_count o bytes ≤ length bytes
strays_fit true bytes = omega arith
strays_fit false bytes = before_fits is_start bytes

-- a reader after bytes that are counted and not fed
abbrev counted_after : LineReader → ℕ → LineReader
counted_after r n = lent_reader r.bytes (record r.state { count = r.state.count + n })

none_passed : (r : LineReader) (rest : List ℕ) (n : ℕ) → n ≡ 0
    → feed_of r rest ≡ later_by n (feed_of (counted_after r n) (drop n rest))
none_passed r rest n e =
    let f = feed_of r rest in
    let x : f.taken ≡ 0 + f.taken = omega arith in
    let z : r.state.count ≡ r.state.count + 0 = omega arith in
    rw e (ap (λ (k : ℕ). fed_turn f.answer f.next k) x
    ∙ ap (λ (k : ℕ). later_by 0 (feed_of (reader r.bytes r.state.held r.state.start k) rest)) z)

module _ (o : Origin) (bytes : List ℕ) (start : ℕ) where
  abbrev outside : ℕ → LineReader
  outside count = reader bytes (held_of o 0 Outside) start count

  -- what a byte of a role does there
  abbrev outside_turn : (count b : ℕ) → Role → ReaderTurn
  outside_turn count b ρ =
      turn_from (turn (locate is_answer start (role_step ρ (holder_of o bytes 0 Outside) b).answer)
      (counter (role_step ρ (holder_of o bytes 0 Outside) b).next (start_after ρ start count) (count + 1)))

  -- one that is no start flag is counted, and changes nothing else
  stray_counted : (count b : ℕ) → count < most_bytes → is_start b ≡ false
      → step_of (outside count) b ≡ turn (unlocated nothing) (outside (count + 1))
  stray_counted count b h e = step_taken (outside count) b h ∙ by_start (role_of b) (sym (role_tests b).0 ∙ e)
    where
      by_start : (ρ : Role) → is_starts ρ ≡ false
          → outside_turn count b ρ ≡ turn (unlocated nothing) (outside (count + 1))
      by_start starts k = absurd (true≢false k)
      by_start stops k = refl
      by_start plain k = refl

  -- so what follows such bytes may be fed by itself
  strays_passed : (count : ℕ) (s : List ℕ) → count + length s ≤ most_bytes
      → feed_of (outside count) s
      ≡ later_by (count_before is_start s)
      (feed_of (outside (count + count_before is_start s)) (drop (count_before is_start s) s))
  unfolding count_before
  strays_passed count [] h = none_passed (outside count) [] 0 refl
  strays_passed count (b ∷ s) h =
      let n : ℕ = count_before is_start s in
      let m : 1 + n ≡ suc n = omega arith in
      let c : count + 1 + n ≡ count + (1 + n) = omega arith in
      by_bool (is_start b)
      (λ y. simp y (none_passed (outside count) (b ∷ s) 0 refl))
      (λ y.
      let q : feed_of (outside count) (b ∷ s)
      ≡ later_by (1 + n) (feed_of (outside (count + (1 + n))) (drop (1 + n) (b ∷ s))) =
      fed_taken (outside count) b s (omega arith)
      ∙ ap (λ (t : ReaderTurn). from_turn t s) (stray_counted count b (omega arith) y)
      ∙ ap (later_by 1) (strays_passed (count + 1) s (omega arith))
      ∙ plus_plus 1 n (1 + n) (feed_of (outside (count + 1 + n)) (drop n s)) refl
      ∙ ap₂ (λ (k i : ℕ). later_by (1 + n) (feed_of (outside k) (drop i (b ∷ s)))) c (sym m) in
      simp y q)

-- bytes that can't be counted don't matter
clipped : (r : LineReader) (s : List ℕ) → feed_of r s ≡ feed_of r (take (most_bytes - r.state.count) s)
clipped r [] = ap (feed_of r) (sym (take-nil (most_bytes - r.state.count)))
clipped r (b ∷ s) = by_bool (ltb r.state.count most_bytes)
    (λ y.
    let h : r.state.count < most_bytes = ltb-true r.state.count most_bytes y in
    let next = (step_of r b).next in
    let c : next.state.count ≡ r.state.count + 1 = count_is r b h in
    let m : suc (most_bytes - next.state.count) ≡ most_bytes - r.state.count = omega (arith, c) in
    fed_taken r b s h
    ∙ ap (λ (f : ChunkTurn). pick (is_answer (answer_in (step_of r b).answer)) (fed_turn (step_of r b).answer next 1)
    (later_by 1 f)) (clipped next s)
    ∙ sym (fed_taken r b (take (most_bytes - next.state.count) s) h)
    ∙ ap (λ (k : ℕ). feed_of r (take k (b ∷ s))) m)
    (λ n.
    let h : most_bytes ≤ r.state.count = ltb-false r.state.count most_bytes n in
    let z : 0 ≡ most_bytes - r.state.count = omega arith in
    fed_full r b s h ∙ sym (fed_none r) ∙ ap (λ (k : ℕ). feed_of r (take k (b ∷ s))) z)

by_mode : (o : Origin) (m : Mode Kind) (bytes rest : List ℕ) (start count n : ℕ) → count + length rest ≤ most_bytes
    → n ≡ stray_count (is_open m) rest
    → feed_of (reader bytes (held_of o 0 m) start count) rest
    ≡ later_by n (feed_of (reader bytes (held_of o 0 m) start (count + n)) (drop n rest))
by_mode o Outside bytes rest start count n h e = rw e (strays_passed o bytes start count rest h)
by_mode o (Inside Standard) bytes rest start count n h e =
    none_passed (reader bytes (held_of o 0 (Inside Standard)) start count) rest n e
by_mode o (Inside Extended) bytes rest start count n h e =
    none_passed (reader bytes (held_of o 0 (Inside Extended)) start count) rest n e
by_mode o Overlong bytes rest start count n h e =
    none_passed (reader bytes (held_of o 0 Overlong) start count) rest n e

module _ (r : LineReader) (rest : List ℕ) (k n : ℕ) (ek : k ≡ stray_count (is_open r.state.held.mode) rest)
    (en : n ≡ passed_over r.state.held.len k) where
  pub passed_fit : n ≤ length rest
  passed_fit =
      let f = strays_fit (is_open r.state.held.mode) rest in
      by_bool (eqb r.state.held.len 0)
      (λ y. let q : n ≡ k = simp y at en in omega (arith, q, ek, f))
      (λ y. let q : n ≡ 0 = simp y at en in omega (arith, q))

  passed_same : r.state.count + length rest ≤ most_bytes
      → feed_of r rest ≡ later_by n (feed_of (counted_after r n) (drop n rest))
  passed_same h =
      by_bool (eqb r.state.held.len 0)
      (λ y. let q : n ≡ k = simp y at en in
      let z : r.state.held.len ≡ 0 = eqb-true r.state.held.len 0 y in
      let o = r.state.held.origin in
      let u : r ≡ reader r.bytes (held_of o 0 r.state.held.mode) r.state.start r.state.count =
      ap (λ (len : ℕ). reader r.bytes (held_of o len r.state.held.mode) r.state.start r.state.count) z in
      rw u (by_mode o r.state.held.mode r.bytes rest r.state.start r.state.count n h (q ∙ ek)))
      (λ y. let q : n ≡ 0 = simp y at en in none_passed r rest n q)

-- the bytes after them are fed, as the code takes them
module _ (r : LineReader) (rest chunk : List ℕ) (room : r.state.count < most_bytes)
    (e : chunk ≡ countable r.state.count rest) (k n : ℕ)
    (ek : k ≡ stray_count (is_open r.state.held.mode) chunk) (en : n ≡ passed_over r.state.held.len k) where
  chunk_fits : (length chunk ≤ chunk_limit) × (r.state.count + length chunk ≤ most_bytes)
  chunk_fits =
      let b = take_bounds (most_bytes - r.state.count) (cut_chunk rest) in (
        omega (arith, ap length e, b.1, (take_bounds chunk_limit rest).0),
        omega (arith, ap length e, b.0),
      )

  pub passed_counted : r.state.count + n ≤ most_bytes
  passed_counted = omega (arith, passed_fit r chunk k n ek en, chunk_fits)

  -- what is left is all taken, if there is any
  left_fed : feed_of (counted_after r n) (drop n chunk) ≡ chunk_of (counted_after r n) (drop n chunk)
  left_fed =
      by_bool (ltb (r.state.count + n) most_bytes)
      (λ y.
      ap (feed_of (counted_after r n))
      (sym (take_all chunk_limit (drop n chunk) (omega (arith, length-drop n chunk, chunk_fits))))
      ∙ sym (chunk_taken (counted_after r n) (drop n chunk) (ltb-true (r.state.count + n) most_bytes y)))
      (λ f.
      let h : most_bytes ≤ r.state.count + n = ltb-false (r.state.count + n) most_bytes f in
      let z : length (drop n chunk) ≡ 0 = omega (arith, length-drop n chunk, chunk_fits) in
      empty_fed (drop n chunk) z ∙ sym (chunk_none (counted_after r n) (drop n chunk) z))
    where
      empty_fed : (s : List ℕ) → length s ≡ 0 → feed_of (counted_after r n) s ≡ no_turn (counted_after r n)
      empty_fed [] z = fed_none (counted_after r n)
      empty_fed (b ∷ s) z = absurd (omega arith)

  pub passed_fed : (bytes : List ℕ) (f : ChunkStep)
      → ChunkStepIs bytes f (chunk_of (counted_after r n) (take (length chunk - n) (drop n chunk)))
      → ChunkStepIs bytes
      (record { told = f.told; position = f.position; state = f.state; taken = n + f.taken }) (chunk_of r rest)
  passed_fed bytes f g =
      let q : later_by n (chunk_of (counted_after r n) (take (length chunk - n) (drop n chunk))) ≡ chunk_of r rest =
      ap (λ (l : List ℕ). later_by n (chunk_of (counted_after r n) l)) (rest_part chunk n)
      ∙ ap (later_by n) (sym left_fed)
      ∙ sym (passed_same r chunk k n ek en chunk_fits.1)
      ∙ ap (feed_of r) e
      ∙ sym (clipped r (cut_chunk rest))
      ∙ sym (chunk_taken r rest room) in
      record {
        told_is = g.told_is ∙ ap (λ (t : ChunkTurn). summary_of (answer_in t.answer)) q;
        position_is = g.position_is ∙ ap (λ (t : ChunkTurn). position_in t.answer) q;
        next_is = g.next_is ∙ ap (λ (t : ChunkTurn). t.next) q;
        taken_is = ap (λ (i : ℕ). n + i) g.taken_is ∙ ap (λ (t : ChunkTurn). t.taken) q;
      }
