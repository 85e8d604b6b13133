-- The bytes that a chunk takes are answered, and leave the reader, as they do singly, and 16 comes exactly where the
-- reader is full.
use mathlib.Core.Path.{◌≡◌, refl, sym, ap, ◌∙◌, subst}
use mathlib.Core.Bool.{Bool, true, false, true≢false}
use mathlib.Core.Logic.{◌⊎◌, inl, inr}
use mathlib.Core.List.{List, [], ◌∷◌}
use native.Mathlib.Omega.{arith}
use Prim.Native.Nat.{ℕ, zero, suc, ◌-◌, ◌≤◌, ◌<◌}
use lib.Dec.{ltb}
use lib.ListN.{length, take}
use borrow.Author.Tests.{ltb-true, ltb-false}
use Rattle.lists.specs.Choice.{pick}
use Rattle.lists.proofs.Cases.{by_bool}
use Rattle.lists.proofs.Lists.{take_bounds}
use Rattle.framing.specs.Reference.{Call, byte, finish}
use Rattle.framing.specs.Demand3.{feed}
use Rattle.framing.specs.Located.{Located, unlocated, located, answer_in}
use Rattle.framing.specs.Counting.{start_in, locate}
use Rattle.framing.specs.Chunk.{fed_turn, later_by, chunk_limit, cut_chunk, TakenSingly}
use Rattle.framing.proofs.Chunk.{fed_answer, singly_more, cut_singly, cut_some}
use Rattle.frame.specs.Flags.{role_of}
use Rattle.candidate.specs.Outcome.{Outcome, nothing, judged}
use Rattle.candidate.specs.Holder.{holder, turn_held}
use Rattle.candidate.specs.Feed.{is_answer, feed_held, unanswered}
use Rattle.candidate.proofs.OutcomeLaws.{OwnNumber, OwnOutcome, own_outcome, fed_extent}
use Rattle.line.specs.Rowing.{most_bytes, full}
use Rattle.line.specs.Reader.{ReaderTurn, step_of, turn_of}
use Rattle.line.specs.Feed.{ChunkTurn, no_turn, feed_of, chunk_of}
use Rattle.line.specs.Chunks.{stands_for, by_byte, told_bytes, TakenToAnswer, TakesFirst}
use Rattle.line.specs.Chunks.{FullExactly}
use Rattle.line.specs.declared.LineReader.{LineReader}
use Rattle.line.proofs.StepLaws.{answer_located, step_taken, step_full, by_count}
use Rattle.line.proofs.FeedLaws.{fed_none, fed_taken, fed_full, chunk_none, chunk_full, chunk_taken}
use Rattle.line.proofs.FeedLaws.{feed_held_lem}

-- ---- no other answer is 16

own_not_full : (o : Outcome) → OwnOutcome o → o ≡ full → ⊥
own_not_full o h e = by_number (h 16 e)
  where
    by_number : OwnNumber 16 → ⊥
    by_number (inl k) = omega (arith, k.1)
    by_number (inr k) = omega (arith, k)

silent_not_full : ◌≡◌ {A = Outcome} nothing full → ⊥
silent_not_full e = let z : ◌≡◌ {A = ℕ} 0 1 = cc in omega arith

located_not_full : (o : Outcome) (position : ℕ) → OwnOutcome o → answer_in (locate is_answer position o) ≡ full → ⊥
located_not_full o position h e = own_not_full o h (sym (answer_located o position) ∙ e)

-- a call that is no byte at a full count
taken_not_full : (r : LineReader) (c : Call) (position : ℕ)
    → answer_in (locate is_answer position (turn_held (holder r.bytes r.state.held) c).answer) ≡ full → ⊥
taken_not_full r c position = located_not_full _ position (own_outcome (holder r.bytes r.state.held) c)

fed_not_full : (r : LineReader) (s : List ℕ) → answer_in (feed_of r s).answer ≡ full → ⊥
fed_not_full r s e =
    let h = holder r.bytes r.state.held in
    located_not_full _ _
    (fed_answer nothing is_answer turn_held OwnOutcome (λ n q. let z : ◌≡◌ {A = ℕ} 0 1 = cc in absurd (omega arith))
    (λ h b. own_outcome h (byte b)) h (take (most_bytes - r.state.count) s))
    (sym (ap (λ (f : ChunkTurn). answer_in f.answer) (feed_held_lem r s)) ∙ e)

-- Of one call: 16 exactly where the reader is full, and then it is left as it was.
pub full_exactly : (r : LineReader) (c : Call) → FullExactly r c (turn_of r c).answer (turn_of r c).next
full_exactly r (byte b) =
    by_count r b (λ (t : ReaderTurn). FullExactly r (byte b) t.answer t.next)
    (λ h. record {
      exactly = ((λ e. absurd (taken_not_full r (byte b) r.state.start e)), (λ k. absurd (omega arith)));
      kept = λ k. absurd (omega arith);
    })
    (λ h. record { exactly = ((λ e. h), (λ k. refl)); kept = λ k. (refl, refl) })
full_exactly r finish = record {
  exactly = ((λ e. absurd (taken_not_full r finish r.state.start e)), (λ k. absurd k));
  kept = λ k. absurd k;
}

-- ---- bytes up to the first that is answered

-- an answer takes a byte
quiet_none : (r : LineReader) (s : List ℕ) → (feed_of r s).taken ≡ 0 → (feed_of r s).answer ≡ unlocated nothing
quiet_none r [] e = ap (λ (f : ChunkTurn). f.answer) (fed_none r)
quiet_none r (b ∷ s) e =
    by_bool (ltb r.state.count most_bytes)
    (λ y. let q = fed_taken r b s (ltb-true r.state.count most_bytes y) in
    absurd (by_answer (is_answer (answer_in (step_of r b).answer)) (step_of r b)
    (sym (ap (λ (f : ChunkTurn). f.taken) q) ∙ e)))
    (λ n. ap (λ (f : ChunkTurn). f.answer) (fed_full r b s (ltb-false r.state.count most_bytes n)))
  where
    by_answer : (q : Bool) (t : ReaderTurn)
        → (pick q (fed_turn t.answer t.next 1) (later_by 1 (feed_of t.next s))).taken ≡ 0 → ⊥
    by_answer true t k = omega arith
    by_answer false t k = omega arith

-- one outcome that is not an answer is nothing
not_told : (r : LineReader) (b : ℕ) → r.state.count < most_bytes → is_answer (answer_in (step_of r b).answer) ≡ false
    → (step_of r b).answer ≡ unlocated nothing
not_told r b h e =
    let o = (turn_held (holder r.bytes r.state.held) (byte b)).answer in
    let t = step_taken r b h in
    ap (λ (t : ReaderTurn). t.answer) t
    ∙ by_outcome o (ap is_answer (sym (answer_located o r.state.start))
    ∙ ap (λ (t : ReaderTurn). is_answer (answer_in t.answer)) (sym t) ∙ e)
  where
    by_outcome : (o : Outcome) → is_answer o ≡ false → locate is_answer r.state.start o ≡ unlocated nothing
    by_outcome nothing k = refl
    by_outcome (judged v) k = absurd (true≢false k)

pub fed_singly : (r : LineReader) (s : List ℕ) → TakenSingly turn_of (unlocated nothing) r s (feed_of r s)
fed_singly r [] =
    subst (TakenSingly turn_of (unlocated nothing) r []) (sym (fed_none r)) (record { answers_are = refl; state_is = refl })
fed_singly r (b ∷ s) =
    by_bool (ltb r.state.count most_bytes)
    (λ y. let h = ltb-true r.state.count most_bytes y in
    subst (TakenSingly turn_of (unlocated nothing) r (b ∷ s)) (sym (fed_taken r b s h))
    (singly_more turn_of (unlocated nothing) r b s (feed_of (step_of r b).next s)
    (is_answer (answer_in (step_of r b).answer)) (not_told r b h) (quiet_none (step_of r b).next s)
    (fed_singly (step_of r b).next s)))
    (λ n. subst (TakenSingly turn_of (unlocated nothing) r (b ∷ s))
    (sym (fed_full r b s (ltb-false r.state.count most_bytes n)))
    (record { answers_are = refl; state_is = refl }))

-- ---- a chunk, cut to its first 65,536 bytes

-- what is known of a call on a chunk, by whether the reader can take its first byte
module _ (r : LineReader) (given : List ℕ) (P : ChunkTurn → Type 0)
    (none : length given ≡ 0 → P (no_turn r))
    (refuses : 0 < length given → most_bytes ≤ r.state.count → P (fed_turn (located 0 full) r 0))
    (takes : r.state.count < most_bytes → P (feed_of r (cut_chunk given))) where
  pub by_first : P (chunk_of r given)
  by_first =
      by_bool (ltb r.state.count most_bytes)
      (λ y. let h = ltb-true r.state.count most_bytes y in subst P (sym (chunk_taken r given h)) (takes h))
      (λ n. let h = ltb-false r.state.count most_bytes n in
      by_bool (ltb 0 (length given))
      (λ y. let k = ltb-true 0 (length given) y in subst P (sym (chunk_full r given k h)) (refuses k h))
      (λ m. let z : length given ≡ 0 = omega (arith, ltb-false 0 (length given) m) in
      subst P (sym (chunk_none r given z)) (none z)))

-- Of a chunk that a full reader is given no byte is taken, and the reader stays as it is.
pub full_stays : (r : LineReader) (given : List ℕ) → most_bytes ≤ r.state.count
    → ((chunk_of r given).taken ≡ 0) × ((chunk_of r given).next ≡ r)
full_stays r given h =
    by_first r given (λ (f : ChunkTurn). (f.taken ≡ 0) × (f.next ≡ r)) (λ z. (refl, refl)) (λ z m. (refl, refl))
    (λ b. absurd (omega arith))

-- the bytes fed singly that a chunk stands for
stands_taken : (n : ℕ) (a : Located Outcome) → (n ≡ 0 → a ≡ unlocated nothing) → stands_for n a ≡ n
stands_taken zero a h = ap (stands_for 0) (h refl)
stands_taken (suc n) a h = refl

abbrev Stands : LineReader → List ℕ → ChunkTurn → Type 0
Stands r given f =
    TakesFirst r (feed given) (stands_for f.taken f.answer) (told_bytes f.taken f.answer) f.next

first_refused : (r : LineReader) (given : List ℕ) → 0 < length given → most_bytes ≤ r.state.count
    → Stands r given (fed_turn (located 0 full) r 0)
first_refused r [] h k = absurd (omega arith)
first_refused r (b ∷ s) h k =
    let e = step_full r b k in (
      omega arith,
      ap (λ (t : ReaderTurn). t.answer ∷ []) (sym e),
      ap (λ (t : ReaderTurn). t.next) (sym e),
    )

first_taken : (r : LineReader) (given : List ℕ) → Stands r given (feed_of r (cut_chunk given))
first_taken r given =
    let f = feed_of r (cut_chunk given) in
    let n : stands_for f.taken f.answer ≡ f.taken =
    stands_taken f.taken f.answer (quiet_none r (cut_chunk given)) in
    subst (λ (m : ℕ). TakesFirst r (feed given) m (by_byte m f.answer) f.next) (sym n)
    (cut_singly turn_of (unlocated nothing) r given f (taken_within r (cut_chunk given)) (fed_singly r (cut_chunk given)))
  where
    taken_within : (r : LineReader) (s : List ℕ) → (feed_of r s).taken ≤ length s
    taken_within r s =
        let m = most_bytes - r.state.count in
        omega (
          arith,
          ap (λ (f : ChunkTurn). f.taken) (feed_held_lem r s),
          (fed_extent (holder r.bytes r.state.held) (take m s)).within,
          (take_bounds m s).1,
        )

-- how far a chunk is taken
abbrev Taken : LineReader → List ℕ → ChunkTurn → Type 0
Taken r given f = TakenToAnswer r given f.taken f.answer

none_left : (r : LineReader) (s : List ℕ) → (length s ≡ 0) ⊎ (most_bytes ≤ r.state.count)
    → length (take (most_bytes - r.state.count) s) ≡ 0
none_left r s (inl e) = omega (arith, (take_bounds (most_bytes - r.state.count) s).1)
none_left r s (inr h) = omega (arith, (take_bounds (most_bytes - r.state.count) s).0)

counted_taken : (r : LineReader) (s : List ℕ) → r.state.count < most_bytes → Taken r s (feed_of r s)
counted_taken r s h =
    let part = take (most_bytes - r.state.count) s in
    let g = feed_held (holder r.bytes r.state.held) part in
    let k = fed_extent (holder r.bytes r.state.held) part in
    let t : (feed_of r s).taken ≡ g.taken = ap (λ (f : ChunkTurn). f.taken) (feed_held_lem r s) in
    let p = start_in role_of r.state.start r.state.count (take (unanswered g) s) in
    let a : (feed_of r s).answer ≡ locate is_answer p g.answer = ap (λ (f : ChunkTurn). f.answer) (feed_held_lem r s) in
    record {
      within = omega (arith, t, k.within);
      all = λ e. omega (arith, t, k.all (untold g.answer p (sym a ∙ e)));
      some = λ n m. by_bool (is_answer g.answer) (λ y. omega (arith, t, k.some y))
          (λ q. absurd (n (a ∙ silent g.answer p q)));
      refuses = ((λ e. absurd (fed_not_full r s e)), (λ x. absurd (omega (arith, x.0))));
      untaken = λ e. absurd (fed_not_full r s e);
    }
  where
    untold : (o : Outcome) (p : ℕ) → locate is_answer p o ≡ unlocated nothing → is_answer o ≡ false
    untold nothing p e = refl
    untold (judged v) p e = let z : ◌≡◌ {A = ℕ} 0 1 = cc in absurd (omega arith)

    silent : (o : Outcome) (p : ℕ) → is_answer o ≡ false → locate is_answer p o ≡ unlocated nothing
    silent nothing p e = refl
    silent (judged v) p e = absurd (true≢false e)

cut_taken : (r : LineReader) (given : List ℕ) → Taken r (cut_chunk given) (chunk_of r given)
cut_taken r given =
    by_first r given (Taken r (cut_chunk given))
    (λ e. let z = none_left r (cut_chunk given) (inl (omega (arith, (take_bounds chunk_limit given).1))) in
    record {
      within = omega arith;
      all = λ q. omega arith;
      some = λ n. absurd (n refl);
      refuses = (
        (λ q. absurd (silent_not_full q)),
        (λ x. absurd (omega (arith, x.1, (take_bounds chunk_limit given).1))),
      );
      untaken = λ q. absurd (silent_not_full q);
    })
    (λ h k. let z = none_left r (cut_chunk given) (inr k) in
    record {
      within = omega arith;
      all = λ q. omega arith;
      some = λ n m. absurd (m refl);
      refuses = ((λ q. (k, cut_some given h)), (λ x. refl));
      untaken = λ q. (refl, refl);
    })
    (λ h. counted_taken r (cut_chunk given) h)

-- a call that is answered, takes and leaves what a chunk gives
module _ (r : LineReader) (given : List ℕ) (taken : ℕ) (a : Located Outcome) (t : taken ≡ (chunk_of r given).taken)
    (e : a ≡ (chunk_of r given).answer) where
  -- It takes the chunk to its end, 65,536 bytes at the most and no more than can be counted, or to the byte that is
  -- answered.
  pub takes_to_answer : TakenToAnswer r (cut_chunk given) taken a
  takes_to_answer =
      subst (λ (n : ℕ). TakenToAnswer r (cut_chunk given) n a) (sym t)
      (subst (TakenToAnswer r (cut_chunk given) (chunk_of r given).taken) (sym e) (cut_taken r given))

  -- The bytes that it stands for are answered, and leave the reader, as they do singly.
  pub takes_first : (next : LineReader) → next ≡ (chunk_of r given).next
      → TakesFirst r (feed given) (stands_for taken a) (told_bytes taken a) next
  takes_first next q =
      let k : Stands r given (chunk_of r given) =
      by_first r given (Stands r given)
      (λ z. (omega arith, refl, refl)) (first_refused r given) (λ h. first_taken r given) in
      subst (λ (n : ℕ). TakesFirst r (feed given) (stands_for n a) (told_bytes n a) next) (sym t)
      (subst (λ (x : Located Outcome). TakesFirst r (feed given) (stands_for (chunk_of r given).taken x)
      (told_bytes (chunk_of r given).taken x) next) (sym e)
      (subst (TakesFirst r (feed given) (stands_for (chunk_of r given).taken (chunk_of r given).answer)
      (told_bytes (chunk_of r given).taken (chunk_of r given).answer)) (sym q) k))
