-- The table of the functions themselves: any call, known by nothing but what its contract tells a caller.
use Prim.Native.Nat.{ℕ, ◌≤◌}
use mathlib.Core.Path.{◌≡◌, refl, sym, ap, ◌∙◌}
use mathlib.Core.Bool.{Bool, true}
use mathlib.Core.List.{List, [], ◌++◌, append-nil}
use native.Mathlib.Omega.{arith}
use lib.Dec.{ltb}
use lib.ListN.{length, take, drop, length-drop, take-append-drop}
use lib.Seq.{length-take-le}
use Rattle.std.specs.Prelude.{Option, Result}
use contract.Lifetimes.{Lfts}
use denote.Ref.{Bor}
use Rattle.lists.specs.Choice.{Exactly}
use Rattle.lists.proofs.Cases.{by_bool, exactly}
use Rattle.answer.specs.Answer.{Answer, result, refused}
use Rattle.answer.specs.declared.Refusal.{Refusal}
use Rattle.command.specs.Entries.{commands, Extent, head_of}
use Rattle.command.specs.Answers.{CountAnswer, found_means, counted_means, part_of}
use Rattle.command.specs.Parts.{StandsAt, start_of, IsData}
use Rattle.command.specs.Commands.{nth_command, nth_inside}
use Rattle.command.specs.Traversal.{command_at, index_after}
use Rattle.command.specs.Steps.{EntryStep, step_means}
use Rattle.command.specs.Table.{Counts, NthEntry, Nth, present, in_wrapper, Question, nth_at_top, nth_in_wrapper}
use Rattle.command.specs.Table.{Steps, Moves, Wrapper, at_index, TableAnswers, TableData, of_nth, of_inner, of_index}
use Rattle.command.specs.Table.{of_refusal}
use Rattle.command.specs.Stop.{StopsWorkout}
use Rattle.command.specs.declared.entries.Cursor.{Cursor}
use Rattle.command.specs.declared.entries.Entry.{Entry}
use Rattle.command.specs.declared.entries.Unsound.{Unsound}
use Rattle.command.specs.declared.cursor.CommandStep.{CommandStep}
use Rattle.command.proofs.Table.{count_by_table, nth_by_table, command_by_table, inside_by_table, entry_data}
use Rattle.command.proofs.PartLaws.{stands_as, stands_exactly}
use Rattle.command.proofs.Stops.{stops_exactly}
use Rattle.command.proofs.StepTable.{step_by_table, move_by_table}
use Rattle.command.proofs.Table.{top_data, inner_data, start_is, ends_within, is_wrapper_lem, wrapper_is}
use Rattle.command.proofs.entries.count.Reads as count-reads
use Rattle.command.proofs.entries.nth.Reads as nth-entry-reads
use Rattle.command.proofs.entries.Cursor.step.Reads as step-reads
use Rattle.command.proofs.is_wrapper.Reads as is-wrapper-reads
use Rattle.command.proofs.nth.Reads as nth-reads
use Rattle.command.proofs.nth_data.Reads as nth-data-reads
use Rattle.command.proofs.nth_inside.Reads as nth-inside-reads
use Rattle.command.proofs.nth_inside_data.Reads as nth-inside-data-reads
use Rattle.command.proofs.traversal.command_at.Reads as command-at-reads
use Rattle.command.proofs.traversal.data_at.Reads as data-at-reads
use Rattle.command.proofs.traversal.index_after.Reads as index-after-reads
use Rattle.command.proofs.cursor.step_from.Reads as step-from-reads
use Rattle.command.proofs.cursor.nth_by_steps.Reads as nth-by-steps-reads
use Rattle.command.proofs.stop.stops_workout.Reads as stops-workout-reads

-- ---- the definitions that the contracts name, by what is asked

abbrev pub answer_to : List ℕ → Question → Answer Extent
answer_to s (nth_at_top n) = nth_command s n
answer_to s (nth_in_wrapper w n) = nth_inside s w n
answer_to s (at_index at) = command_at s at

pub answer_by_table : (s : List ℕ) (q : Question) (a : Answer Extent) → Exactly (answer_to s q ≡ a) (TableAnswers s q a)
unfolding command_at
answer_by_table s (nth_at_top n) a = command_by_table s n a
answer_by_table s (nth_in_wrapper w n) a = inside_by_table s w n a
answer_by_table s (at_index at) a = nth_by_table commands at (drop at s) 0 a

-- ---- calls for a command

-- A call on contents with what it asked and its answer, known by what the function's contract tells a caller.
pub data Called : List ℕ → Question → Answer Extent → Type 0 where
  nth : (κs : Lfts 1) (ρ ρ' : Bor (List ℕ)) {n : ℕ} (r : Result Entry Refusal)
      → nth-reads.Learnt κs (ρ, (n, tt)) r (ρ', (n, tt))
      → Called ρ.now (nth_at_top n) (found_means r)
  nth_by_steps : (κs : Lfts 1) (ρ ρ' : Bor (List ℕ)) {n : ℕ} (r : Result Entry Refusal)
      → nth-by-steps-reads.Learnt κs (ρ, (n, tt)) r (ρ', (n, tt)) → Called ρ.now (nth_at_top n) (found_means r)
  called_nth_inside : (κs : Lfts 1) (ρ ρ' : Bor (List ℕ)) {w n : ℕ} (r : Result Entry Refusal)
      → nth-inside-reads.Learnt κs (ρ, (w, (n, tt))) r (ρ', (w, (n, tt)))
      → Called ρ.now (nth_in_wrapper w n) (found_means r)
  called_command_at : (κs : Lfts 1) (ρ ρ' : Bor (List ℕ)) {at : ℕ} (r : Result Entry Refusal)
      → command-at-reads.Learnt κs (ρ, (at, tt)) r (ρ', (at, tt)) → Called ρ.now (at_index at) (found_means r)
  step_from : (κs : Lfts 1) (ρ ρ' : Bor (List ℕ)) {at : ℕ} (r : CommandStep)
      → step-from-reads.Learnt κs (ρ, (at, tt)) r (ρ', (at, tt)) → Called ρ.now (at_index at) (found_means r.found)

called_is : {s : List ℕ} {q : Question} {x : Answer Extent} → Called s q x → x ≡ answer_to s q
called_is (nth κs ρ ρ' r e) = e
called_is (nth_by_steps κs ρ ρ' r e) = e
called_is (called_nth_inside κs ρ ρ' r e) = e
called_is (called_command_at κs ρ ρ' r e) = e
called_is (step_from κs ρ ρ' r e) = e.0

-- A call is answered a exactly when the table answers a: 7, 15 or the entry.
pub calls_by_table : {s : List ℕ} {q : Question} {x : Answer Extent} → Called s q x → (a : Answer Extent)
    → Exactly (x ≡ a) (TableAnswers s q a)
calls_by_table {s} {q} {x} c a = exactly (called_is c) (answer_by_table s q a)

-- ---- calls for a command's data

-- A call on contents with what it asked and the slice that it handed out.
pub data CalledData : Bor (List ℕ) → Question → Bor (List ℕ) → Type 0 where
  nth_data : (κs : Lfts 1) {ρ : Bor (List ℕ)} (ρ' : Bor (List ℕ)) {n : ℕ} {r : Bor (List ℕ)}
      → nth-data-reads.Learnt κs (ρ, (n, tt)) r (ρ', (n, tt)) → CalledData ρ (nth_at_top n) r
  nth_inside_data : (κs : Lfts 1) {ρ : Bor (List ℕ)} (ρ' : Bor (List ℕ)) {w n : ℕ} {r : Bor (List ℕ)}
      → nth-inside-data-reads.Learnt κs (ρ, (w, (n, tt))) r (ρ', (w, (n, tt))) → CalledData ρ (nth_in_wrapper w n) r
  data_at : (κs : Lfts 1) {ρ : Bor (List ℕ)} (ρ' : Bor (List ℕ)) {at : ℕ} {r : Bor (List ℕ)}
      → data-at-reads.Learnt κs (ρ, (at, tt)) r (ρ', (at, tt)) → CalledData ρ (at_index at) r

data_is : {s r : Bor (List ℕ)} {q : Question} → CalledData s q r → IsData s r (answer_to s.now q)
data_is (nth_data κs ρ' e) = e
data_is (nth_inside_data κs ρ' e) = e
data_is (data_at κs ρ' e) = e

-- from an index on, the entries stand after the bytes before it
index_data : (s : List ℕ) (at : ℕ) {byte start len : ℕ} (e : NthEntry commands at (drop at s) 0 byte start len)
    → take len (drop start s) ≡ e.here.body
index_data s at {byte} {start} {len} e =
    let some : 1 ≤ head_of commands e.here.byte =
    by_bool (ltb e.here.byte commands) (λ y. simp y (omega arith)) (λ y. simp y (omega arith)) in
    let within : at ≤ length s =
    omega (arith, some, start_is e, ends_within commands at (drop at s) 0 e, length-drop at s) in
    ap (λ (l : List ℕ). take len (drop start l))
    (sym (take-append-drop at s) ∙ ap (λ (l : List ℕ). take at s ++ l) (sym (append-nil (drop at s))))
    ∙ entry_data e (take at s) [] (length-take-le at s within)

-- what the table gives as data is the part that the answer names, and starts where the answer says
table_data : (s : List ℕ) (q : Question) (start : ℕ) (bytes : List ℕ) → TableData s q start bytes
    → (part_of s (answer_to s q) ≡ bytes) × (start_of (answer_to s q) ≡ start)
table_data s q start bytes (of_nth {n = n} e) =
    let a = (answer_by_table s (nth_at_top n) _).1 (present e) in (ap (part_of s) a ∙ top_data e, ap start_of a)
table_data s q start bytes (of_inner {w = w} {n = n} outer y e) =
    let a = (answer_by_table s (nth_in_wrapper w n) _).1 (in_wrapper outer y (present e)) in
    (ap (part_of s) a ∙ inner_data outer e, ap start_of a)
table_data s q start bytes (of_index {at = at} e) =
    let a = (answer_by_table s (at_index at) _).1 (present e) in (ap (part_of s) a ∙ index_data s at e, ap start_of a)
table_data s q start bytes (of_refusal number j) =
    let a = (answer_by_table s q (refused number)).1 j in (ap (part_of s) a, ap start_of a)

-- The table gives data for every question.
pub data_given : (s : List ℕ) (q : Question) → (start : ℕ) × (bytes : List ℕ) × TableData s q start bytes
data_given s q = given q (answer_to s q) ((answer_by_table s q (answer_to s q)).0 refl)
  where
    given : (q : Question) (a : Answer Extent) → TableAnswers s q a
        → (start : ℕ) × (bytes : List ℕ) × TableData s q start bytes
    given q (refused n) j = (0, [], of_refusal n j)
    given (nth_at_top n) (result x) (present e) = (_, _, of_nth e)
    given (at_index at) (result x) (present e) = (_, _, of_index e)
    given (nth_in_wrapper w n) (result x) (in_wrapper outer y (present e)) = (_, _, of_inner outer y e)

-- A part that is the data of the answer stands at an index with these bytes exactly when the table gives them.
pub data_exactly : {s r : Bor (List ℕ)} (q : Question) → IsData s r (answer_to s.now q)
    → (start : ℕ) (bytes : List ℕ) → Exactly (StandsAt s r start bytes) (TableData s.now q start bytes)
data_exactly {s} q d =
    stands_exactly (TableData s.now q)
    (λ start bytes t. stands_as (answer_to s.now q) d (table_data s.now q start bytes t)) (data_given s.now q)

-- A call hands back a part of the contents with these bytes at this index exactly when the table gives them: inside a
-- wrapper the inner entry's data, at its place in the whole.
pub data_by_table : {s r : Bor (List ℕ)} {q : Question} → CalledData s q r → (start : ℕ) (bytes : List ℕ)
    → Exactly (StandsAt s r start bytes) (TableData s.now q start bytes)
data_by_table {q = q} c = data_exactly q (data_is c)

-- ---- moves

-- A call that tells where a move from an index leads.
pub data CalledMove : List ℕ → (at next : ℕ) → Type 0 where
  called_index_after : (κs : Lfts 1) (ρ ρ' : Bor (List ℕ)) {at next : ℕ}
      → index-after-reads.Learnt κs (ρ, (at, tt)) next (ρ', (at, tt)) → CalledMove ρ.now at next
  step_past : (κs : Lfts 1) (ρ ρ' : Bor (List ℕ)) {at : ℕ} (r : CommandStep)
      → step-from-reads.Learnt κs (ρ, (at, tt)) r (ρ', (at, tt)) → CalledMove ρ.now at r.next

moved_is : {s : List ℕ} {at next : ℕ} → CalledMove s at next → next ≡ index_after s at
moved_is (called_index_after κs ρ ρ' e) = e
moved_is (step_past κs ρ ρ' r e) = e.1

-- It tells the index to which the table's move leads.
pub move_calls : {s : List ℕ} {at next : ℕ} → CalledMove s at next → (i : ℕ) → Exactly (next ≡ i) (Moves s at i)
move_calls {s} {at} c i = exactly (moved_is c) (move_by_table s at i)

-- ---- entries

-- Any call of `Cursor::step` is answered a exactly when the table answers a: 15, 7 or the entry at its index.
pub step_calls : (κs : Lfts 1) (ρ ρ' : Bor (List ℕ)) (c : Cursor) (limit : ℕ)
    (r : Result (Option (Entry × Cursor)) Unsound)
    → step-reads.Learnt κs (c, (limit, (ρ, tt))) r (c, (limit, (ρ', tt))) → (a : Answer EntryStep)
    → Exactly (step_means r ≡ a) (Steps limit ρ.now c.at a)
step_calls κs ρ ρ' c limit r e a = exactly e.0 (step_by_table limit ρ.now c.at a)

-- Any call of `count` is answered a exactly when the table answers a: the number of entries, or 7 with the index of the
-- entry that fails.
pub count_calls : (κs : Lfts 1) (ρ ρ' : Bor (List ℕ)) (limit : ℕ) (from : Cursor) (r : Result ℕ Unsound)
    → count-reads.Learnt κs (limit, (ρ, (from, tt))) r (limit, (ρ', (from, tt))) → (a : CountAnswer)
    → Exactly (counted_means r ≡ a) (Counts limit from.at (drop from.at ρ.now) a)
count_calls κs ρ ρ' limit from r e a =
    exactly e (count_by_table limit from.at (drop from.at ρ.now) a)

-- Any call of `entries::nth`, over any limit and from any index on.
pub nth_calls : (κs : Lfts 1) (ρ ρ' : Bor (List ℕ)) (limit : ℕ) (from : Cursor) (n : ℕ) (r : Result Entry Refusal)
    → nth-entry-reads.Learnt κs (limit, (ρ, (from, (n, tt)))) r (limit, (ρ', (from, (n, tt)))) → (a : Answer Extent)
    → Exactly (found_means r ≡ a) (Nth limit from.at (drop from.at ρ.now) n a)
nth_calls κs ρ ρ' limit from n r e a =
    exactly e (nth_by_table limit from.at (drop from.at ρ.now) n a)

-- ---- wrappers

-- Any call of `is_wrapper` answers yes exactly for the five of document 01.
pub wrapper_calls : (b : ℕ) (r : Bool) → is-wrapper-reads.Learnt tt (b, tt) r (b, tt) → Exactly (r ≡ true) (Wrapper b)
wrapper_calls b r e = exactly e (is_wrapper_lem b, wrapper_is)

-- ---- contents that stop a workout

-- Any call of `stops_workout` answers yes exactly for contents that do.
pub stop_calls : (κs : Lfts 1) (ρ ρ' : Bor (List ℕ)) (r : Bool) → stops-workout-reads.Learnt κs (ρ, tt) r (ρ', tt)
    → Exactly (r ≡ true) (StopsWorkout ρ.now)
stop_calls κs ρ ρ' r e = exactly e (stops_exactly ρ.now)
