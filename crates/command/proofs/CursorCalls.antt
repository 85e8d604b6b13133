-- The table of a command cursor. What the contracts of its functions ensure is written here once, over the cursors
-- alone; that it is the contracts' own, antt sees by computing, and any call of such a function tells it.
use Prim.Native.Nat.{ℕ, suc, ◌+◌, ◌-◌}
use mathlib.Core.Path.{◌≡◌, refl, sym, ap, ◌∙◌, subst}
use mathlib.Core.List.{List}
use native.Mathlib.Omega.{arith}
use seplogic.Ra.Ura.{Ura}
use base.Logic.{SProp}
use prog.Memory.{Memory}
use prog.Routine.{Routine}
use types.Logic.{Logic}
use Rattle.std.specs.Prelude.{Result}
use contract.Lifetimes.{Lfts}
use contract.Monad.{Fun, fact}
use denote.Ref.{Bor}
use Rattle.lists.specs.Choice.{Exactly}
use Rattle.lists.proofs.Cases.{exactly}
use Rattle.answer.specs.Answer.{Answer}
use Rattle.answer.specs.declared.Refusal.{Refusal}
use Rattle.command.specs.Entries.{commands, Extent}
use Rattle.command.specs.Answers.{found_means}
use Rattle.command.specs.Parts.{StandsAt, IsData}
use Rattle.command.specs.Commands.{nth_command}
use Rattle.command.specs.Traversal.{command_at, index_after, index_of}
use Rattle.command.specs.Table.{NthEntry, Moves, TableAnswers, TableData, at_index, nth_at_top, of_nth}
use Rattle.command.specs.declared.entries.Entry.{Entry}
use Rattle.command.specs.declared.cursor.CommandCursor.{CommandCursor}
use Rattle.command.proofs.Calls.{answer_by_table, data_exactly}
use Rattle.command.proofs.Table.{start_is}
use Rattle.command.proofs.StepTable.{move_by_table}
use Rattle.command.proofs.PartLaws.{stands_through}
use Rattle.command.proofs.CursorSteps.{kth_step, index_more}
use Rattle.command.specs.contracts.cursor.CommandCursor.new as new
use Rattle.command.specs.contracts.cursor.CommandCursor.command as command
use Rattle.command.specs.contracts.cursor.CommandCursor.data as data_of
use Rattle.command.specs.contracts.cursor.CommandCursor.advanced as advanced
use Rattle.command.proofs.cursor.CommandCursor.new.Reads as new-reads
use Rattle.command.proofs.cursor.CommandCursor.command.Reads as command-reads
use Rattle.command.proofs.cursor.CommandCursor.data.Reads as data-reads
use Rattle.command.proofs.cursor.CommandCursor.advanced.Reads as advanced-reads

-- ---- what the contracts ensure

abbrev pub Made : Bor (List ℕ) → CommandCursor → Type 0
Made s c = (c.contents ≡ s) × (c.at ≡ 0)

abbrev pub Answers : CommandCursor → Result Entry Refusal → Type 0
Answers c r = found_means r ≡ command_at c.contents.now c.at

abbrev pub HandsOut : CommandCursor → Bor (List ℕ) → Type 0
HandsOut c r = IsData c.contents r (command_at c.contents.now c.at)

abbrev pub MovesTo : CommandCursor → CommandCursor → Type 0
MovesTo c d = (d.contents ≡ c.contents) × (d.at ≡ index_after c.contents.now c.at)

module _ {M : Type 1} {𝓤 : Ura M} (𝓛 : Logic 𝓤) (mem : Memory → SProp 𝓤) (run : Routine → Fun 𝓤)
    (κs : Lfts 1) where
  pub new_ensures : (s s' : Bor (List ℕ)) (c : CommandCursor)
      → (new.clauses 𝓛 mem run κs (s, tt)).ensures tt c (s', tt) ≡ fact 𝓤 (Made s c)
  new_ensures s s' c = refl

  pub command_ensures : (c c' : CommandCursor) (r : Result Entry Refusal)
      → (command.clauses 𝓛 mem run κs (c, tt)).ensures tt r (c', tt) ≡ fact 𝓤 (Answers c r)
  command_ensures c c' r = refl

  pub data_ensures : (c c' : CommandCursor) (r : Bor (List ℕ))
      → (data_of.clauses 𝓛 mem run κs (c, tt)).ensures tt r (c', tt) ≡ fact 𝓤 (HandsOut c r)
  data_ensures c c' r = refl

  pub advanced_ensures : (c c' d : CommandCursor)
      → (advanced.clauses 𝓛 mem run κs (c, tt)).ensures tt d (c', tt) ≡ fact 𝓤 (MovesTo c d)
  advanced_ensures c c' d = refl

-- ---- what any call tells, known by nothing but its contract

pub new_told : (κs : Lfts 1) (s s' : Bor (List ℕ)) (c : CommandCursor) → new-reads.Learnt κs (s, tt) c (s', tt)
    → Made s c
new_told κs s s' c e = e

pub command_told : (κs : Lfts 1) (c c' : CommandCursor) (r : Result Entry Refusal)
    → command-reads.Learnt κs (c, tt) r (c', tt)
    → Answers c r
command_told κs c c' r e = e

pub data_told : (κs : Lfts 1) (c c' : CommandCursor) (r : Bor (List ℕ)) → data-reads.Learnt κs (c, tt) r (c', tt)
    → HandsOut c r
data_told κs c c' r e = e

pub advanced_told : (κs : Lfts 1) (c c' d : CommandCursor) → advanced-reads.Learnt κs (c, tt) d (c', tt)
    → MovesTo c d
advanced_told κs c c' d e = e

-- ---- a cursor that was made on contents and moved so many times

pub data Moved (s : Bor (List ℕ)) : ℕ → CommandCursor → Type 0 where
  made : {c : CommandCursor} → Made s c → Moved s 0 c
  moved : {k : ℕ} {c d : CommandCursor} → Moved s k c → MovesTo c d → Moved s (suc k) d

stands : {s : Bor (List ℕ)} {k : ℕ} {c : CommandCursor} → Moved s k c
    → (c.contents ≡ s) × (c.at ≡ index_of s.now k 0)
unfolding index_of
stands (made m) = m
stands {s} (moved {k = k} {c = c} b m) =
    let r = stands b in (
      m.0 ∙ r.0,
      m.1 ∙ ap (λ (x : Bor (List ℕ)). index_after x.now c.at) r.0 ∙ ap (index_after s.now) r.1
          ∙ sym (index_more s.now k 0),
    )

-- It answers as the call with n = k does.
pub run_answers : {s : Bor (List ℕ)} {k : ℕ} {c : CommandCursor} → Moved s k c
    → command_at c.contents.now c.at ≡ nth_command s.now k
run_answers {s} {k} {c} m =
    let r = stands m in
    ap (λ (x : Bor (List ℕ)). command_at x.now c.at) r.0 ∙ ap (command_at s.now) r.1 ∙ kth_step s.now k

-- A cursor answers a exactly when the table answers a to what stands at its index.
pub cursor_by_table : (c : CommandCursor) (r : Result Entry Refusal) → Answers c r → (a : Answer Extent)
    → Exactly (found_means r ≡ a) (TableAnswers c.contents.now (at_index c.at) a)
cursor_by_table c r e a =
    exactly e (answer_by_table c.contents.now (at_index c.at) a)

-- It moves to an index exactly when the table's move leads there, on the same contents.
pub cursor_moves : (c d : CommandCursor) → MovesTo c d
    → (d.contents ≡ c.contents) × ((i : ℕ) → Exactly (d.at ≡ i) (Moves c.contents.now c.at i))
cursor_moves c d m = (
  m.0,
  (λ i. exactly m.1 (move_by_table c.contents.now c.at i)),
)

-- After k moves, exactly when the table answers a to the k-th command of the contents that it was made on.
pub moves_by_table : (s : Bor (List ℕ)) (k : ℕ) (c : CommandCursor) → Moved s k c
    → (r : Result Entry Refusal) → Answers c r
    → (a : Answer Extent) → Exactly (found_means r ≡ a) (TableAnswers s.now (nth_at_top k) a)
moves_by_table s k c m r e a =
    exactly (e ∙ run_answers m) (answer_by_table s.now (nth_at_top k) a)

-- It hands out a part of those contents with these bytes at this index exactly when the table gives them as the data of
-- the k-th command.
pub moves_data : (s : Bor (List ℕ)) (k : ℕ) (c : CommandCursor) → Moved s k c → (r : Bor (List ℕ)) → HandsOut c r
    → (start : ℕ) (bytes : List ℕ) → Exactly (StandsAt s r start bytes) (TableData s.now (nth_at_top k) start bytes)
moves_data s k c m r h =
    let i : IsData c.contents r (nth_command s.now k) =
    subst (λ (a : Answer Extent). IsData c.contents r a) (run_answers m) h in
    let j : IsData s r (nth_command s.now k) =
    subst (λ (x : Bor (List ℕ)). IsData x r (nth_command s.now k)) (stands m).0 i in
    data_exactly (nth_at_top k) j

-- ---- on a wrapper's data

-- an entry of a part, with indices that count from the part's start
abbrev from_start : {from : ℕ} {s : List ℕ} {n byte at len : ℕ} (e : NthEntry commands from s n byte at len)
    → NthEntry commands 0 s n byte (at - from) len
from_start e =
    record {
      before = e.before;
      here = e.here;
      after = e.after;
      list_is = e.list_is;
      nth_is = e.nth_is;
      byte_is = e.byte_is;
      len_is = e.len_is;
      ends = omega (arith, e.ends, start_is e);
    }

-- A cursor on a wrapper's data: the data that it hands out after k moves are those of the k-th command inside, where
-- they stand in the whole contents.
pub inner_moves_data : (s p : Bor (List ℕ)) {w byte start len : ℕ}
    (outer : NthEntry commands 0 s.now w byte start len) → StandsAt s p start outer.here.body
    → (k : ℕ) (c : CommandCursor) → Moved p k c → (r : Bor (List ℕ)) → HandsOut c r
    → {innerByte at inner_len : ℕ} (e : NthEntry commands start outer.here.body k innerByte at inner_len)
    → StandsAt s r at e.here.body
inner_moves_data s p {start = start} outer j k c m r h {at = at} e =
    let f = from_start e in
    let d : TableData p.now (nth_at_top k) (at - start) e.here.body =
    subst (λ (l : List ℕ). TableData l (nth_at_top k) (at - start) e.here.body) (sym j.holds) (of_nth f) in
    let i : start + (at - start) ≡ at = omega (arith, start_is e) in
    subst (λ (x : ℕ). StandsAt s r x e.here.body) i
    (stands_through j ((moves_data p k c m r h (at - start) e.here.body).1 d))
