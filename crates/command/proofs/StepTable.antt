-- Which answer one step gives exactly when, and where a move leads exactly when.
use Prim.Native.Nat.{ℕ, suc, ◌+◌, ◌-◌, ◌≤◌, ◌<◌}
use mathlib.Core.Path.{◌≡◌, refl, sym, ap, ◌∙◌, subst}
use mathlib.Core.Bool.{true}
use mathlib.Core.List.{List, [], ◌∷◌, ◌++◌}
use native.Mathlib.Numerals.{add-one}
use native.Mathlib.Omega.{arith}
use lib.Dec.{leb, ltb}
use lib.ListN.{length, get_or, take, drop, length-append, length-drop}
use lib.Seq.{drop-cons}
use borrow.Author.Tests.{ltb-true, ltb-false, leb-true, leb-false, lt-ltb, le-ltb, le-leb, lt-leb}
use Rattle.lists.specs.Choice.{Exactly}
use Rattle.lists.proofs.Cases.{by_bool}
use Rattle.answer.specs.Answer.{Answer, result, refused}
use Rattle.command.specs.Entries.{Entry, entry, commands, entry_bytes, list_bytes, WellFormed, head_of, Extent}
use Rattle.command.specs.Entries.{Parsed, parse, nth_of, nth_in}
use Rattle.command.specs.Steps.{EntryStep, entry_step, step_at}
use Rattle.command.specs.Traversal.{command_at, index_past, index_after}
use Rattle.command.specs.Table.{FailsFirst, no_count, beyond_end, Steps, at_end, fails_there, stands_there}
use Rattle.command.specs.Table.{Nth, bad_count, absent, present, Moves, past, stays}
use Rattle.command.proofs.EntryLaws.{told}
use Rattle.command.proofs.Extents.{width_of}
use Rattle.command.proofs.Table.{counted_bytes, short_bytes, nth_by_table}

-- ---- one step

-- what stands at an index and after it
front : (s : List ℕ) (at b : ℕ) (t : List ℕ) → drop at s ≡ b ∷ t
    → (at < length s) × (get_or s at 0 ≡ b) × (drop (at + 1) s ≡ t)
front s at b t e =
    let h : at < length s = omega (arith, ap length e, length-drop at s) in
    let q : get_or s at 0 ∷ drop (suc at) s ≡ b ∷ t = sym (drop-cons s at 0 h) ∙ e in
    let first : get_or s at 0 ≡ b = cc in
    let rest : drop (suc at) s ≡ t = cc in
    (h, first, ap (λ (n : ℕ). drop n s) (add-one at) ∙ rest)

same_step : {b b' start start' len len' next next' : ℕ} → b ≡ b' → start ≡ start' → len ≡ len' → next ≡ next'
    → result (entry_step b start len next) ≡ result (entry_step b' start' len' next')
same_step p q r t = cc (p, q, r, t)

fails_step : (limit : ℕ) (s : List ℕ) (at : ℕ) (t : List ℕ) → drop at s ≡ t → FailsFirst limit t
    → step_at limit s at ≡ refused 7
unfolding step_at
fails_step limit s at t e (no_count {b = b} h) =
    let f = front s at b [] e in
    let z : ltb (get_or s at 0) limit ≡ true = ap (λ (x : ℕ). ltb x limit) f.1 ∙ lt-ltb b limit h in
    let l : length s ≤ at + 1 = omega (arith, ap length e, length-drop at s) in
    simp (lt-ltb at (length s) f.0, z, le-ltb (at + 1) (length s) l)
fails_step limit s at t e (beyond_end {b = b} {count = n} {s = u} h k) =
    let f = front s at b (n ∷ u) e in
    let g = front s (at + 1) n u f.2 in
    let z : ltb (get_or s at 0) limit ≡ true = ap (λ (x : ℕ). ltb x limit) f.1 ∙ lt-ltb b limit h in
    let over : length s - (at + 2) < get_or s (at + 1) 0 = omega (arith, ap length e, length-drop at s, g.1, k) in
    simp (
      lt-ltb at (length s) f.0,
      z,
      lt-ltb (at + 1) (length s) g.0,
      lt-leb (get_or s (at + 1) 0) (length s - (at + 2)) over,
    )

line_step : (limit : ℕ) (s : List ℕ) (at : ℕ) (a : Answer EntryStep) → Steps limit s at a → step_at limit s at ≡ a
unfolding step_at entry_bytes
line_step limit s at a (at_end h) = simp (le-ltb at (length s) h)
line_step limit s at a (fails_there f) = fails_step limit s at (drop at s) refl f
line_step limit s at a (stands_there {start = start} {next = next} e rest f b p q) =
    by_bool (ltb e.byte limit)
    (λ y. let c : drop at s ≡ e.byte ∷ length e.body ∷ (e.body ++ rest) = simp y at b in
    let w : next ≡ at + suc (suc (length e.body)) = simp y at p in
    let g = front s at e.byte (length e.body ∷ (e.body ++ rest)) c in
    let i = front s (at + 1) (length e.body) (e.body ++ rest) g.2 in
    let z : ltb (get_or s at 0) limit ≡ true = ap (λ (x : ℕ). ltb x limit) g.1 ∙ y in
    let l : get_or s (at + 1) 0 ≤ length s - (at + 2) =
    omega (arith, ap length c, length-drop at s, i.1, length-append e.body rest) in
    (simp (
      lt-ltb at (length s) g.0,
      z,
      lt-ltb (at + 1) (length s) i.0,
      le-leb (get_or s (at + 1) 0) (length s - (at + 2)) l,
    )
    (same_step g.1 (omega (arith, w, q)) i.1 (omega (arith, w, i.1)))))
    (λ y. let c : drop at s ≡ e.byte ∷ rest = simp y at b in
    let w : next ≡ at + 1 = simp y at p in
    let g = front s at e.byte rest c in
    let z = ap (λ (x : ℕ). ltb x limit) g.1 ∙ y in
    let none : length e.body ≡ 0 = ap length (f (ltb-false e.byte limit y)) in
    (simp (lt-ltb at (length s) g.0, z)
    (same_step g.1 (omega (arith, w, q)) (sym none) (sym w))))

-- every index has a line of the table
module _ (limit : ℕ) (s : List ℕ) (at : ℕ) where
  abbrev Line : Type 0
  Line = (a : Answer EntryStep) × Steps limit s at a

  entry-line : (e : Entry) (rest : List ℕ) → WellFormed limit e → drop at s ≡ entry_bytes limit e ++ rest → Line
  entry-line e rest f b = (
    result (entry_step e.byte (at + head_of limit e.byte) (length e.body) (at + length (entry_bytes limit e))),
    stands_there {start = at + head_of limit e.byte} e rest f b refl (omega (arith, width_of limit e f)),
  )

  fails_line : (t : List ℕ) → drop at s ≡ t → FailsFirst limit t → Line
  fails_line t b f = (refused 7, fails_there (subst (FailsFirst limit) (sym b) f))

  some_line : (t : List ℕ) → drop at s ≡ t → Line
  some_line [] b = (refused 15, at_end (omega (arith, ap length b, length-drop at s)))
  some_line (b ∷ []) e =
      by_bool (ltb b limit)
      (λ y. fails_line (b ∷ []) e (no_count (ltb-true _ _ y)))
      (λ y. entry-line (entry b []) [] (λ k. refl) (e ∙ short_bytes limit b [] y))
  some_line (b ∷ n ∷ u) e =
      by_bool (ltb b limit)
      (λ y. by_bool (leb n (length u))
      (λ z. let c = counted_bytes limit b n u y (leb-true _ _ z) in
      entry-line (entry b (take n u)) (drop n u) c.1 (e ∙ c.0))
      (λ z. fails_line (b ∷ n ∷ u) e (beyond_end (ltb-true _ _ y) (leb-false _ _ z))))
      (λ y. entry-line (entry b []) (n ∷ u) (λ k. refl) (e ∙ short_bytes limit b (n ∷ u) y))

-- One step is answered a exactly when the table answers a.
pub step_by_table : (limit : ℕ) (s : List ℕ) (at : ℕ) (a : Answer EntryStep)
    → Exactly (step_at limit s at ≡ a) (Steps limit s at a)
step_by_table limit s at a = (
  (λ e. let l = some_line limit s at (drop at s) refl in
      subst (λ (x : Answer EntryStep). Steps limit s at x) (sym (line_step limit s at l.0 l.1) ∙ e) l.1),
  line_step limit s at a,
)

-- ---- a move

line_move : (s : List ℕ) (at i : ℕ) → Moves s at i → index_after s at ≡ i
unfolding command_at index_after list_bytes
line_move s at i (stays {number = m} j) =
    ap (index_past at) ((nth_by_table commands at (drop at s) 0 (refused m)).1 j)
line_move s at i (past e) =
    ap (index_past at) ((nth_by_table commands at (drop at s) 0 _).1 (present e))
    ∙ e.ends ∙ omega (arith, ap length (none e.before e.nth_is))
  where
    none : (es : List Entry) → 0 ≡ length es → list_bytes commands es ≡ []
    none [] h = refl
    none (d ∷ es) h = absurd (omega arith)

some_move : (s : List ℕ) (at : ℕ) (a : Answer Extent) → Nth commands at (drop at s) 0 a → (i : ℕ) × Moves s at i
some_move s at a (bad_count u) = (at, stays (bad_count u))
some_move s at a (absent w h) = (at, stays (absent w h))
some_move s at a (present e) = (at + length (entry_bytes commands e.here), past e)

-- A move leads to an index exactly when the table says so.
pub move_by_table : (s : List ℕ) (at i : ℕ) → Exactly (index_after s at ≡ i) (Moves s at i)
move_by_table s at i = (
  (λ e. let l = some_move s at _ ((nth_by_table commands at (drop at s) 0 _).0 refl) in
      subst (λ (x : ℕ). Moves s at x) (sym (line_move s at l.0 l.1) ∙ e) l.1),
  line_move s at i,
)

-- ---- the n-th entry

-- Where a step is refused, the n-th entry from there on is refused alike.
pub nth_refused : (limit : ℕ) (s : List ℕ) (at n : ℕ) {k : ℕ} → refused k ≡ step_at limit s at
    → refused k ≡ nth_in limit at (parse limit (drop at s) 0) n
unfolding nth_in nth_of
nth_refused limit s at n {k} e = alike ((step_by_table limit s at (refused k)).0 (sym e)) e
  where
    alike : {k : ℕ} → Steps limit s at (refused k) → refused k ≡ step_at limit s at
        → refused k ≡ nth_in limit at (parse limit (drop at s) 0) n
    alike (at_end h) e = sym (ap (λ (x : Parsed). nth_in limit at x n) (told limit s at e))
    alike (fails_there f) e = sym (ap (λ (x : Parsed). nth_in limit at x n) (told limit s at e))
