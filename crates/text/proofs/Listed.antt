-- Each byte of a trace, and its end, gets the line that the table says, or none.
use mathlib.Core.Path.{◌≡◌, refl, sym, ap, ap₂, ◌∙◌}
use mathlib.Core.Bool.{false}
use mathlib.Core.List.{List, [], ◌∷◌, ◌++◌, append_assoc}
use native.Mathlib.Omega.{arith}
use Prim.Native.Nat.{ℕ, ◌+◌}
use lib.ListN.{length}
use Rattle.lists.specs.Choice.{Exactly}
use Rattle.lists.specs.Machine.{run, left_after}
use Rattle.lists.proofs.Machines.{run-append}
use Rattle.framing.specs.Reference.{Call, finish}
use Rattle.framing.specs.Demand3.{feed}
use Rattle.framing.specs.Located.{Located, unlocated, located, answer_in, position_in, new_counted, located_answer}
use Rattle.framing.specs.Located.{located_after, located_reference}
use Rattle.framing.specs.LocatedTable.{ToldAt, LocatedLaws}
use Rattle.framing.proofs.Located.{located_demand3_of}
use Rattle.framing.proofs.LocatedTable.{located_laws}
use Rattle.answer.specs.Answer.{refused}
use Rattle.frame.specs.Verdict.{Verdict}
use Rattle.frame.specs.declared.Origin.TheVariants.{Trace}
use Rattle.candidate.specs.Outcome.{Outcome, nothing, judged}
use Rattle.line.specs.Rowing.{located_rowing}
use Rattle.text.specs.Lines.{line, totals}
use Rattle.text.specs.Strays.{strays}
use Rattle.text.specs.Text.{with_located, located_in, answers_to, verdicts, frames, refusals, lines, text}
use Rattle.text.specs.Listed.{ListedAt}

-- ---- lists

-- the answers among those of two rows of calls
located_append : (first second : List (Located Outcome))
    → located_in (first ++ second) ≡ located_in first ++ located_in second
located_append [] second = refl
located_append (a ∷ first) second =
    ap (with_located (position_in a) (answer_in a)) (located_append first second)
    ∙ by_outcome (position_in a) (answer_in a) (located_in first)
  where
    by_outcome : (position : ℕ) (o : Outcome) (answers : List (Located Verdict))
        → with_located position o (answers ++ located_in second) ≡ with_located position o answers ++ located_in second
    by_outcome position nothing answers = refl
    by_outcome position (judged v) answers = refl

-- the lines of answers after others
lines-append : (n : ℕ) (first second : List (Located Verdict))
    → lines n (first ++ second) ≡ lines n first ++ lines (n + length first) second
lines-append n [] second =
    let e : n ≡ n + 0 = omega arith in ap (λ (k : ℕ). lines k second) e
lines-append n (a ∷ first) second =
    let e : n + 1 + length first ≡ n + length (a ∷ first) = omega arith in
    ap (λ (l : List ℕ). line (n + 1) (position_in a) (answer_in a) ++ l)
    (lines-append (n + 1) first second ∙ ap (λ (k : ℕ). lines (n + 1) first ++ lines k second) e)
    ∙ sym (append_assoc (line (n + 1) (position_in a) (answer_in a)) (lines (n + 1) first)
    (lines (n + length (a ∷ first)) second))

-- ---- one call's own answer

-- how many answers an outcome is
abbrev told_in : Outcome → ℕ
told_in nothing = 0
told_in (judged v) = 1

-- how many positions it has
abbrev places_in : Located Outcome → ℕ
places_in (unlocated o) = 0
places_in (located position o) = 1

-- the position and the verdict of the first answer, if there is one
abbrev first_place : List (Located Verdict) → ℕ
first_place [] = 0
first_place (a ∷ answers) = position_in a

abbrev first_verdict : List (Located Verdict) → Verdict
first_verdict [] = refused 0
first_verdict (a ∷ answers) = answer_in a

laws : LocatedLaws (located_rowing Trace)
    (λ (calls : List Call) (answers : List (Located Outcome)). answers ≡ located_reference (located_rowing Trace) calls)
laws =
    located_laws (located_rowing Trace)
    (λ (calls : List Call) (answers : List (Located Outcome)). answers ≡ located_reference (located_rowing Trace) calls)
    (located_demand3_of (located_rowing Trace)
    (λ (calls : List Call) (answers : List (Located Outcome)). answers ≡ located_reference (located_rowing Trace) calls)
    (λ calls answers e. e))

module _ (calls : List Call) (c : Call) where
  abbrev answer : Located Outcome
  answer = located_answer (located_rowing Trace) (left_after (located_after (located_rowing Trace)) new_counted calls) c

  ran : located_reference (located_rowing Trace) calls ++ answer ∷ []
      ≡ located_reference (located_rowing Trace) (calls ++ c ∷ [])
  ran =
      sym (run-append (located_answer (located_rowing Trace)) (located_after (located_rowing Trace)) new_counted calls (c ∷ []))

  told : (position : ℕ) (a : Outcome)
      → Exactly (answer ≡ located position a) (ToldAt (located_rowing Trace) calls c position a)
  told = laws.told_exactly calls c (located_reference (located_rowing Trace) calls) answer ran

  -- an answer without a position is nothing
  silent : (a : Outcome) → answer ≡ unlocated a → a ≡ nothing
  silent a e =
      let n : answer ≡ unlocated nothing =
      laws.nothing_else calls c (located_reference (located_rowing Trace) calls) answer ran
      (λ position b t. by_told (sym e ∙ (told position b).1 t)) in
      ap answer_in (sym e ∙ n)
    where
      by_told : {position : ℕ} {b : Outcome} → unlocated a ≡ located position b → ⊥
      by_told f = omega (arith, ap places_in f)

  own_exactly : (x : Located Outcome) → answer ≡ x → (position : ℕ) (v : Verdict)
      → Exactly (located_in (x ∷ []) ≡ located position v ∷ [])
      (ToldAt (located_rowing Trace) calls c position (judged v))
  own_exactly (located p nothing) e position v = (
    (λ f. absurd (omega (arith, ap length f))),
    (λ t. absurd (omega (arith, ap (λ (y : Located Outcome). told_in (answer_in y)) (sym e ∙ (told position (judged v)).1 t)))),
  )
  own_exactly (located p (judged w)) e position v = (
    (λ f. (told position (judged v)).0
        (e ∙ ap₂ (λ (n : ℕ) (u : Verdict). located n (judged u)) (ap first_place f) (ap first_verdict f))),
    (λ t. ap (λ (y : Located Outcome). located_in (y ∷ [])) (sym e ∙ (told position (judged v)).1 t)),
  )
  own_exactly (unlocated a) e position v =
      let n = silent a e in (
        (λ f. absurd (omega (arith, ap length (sym (ap (λ (o : Outcome). located_in (unlocated o ∷ [])) n) ∙ f)))),
        (λ t. ap (λ (y : Located Outcome). located_in (y ∷ [])) (sym e ∙ (told position (judged v)).1 t)),
      )

  own_none : (x : Located Outcome) → answer ≡ x
      → ((position : ℕ) (v : Verdict) → ToldAt (located_rowing Trace) calls c position (judged v) → ⊥)
      → located_in (x ∷ []) ≡ []
  own_none (located p nothing) e n = refl
  own_none (located p (judged w)) e n = absurd (n p w ((told p (judged w)).0 e))
  own_none (unlocated a) e n = ap (λ (o : Outcome). located_in (unlocated o ∷ [])) (silent a e)

-- ---- the line of a call

line_of : (trace : List ℕ) (earlier later : List (Located Verdict)) (position : ℕ) (v : Verdict)
    → answers_to trace ≡ earlier ++ (located position v ∷ later)
    → (rest : List ℕ) × (text trace ≡ lines 0 earlier ++ (line (length earlier + 1) position v ++ rest))
line_of trace earlier later position v e =
    let last =
    totals (frames (verdicts (answers_to trace))) (refusals (verdicts (answers_to trace))) (strays false trace) in
    let n : 0 + length earlier ≡ length earlier = omega arith in
    let more = lines (length earlier + 1) later in
    let own = line (length earlier + 1) position v in (
      more ++ last,
      ap (λ (l : List (Located Verdict)). lines 0 l ++ last) e
          ∙ ap (λ (l : List ℕ). l ++ last)
          (lines-append 0 earlier (located position v ∷ later)
          ∙ ap (λ (k : ℕ). lines 0 earlier ++ lines k (located position v ∷ later)) n)
          ∙ append_assoc (lines 0 earlier) (own ++ more) last
          ∙ ap (λ (l : List ℕ). lines 0 earlier ++ l) (append_assoc own more last),
    )

-- Of every byte of a trace, whatever comes after it, and of its end.
pub listed_at : (trace : List ℕ) (calls : List Call) (c : Call) (rest : List Call)
    → feed trace ++ finish ∷ [] ≡ calls ++ c ∷ rest → ListedAt trace calls c
listed_at trace calls c rest e =
    let Q = located_rowing Trace in
    let u = left_after (located_after Q) new_counted calls in
    let x = located_answer Q u c in
    let first = located_in (located_reference Q calls) in
    let more = located_in (run (located_answer Q) (located_after Q) (located_after Q u c) rest) in
    let answers : answers_to trace ≡ first ++ (located_in (x ∷ []) ++ more) =
    ap (λ (l : List Call). located_in (located_reference Q l)) e
    ∙ ap located_in (run-append (located_answer Q) (located_after Q) new_counted calls (c ∷ rest))
    ∙ located_append (located_reference Q calls) (x ∷ run (located_answer Q) (located_after Q) (located_after Q u c) rest)
    ∙ ap (λ (l : List (Located Verdict)). first ++ l)
    (located_append (x ∷ []) (run (located_answer Q) (located_after Q) (located_after Q u c) rest)) in
    record {
      earlier = first;
      own = located_in (x ∷ []);
      later = more;
      earlier_are = refl;
      answers_are = answers;
      one_exactly = own_exactly calls c x refl;
      none_else = own_none calls c x refl;
      line_is = λ position v f. line_of trace first more position v
          (answers ∙ ap (λ (l : List (Located Verdict)). first ++ (l ++ more)) f);
    }
