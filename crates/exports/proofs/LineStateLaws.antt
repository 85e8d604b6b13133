-- Packing a line reader's state and taking it apart are inverse, and an answer that tells nothing is told from every
-- other.
use Prim.Native.Nat.{ℕ, ◌+◌, ◌*◌, ◌/◌, ◌%◌, ◌^◌, ◌<◌}
use mathlib.Core.Path.{◌≡◌, refl, sym, ap, ◌∙◌}
use mathlib.Core.Bool.{Bool, true, false}
use mathlib.Core.List.{List}
use lib.Dec.{eqb}
use native.Mathlib.Omega.{arith}
use borrow.Author.Tests.{eqb-true, eqb-false}
use Rattle.lists.specs.Choice.{pick}
use Rattle.frame.specs.Answers.{standard_outline, extended_outline, FrameOutline}
use Rattle.answer.specs.Answer.{Answer, result, refused}
use Rattle.frame.specs.declared.Origin.{Origin}
use Rattle.candidate.specs.Outcome.{silent, tells}
use Rattle.frame.specs.declared.Kind.{Kind}
use Rattle.frame.specs.declared.Kind.TheVariants.{Standard, Extended}
use Rattle.framing.specs.declared.Mode.{Mode}
use Rattle.framing.specs.declared.Mode.TheVariants.{Outside, Inside, Overlong}
use Rattle.line.specs.Reader.{lent_reader}
use Rattle.line.specs.declared.State.{State}
use Rattle.exports.specs.Packed.{Fields, Tells}
use Rattle.exports.specs.LineState.{digit_of, mode_of, packed_state, packed_counts}
use Rattle.exports.specs.LineState.{start_of, count_of, state_in, reader_in}
use Rattle.exports.specs.LineAnswers.{line_fields}

digit_small : (m : Mode Kind) → digit_of m < 4
digit_small Outside = omega arith
digit_small (Inside Standard) = omega arith
digit_small (Inside Extended) = omega arith
digit_small Overlong = omega arith

mode_of_digit : (m : Mode Kind) → mode_of (digit_of m) ≡ m
mode_of_digit Outside = refl
mode_of_digit (Inside Standard) = refl
mode_of_digit (Inside Extended) = refl
mode_of_digit Overlong = refl

-- A start below 2 to the 32 and a count are what their number is taken apart to.
pub start_tells : (s : State) → s.start < 2 ^ 32 → start_of (packed_counts s) ≡ s.start
start_tells s h = omega arith

pub count_tells : (s : State) → s.start < 2 ^ 32 → count_of (packed_counts s) ≡ s.count
count_tells s h = omega arith

-- A reader that was packed is what its numbers are taken apart to, at its origin.
pub state_tells : (bytes : List ℕ) (s : State) → s.start < 2 ^ 32
    → reader_in s.held.origin bytes (packed_state s) (packed_counts s) ≡ lent_reader bytes s
state_tells bytes s h =
    let m = s.held.mode in
    let l : packed_state s / 4 ≡ s.held.len = omega (arith, digit_small m) in
    let d : packed_state s % 4 ≡ digit_of m = omega (arith, digit_small m) in
    let e : mode_of (packed_state s % 4) ≡ m = ap mode_of d ∙ mode_of_digit m in
    λ i. record {
      bytes = bytes;
      state = record {
        held = record { len = l i; mode = e i; origin = s.held.origin };
        start = start_tells s h i;
        count = count_tells s h i;
      };
    }

digit_of_mode : (n : ℕ) → n < 4 → digit_of (mode_of n) ≡ n
digit_of_mode n h = by_tests (eqb n 0) (eqb n 1) (eqb n 2) refl refl refl
  where
    by_tests : (t₀ t₁ t₂ : Bool) → eqb n 0 ≡ t₀ → eqb n 1 ≡ t₁ → eqb n 2 ≡ t₂
        → digit_of (pick t₀ Outside (pick t₁ (Inside Standard) (pick t₂ (Inside Extended) Overlong))) ≡ n
    by_tests true t₁ t₂ a b c = sym (eqb-true n 0 a)
    by_tests false true t₂ a b c = sym (eqb-true n 1 b)
    by_tests false false true a b c = sym (eqb-true n 2 c)
    by_tests false false false a b c = omega (arith, h, eqb-false n 0 a, eqb-false n 1 b, eqb-false n 2 c)

-- Two numbers are those of the reader of either origin that they are taken apart to.
pub state_packs : (o : Origin) (n counts : ℕ) → packed_state (state_in o n counts) ≡ n
state_packs o n counts =
    let h : n % 4 < 4 = omega arith in
    ap (λ (d : ℕ). d + 4 * (n / 4)) (digit_of_mode (n % 4) h) ∙ omega arith

pub counts_pack : (o : Origin) (n counts : ℕ) → packed_counts (state_in o n counts) ≡ counts
counts_pack o n counts = omega arith

-- Two numbers of 32 bits make one of 64, and every one of 64 is taken apart to two of 32.
pub counts_fit : (s : State) → s.start < 2 ^ 32 → s.count < 2 ^ 32 → packed_counts s < 2 ^ 64
counts_fit s h k = omega arith

pub counts_halves : (counts : ℕ) → counts < 2 ^ 64 → (start_of counts < 2 ^ 32) × (count_of counts < 2 ^ 32)
counts_halves counts h = (omega arith, omega arith)

-- The number of an answer that tells nothing is that of no frame and of no refusal.
pub silence_apart : (n : ℕ) (a : Answer FrameOutline) → Tells n (line_fields silent) → Tells n (line_fields (tells a)) → ⊥
silence_apart n (result (standard_outline len)) s t =
    let k : ◌≡◌ {A = ℕ} 2 0 = ap (λ (f : Fields). f.kind) (sym s.unpacks ∙ t.unpacks) in omega arith
silence_apart n (result (extended_outline to from len)) s t =
    let k : ◌≡◌ {A = ℕ} 2 1 = ap (λ (f : Fields). f.kind) (sym s.unpacks ∙ t.unpacks) in omega arith
silence_apart n (refused m) s t =
    let k : ◌≡◌ {A = ℕ} 2 0 = ap (λ (f : Fields). f.kind) (sym s.unpacks ∙ t.unpacks) in omega arith
