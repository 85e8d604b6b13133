-- Laws of the commands inside a wrapper.
use Prim.Native.Nat.{ℕ, ◌+◌, ◌≤◌, ◌<◌, ◌^◌}
use mathlib.Core.Path.{◌≡◌, sym, ap, ◌∙◌, subst}
use mathlib.Core.Bool.{Bool, true, false}
use mathlib.Core.List.{List}
use native.Mathlib.Omega.{arith}
use lib.ListN.{length, take, drop, length-drop}
use lib.Seq.{length-take-le}
use Rattle.lists.specs.Choice.{pick}
use Rattle.command.specs.Entries.{found, Extent}
use Rattle.answer.specs.Answer.{Answer, result, refused}
use Rattle.command.specs.Answers.{InContents}
use Rattle.command.specs.Commands.{is_wrapper, nth_command, shifted, inside, nth_inside}
use Rattle.command.proofs.Extents.{within_command}

-- the w-th command is refused
pub outer_none : (s : List ℕ) (w n : ℕ) {k : ℕ} → refused k ≡ nth_command s w → refused k ≡ nth_inside s w n
unfolding nth_inside inside
outer_none s w n e = ap (λ (a : Answer Extent). inside s a n) e

-- the w-th command is found
module _ (s : List ℕ) (w n : ℕ) {b start len : ℕ} (outer : result (found b start len) ≡ nth_command s w) where
  inside_is : {t : Bool} → t ≡ is_wrapper b
      → pick t (shifted start (nth_command (take len (drop start s)) n)) (refused 15) ≡ nth_inside s w n
  unfolding nth_inside inside
  inside_is e =
      ap (λ (x : Bool). pick x (shifted start (nth_command (take len (drop start s)) n)) (refused 15)) e
      ∙ ap (λ (a : Answer Extent). inside s a n) outer

  pub outer_plain : {t : Bool} → t ≡ is_wrapper b → t ≡ false → refused 15 ≡ nth_inside s w n
  outer_plain e f = inside_is (sym f ∙ e)

  pub outer_wrapper : {t : Bool} → t ≡ is_wrapper b → t ≡ true → {l : List ℕ} → l ≡ take len (drop start s)
      → {a : Answer Extent} → a ≡ nth_command l n → shifted start a ≡ nth_inside s w n
  outer_wrapper e y d inner =
      ap (shifted start) (inner ∙ ap (λ (x : List ℕ). nth_command x n) d) ∙ inside_is (sym y ∙ e)

  -- the index of what is found inside is one in the whole
  pub inner_fits : length s < 2 ^ 64 → {l : List ℕ} → l ≡ take len (drop start s) → {c at m : ℕ}
      → result (found c at m) ≡ nth_command l n → start + at < 2 ^ 64
  inner_fits k {l = l} d {at = at} {m = m} inner =
      let h : start + len ≤ length s = subst (InContents s) (sym outer) (within_command s w) in
      let i : at + m ≤ length l = subst (InContents l) (sym inner) (within_command l n) in
      omega (arith, ap length d, length-take-le len (drop start s) (omega (arith, length-drop start s)))
