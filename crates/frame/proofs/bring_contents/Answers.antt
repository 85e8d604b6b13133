use mathlib.Core.Path.{◌≡◌, refl, sym, ap, ◌∙◌}
use Prim.Native.Nat.{ℕ, ◌+◌, ◌-◌, ◌≤◌}
use native.Mathlib.Omega.{arith}
use mathlib.Core.Bool.{false}
use mathlib.Core.List.{List, ◌++◌}
use lib.ListN.{length, take, drop, length-drop, take-append-drop}
use Rattle.lists.specs.Splice.{splice}
use Rattle.lists.proofs.Lists.{drop-take, rest_part}
use Rattle.lists.proofs.Splices.{shifted_fits}
use Rattle.frame.specs.Stuffing.{unstuff}
use Rattle.frame.specs.Private.{unstuffed_bytes, is_sound, last_at}
use Rattle.frame.proofs.StuffingLaws.{unstuff_shrinks}
use Rattle.frame.proofs.ContentsLaws.{shifted_plain, front_sound, front_inside, front_put}
use Rattle.frame.proofs.bring_contents.Goals as goal

module _ (s : List ℕ) (start len : ℕ) (n : length (unstuffed_bytes (unstuff false (drop start s))) ≡ len + 1)
    (within : start ≤ length s) (last : ℕ) (is : last ≡ last_at (take (length s - start) (drop start s))) where
  -- where the last unstuffed byte begins, counted from the contents on
  end : last ≡ last_at (drop start s)
  end = is ∙ ap last_at (rest_part s start)

  inside : start + last ≤ length s
  inside = omega (arith, front_inside (drop start s) len n _ end, length-drop start s)

  part : drop start (take (start + last) s) ≡ take last (drop start s)
  part = drop-take start last s inside

pub overflow_add-len : goal.overflow_add-len
overflow_add-len c =
    omega (arith, unstuff_shrinks false (drop c.args.start c.args.s.now), length-drop c.args.start c.args.s.now)

pub returns-then-start-eq0 : goal.returns-then-start-eq0
returns-then-start-eq0 c =
    let a = c.args in
    shifted_plain a.s.now _ a.start a.len c.requires.s_len
    (length-drop a.start a.s.now ∙ c.if-s-start.true)
    (sym (take-append-drop a.len a.s.now)
    ∙ ap (λ (k : ℕ). take a.len (drop k a.s.now) ++ drop a.len a.s.now) (sym c.if-start-eq0.true))

pub returns-then-start-eq2 : goal.returns-then-start-eq2
returns-then-start-eq2 c =
    let a = c.args in
    let one = c.if-s-start.true in
    let h : 2 + a.len ≤ length a.s.now = omega (arith, one, c.if-start-eq2.true, c.requires.start_in_bounds) in
    shifted_plain a.s.now _ a.start a.len c.requires.s_len (length-drop a.start a.s.now ∙ one)
    (c.shift.ensures ∙ sym (shifted_fits a.s.now _ 2 a.len h refl)
    ∙ ap (λ (k : ℕ). take a.len (drop k a.s.now) ++ drop a.len a.s.now) (sym c.if-start-eq2.true))

pub overflow_add-end : goal.overflow_add-end
overflow_add-end c =
    omega (
      arith,
      inside c.args.s.now c.args.start c.args.len c.requires.s_len c.requires.start_in_bounds _ c.last_at.ensures,
    )

pub unstuff_front-requires-clause-end_in_bounds : goal.unstuff_front-requires-clause-end_in_bounds
unstuff_front-requires-clause-end_in_bounds c =
    inside c.args.s.now c.args.start c.args.len c.requires.s_len c.requires.start_in_bounds _ c.last_at.ensures

pub unstuff_front-requires-clause-s_value : goal.unstuff_front-requires-clause-s_value
unstuff_front-requires-clause-s_value c =
    let a = c.args in
    ap (λ (t : List ℕ). is_sound (unstuff false t))
    (part a.s.now a.start a.len c.requires.s_len c.requires.start_in_bounds _ c.last_at.ensures)
    ∙ front_sound (drop a.start a.s.now) a.len c.requires.s_len _
    (end a.s.now a.start a.len c.requires.s_len c.requires.start_in_bounds _ c.last_at.ensures)

pub returns : goal.returns
returns c =
    let a = c.args in
    front_put (drop a.start a.s.now) a.len c.requires.s_len _
    (end a.s.now a.start a.len c.requires.s_len c.requires.start_in_bounds _ c.last_at.ensures) a.s.now _
    (c.unstuff_front.ensures
    ∙ ap (λ (t : List ℕ). splice a.s.now 0 (unstuffed_bytes (unstuff false t)))
    (part a.s.now a.start a.len c.requires.s_len c.requires.start_in_bounds _ c.last_at.ensures))
