use mathlib.Core.Path.{◌≡◌, refl, ap, ◌∙◌}
use Prim.Native.Nat.{ℕ}
use mathlib.Core.List.{List, [], ◌∷◌}
use lib.ListN.{length, get_or}
use native.Mathlib.Omega.{arith}
use borrow.Author.Rules.{rules}
use Rattle.numbers.specs.Number.{bytes_of}
use Rattle.writer.proofs.NumberLaws.{le_bytes_of}
use Rattle.workout.specs.Workout.{layout, command_of, identifier_of}
use Rattle.workout.specs.declared.layout.GoalKind.{GoalKind}
use Rattle.workout.proofs.layout.lay_out.Goals as goal

three : (g : List ℕ) → length g ≡ 3 → get_or g 0 0 ∷ get_or g 1 0 ∷ get_or g 2 0 ∷ [] ≡ g
three [] e = absurd (omega arith)
three (a ∷ []) e = absurd (omega arith)
three (a ∷ b ∷ []) e = absurd (omega arith)
three (a ∷ b ∷ d ∷ []) e = refl
three (a ∷ b ∷ d ∷ x ∷ l) e = absurd (omega arith)

-- the bytes one by one
laid : (kind : GoalKind) (g s p : List ℕ) (split watts command identifier : ℕ) → length g ≡ 3
    → s ≡ bytes_of 4 split → p ≡ bytes_of 2 watts → command ≡ command_of kind → identifier ≡ identifier_of kind
    → command ∷ 0x03 ∷ get_or g 0 0 ∷ get_or g 1 0 ∷ get_or g 2 0 ∷ 0x1A ∷ 0x07 ∷ 0x05 ∷ 0x05 ∷ identifier
    ∷ get_or s 0 0 ∷ get_or s 1 0 ∷ get_or s 2 0 ∷ get_or s 3 0 ∷ 0x34 ∷ 0x03 ∷ get_or p 0 0 ∷ get_or p 1 0
    ∷ 0x58 ∷ 0x24 ∷ 0x02 ∷ 0x00 ∷ 0x00 ∷ [] ≡ layout kind g (bytes_of 4 split) (bytes_of 2 watts)
unfolding layout bytes_of
laid kind g s p split watts command identifier l es ep ec ei =
    (simp (es, ep, ec, ei)) ∙ ap (λ (m : List ℕ). layout kind m (bytes_of 4 split) (bytes_of 2 watts)) (three g l)

pub returns : goal.returns
returns c =
    laid c.args.kind c.args.goal _ _ c.args.split c.args.watts _ _ (search rules)
    (c.to_le_bytes-split.ensures ∙ le_bytes_of 4 c.args.split) (c.to_le_bytes-power.ensures ∙ le_bytes_of 2 c.args.watts)
    c.command.ensures c.identifier.ensures
