-- The laws of a loop over entries that looks for one that passes a test.
use mathlib.Core.Path.{◌≡◌, refl, sym, ap, ◌∙◌}
use mathlib.Core.Bool.{Bool, true, false, ◌&&◌, ◌||◌}
use mathlib.Core.List.{List, [], ◌∷◌}
use Prim.Native.Nat.{ℕ}
use lib.Dec.{eqb}
use Rattle.std.specs.Cmp.Lexicographic.{pointwise}
use Rattle.lists.specs.Choice.{pick}
use Rattle.command.specs.Entries.{Entry, Parsed, unsound, sound, with_entry}
use Rattle.command.specs.Stop.{any_of, any_in, is_one_two}

module _ (p : Entry → Bool) where
  -- An entry that passes was found before, or is one of those that follow, and what follows is sound.
  unfoldable pub found_so_far : Bool → Parsed → Bool
  found_so_far t (unsound at) = false
  found_so_far t (sound es) = pick t true (any_of p es)

  pub found_start : (q : Parsed) → found_so_far false q ≡ any_in p q
  unfolding found_so_far any_in
  found_start (unsound at) = refl
  found_start (sound es) = refl

  pub found_end : (t : Bool) (q : Parsed) → q ≡ sound [] → t ≡ found_so_far t q
  unfolding found_so_far any_of
  found_end t q e = alone t ∙ ap (found_so_far t) (sym e)
    where
      alone : (u : Bool) → u ≡ pick u true false
      alone true = refl
      alone false = refl

  pub found_broken : (t : Bool) (q : Parsed) → q ≡ unsound 0 → false ≡ found_so_far t q
  unfolding found_so_far
  found_broken t q e = ap (found_so_far t) (sym e)

  -- an entry more, which is found where it passes
  pub found_next : (t u : Bool) (limit : ℕ) (e : Entry) (q r : Parsed) → q ≡ with_entry limit e r → u ≡ (t || p e)
      → found_so_far u r ≡ found_so_far t q
  unfolding found_so_far any_of with_entry
  found_next t u limit e q (unsound at) h y = ap (found_so_far t) (sym h)
  found_next true u limit e q (sound es) h y =
      ap (λ (x : Bool). pick x true (any_of p es)) y ∙ ap (found_so_far true) (sym h)
  found_next false u limit e q (sound es) h y =
      ap (λ (x : Bool). pick x true (any_of p es)) y ∙ ap (found_so_far false) (sym h)

-- ---- data 01 02

-- what `==` on slices says of data
pub one_two : (s : List ℕ) → pointwise eqb s (0x01 ∷ 0x02 ∷ []) ≡ is_one_two s
unfolding is_one_two
one_two [] = refl
one_two (a ∷ []) = elim (eqb a 0x01) as (λ t. (t && false) ≡ false) [ true ↦ refl | false ↦ refl ]
one_two (a ∷ b ∷ []) =
    elim (eqb a 0x01) as (λ t. (t && (eqb b 0x02 && true)) ≡ pick t (eqb b 0x02) false) [
      | true ↦ elim (eqb b 0x02) as (λ u. (u && true) ≡ u) [ true ↦ refl | false ↦ refl ]
      | false ↦ refl
    ]
one_two (a ∷ b ∷ c ∷ s) =
    elim (eqb a 0x01) as (λ t. (t && (eqb b 0x02 && false)) ≡ false) [
      | true ↦ elim (eqb b 0x02) as (λ u. (u && false) ≡ false) [ true ↦ refl | false ↦ refl ]
      | false ↦ refl
    ]
