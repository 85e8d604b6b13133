-- Which unstuffed byte a stuffed one belongs to. F3 and the byte after it stand for one, every other byte for itself.
use Rattle.std.specs.Prelude.{ℕ, suc, ◌+◌, ◌≤◌, ◌<◌, ◌≡◌, Bool, true, false, List, [], ◌∷◌, ◌++◌, eqb, length, get_or, take, drop}
use Rattle.lists.specs.Choice.{pick, count_of}
use Rattle.frame.specs.Conditions.{Unstuffs}

-- Whether a stuffed byte is the last of those that stand for one unstuffed byte, where escapes are sound: all but F3.
abbrev pub ends_one : ℕ → Bool
ends_one b = pick (eqb b 0xF3) false true

-- How many unstuffed bytes have their last stuffed byte in a list.
abbrev pub unstuffed_in : List ℕ → ℕ
unstuffed_in s = count_of ends_one s

-- The stuffed bytes `s` stand for `u`, and the one at an index is among those that stand for the byte of a number, both
-- counted from 0.
pub record StandsFor (s u : List ℕ) (index number : ℕ) : Type 0 where
  pub inside : number < length u
  pub before : List ℕ
  pub here : List ℕ
  pub after : List ℕ
  pub splits : s ≡ before ++ (here ++ after)
  pub not_before : length before ≤ index
  pub not_after : index < length before + length here
  pub before_is : Unstuffs before (take number u)
  pub here_is : Unstuffs here (get_or u number 0 ∷ [])
  pub after_is : Unstuffs after (drop (suc number) u)
