-- Contents that stop a workout (document 01, "Listing": what `stop=yes` means): a sound command list in which a 76
-- wrapper, itself sound, holds command 13 with data 01 02.
use Rattle.std.specs.Prelude.{◌≡◌, Bool, true, false, List, [], ◌∷◌, ℕ, eqb}
use Rattle.std.specs.Borrow.{Bor}
use Rattle.lists.specs.Choice.{pick}
use Rattle.command.specs.Entries.{Entry, entry, commands, Parsed, unsound, sound, parse}
use Rattle.command.specs.Table.{SoundList}

-- ---- as a test

-- Whether an entry of a list passes a test.
unfoldable pub any_of : (Entry → Bool) → List Entry → Bool
any_of p [] = false
any_of p (e ∷ es) = pick (p e) true (any_of p es)

-- Whether an entry of what bytes are read as passes a test; no entry of an unsound list does.
unfoldable pub any_in : (Entry → Bool) → Parsed → Bool
any_in p (unsound at) = false
any_in p (sound es) = any_of p es

-- Data that is exactly 01 02.
unfoldable pub is_one_two : List ℕ → Bool
is_one_two [] = false
is_one_two (a ∷ []) = false
is_one_two (a ∷ b ∷ []) = pick (eqb a 0x01) (eqb b 0x02) false
is_one_two (a ∷ b ∷ c ∷ s) = false

-- Command 13 with data 01 02.
unfoldable pub terminates : Entry → Bool
terminates e = pick (eqb e.byte 0x13) (is_one_two e.body) false

-- A sound 76 wrapper that holds it. No other wrapper counts, and inside this one no byte is a wrapper.
unfoldable pub stops_within : Entry → Bool
stops_within e = pick (eqb e.byte 0x76) (any_in terminates (parse commands e.body 0)) false

-- An entry of the top list is such a wrapper.
unfoldable pub stops_workout : List ℕ → Bool
stops_workout contents = any_in stops_within (parse commands contents 0)

-- A test of an entry's byte and of its data, a lent slice, that answers as a test of the entry does.
abbrev pub AnswersAs : (ℕ → Bor (List ℕ) → Bool → Type 0) → (Entry → Bool) → Type 0
AnswersAs answered p = (byte : ℕ) (body : Bor (List ℕ)) (r : Bool) → answered byte body r → r ≡ p (entry byte body.now)

-- ---- as document 01 says it, without the definitions of the test

-- An entry stands in a list.
pub data Among : Entry → List Entry → Type 0 where
  first : {e : Entry} {es : List Entry} → Among e (e ∷ es)
  later : {e d : Entry} {es : List Entry} → Among e es → Among e (d ∷ es)

pub record StopsWorkout (contents : List ℕ) : Type 0 where
  pub top : List Entry
  pub is_sound : SoundList commands contents top
  pub wrapper : Entry
  pub at_top : Among wrapper top
  pub is_76 : wrapper.byte ≡ 0x76
  pub inner : List Entry
  pub inner_sound : SoundList commands wrapper.body inner
  pub command : Entry
  pub inside : Among command inner
  pub is_13 : command.byte ≡ 0x13
  pub data_is : command.body ≡ 0x01 ∷ 0x02 ∷ []
