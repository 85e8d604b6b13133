-- Document 01's stop to F1, whose destination is sent as two bytes, and the shortest frame of each kind: their parts, and
-- what changes of them do, at the first and the last index and to the bytes next to F0 and F3.
use Prim.Native.Nat.{ℕ, ◌-◌}
use mathlib.Core.Path.{◌≡◌, refl}
use mathlib.Core.Logic.{inl, inr}
use mathlib.Core.List.{List, [], ◌∷◌, map}
use native.Mathlib.Omega.{arith}
use lib.ListN.{get_or, set}
use Rattle.lists.specs.Choice.{none_of, count_of}
use Rattle.answer.specs.Answer.{result, refused}
use Rattle.frame.specs.Stuffing.{unstuff, prepend}
use Rattle.frame.specs.Checksum.{sum_from}
use Rattle.frame.specs.Frame.{standard, extended}
use Rattle.frame.specs.Verdict.{frame_in, judge_bytes, judge, is_terminated, verdict}
use Rattle.frame.specs.Origin.{admit}
use Rattle.frame.specs.Conditions.{SoundFrame}
use Rattle.frame.specs.declared.Origin.{Origin}
use Rattle.frame.specs.declared.Origin.TheVariants.{Live, Trace}
use Rattle.frame.proofs.Table.{accepted_exactly}
use Rattle.damage.specs.Damage.{in_destination, in_source, in_contents, in_checksum, Between, part_at, Unreserved}
use Rattle.damage.specs.Damage.{OneChange}
use Rattle.damage.proofs.Slices.{verdict_damaged}

change : (w : List ℕ) (i b : ℕ) → Between w i → (get_or w i 0 ≡ 0xF3 → ⊥) → (get_or w (i - 1) 0 ≡ 0xF3 → ⊥)
    → (b ≡ get_or w i 0 → ⊥) → Unreserved b → OneChange w i b
change w i b between no_escape not_escaped other unreserved =
    record {
      place = record { between = between; no_escape = no_escape; not_escaped = not_escaped };
      other = other;
      unreserved = unreserved;
    }

-- ---- the stop

abbrev commands : List ℕ
commands = 0x76 ∷ 0x04 ∷ 0x13 ∷ 0x02 ∷ 0x01 ∷ 0x02 ∷ []

abbrev stop : List ℕ
stop = 0xF0 ∷ 0xF3 ∷ 0x01 ∷ 0x00 ∷ 0x76 ∷ 0x04 ∷ 0x13 ∷ 0x02 ∷ 0x01 ∷ 0x02 ∷ 0x60 ∷ 0xF2 ∷ []

pub parts_of_stop : map (part_at stop) (1 ∷ 2 ∷ 3 ∷ 4 ∷ 9 ∷ 10 ∷ [])
    ≡ in_destination ∷ in_destination ∷ in_source ∷ in_contents ∷ in_contents ∷ in_checksum ∷ []
unfolding count_of
parts_of_stop = refl

stop_sound : (o : Origin) → SoundFrame o stop (extended 0xF1 0x00 commands)
unfolding unstuff prepend sum_from none_of judge_bytes judge frame_in is_terminated verdict
stop_sound Live = (accepted_exactly Live stop (extended 0xF1 0x00 commands)).0 refl
stop_sound Trace = (accepted_exactly Trace stop (extended 0xF1 0x00 commands)).0 refl

-- A changed source is told, and a change in the contents or of the checksum is caught, at either origin.
pub stop_damaged : (o : Origin)
    → (admit o (verdict (set stop 3 0xF4)) ≡ result (extended 0xF1 0xF4 commands))
    × (admit o (verdict (set stop 4 0xEF)) ≡ refused 5)
    × (admit o (verdict (set stop 10 0x00)) ≡ refused 5)
unfolding count_of
stop_damaged o =
    let f = extended 0xF1 0x00 commands in
    let s = stop_sound o in (
      verdict_damaged o o stop f 3 0xF4 s
          (change stop 3 0xF4 (omega arith, omega arith) (λ e. omega arith) (λ e. omega arith) (λ e. omega arith)
          (inr (omega arith))),
      verdict_damaged o o stop f 4 0xEF s
          (change stop 4 0xEF (omega arith, omega arith) (λ e. omega arith) (λ e. omega arith) (λ e. omega arith)
          (inl (omega arith))),
      verdict_damaged o o stop f 10 0x00 s
          (change stop 10 0x00 (omega arith, omega arith) (λ e. omega arith) (λ e. omega arith) (λ e. omega arith)
          (inl (omega arith))),
    )

-- ---- the shortest frames

abbrev extended_empty : List ℕ
extended_empty = 0xF0 ∷ 0x05 ∷ 0x00 ∷ 0x00 ∷ 0xF2 ∷ []

abbrev standard_empty : List ℕ
standard_empty = 0xF1 ∷ 0x00 ∷ 0xF2 ∷ []

extended_sound : SoundFrame Live extended_empty (extended 0x05 0x00 [])
unfolding unstuff prepend sum_from none_of judge_bytes judge frame_in is_terminated verdict
extended_sound = (accepted_exactly Live extended_empty (extended 0x05 0x00 [])).0 refl

standard_sound : SoundFrame Trace standard_empty (standard [])
unfolding unstuff prepend sum_from none_of judge_bytes judge frame_in is_terminated verdict
standard_sound = (accepted_exactly Trace standard_empty (standard [])).0 refl

-- A changed destination right after the start flag is told, and the changed checksum of a standard frame is caught, on
-- the live line too.
pub empty_damaged : (o : Origin)
    → (admit o (verdict (set extended_empty 1 0x07)) ≡ result (extended 0x07 0x00 []))
    × (admit o (verdict (set standard_empty 1 0x01)) ≡ refused 5)
unfolding count_of
empty_damaged o = (
  verdict_damaged Live o extended_empty (extended 0x05 0x00 []) 1 0x07 extended_sound
      (change extended_empty 1 0x07 (omega arith, omega arith) (λ e. omega arith) (λ e. omega arith) (λ e. omega arith)
      (inl (omega arith))),
  verdict_damaged Trace o standard_empty (standard []) 1 0x01 standard_sound
      (change standard_empty 1 0x01 (omega arith, omega arith) (λ e. omega arith) (λ e. omega arith) (λ e. omega arith)
      (inl (omega arith))),
)
