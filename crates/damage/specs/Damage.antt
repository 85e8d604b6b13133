-- One byte of a sound frame changed on the wire (document 02, No. 13): which bytes that may be, the part of the frame in
-- which each lies, told by the bytes on the wire alone, and what is answered then.
use Rattle.std.specs.Prelude.{ℕ, zero, suc, ◌+◌, ◌-◌, ◌≤◌, ◌<◌, ◌≡◌, ◌⊎◌, List, ◌∷◌, ◌++◌, eqb, length, get_or, take, drop}
use Rattle.lists.specs.Choice.{pick, Exactly}
use Rattle.answer.specs.Answer.{Answer, result, refused}
use Rattle.framing.specs.Reference.{Call}
use Rattle.framing.specs.Located.{Located, located}
use Rattle.framing.specs.LocatedDemand3.{bytes_since_finish}
use Rattle.frame.specs.Flags.{kind_of}
use Rattle.frame.specs.Frame.{Frame, standard, extended, contents_of, addresses_of, frame_kind, payload}
use Rattle.frame.specs.Verdict.{body_of}
use Rattle.frame.specs.Places.{unstuffed_in, StandsFor}
use Rattle.frame.specs.Origin.{admit}
use Rattle.frame.specs.Answers.{FrameOutline, outline_of}
use Rattle.frame.specs.declared.Origin.{Origin}
use Rattle.frame.specs.declared.Kind.{Kind}
use Rattle.frame.specs.declared.Kind.TheVariants.{Standard, Extended}
use Rattle.candidate.specs.Outcome.{Outcome, judged}

-- ---- places

-- The parts of a frame between its flags. Only an extended frame has addresses.
pub data Part : Type 0 where
  in_destination : Part
  in_source : Part
  in_contents : Part
  in_checksum : Part

-- An index between the start flag and the stop flag.
abbrev pub Between : List ℕ → ℕ → Type 0
Between w i = (1 ≤ i) × (i + 1 < length w)

-- The number, from 0, of the unstuffed byte to which an index belongs: how many end between the start flag and it.
abbrev pub number_at : List ℕ → ℕ → ℕ
number_at w i = unstuffed_in (take (i - 1) (drop 1 w))

-- The part after the addresses in which the byte of a number lies, of `all` unstuffed bytes: the last is the checksum.
abbrev pub part_after : (number all : ℕ) → Part
part_after number all = pick (eqb (number + 1) all) in_checksum in_contents

-- The part of a frame of a kind in which the byte of a number lies, of `all` unstuffed bytes.
abbrev pub part_of : Kind → (number all : ℕ) → Part
part_of Standard number all = part_after number all
part_of Extended zero all = in_destination
part_of Extended (suc zero) all = in_source
part_of Extended (suc (suc number)) all = part_after (suc (suc number)) all

-- The part in which an index between the flags lies: by the start flag, and by how many unstuffed bytes end before the
-- index and before the stop flag.
abbrev pub part_at : List ℕ → ℕ → Part
part_at w i = part_of (kind_of (get_or w 0 0)) (number_at w i) (number_at w (length w - 1))

-- Where the parts of a frame are among its unstuffed bytes: what `part_at` has to say.
abbrev pub LiesIn : Part → Frame → (number : ℕ) → Type 0
LiesIn in_destination f number = (frame_kind f ≡ Extended) × (number ≡ 0)
LiesIn in_source f number = (frame_kind f ≡ Extended) × (number ≡ 1)
LiesIn in_contents f number =
    (length (addresses_of f) ≤ number) × (number < length (addresses_of f) + length (contents_of f))
LiesIn in_checksum f number = number ≡ length (addresses_of f) + length (contents_of f)

-- `number_at` and `part_at` are right at an index between the flags of a slice that is a frame: the byte there is among
-- those that stand for the byte of the frame with that number and for no other, and it lies in a part exactly when the
-- number does.
pub record PlaceIs (w : List ℕ) (f : Frame) (i : ℕ) : Type 0 where
  pub stands : StandsFor (body_of w) (payload f) (i - 1) (number_at w i)
  pub once : (number : ℕ) → StandsFor (body_of w) (payload f) (i - 1) number → number ≡ number_at w i
  pub lies : (part : Part) → Exactly (part_at w i ≡ part) (LiesIn part f (number_at w i))

-- ---- the change

-- The byte at an index between the flags is neither F3 nor right after F3.
pub record PlainAt (w : List ℕ) (i : ℕ) : Type 0 where
  pub between : Between w i
  pub no_escape : get_or w i 0 ≡ 0xF3 → ⊥
  pub not_escaped : get_or w (i - 1) 0 ≡ 0xF3 → ⊥

-- A byte is none of F0 to F3: no flag, and it begins no escape.
abbrev pub Unreserved : ℕ → Type 0
Unreserved b = (b < 0xF0) ⊎ (0xF3 < b)

-- The byte at such an index is changed to another one that is none of F0 to F3.
pub record OneChange (w : List ℕ) (i b : ℕ) : Type 0 where
  pub place : PlainAt w i
  pub other : b ≡ get_or w i 0 → ⊥
  pub unreserved : Unreserved b

-- ---- what follows

-- What a change does: it is caught, or another frame is accepted. `no_such_part` is left for parts that a frame has not,
-- in which no byte of it lies.
pub data Effect : Type 0 where
  caught : Effect
  accepted_as : Frame → Effect
  no_such_part : Effect

-- What a change to the byte `b` in a part of a frame does. In the contents and in the checksum it is caught. In an
-- address it is not: the frame is accepted, with only that address changed. A standard frame has no address.
abbrev pub effect_of : Part → Frame → (b : ℕ) → Effect
effect_of in_destination (standard c) b = no_such_part
effect_of in_destination (extended to from c) b = accepted_as (extended b from c)
effect_of in_source (standard c) b = no_such_part
effect_of in_source (extended to from c) b = accepted_as (extended to b c)
effect_of in_contents f b = caught
effect_of in_checksum f b = caught

-- What a change at an index of a slice that is a frame does.
abbrev pub effect_at : List ℕ → Frame → (i b : ℕ) → Effect
effect_at w f i b = effect_of (part_at w i) f b

-- What an effect says, given what it is that a frame is accepted and that the change is caught.
abbrev pub Shows : (when_accepted : Frame → Type 0) (when_caught : Type 0) → Effect → Type 0
Shows when_accepted when_caught caught = when_caught
Shows when_accepted when_caught (accepted_as g) = when_accepted g
Shows when_accepted when_caught no_such_part = ⊥

-- A call tells a frame: its kind, its addresses and the number of its contents bytes. The contents stand first in the
-- lent bytes, and all after them is as it was.
abbrev pub Tells : Frame → (lent : List ℕ) → Answer FrameOutline → (last : List ℕ) → Type 0
Tells f lent a last = (a ≡ result (outline_of f)) × (last ≡ contents_of f ++ drop (length (contents_of f)) lent)

-- A call that reads accepts a frame: it tells the frame, given room for the contents, and with less it answers 1 and
-- leaves the output.
abbrev pub Accepts : Frame → (out : List ℕ) → Answer FrameOutline → (last : List ℕ) → Type 0
Accepts f out a last =
    (length (contents_of f) ≤ length out → Tells f out a last)
    × (length out < length (contents_of f) → (a ≡ refused 1) × (last ≡ out))

-- A call is answered 5, and leaves the lent bytes.
abbrev pub Catches : (lent : List ℕ) → Answer FrameOutline → (last : List ℕ) → Type 0
Catches lent a last = (a ≡ refused 5) × (last ≡ lent)

-- What a call that reads a changed slice answers and leaves.
abbrev pub ReadShows : (out : List ℕ) → Answer FrameOutline → (last : List ℕ) → Effect → Type 0
ReadShows out a last e = Shows (λ (g : Frame). Accepts g out a last) (Catches out a last) e

-- The answers of the line to any calls, a sound frame and any calls, and to the same with one byte of the frame changed,
-- each outcome told in some way: they differ in the answer to the frame's stop flag alone, and both have the position of
-- the frame's start flag. That is the frame, or on the live line 17 for a standard one, and with the change what the
-- change does.
pub record OneAnswer {A : Type 0} (tell : Outcome → A) (o : Origin) (before : List Call) (w : List ℕ) (f : Frame) (i b : ℕ)
    (intact damaged : List (Located A)) : Type 0 where
  pub earlier : List (Located A)
  pub later : List (Located A)
  pub outcome : Outcome
  pub at_stop : length earlier + 1 ≡ length before + length w
  pub intact_is : intact
      ≡ earlier ++ located (bytes_since_finish 0 before) (tell (judged (admit o (result f)))) ∷ later
  pub damaged_is : damaged ≡ earlier ++ located (bytes_since_finish 0 before) (tell outcome) ∷ later
  pub outcome_is : Shows (λ (g : Frame). outcome ≡ judged (result g)) (outcome ≡ judged (refused 5)) (effect_at w f i b)
