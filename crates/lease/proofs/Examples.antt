-- Calls on a new table, computed.
use mathlib.Core.Path.{◌≡◌, refl}
use mathlib.Core.List.{[], ◌∷◌}
use Rattle.frame.specs.Stuffing.{stuff, stuff_byte}
use Rattle.frame.specs.Checksum.{sum_from}
use Rattle.frame.specs.Frame.{wire_of, payload, addresses_of, contents_of}
use Rattle.lease.specs.Lease.{hold, release, stop, stop_frame, answer_of}
use Rattle.answer.specs.Answer.{result, refused}
use Rattle.lease.specs.History.{answers_on, new_table}

-- Address 5 is held, and refused to another token and to its own; token 0 and address FD are refused. None but the
-- holder stops it, who needs room, and after its release another token holds and stops it.
pub a_day : answers_on new_table
    (hold 5 7 ∷ hold 5 8 ∷ hold 5 7 ∷ hold 6 0 ∷ hold 0xFD 7
    ∷ stop 5 8 99 ∷ stop 6 7 99 ∷ stop 6 0 99 ∷ stop 5 7 3 ∷ stop 5 7 99
    ∷ release 5 7 ∷ stop 5 7 99 ∷ hold 5 8 ∷ stop 5 8 11 ∷ [])
    ≡ result [] ∷ refused 10 ∷ refused 10 ∷ refused 14 ∷ refused 9
    ∷ refused 11 ∷ refused 11 ∷ refused 11 ∷ refused 1 ∷ result (stop_frame 5)
    ∷ result [] ∷ refused 11 ∷ result [] ∷ result (stop_frame 5) ∷ []
unfolding answer_of stop_frame wire_of payload addresses_of contents_of stuff stuff_byte sum_from
a_day = refl
