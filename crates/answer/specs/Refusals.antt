-- Document 01, "Refusal numbers", and of document 02, 16 of No. 7, 17 of No. 9 and 22 of No. 3: the number of each
-- refusal. Every meaning of an answer goes through it.
use Rattle.std.specs.Prelude.{ℕ}
use Rattle.answer.specs.declared.Refusal.{Refusal}
use Rattle.answer.specs.declared.Refusal.TheVariants.{NoRoom, TooLong, BadEscape, TooShort, BadChecksum}
use Rattle.answer.specs.declared.Refusal.TheVariants.{Truncated, BadCount, BadStatus, BadAddress, AlreadyHeld}
use Rattle.answer.specs.declared.Refusal.TheVariants.{NotHolder, OutOfLimits, NotWorkout, ZeroToken, Absent}
use Rattle.answer.specs.declared.Refusal.TheVariants.{Full, Unnamed, BadTable, BadCharacter}

abbrev pub number_of : Refusal → ℕ
number_of NoRoom = 1
number_of TooLong = 2
number_of BadEscape = 3
number_of TooShort = 4
number_of BadChecksum = 5
number_of Truncated = 6
number_of BadCount = 7
number_of BadStatus = 8
number_of BadAddress = 9
number_of AlreadyHeld = 10
number_of NotHolder = 11
number_of OutOfLimits = 12
number_of NotWorkout = 13
number_of ZeroToken = 14
number_of Absent = 15
number_of Full = 16
number_of Unnamed = 17
number_of BadTable = 18
number_of BadCharacter = 22
