-- The flags of a packet, and what a byte does on the treadmill's line: document 02, No. 3.
use Rattle.std.specs.Prelude.{ℕ, Bool, true, List, [], ◌∷◌, ◌++◌, eqb}
use Rattle.lists.specs.Choice.{pick, none_of}
use Rattle.framing.specs.Reference.{Role, starts, stops, plain}

abbrev pub start_flag : ℕ
start_flag = 0x01

abbrev pub stop_flag : ℕ
stop_flag = 0x17

-- Bytes with the start flag before them and the stop flag after them.
abbrev pub candidate_of : List ℕ → List ℕ
candidate_of body = start_flag ∷ body ++ (stop_flag ∷ [])

-- The role of a byte: the start flag, the stop flag, or any other byte.
abbrev pub role_of : ℕ → Role
role_of b = pick (eqb b start_flag) starts (pick (eqb b stop_flag) stops plain)

-- Whether a byte is one of the flags.
abbrev pub is_flag : ℕ → Bool
is_flag b = pick (eqb b start_flag) true (eqb b stop_flag)

-- Whether no byte of a list is a flag.
abbrev pub flagless : List ℕ → Bool
flagless s = none_of is_flag s
