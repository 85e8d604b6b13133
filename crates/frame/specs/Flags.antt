-- The flags, and what a byte does on the line: document 01, "Frames on the wire".
use Rattle.std.specs.Prelude.{ℕ, Bool, List, [], ◌∷◌, ◌++◌, eqb}
use Rattle.lists.specs.Choice.{pick, within, none_of}
use Rattle.framing.specs.Reference.{Role, starts, stops, plain}
use Rattle.frame.specs.declared.Kind.{Kind}
use Rattle.frame.specs.declared.Kind.TheVariants.{Standard, Extended}

-- The flag that starts a frame of a kind, and the flag that stops both.
abbrev pub start_flag : Kind → ℕ
start_flag Standard = 0xF1
start_flag Extended = 0xF0

abbrev pub stop_flag : ℕ
stop_flag = 0xF2

-- Bytes with the start flag of a kind before them and the stop flag after them.
abbrev pub candidate_of : Kind → List ℕ → List ℕ
candidate_of kind body = start_flag kind ∷ body ++ (stop_flag ∷ [])

-- The role of a byte: a start flag, the stop flag, or any other byte.
abbrev pub role_of : ℕ → Role
role_of b =
    pick (eqb b (start_flag Extended)) starts
    (pick (eqb b (start_flag Standard)) starts (pick (eqb b stop_flag) stops plain))

-- The kind of frame that a start flag opens.
abbrev pub kind_of : ℕ → Kind
kind_of b = pick (eqb b (start_flag Extended)) Extended Standard

-- Whether a byte is a start flag, and whether it is any flag: the flags are three numbers in a row, so that one test
-- for a range finds them.
abbrev pub is_start : ℕ → Bool
is_start b = within (start_flag Extended) (start_flag Standard) b

abbrev pub is_flag : ℕ → Bool
is_flag b = within (start_flag Extended) stop_flag b

-- Whether no byte of a list is a flag.
abbrev pub flagless : List ℕ → Bool
flagless s = none_of is_flag s
