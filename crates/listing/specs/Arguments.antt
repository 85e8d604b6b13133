-- What the program's arguments ask for.
use Rattle.std.specs.Prelude.{ℕ, zero, suc, Bool, true, false, List, [], ◌∷◌, ◌==◌, Option, Some, None}
use Rattle.listing.specs.declared.Source.{Source}
use Rattle.listing.specs.declared.Source.TheVariants.{StandardInput, File, TooLong, Usage}

-- A word by whether its first byte is a dash, and the bytes after it. A dash alone is standard input; with more it would
-- be an option, and there are none.
abbrev pub source_of_rest : (dash : Bool) → (rest : List ℕ) → Source
source_of_rest false rest = File
source_of_rest true [] = StandardInput
source_of_rest true (b ∷ rest) = Usage

-- The word of one argument. No file has an empty name.
abbrev pub source_of_word : (word : List ℕ) → Source
source_of_word [] = Usage
source_of_word (b ∷ rest) = source_of_rest (b == 0x2D) rest

-- So many arguments. The word is the first of them if that is whole.
abbrev pub source_of : (arguments : ℕ) → (word : Option (List ℕ)) → Source
source_of zero word = StandardInput
source_of (suc zero) (Some word) = source_of_word word
source_of (suc zero) None = TooLong
source_of (suc (suc n)) word = Usage
