-- A number of several bytes in a list, lowest byte first: read and written, at any width and index.
use Rattle.std.specs.Prelude.{ℕ, zero, suc, ◌+◌, ◌*◌, ◌/◌, ◌%◌, ◌<◌, List, [], ◌∷◌, ◌++◌, get_or, set}

-- The number of `width` bytes that starts at index `at`. A byte past the end counts as 0.
unfoldable pub number : (width at : ℕ) → List ℕ → ℕ
number zero at s = 0
number (suc w) at s = get_or s at 0 + 256 * number w (suc at) s

-- The list with `n` written over the `width` bytes from index `at` on. What would stand past the end is dropped.
unfoldable pub put : (width at n : ℕ) → List ℕ → List ℕ
put zero at n s = s
put (suc w) at n s = put w (suc at) (n / 256) (set s at (n % 256))

-- The `width` bytes of `n`.
unfoldable pub bytes_of : (width n : ℕ) → List ℕ
bytes_of zero n = []
bytes_of (suc w) n = (n % 256) ∷ bytes_of w (n / 256)

-- Every element is a byte.
abbrev pub Bytes : List ℕ → Type 0
Bytes s = (i : ℕ) → get_or s i 0 < 256

-- `count` numbers of `width` bytes each, one after the other from index `at` on.
unfoldable pub numbers : (width count at : ℕ) → List ℕ → List ℕ
numbers width zero at s = []
numbers width (suc c) at s = number width at s ∷ numbers width c (at + width) s

-- The bytes of a list of numbers, one after the other.
unfoldable pub bytes_of_all : (width : ℕ) → List ℕ → List ℕ
bytes_of_all width [] = []
bytes_of_all width (n ∷ ns) = bytes_of width n ++ bytes_of_all width ns
