-- A list put into another at an index, which is what a writer leaves in a lent slice; a part of a list brought to its
-- front; and zeros from an index on.
use Rattle.std.specs.Prelude.{ℕ, ◌+◌, ◌-◌, List, ◌++◌, leb, length, take, drop, replicate}
use Rattle.lists.specs.Choice.{pick}

-- The list `out` with `w` in it from index `at` on.
abbrev pub splice : List ℕ → ℕ → List ℕ → List ℕ
splice out at w = take at out ++ (w ++ drop (at + length w) out)

-- The list with `count` elements that stand after `by` others brought to its front, where there are so many, else as it
-- was. All after them stay.
abbrev pub shifted : List ℕ → (by count : ℕ) → List ℕ
shifted s by count = pick (leb (by + count) (length s)) (take count (drop by s) ++ drop count s) s

-- The list with zeros from an index on.
abbrev pub cleared : List ℕ → (from : ℕ) → List ℕ
cleared s from = take from s ++ replicate (length s - length (take from s)) 0

-- The list `out` with `w` in it from index `at` on where it fits, else as it was.
abbrev pub copied : List ℕ → ℕ → List ℕ → List ℕ
copied out at w = pick (leb (at + length w) (length out)) (splice out at w) out
