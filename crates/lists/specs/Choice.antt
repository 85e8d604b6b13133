-- A choice by a test, tests and properties of numbers and lists, and what holds exactly when.
use Rattle.std.specs.Prelude.{ℕ, ◌+◌, ◌-◌, ◌%◌, Bool, true, false, List, [], ◌∷◌, leb}

-- The first of two where the test holds, else the second.
abbrev pub pick : {A : Type 0} → Bool → A → A → A
pick true a b = a
pick false a b = b

-- Whether a number lies between two others, both included.
abbrev pub within : ℕ → ℕ → ℕ → Bool
within low high n = pick (leb low n) (leb n high) false

-- Whether no element of a list passes a test.
unfoldable pub none_of : (ℕ → Bool) → List ℕ → Bool
none_of p [] = true
none_of p (x ∷ s) = pick (p x) false (none_of p s)

-- How many elements of a list pass a test.
unfoldable pub count_of : (ℕ → Bool) → List ℕ → ℕ
count_of p [] = 0
count_of p (x ∷ s) = pick (p x) 1 0 + count_of p s

-- How many elements of a list stand before the first that passes a test.
unfoldable pub count_before : (ℕ → Bool) → List ℕ → ℕ
count_before p [] = 0
count_before p (x ∷ s) = pick (p x) 0 (1 + count_before p s)

-- So many elements, without those that fill no whole block of 32.
abbrev pub in_blocks : ℕ → ℕ
in_blocks n = n - n % 32

-- Every element of a list has a property.
abbrev pub Every : {A : Type 0} → (A → Type 0) → List A → Type 0
Every P [] = Unit {0}
Every P (x ∷ s) = P x × Every P s

-- Two lists are equally long, and the elements at each index have a relation.
abbrev pub EachPair : {A B : Type 0} → (A → B → Type 0) → List A → List B → Type 0
EachPair R [] [] = Unit {0}
EachPair R [] (y ∷ t) = ⊥
EachPair R (x ∷ s) [] = ⊥
EachPair R (x ∷ s) (y ∷ t) = R x y × EachPair R s t

-- One holds exactly when the other does.
abbrev pub Exactly : Type 0 → Type 0 → Type 0
Exactly P Q = (P → Q) × (Q → P)
