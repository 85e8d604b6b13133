-- Demand 1: what every entry point answers, a result or one numbered refusal of document 01's table.
use Rattle.std.specs.Prelude.{ℕ}

pub data Answer (A : Type 0) : Type 0 where
  result : A → Answer A
  refused : (number : ℕ) → Answer A

-- The answer with another result made of its result. A refusal stays.
abbrev pub through : {A B : Type 0} → (A → B) → Answer A → Answer B
through f (result a) = result (f a)
through f (refused n) = refused n

-- The answer that follows of a result. The first refusal stands.
abbrev pub and_then : {A B : Type 0} → (A → Answer B) → Answer A → Answer B
and_then f (result a) = f a
and_then f (refused n) = refused n
