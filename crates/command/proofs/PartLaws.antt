-- Laws of a part of a slice: its bytes, and where it stands.
use Prim.Native.Nat.{ℕ, ◌+◌}
use mathlib.Core.Path.{◌≡◌, sym, ap, ◌∙◌, subst}
use mathlib.Core.List.{List}
use native.Mathlib.Omega.{arith}
use lib.ListN.{length}
use denote.Ref.{Bor}
use borrow.Author.Tests.{le-leb}
use Rattle.lists.specs.Choice.{Exactly}
use Rattle.answer.specs.Answer.{Answer, result, refused}
use Rattle.command.specs.Entries.{Extent, found}
use Rattle.command.specs.Answers.{part_of, InContents}
use Rattle.command.specs.Parts.{StandsAt, place_in, start_of, IsData}

-- ---- the part that an answer names

start_within : (s : List ℕ) (a : Answer Extent) → InContents s a → start_of a ≡ place_in s (start_of a)
start_within s (result (found b start len)) w = simp (le-leb start (length s) (omega (arith, w)))
start_within s (refused n) w = simp (le-leb 0 (length s) (omega arith))

-- What is known of an answer by its meaning is known of its data.
pub is_data : {s r : Bor (List ℕ)} {a b : Answer Extent}
    → StandsAt s r (place_in s.now (start_of a)) (part_of s.now a) → a ≡ b → InContents s.now b → IsData s r b
is_data {s = s} {a = a} {b = b} k e w =
    record {
      holds = k.holds ∙ ap (part_of s.now) e;
      block = k.block;
      place = k.place ∙ ap (λ (x : Answer Extent). place_in s.now (start_of x) + s.ref_ptr.1) e
          ∙ ap (λ (n : ℕ). n + s.ref_ptr.1) (sym (start_within s.now b w));
    }

-- What an answer names stands where the start and the bytes that it names are.
pub stands_as : {s r : Bor (List ℕ)} {start : ℕ} {bytes : List ℕ} (a : Answer Extent) → IsData s r a
    → (part_of s.now a ≡ bytes) × (start_of a ≡ start) → StandsAt s r start bytes
stands_as {s} {r} {start} {bytes} a d t =
    subst (λ (x : ℕ). StandsAt s r x bytes) t.1 (subst (λ (x : List ℕ). StandsAt s r (start_of a) x) t.0 d)

-- Where the data that a table gives stand in a slice, and it gives some, a part of the slice stands at an index with
-- these bytes exactly when the table gives them.
pub stands_exactly : {s r : Bor (List ℕ)} (D : ℕ → List ℕ → Type 0)
    → ((start : ℕ) (bytes : List ℕ) → D start bytes → StandsAt s r start bytes)
    → (start : ℕ) × (bytes : List ℕ) × D start bytes
    → (start : ℕ) (bytes : List ℕ) → Exactly (StandsAt s r start bytes) (D start bytes)
stands_exactly D stands g start bytes = (
  (λ st. let m = stands g.0 g.1 g.2 in
      let b : g.1 ≡ bytes = sym m.holds ∙ st.holds in
      let i : g.0 ≡ start = omega (arith, m.place, st.place) in
      subst (λ (x : ℕ). D x bytes) i (subst (λ (x : List ℕ). D g.0 x) b g.2)),
  stands start bytes,
)

-- A part of a part stands in the whole, as many bytes further on as both places say.
pub stands_through : {s p r : Bor (List ℕ)} {at i : ℕ} {held bytes : List ℕ} → StandsAt s p at held
    → StandsAt p r i bytes → StandsAt s r (at + i) bytes
stands_through j k =
    record { holds = k.holds; block = k.block ∙ j.block; place = omega (arith, k.place, j.place) }
