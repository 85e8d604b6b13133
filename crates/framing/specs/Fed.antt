-- What the code returns that takes bytes up to the first that is answered.
use Rattle.std.specs.Prelude.{◌≡◌, Bool, List, ℕ, ◌-◌, ◌≤◌, ◌<◌, length, take, Option, None, Some, Result}
use Rattle.lists.specs.Choice.{pick}
use Rattle.answer.specs.declared.Refusal.{Refusal}
use Rattle.framing.specs.Reference.{Role, Protocol}
use Rattle.framing.specs.Bounded.{Bounds, BoundedReader, bounded, bounded_turn}
use Rattle.framing.specs.Chunk.{FedTurn, fed_by}
use Rattle.framing.specs.Counting.{start_in}
use Rattle.framing.specs.Held.{reader}
use Rattle.framing.specs.declared.Mode.{Mode}
use Rattle.framing.specs.declared.Mode.TheVariants.{Outside, Inside, Overlong}
use Rattle.framing.specs.declared.Held.{Held}
use Rattle.framing.specs.declared.Whole.{Whole}
use Rattle.framing.specs.declared.feeds.Fed.{Fed}

-- The bytes fed singly to a bounded reader. With no answer all of them are taken.
abbrev pub feed_of : {K A : Type 0} → Protocol A → Bounds K A → (A → Bool) → BoundedReader K → List ℕ
    → FedTurn (BoundedReader K) A
feed_of P B is_answer r s = fed_by P.nothing is_answer (bounded_turn P B) r s

-- How many of the bytes taken come before the one that is answered.
abbrev pub unanswered : {S A : Type 0} → (A → Bool) → FedTurn S A → ℕ
unanswered is_answer f = pick (is_answer f.answer) (f.taken - 1) f.taken

-- How many bytes there are up to and with the last start flag among them. 0 where there is none.
abbrev pub last_start : (ℕ → Role) → List ℕ → ℕ
last_start role s = start_in role 0 1 s

-- What is told, what is held and how many bytes were taken, with `bytes` in the array afterwards.
pub record FedIs {K T A : Type 0} (tells : Option (Result T Refusal) → A → Type 0) (bytes : List ℕ)
    (told : Option (Result T Refusal)) (held : Held K) (taken : ℕ) (f : FedTurn (BoundedReader K) A) : Type 0 where
  pub told_is : tells told f.answer
  pub next_is : reader bytes held ≡ f.next
  pub taken_is : taken ≡ f.taken

-- The last start flag before the byte that is answered, and the last of all that were taken.
pub record OpensIs {S A : Type 0} (role : ℕ → Role) (is_answer : A → Bool) (input : List ℕ) (began opened : ℕ)
    (f : FedTurn S A) : Type 0 where
  pub began_is : began ≡ last_start role (take (unanswered is_answer f) input)
  pub opened_is : opened ≡ last_start role (take f.taken input)

-- Both.
abbrev pub Feeds : {K T A : Type 0} → Protocol A → (Option (Result T Refusal) → A → Type 0) → (A → Bool)
    → (bytes input : List ℕ) → Fed K T → FedTurn (BoundedReader K) A → Type 0
Feeds P tells is_answer bytes input r f =
    FedIs tells bytes r.told r.held r.taken f × OpensIs P.role is_answer input r.began r.opened f

-- A candidate that stands whole at the beginning of bytes. It is answered as its bytes are that are fed singly, and its
-- start flag is the last among them.
pub record StandsWhole {K T A : Type 0} (P : Protocol A) (B : Bounds K A)
    (tells : Option (Result T Refusal) → A → Type 0) (is_answer : A → Bool) (old new s : List ℕ) (w : Whole T)
    : Type 0 where
  pub some : 0 < w.taken
  pub within : w.taken ≤ length s
  pub fed : (len : ℕ) → FedIs tells new (Some w.told) (record { len = 0; mode = Outside }) w.taken
      (feed_of P B is_answer (bounded old len Outside) s)
  pub begins : (start count : ℕ) → start_in P.role start count (take (w.taken - 1) s) ≡ count
  pub opens : (start count : ℕ) → start_in P.role start count (take w.taken s) ≡ count

-- By whether there is one.
abbrev pub WholeIs : {K T A : Type 0} → Protocol A → Bounds K A → (Option (Result T Refusal) → A → Type 0)
    → (A → Bool) → (old new s : List ℕ) → Option (Whole T) → Type 0
WholeIs P B tells is_answer old new s None = new ≡ old
WholeIs P B tells is_answer old new s (Some w) = StandsWhole P B tells is_answer old new s w

-- The same where a candidate may be open before the bytes. Then none begins with them.
abbrev pub WholeIn : {K T A : Type 0} → Protocol A → Bounds K A → (Option (Result T Refusal) → A → Type 0)
    → (A → Bool) → Mode K → (old new s : List ℕ) → Option (Whole T) → Type 0
WholeIn P B tells is_answer mode old new s None = new ≡ old
WholeIn P B tells is_answer mode old new s (Some w) = (mode ≡ Outside) × StandsWhole P B tells is_answer old new s w

-- How many bytes the candidate has that was judged as it stands. 0 where none was.
abbrev pub whole_taken : {T : Type 0} → Option (Whole T) → ℕ
whole_taken None = 0
whole_taken (Some w) = w.taken

-- How many bytes stand whole where a candidate may be open before them. Then none begins with them.
abbrev pub stands_in : {K : Type 0} → Mode K → ℕ → ℕ
stands_in Outside n = n
stands_in (Inside kind) n = 0
stands_in Overlong n = 0
