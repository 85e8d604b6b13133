-- Bytes held one by one in an array leave what one copy of them leaves: all of them, or as many as there is room for.
use mathlib.Core.Path.{◌≡◌, refl, sym, ap, ap₂, ◌∙◌}
use mathlib.Core.List.{List, [], ◌∷◌}
use native.Mathlib.Nat.{add-zero}
use native.Mathlib.Omega.{arith}
use lib.ListN.{length, take, drop, set, length-drop, length-set, take-append-drop}
use lib.Seq.{length-take-le}
use Prim.Native.Nat.{ℕ, suc, ◌+◌, ◌-◌, ◌≤◌, ◌<◌}
use Rattle.lists.specs.Machine.{left_after}
use Rattle.lists.specs.Splice.{splice, copied}
use Rattle.lists.proofs.Machines.{left_append}
use Rattle.lists.proofs.Splices.{splice_nil, splice-splice, set-splice, copied_fits}

-- Bytes that leave a state as it is.
pub unmoved_run : {S : Type 0} (after : S → ℕ → S) (s : S) → ((b : ℕ) → after s b ≡ s) → (run : List ℕ)
    → s ≡ left_after after s run
unmoved_run after s stays [] = refl
unmoved_run {S} after s stays (b ∷ run) =
    unmoved_run after s stays run ∙ ap (λ (u : S). left_after after u run) (sym (stays b))

-- A byte is held where there is room for it. Where there is none the candidate is over-long, and stays so.
-- `holding bytes len`: the first `len` of these bytes are held. `over bytes`: the candidate is over-long.
pub record Grows {S : Type 0} (capacity : ℕ) (after : S → ℕ → S) (holding : List ℕ → ℕ → S) (over : List ℕ → S)
    : Type 0 where
  pub grows : (bytes : List ℕ) (len b : ℕ) → len < capacity
      → after (holding bytes len) b ≡ holding (set bytes len b) (len + 1)
  pub overflows : (bytes : List ℕ) (len b : ℕ) → capacity ≤ len → after (holding bytes len) b ≡ over bytes
  pub stays : (bytes : List ℕ) (b : ℕ) → after (over bytes) b ≡ over bytes

module _ {S : Type 0} {capacity : ℕ} {after : S → ℕ → S} {holding : List ℕ → ℕ → S} {over : List ℕ → S}
    (g : Grows capacity after holding over) where
  -- where there is room for them
  pub held_run : (run bytes : List ℕ) (len : ℕ) → length bytes ≡ capacity → len + length run ≤ capacity
      → left_after after (holding bytes len) run ≡ holding (splice bytes len run) (len + length run)
  held_run [] bytes len a room = sym (ap₂ holding (splice_nil bytes len) (add-zero len))
  held_run (b ∷ run) bytes len a room =
      let n : len + 1 + length run ≡ len + suc (length run) = omega arith in
      ap (λ (u : S). left_after after u run) (g.grows bytes len b (omega arith))
      ∙ held_run run (set bytes len b) (len + 1) (length-set bytes len b ∙ a) (omega arith)
      ∙ ap₂ holding
      (ap (λ (l : List ℕ). splice l (len + 1) run) (set-splice bytes len b (omega arith))
      ∙ splice-splice bytes len (b ∷ []) (omega arith) run) n

  -- where there is no room for any
  pub full-run : (run bytes : List ℕ) (len : ℕ) → capacity ≤ len → 0 < length run
      → over bytes ≡ left_after after (holding bytes len) run
  full-run [] bytes len full some = absurd (omega arith)
  full-run (b ∷ run) bytes len full some =
      unmoved_run after (over bytes) (g.stays bytes) run
      ∙ ap (λ (u : S). left_after after u run) (sym (g.overflows bytes len b full))

  -- as code copies them, all or those that there is room for
  pub kept_all : (run bytes left : List ℕ) (len : ℕ) → length bytes ≡ capacity → len < capacity
      → length run ≤ capacity - len → left ≡ copied bytes len run
      → holding left (len + length run) ≡ left_after after (holding bytes len) run
  kept_all run bytes left len a below l e =
      ap (λ (x : List ℕ). holding x (len + length run)) (copied_fits run bytes left len (omega arith) e)
      ∙ sym (held_run run bytes len a (omega arith))

  pub kept_first : (run bytes left : List ℕ) (len : ℕ) → length bytes ≡ capacity → len < capacity
      → capacity - len < length run → left ≡ copied bytes len (take (capacity - len) run)
      → over left ≡ left_after after (holding bytes len) run
  kept_first run bytes left len a below l e =
      let room = capacity - len in
      let first = take room run in
      let k = length-take-le room run (omega arith) in
      full-run (drop room run) left (len + length first) (omega arith) (omega (arith, length-drop room run))
      ∙ ap (λ (u : S). left_after after u (drop room run)) (kept_all first bytes left len a below (omega arith) e)
      ∙ sym (left_append after (holding bytes len) first (drop room run))
      ∙ ap (left_after after (holding bytes len)) (take-append-drop room run)
