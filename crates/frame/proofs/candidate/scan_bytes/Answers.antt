use mathlib.Core.Path.{◌≡◌, refl, sym, ◌∙◌}
use Prim.Native.Nat.{ℕ, ◌≤◌}
use mathlib.Core.List.{List, [], ◌∷◌}
use native.Mathlib.Omega.{arith}
use lib.ListN.{length}
use Rattle.lists.specs.Choice.{none_of}
use Rattle.std.specs.Prelude.{Ok}
use Rattle.frame.specs.Stuffing.{unstuff}
use Rattle.frame.specs.Checksum.{sum_from}
use Rattle.frame.specs.Private.{scan_from, scan_of}
use Rattle.frame.proofs.EscapeLaws.{counted, tally_flagged, last_flagged, last_escape, tally_unsound, tally_sound, tally_few}
use Rattle.frame.proofs.candidate.scan_bytes.Goals as goal
use Rattle.frame.proofs.candidate.scan_bytes.Goals.{then-found-via-then-found, then-found-via-else-found+then-is_flag}
use Rattle.frame.proofs.candidate.scan_bytes.Goals.{then-last-via-then-last, then-last-via-else-last+then-found-2}

empty : (s : List ℕ) → length s ≡ 0 → Ok (counted 0 0) ≡ scan_of s
unfolding none_of unstuff scan_from sum_from
empty [] h = refl
empty (b ∷ s) h = absurd (omega arith)

pub returns-in_default : goal.returns-in_default
returns-in_default c = empty _ (omega arith)

pub returns-then-found : goal.returns-then-found
returns-then-found c =
    let s = c.args.s.now in
    let some : 1 ≤ length s = c.in-len1-up.len_at_least in
    let t = c.tally_pairs-found.ensures in
    elim c.then-found.branch [
      | then-found-via-then-found w ↦ tally_flagged s _ some t w.if-found.true
      | then-found-via-else-found+then-is_flag w ↦
          last_flagged s _ some t (sym w.is_flag.ensures ∙ w.if-is_flag.true)
    ]

pub returns-then-last : goal.returns-then-last
returns-then-last c =
    let s = c.args.s.now in
    let some : 1 ≤ length s = c.in-len1-up.len_at_least in
    let t = c.tally_pairs-found.ensures in
    let plain = sym c.is_flag.ensures ∙ c.if-is_flag.false in
    elim c.then-last.branch [
      | then-last-via-then-last w ↦ last_escape s _ some t c.if-found.false plain w.if-last.true
      | then-last-via-else-last+then-found-2 w ↦
          tally_unsound s _ some t c.if-found.false plain w.if-last.false w.if-found-2.true
    ]

pub overflow_sub-result : goal.overflow_sub-result
overflow_sub-result c =
    tally_few c.args.s.now _ (c.in-len1-up.len_at_least) c.tally_pairs-found.ensures

pub returns : goal.returns
returns c =
    tally_sound c.args.s.now _ (c.in-len1-up.len_at_least) c.tally_pairs-found.ensures c.if-found.false
    (sym c.is_flag.ensures ∙ c.if-is_flag.false) c.if-last.false c.if-found-2.false
