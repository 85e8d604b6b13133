use mathlib.Core.Path.{sym, ap, ◌∙◌}
use Prim.Native.Nat.{ℕ, ◌%◌}
use mathlib.Core.List.{[], ◌∷◌}
use native.Mathlib.Omega.{arith}
use lib.ListN.{length, length-append}
use Rattle.lists.specs.Splice.{splice}
use Rattle.frame.specs.Stuffing.{stuff_byte}
use Rattle.lists.proofs.Splices.{set2_splice}
use Rattle.writer.proofs.StuffingLaws.{pair_put}
use Rattle.writer.proofs.bytes.put_pair.Goals as goal

pub overflow_add-result : goal.overflow_add-result
overflow_add-result c =
    omega (arith, c.requires, c.width.ensures, ap length (pair_put c.args.b).1, length-append (stuff_byte c.args.b) (pair_put c.args.b).0)

pub returns-clause-put_pair : goal.returns-clause-put_pair
returns-clause-put_pair c =
    let a = c.args in
    let p = pair_put a.b in (
      p.0,
      sym (ap length p.1),
      set2_splice a.out.now a.at _ (a.b % 4) c.requires
          ∙ ap (λ (n : ℕ). splice a.out.now a.at (n ∷ (a.b % 4) ∷ [])) c.first_of.ensures
          ∙ ap (splice a.out.now a.at) p.1,
    )
