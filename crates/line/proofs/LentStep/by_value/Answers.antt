use mathlib.Core.Path.{◌≡◌, ap, ◌∙◌}
use Rattle.framing.specs.Located.{answer_in}
use Rattle.candidate.specs.Outcome.{Summary, summary_of}
use Rattle.line.specs.Answers.{located_as}
use Rattle.line.specs.Private.{beside_told}
use Rattle.line.specs.declared.LineReader.{LineReader}
use Rattle.line.proofs.ValueLaws.{value_means}
use Rattle.line.proofs.LentStep.by_value.Goals as goal

pub returns : goal.returns
returns c =
    λ t m w.
    let told = summary_of (answer_in t.answer) in
    let e : c.beside.result ≡ beside_told told t.next.bytes =
    c.beside.ensures ∙ ap (λ (h : Summary). beside_told h c.args.bytes) m.told_is
    ∙ ap (λ (r : LineReader). beside_told told r.bytes) m.next_is in
    record {
      answer_is = (λ i. located_as (m.told_is i) (m.position_is i) (record { told = m.told_is i; contents = e i }))
          ∙ value_means t.answer t.next.bytes w;
      position_is = m.position_is;
      next_is = m.next_is;
    }
