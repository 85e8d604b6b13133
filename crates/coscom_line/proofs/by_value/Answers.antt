use mathlib.Core.Path.{◌≡◌, ap, ◌∙◌}
use Rattle.coscom_line.specs.Outcome.{Summary, summary_of}
use Rattle.coscom_line.specs.Private.{beside_told}
use Rattle.coscom_line.specs.declared.LineReader.{LineReader}
use Rattle.coscom_line.proofs.ValueLaws.{value_means}
use Rattle.coscom_line.proofs.by_value.Goals as goal

pub returns : goal.returns
returns c =
    λ t m w.
    let told = summary_of t.answer in
    let e : c.beside.result ≡ beside_told told t.next.bytes =
    c.beside.ensures ∙ ap (λ (h : Summary). beside_told h c.args.bytes) m.told_is
    ∙ ap (λ (r : LineReader). beside_told told r.bytes) m.next_is in
    record {
      answer_is = (λ i. record { told = m.told_is i; unit = e i }) ∙ value_means t.answer t.next.bytes w;
      next_is = m.next_is;
    }
