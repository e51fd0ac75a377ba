-- The column is the part of the dataset that is sent, and the array is its.
use Rattle.std.proofs.Common.{◌≡◌, ◌∙◌, refl, sym, ap, ap₂, subst}
use Rattle.fm_dataset.specs.Columns.{PartOf}
use Rattle.dap_xdr.specs.Content.{part_data}
use Rattle.dap_xdr.specs.Datasets.{content_of, IsColumnOf}
use Rattle.dap_xdr.specs.Portion.{portion_of, IsPortion}
use Rattle.dap_xdr.specs.Stretch.{extent_of}
use Rattle.dap_xdr.proofs.DataLemmas.{data-of}
use Rattle.dap_xdr.proofs.part.Part.new.Goals as goal

pub invariant_of-result : goal.invariant_of-result
invariant_of-result c =
    let sent = c.args.sent.now in
    let array = c.array_of-array.result.now in
    subst (λ (p : PartOf). IsColumnOf p sent × IsPortion (portion_of p sent array)
    × (c.extent_of-extent.result ≡ extent_of array.dims sent.slabs)) (sym c.column-column.ensures.value) (
      record {
        given = c.column-column.ensures.prototype;
        rows_are = c.column-column.ensures.rows;
        decl_is = refl;
        part_is = refl;
      },
      c.array_of-array.ensures,
      c.extent_of-extent.ensures ∙ ap₂ extent_of c.as_slice.ensures c.slabs.ensures,
    )

pub returns-clause-portion : goal.returns-clause-portion
returns-clause-portion c =
    subst (λ (p : PartOf). IsPortion (portion_of p c.args.sent.now c.array_of-array.result.now))
    (sym c.column-column.ensures.value) c.array_of-array.ensures

pub returns-clause-shown : goal.returns-clause-shown
returns-clause-shown c = ap (λ (p : PartOf). p.shown) c.column-column.ensures.value

pub returns-clause-data : goal.returns-clause-data
returns-clause-data c =
    data-of _ (subst (λ (p : PartOf). IsPortion (portion_of p c.args.sent.now c.array_of-array.result.now))
    (sym c.column-column.ensures.value) c.array_of-array.ensures)
    ∙ ap (λ (p : PartOf). part_data (content_of p.shown) c.args.sent.now) c.column-column.ensures.value
