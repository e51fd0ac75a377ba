-- The zero bytes stand behind the values.
use Rattle.std.proofs.Common.{◌≡◌, ℕ, ◌-◌, drop, length, min, sym, ap, subst, ◌∙◌, arith}
use Rattle.std.proofs.lemmas.List.{length-drop}
use Rattle.dap_model.specs.Xdr.{zeros_after}
use Rattle.dap_xdr.specs.Datasets.{content_of}
use Rattle.dap_number.specs.Overlay.{IsPut}
use Rattle.dap_number.proofs.FrontLemmas.{put-behind}
use Rattle.nc_writer.specs.Data.{data_bytes, values_len, values_of}
use Rattle.nc_writer.proofs.LenLemmas.{variable-ranks}
use Rattle.nc_writer.proofs.ValueLemmas.{length-values_of}
use Rattle.nc_writer.proofs.data.put_each.Goals as goal

pub split_at_mut-index-requires : goal.split_at_mut-index-requires
split_at_mut-index-requires c =
    let few = variable-ranks c.args.source.now c.args.variable.now c.requires.variable in
    omega (arith, few, ap length c.slabs.ensures)

pub returns : goal.returns
unfolding data_bytes
returns c =
    let content = content_of c.args.source.now in
    let variable = c.args.variable.now in
    let values = values_of content variable in
    let len : c.values_len-len.result ≡ values_len variable = c.values_len-len.ensures.exact in
    put-behind values (zeros_after (values_len variable)) c.args.out.now c.put_values-count.new.out
    c.split_at_mut-rest.result.0.now c.split_at_mut-rest.result.1.now c.put_zeros.new.out c.args.from
    c.put_values-count.result c.put_zeros.result c.saturating_sub.result
    (c.put_values-count.ensures.count_is ∙ ap (min (length c.args.out.now)) (length-drop c.args.from values))
    c.put_values-count.ensures.new_is c.split_at_mut-rest.ensures.value c.split_at_mut-rest.ensures.front_len
    (c.saturating_sub.ensures ∙ ap (λ (n : ℕ). c.args.from - n) (len ∙ sym (length-values_of content variable)))
    (subst (λ (n : ℕ). IsPut (drop c.saturating_sub.result (zeros_after n)) c.split_at_mut-rest.result.1.now
    c.put_zeros.new.out c.put_zeros.result) len c.put_zeros.ensures)
