-- Each turn copies one attribute, where it is written.
use Rattle.std.proofs.Common.{◌++◌, ◌∷◌, [], List, take, sym, ap, ◌∙◌}
use Rattle.std.specs.Prelude.{filter}
use Rattle.std.proofs.lemmas.List.{take_more}
use Rattle.std.proofs.lemmas.List.Elements.{filter-append}
use Rattle.nc_model.specs.declared.header.Attr.{Attr}
use Rattle.nc_writer.specs.Attributes.{is_written}
use Rattle.nc_writer.proofs.attributes.written.Goals as goal

pub loop-attr-preserved : goal.loop-attr-preserved
loop-attr-preserved c =
    let attrs = c.args.attrs.now in
    let at = c.loop-attr.attr-index in
    let attr = c.attr-item.result in
    c.in_ok-put_written.ensures
    ∙ ap (λ (l : List Attr). l ++ filter is_written (attr ∷ [])) c.loop-attr.invariant
    ∙ sym (filter-append is_written _ (attr ∷ []))
    ∙ ap (filter is_written) (sym (take_more attrs at attr c.loop-attr-test.true
    ∙ ap (λ (a : Attr). take at attrs ++ a ∷ []) (sym c.attr-item.is)))
