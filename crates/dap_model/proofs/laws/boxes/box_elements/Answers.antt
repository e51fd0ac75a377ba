-- The index list of an element of a box is found by division, and no other element has it.
use Rattle.std.proofs.Common.{[], ◌<◌, ◌∙◌, ap, subst, sym, Some}
use Rattle.std.proofs.lemmas.Option.{slice_get-get_or}
use Rattle.dap_model.specs.Box.{box_of}
use Rattle.dap_model.proofs.BoxLemmas.{length-box_of, get_or-box_of, index_at-injective}
use Rattle.dap_model.proofs.laws.boxes.box_elements.Goals as goal

pub returns : goal.returns
returns c =
    let slabs = c.args.slabs.now in
    record {
      found = λ element within.
          slice_get-get_or (box_of slabs) element [] (subst (λ n. element < n) (sym (length-box_of slabs)) within)
          ∙ ap Some (get_or-box_of slabs element [] within);
      distinct = λ element other before within same.
          index_at-injective slabs element other c.requires before within same;
    }
