-- The values of a part are an array of the numbers that its slabs pick.
use Rattle.std.proofs.Common.{◌+◌, ◌*◌, ◌<◌, ◌∙◌, ap, length, map, subst, sym, slice_get}
use Rattle.dap_model.specs.Box.{box_of}
use Rattle.dap_model.specs.Xdr.{element_bytes, element_len, elements_len}
use Rattle.dap_model.proofs.PartLemmas.{array_at, length-numbers, get_or-numbers}
use Rattle.dap_model.proofs.XdrLemmas.{length-array_bytes, slice_get-array_bytes}
use Rattle.dap_model.proofs.laws.values.part_layout.Goals as goal

pub returns : goal.returns
returns c =
    let kind = c.args.kind in
    let slabs = c.args.slabs.now in
    record {
      length = λ bits words.
          ap length (array_at kind slabs bits words c.requires.number c.requires.dims)
          ∙ length-array_bytes kind (map bits (box_of slabs))
          ∙ ap (λ n. 8 + elements_len kind n) (length-numbers slabs bits);
      element = λ bits words element offset below inside.
          let numbers = map bits (box_of slabs) in
          let within = subst (λ n. element < n) (sym (length-numbers slabs bits)) below in
          ap (λ l. slice_get l (8 + (element * element_len kind + offset)))
          (array_at kind slabs bits words c.requires.number c.requires.dims)
          ∙ slice_get-array_bytes kind numbers element offset within inside
          ∙ ap (λ n. slice_get (element_bytes kind n) offset) (get_or-numbers slabs bits element below);
    }
