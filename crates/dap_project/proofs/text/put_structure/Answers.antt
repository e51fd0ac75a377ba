-- The line in front, the members and the line that closes are the text.
use Rattle.std.proofs.Common.{◌≡◌, ◌++◌, ℕ, List, OnOk, codes, ap, append_assoc, subst, ◌∙◌}
use Rattle.dap_model.specs.declared.declaration.Array.{Array}
use Rattle.dap_model.specs.StructureText as text
use Rattle.dap_project.specs.Taken.{cut_from}
use Rattle.dap_project.proofs.text.put_structure.Goals as goal

joined : (name same : List ℕ) (members : List Array) (out : List ℕ) {x y : List ℕ} → same ≡ name
    → x ≡ out ++ text.line_text 1 (codes "Structure {") → y ≡ x ++ text.arrays_text 2 members
    → y ++ text.close_text 1 same ≡ out ++ text.structure_text 1 name members
unfolding text.structure_text
joined name same members out is first second = rw (is, second, first) (simp append_assoc)

pub returns : goal.returns
returns c =
    let e = joined _ c.name_of.result.now (cut_from c.args.decl.now c.args.slots.now 0) c.args.out.now
    c.name_of.ensures c.in_ok-put_line.ensures.ok c.in_ok-put_parts.ensures in
    subst (λ (v : List ℕ). OnOk c.put_close.result (c.put_close.new.out ≡ v)) e c.put_close.ensures.ok
