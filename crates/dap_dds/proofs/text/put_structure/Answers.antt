-- The line in front, the members and the line that closes are the text.
use Rattle.std.proofs.Common.{◌≡◌, ◌+◌, ◌++◌, ℕ, List, OnOk, codes, append_assoc, subst}
use Rattle.dap_model.specs.declared.declaration.Array.{Array}
use Rattle.dap_model.specs.StructureText as text
use Rattle.dap_dds.proofs.text.put_structure.Goals as goal

joined : (depth : ℕ) (name : List ℕ) (members : List Array) (out : List ℕ) {x y : List ℕ}
    → x ≡ out ++ text.line_text depth (codes "Structure {") → y ≡ x ++ text.arrays_text (depth + 1) members
    → y ++ text.close_text depth name ≡ out ++ text.structure_text depth name members
unfolding text.structure_text
joined depth name members out first second = rw (second, first) (simp append_assoc)

pub returns : goal.returns
returns c =
    let e = joined c.args.depth c.args.name.now c.args.members.now c.args.out.now c.in_ok-put_line.ensures.ok
    c.in_ok-put_arrays.ensures in
    subst (λ (v : List ℕ). OnOk c.put_close.result (c.put_close.new.out ≡ v)) e c.put_close.ensures.ok
