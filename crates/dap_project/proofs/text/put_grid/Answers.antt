-- The lines in front, the first part, the maps and the line that closes are the text.
use Rattle.std.proofs.Common.{◌≡◌, ◌++◌, ℕ, List, OnOk, codes, append_assoc, subst}
use Rattle.dap_model.specs.declared.declaration.Array.{Array}
use Rattle.dap_model.specs.StructureText as text
use Rattle.dap_project.specs.Taken.{cut_from, first_cut}
use Rattle.dap_project.proofs.text.put_grid.Goals as goal

joined : (name same : List ℕ) (array : Array) (maps : List Array) (out : List ℕ) {v w x y z : List ℕ} → same ≡ name
    → v ≡ out ++ text.line_text 1 (codes "Grid {") → w ≡ v ++ text.line_text 2 (codes "ARRAY:")
    → x ≡ w ++ text.array_text 3 array → y ≡ x ++ text.line_text 2 (codes "MAPS:")
    → z ≡ y ++ text.arrays_text 3 maps
    → z ++ text.close_text 1 same ≡ out ++ text.grid_text 1 name array maps
unfolding text.grid_text
joined name same array maps out is a b c d e = rw (is, e, d, c, b, a) (simp append_assoc)

pub returns : goal.returns
returns c =
    let e = joined _ c.name_of.result.now (first_cut c.args.first)
    (cut_from c.args.decl.now c.args.slots.now c.args.first.next) c.args.out.now c.name_of.ensures
    c.in_ok-put_line.ensures.ok c.in_ok-put_line-2.ensures.ok c.in_ok-put_cut.ensures c.in_ok-put_line-3.ensures.ok
    c.in_ok-put_parts.ensures in
    subst (λ (v : List ℕ). OnOk c.put_close.result (c.put_close.new.out ≡ v)) e c.put_close.ensures.ok
