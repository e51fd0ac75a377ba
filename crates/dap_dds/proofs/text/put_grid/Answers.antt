-- The lines in front, the array, the maps and the line that closes are the text.
use Rattle.std.proofs.Common.{◌≡◌, ◌+◌, ◌++◌, ℕ, List, OnOk, codes, append_assoc, subst}
use Rattle.dap_model.specs.declared.declaration.Array.{Array}
use Rattle.dap_model.specs.StructureText as text
use Rattle.dap_dds.proofs.text.put_grid.Goals as goal

joined : (depth : ℕ) (name : List ℕ) (array : Array) (maps : List Array) (out : List ℕ) {v w x y z : List ℕ}
    → v ≡ out ++ text.line_text depth (codes "Grid {") → w ≡ v ++ text.line_text (depth + 1) (codes "ARRAY:")
    → x ≡ w ++ text.array_text (depth + 2) array → y ≡ x ++ text.line_text (depth + 1) (codes "MAPS:")
    → z ≡ y ++ text.arrays_text (depth + 2) maps
    → z ++ text.close_text depth name ≡ out ++ text.grid_text depth name array maps
unfolding text.grid_text
joined depth name array maps out a b c d e = rw (e, d, c, b, a) (simp append_assoc)

pub returns : goal.returns
returns c =
    let e = joined c.args.depth c.args.name.now c.args.array.now c.args.maps.now c.args.out.now
    c.in_ok-put_line.ensures.ok c.in_ok-put_line-2.ensures.ok c.in_ok-put_array.ensures c.in_ok-put_line-3.ensures.ok
    c.in_ok-put_arrays.ensures in
    subst (λ (v : List ℕ). OnOk c.put_close.result (c.put_close.new.out ≡ v)) e c.put_close.ensures.ok
