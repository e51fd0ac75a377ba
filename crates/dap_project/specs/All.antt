-- All parts of declarations, whole.
use Rattle.std.specs.Prelude.{ℕ, ◌+◌, List, [], ◌∷◌, ◌++◌}
use Rattle.dap_model.specs.Picking.{parts_of, whole_slabs}
use Rattle.dap_model.specs.Projection.{with_slabs}
use Rattle.dap_model.specs.declared.declaration.Array.{Array}
use Rattle.dap_model.specs.declared.declaration.Decl.{Decl}
use Rattle.dap_model.specs.declared.projection.Sent.{Sent}

-- a part, whole, by the index of its declaration and its own number
abbrev pub whole_part : ℕ → ℕ → Array → Sent
whole_part decl part array = with_slabs decl part (whole_slabs array.dims)

-- the parts of a declaration from this number on, whole
unfoldable pub parts_from : ℕ → ℕ → List Array → List Sent
parts_from decl part [] = []
parts_from decl part (array ∷ arrays) = whole_part decl part array ∷ parts_from decl (part + 1) arrays

-- all parts of the declarations from this index on, whole
unfoldable pub decls_from : ℕ → List Decl → List Sent
decls_from index [] = []
decls_from index (decl ∷ decls) = parts_from index 0 (parts_of decl) ++ decls_from (index + 1) decls
