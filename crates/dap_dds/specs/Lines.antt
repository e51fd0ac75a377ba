-- The line of an array, up to its dimensions.
use Rattle.std.specs.Prelude.{ℕ, List, ◌++◌, codes}
use Rattle.dap_model.specs.declared.declaration.Array.{Array}
use Rattle.dap_model.specs.StructureText.{indent, kind_text}

-- what stands before the dimensions of an array: four spaces for each level, its kind and its name
unfoldable pub array_front : ℕ → Array → List ℕ
array_front depth array = indent depth ++ kind_text array.kind ++ codes " " ++ array.name
