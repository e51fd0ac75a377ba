-- The indices of declarations, by the codes of their names.
use Rattle.std.specs.Prelude.{◌≡◌, ℕ, ◌+◌, ◌*◌, ◌%◌, ◌<◌, List, [], ◌∷◌, length, Bool, false, ◌==◌, if◌then◌else◌}
use Rattle.std.specs.List.{slice_index_or}
use Rattle.dap_model.specs.Picking.{name_of}
use Rattle.dap_model.specs.declared.declaration.Decl.{Decl}

-- the code of bytes that follow others of this code
unfoldable pub code_from : ℕ → List ℕ → ℕ
code_from code [] = code
code_from code (byte ∷ bytes) = code_from ((code * 31 + byte) % 65_536) bytes

-- the bucket of a name, among `count`
unfoldable pub bucket_of : ℕ → List ℕ → ℕ
bucket_of count name = code_from 0 name % count

-- whether a declaration's name is of a bucket
abbrev pub is_of : ℕ → ℕ → Decl → Bool
is_of count bucket decl = bucket_of count (name_of decl) == bucket

-- the indices of the declarations that pass a test, from this index on
unfoldable pub indices_where : (Decl → Bool) → ℕ → List Decl → List ℕ
indices_where test index [] = []
indices_where test index (decl ∷ decls) =
    if test decl then index ∷ indices_where test (index + 1) decls else indices_where test (index + 1) decls

-- there are as many buckets as declarations, and each has the indices of its declarations
pub record AreBuckets (decls : List Decl) (buckets : List (List ℕ)) : Type 0 where
  pub count : length buckets ≡ length decls
  pub each : (bucket : ℕ) (d : List ℕ) → bucket < length decls
      → slice_index_or buckets bucket d ≡ indices_where (is_of (length decls) bucket) 0 decls

-- whether a path may pick something of a declaration: its first name is of the declaration's bucket
abbrev pub may_pick : ℕ → List (List ℕ) → Decl → Bool
may_pick count [] decl = false
may_pick count (name ∷ names) decl = is_of count (bucket_of count name) decl

-- the indices of the declarations of which a path may pick something
abbrev pub indices_for : List Decl → List (List ℕ) → List ℕ
indices_for decls path = indices_where (may_pick (length decls) path) 0 decls
