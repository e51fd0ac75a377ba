-- One turn of a loop that reads a list.
use Rattle.std.specs.Prelude.{List, [], ◌∷◌, ◌++◌}
use Rattle.nc_model.specs.Reading.{HeaderParser}
use Rattle.fm_base.specs.Parser.{◌>>=◌, pure}

-- an item more after those that were found
unfoldable pub one_more : {A : Type 0} → (List A → HeaderParser A) → List A → HeaderParser (List A)
one_more item found = item found >>= λ next. pure (found ++ next ∷ [])
