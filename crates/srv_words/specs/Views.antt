-- What `twod` and `extract` write.
use Rattle.std.specs.Prelude.{ℕ, Bool, true, false, not, ◌&&◌, nat_eq, nat_lt, List, [], length, codes, Option, Some, None, if◌then◌else◌}
use Rattle.std.specs.List.{list_any}
use Rattle.std.specs.Str.{bytes_eq}
use Rattle.clap.specs.Walk.{Row, first_of}
use Rattle.srv_words.specs.Reads.{◌>>=◌, if_so}

-- whether a service sends values too: `dods` does, `dds` doesn't
unfoldable pub service_of : List ℕ → Option Bool
service_of text = if bytes_eq text (codes "dds") then Some false
    else (if bytes_eq text (codes "dods") then Some true else None)

-- the version of the format that a text writes
unfoldable pub version_of : List ℕ → Option ℕ
version_of text = if bytes_eq text (codes "1") then Some 1
    else (if bytes_eq text (codes "2") then Some 2 else None)

-- whether a text may be the path of a view: it isn't empty, and has no `?`
unfoldable pub is_view : List ℕ → Bool
is_view text = nat_lt 0 (length text) && not (list_any (λ byte. nat_eq byte 63) text)

-- the path of a view
unfoldable pub view_of : List Row → Option (List ℕ)
view_of rows = do
  view ← first_of (codes "view") rows
  if_so (is_view view) view

-- the constraint, which is empty where none is given
abbrev pub constraint_of : Option (List ℕ) → List ℕ
constraint_of None = []
constraint_of (Some text) = text
