-- Which names an inbox offers, and where their files go.
use Rattle.std.specs.Prelude.{ℕ, ◌-◌, List, bytes_eq, codes, drop, length, map, nat_eq, Bool, not, ◌&&◌, ◌||◌, Option, Some, None}
use Rattle.std.specs.Char.{to_ascii_lowercase}
use Rattle.std.specs.List.{ends_with}
use Rattle.dev_traits.specs.declared.inbox.Verdict.{Verdict}
use Rattle.dev_traits.specs.declared.inbox.Verdict.TheVariants.{Published, Refused, Full, NotHeld, Gone, Short}
use Rattle.dev_folder.specs.declared.names.Shelf.{Shelf}
use Rattle.dev_folder.specs.declared.names.Shelf.TheVariants as shelves

-- whether files of this name are offered
abbrev pub is_offered : List ℕ → Bool
is_offered name = ends_with nat_eq name (codes ".nc") || ends_with nat_eq name (codes ".retract")

-- whether two texts are the same, whatever the case of their letters
abbrev pub same_letters : List ℕ → List ℕ → Bool
same_letters a b = bytes_eq (map to_ascii_lowercase a) (map to_ascii_lowercase b)

-- whether a name ends so, whatever the case of its letters
abbrev pub ends_alike : List ℕ → List ℕ → Bool
ends_alike name end = same_letters (drop (length name - length end) name) end

-- whether a name isn't offered, and looks like one that should be
abbrev pub is_mistaken : List ℕ → Bool
is_mistaken name = not (is_offered name)
    && (ends_alike name (codes ".nc") || (ends_alike name (codes ".nc4") || ends_alike name (codes ".retract")))

-- the name of a folder for files that got their verdicts
abbrev pub shelf_name : Shelf → List ℕ
shelf_name shelves.Done = codes "done"
shelf_name shelves.Refused = codes "refused"
shelf_name shelves.Later = codes "later"
shelf_name shelves.Taken = codes "taken"

-- the folder to which a file goes on which there is this verdict
abbrev pub shelf_of : Verdict → Option Shelf
shelf_of (Published number) = Some shelves.Done
shelf_of (Refused code) = Some shelves.Refused
shelf_of (NotHeld count) = Some shelves.Refused
shelf_of (Full count) = Some shelves.Later
shelf_of Short = Some shelves.Later
shelf_of Gone = None
