-- Which of several collections a request is for.
use Rattle.std.specs.Prelude.{ℕ, ◌+◌, List, [], ◌∷◌, if◌then◌else◌}
use Rattle.fm_model.specs.declared.proto.Proto.{Proto}
use Rattle.web_frame.specs.Items.{request, bad_head, head_too_long, Item}
use Rattle.web_path.specs.Below.{is_below}

-- the first of some collections below whose root the path of a target lies, by its number from this one on, or 0
abbrev pub chosen_from : List Proto → List ℕ → ℕ → ℕ
chosen_from [] target number = 0
chosen_from (proto ∷ protos) target number =
    if is_below target proto.site then number else chosen_from protos target (number + 1)

-- the same by its number from 0
abbrev pub chosen : List Proto → List ℕ → ℕ
chosen protos target = chosen_from protos target 0

-- the collection that an item is for: the first one where it has no target
abbrev pub choice_of : List Proto → Item → ℕ
choice_of protos (request r target) = chosen protos target
choice_of protos bad_head = 0
choice_of protos head_too_long = 0
