-- What is found in some files and others behind them.
use Rattle.std.proofs.Common.{◌≡◌, cond, List, [], ◌∷◌, ◌++◌, Bool, Option, Some, None, ℤ, refl, ap, ◌∙◌}
use Rattle.std.specs.Option.{option_map, option_or}
use Rattle.fm_model.specs.declared.loaded.Loaded.{Loaded}
use Rattle.fm_model.specs.Cell.{cell, has_cell, index_of_time, last_such}
use Rattle.fm_list.specs.Found.{older, oldest_behind}

or_nothing : {A : Type 0} (o : Option A) → o ≡ option_or o None
or_nothing None = refl
or_nothing (Some x) = refl

or_assoc : {A : Type 0} (a b c : Option A) → option_or (option_or a b) c ≡ option_or a (option_or b c)
or_assoc None b c = refl
or_assoc (Some x) b c = refl

map_or : {A B : Type 0} (f : A → B) (a b : Option A)
    → option_map f (option_or a b) ≡ option_or (option_map f a) (option_map f b)
map_or f None b = refl
map_or f (Some x) b = refl

-- the last item that passes is the last of those behind, if one of them passes
last_such-behind : {A : Type 0} (test : A → Bool) (items more : List A)
    → last_such test (items ++ more) ≡ option_or (last_such test more) (last_such test items)
last_such-behind test [] more = or_nothing (last_such test more)
last_such-behind test (item ∷ items) more =
    ap (λ o. option_or o (cond (test item) (Some item) None)) (last_such-behind test items more)
    ∙ or_assoc (last_such test more) (last_such test items) (cond (test item) (Some item) None)

pub cell-behind : (files more : List Loaded) (run valid : ℤ)
    → cell (files ++ more) run valid ≡ option_or (cell more run valid) (cell files run valid)
unfolding cell
cell-behind files more run valid =
    ap (option_map (λ (file : Loaded). (file, index_of_time valid file)))
    (last_such-behind (has_cell run valid) files more)
    ∙ map_or (λ (file : Loaded). (file, index_of_time valid file)) (last_such (has_cell run valid) more)
    (last_such (has_cell run valid) files)

-- the least run of files and of others behind them
pub oldest-behind : (before : Option ℤ) (files more : List Loaded)
    → oldest_behind before (files ++ more) ≡ oldest_behind (oldest_behind before files) more
oldest-behind before [] more = refl
oldest-behind before (file ∷ files) more = oldest-behind (Some (older before file.run)) files more
