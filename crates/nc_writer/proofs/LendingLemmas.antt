-- What stands in a file as it is written is a front of what is left of the bytes.
use Rattle.std.proofs.Common.{◌≡◌, ℕ, ◌+◌, ◌-◌, ◌*◌, ◌/◌, ◌%◌, ◌<◌, ◌≤◌, List, ◌++◌, length, get_or, min, take, drop, sym, ap, ◌∙◌, arith}
use Rattle.std.specs.List.{flat_map}
use Rattle.std.proofs.Math.Seq.{drop-append-add}
use Rattle.std.proofs.lemmas.Grind.{flat_map-append}
use Rattle.std.proofs.lemmas.List.{drop-append-le, drop-drop, take_all, take-append-drop}
use Rattle.std.proofs.lemmas.Nat.{div-add-mod'}
use Rattle.dap_model.specs.Box.{box_of}
use Rattle.dap_model.specs.Xdr.{zeros_after}
use Rattle.dap_number.proofs.FrontLemmas.{drop-both}
use Rattle.fm_dataset.specs.Values.{Shown}
use Rattle.dap_xdr.specs.Content.{Content}
use Rattle.dap_xdr.specs.Datasets.{content_of}
use Rattle.dap_xdr.proofs.ElementLemmas.{flat-drop}
use Rattle.dap_xdr.proofs.LendingLemmas.{front-behind, left-front}
use Rattle.nc_writer.specs.declared.variable.Variable.{Variable}
use Rattle.nc_writer.specs.Data.{data_bytes, data_len, value_at, value_len, values_in, values_len, values_of}
use Rattle.nc_writer.specs.File.{all_data, bytes_of, File}
use Rattle.nc_writer.proofs.DimLemmas.{left}
use Rattle.nc_writer.proofs.LenLemmas.{length-data}
use Rattle.nc_writer.proofs.TurnLemmas.{Together}
use Rattle.nc_writer.proofs.ValueLemmas.{length-value_at}

-- the values of a variable from an offset on
values-left : (content : Content) (variable : Variable) (from : ℕ)
    → drop from (values_of content variable)
    ≡ drop (from % value_len variable.kind variable.width) (flat_map (value_at content variable)
    (drop (from / value_len variable.kind variable.width) (box_of variable.sent.slabs)))
unfolding values_of
values-left content variable from =
    let f = value_at content variable in
    let width = value_len variable.kind variable.width in
    let box = box_of variable.sent.slabs in
    let spread : from ≡ from / width * width + from % width = sym (div-add-mod' from width) in
    ap (λ (n : ℕ). drop n (flat_map f box)) spread
    ∙ sym (drop-drop (from % width) (from / width * width) (flat_map f box))
    ∙ ap (drop (from % width)) (flat-drop f width (from / width) (length-value_at content variable) box)

-- what stands together from there on is a front of them
values-front : (content : Content) (variable : Variable) (from passed : ℕ) (bytes : List ℕ)
    → Together content variable (from / value_len variable.kind variable.width) bytes
    → passed ≡ min (from % value_len variable.kind variable.width) (length bytes)
    → take (length (drop passed bytes)) (drop from (values_of content variable)) ≡ drop passed bytes
unfolding values_in
values-front content variable from passed bytes whole is =
    let f = value_at content variable in
    let width = value_len variable.kind variable.width in
    let others = drop (from / width) (box_of variable.sent.slabs) in
    let more = flat_map f (drop whole.count others) in
    let split : flat_map f others ≡ bytes ++ more =
    ap (flat_map f) (sym (take-append-drop whole.count others))
    ∙ flat_map-append f (take whole.count others) (drop whole.count others)
    ∙ ap (λ (l : List ℕ). l ++ more) (sym whole.bytes_are) in
    ap (take (length (drop passed bytes)))
    (values-left content variable from ∙ ap (drop (from % width)) split)
    ∙ left-front bytes more (from % width) passed is

-- and of the data of the variable from there on
pub data-front : (content : Content) (variable : Variable) (from passed : ℕ) (bytes : List ℕ)
    → Together content variable (from / value_len variable.kind variable.width) bytes
    → passed ≡ min (from % value_len variable.kind variable.width) (length bytes)
    → take (length (drop passed bytes)) (drop from (data_bytes content variable)) ≡ drop passed bytes
unfolding data_bytes
data-front content variable from passed bytes whole is =
    ap (take (length (drop passed bytes)))
    (drop-both (values_of content variable) (zeros_after (values_len variable)) from)
    ∙ front-behind (drop from (values_of content variable)) _ (drop passed bytes)
    (values-front content variable from passed bytes whole is)

-- ---- the data of all variables

-- the data of some variables from the one at an index on
abbrev pub data_from : Shown → List Variable → ℕ → List ℕ
data_from shown variables at = flat_map (data_bytes (content_of shown)) (drop at variables)

-- what is left of all data is what is left of that from an index on
abbrev pub IsLeft : Shown → List Variable → ℕ → ℕ → ℕ → Type 0
IsLeft shown variables from at left = drop left (data_from shown variables at) ≡ drop from (all_data shown variables)

data-next : (shown : Shown) (variables : List Variable) (at : ℕ) (variable : Variable) → at < length variables
    → variable ≡ get_or variables at variable
    → data_from shown variables at
    ≡ data_bytes (content_of shown) variable ++ data_from shown variables (at + 1)
data-next shown variables at variable within is =
    ap (flat_map (data_bytes (content_of shown))) (left variables at variable within is)

-- a variable that ends before is passed over
pub left-next : (shown : Shown) (variables : List Variable) (from at left_over len : ℕ) (variable : Variable)
    → at < length variables → variable ≡ get_or variables at variable → len ≡ data_len variable → len ≤ left_over
    → IsLeft shown variables from at left_over → IsLeft shown variables from (at + 1) (left_over - len)
left-next shown variables from at left_over len variable within is len_is past so =
    let bytes = data_bytes (content_of shown) variable in
    let far : left_over ≡ length bytes + (left_over - len) =
    omega (arith, len_is, past, length-data (content_of shown) variable) in
    sym (ap (λ (l : List ℕ). drop left_over l) (data-next shown variables at variable within is)
    ∙ ap (λ (n : ℕ). drop n (bytes ++ data_from shown variables (at + 1))) far
    ∙ drop-append-add bytes (data_from shown variables (at + 1)) (left_over - len))
    ∙ so

-- what is lent of the variable in which the offset lies is lent of all
pub left-here : (shown : Shown) (variables : List Variable) (from at left_over len : ℕ) (variable : Variable)
    (lent : List ℕ) → at < length variables → variable ≡ get_or variables at variable → len ≡ data_len variable
    → left_over < len → IsLeft shown variables from at left_over
    → take (length lent) (drop left_over (data_bytes (content_of shown) variable)) ≡ lent
    → take (length lent) (drop from (all_data shown variables)) ≡ lent
left-here shown variables from at left_over len variable lent within is len_is short so front =
    let bytes = data_bytes (content_of shown) variable in
    let inside : left_over ≤ length bytes =
    omega (arith, len_is, short, length-data (content_of shown) variable) in
    ap (take (length lent)) (sym so ∙ ap (drop left_over) (data-next shown variables at variable within is)
    ∙ drop-append-le left_over bytes (data_from shown variables (at + 1)) inside)
    ∙ front-behind (drop left_over bytes) (data_from shown variables (at + 1)) lent front

-- ---- the file

-- what is left of the header
pub lent-front : (file : File) (front lent : List ℕ) (from : ℕ) → front ≡ file.front → from ≤ length front
    → lent ≡ drop from front → take (length lent) (drop from (bytes_of file)) ≡ lent
unfolding bytes_of
lent-front file front lent from same within is =
    let behind = all_data file.shown file.variables in
    ap (λ (l : List ℕ). take (length lent) (drop from (l ++ behind))) (sym same)
    ∙ ap (take (length lent)) (drop-append-le from front behind within)
    ∙ front-behind (drop from front) behind lent
    (take_all (length lent) (drop from front) (omega (arith, ap length is)) ∙ sym is)

-- what is lent of the data
pub lent-behind : (file : File) (begin from : ℕ) (variables : List Variable) (lent : List ℕ)
    → begin ≡ length file.front → variables ≡ file.variables → begin ≤ from
    → take (length lent) (drop (from - begin) (all_data file.shown variables)) ≡ lent
    → take (length lent) (drop from (bytes_of file)) ≡ lent
unfolding bytes_of
lent-behind file begin from variables lent is same past front =
    let far : from ≡ length file.front + (from - begin) = omega (arith, is, past) in
    ap (λ (n : ℕ). take (length lent) (drop n (file.front ++ all_data file.shown file.variables))) far
    ∙ ap (take (length lent)) (drop-append-add file.front (all_data file.shown file.variables) (from - begin))
    ∙ ap (λ (l : List Variable). take (length lent) (drop (from - begin) (all_data file.shown l))) (sym same)
    ∙ front
