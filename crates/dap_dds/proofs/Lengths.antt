-- How long digits are, and texts of items one after the other.
use Rattle.std.proofs.Common.{◌≡◌, ℕ, ◌+◌, ◌/◌, ◌^◌, ◌<◌, ◌≤◌, List, [], ◌∷◌, codes, ◌++◌, length, take, get_or, ap, sym, subst, ◌∙◌, append-nil, arith, length-append}
use Rattle.std.specs.Fmt.{decimal}
use Rattle.std.specs.List.{flat_map}
use Rattle.std.proofs.lemmas.Fmt.{decimal_step, decimal_nonempty, length-decimal-le}
use Rattle.std.proofs.lemmas.Grind.{flat_map-append}
use Rattle.std.proofs.lemmas.List.{take_more}
use Rattle.std.proofs.lemmas.List.Folds.{length-flat_map-take}
use Rattle.dap_model.specs.declared.declaration.Array.{Array}
use Rattle.dap_model.specs.declared.declaration.Decl.{Decl}
use Rattle.dap_model.specs.StructureText as text

-- a number below ten is one digit
pub one_digit : (n : ℕ) → n < 10 → length (decimal n) ≡ 1
one_digit n small =
    omega (arith, decimal_nonempty n (omega arith), length-decimal-le 1 n (omega arith) small (omega arith))

-- a number from ten on has one digit more than its tenth
pub one_digit_more : (n : ℕ) → 10 ≤ n → n < 2 ^ 64 → length (decimal n) ≡ length (decimal (n / 10)) + 1
one_digit_more n large fits = ap length (decimal_step n large fits) ∙ length-append (decimal (n / 10)) _

-- a number of 64 bits has at most twenty digits
pub few_digits : (n : ℕ) → n < 2 ^ 64 → length (decimal n) ≤ 20
few_digits n fits = length-decimal-le 20 n (omega arith) (omega arith) fits

-- the items before one and that one are no longer than all
pub taken_len : {X Y : Type 0} (f : X → List Y) (xs : List X) (i : ℕ) (d : X) → i < length xs
    → length (flat_map f (take i xs)) + length (f (get_or xs i d)) ≤ length (flat_map f xs)
taken_len f xs i d within = length-flat_map-take f xs i d within

-- how long a line of fixed words is, one that closes, and that of an array
pub line_parts : (depth : ℕ) (words : List ℕ)
    → length (text.line_text depth words) ≡ length (text.indent depth) + length words + 1
unfolding text.line_text
line_parts depth words = simp length-append (omega arith)

pub close_parts : (depth : ℕ) (name : List ℕ)
    → length (text.close_text depth name) ≡ length (text.indent depth) + length name + 4
unfolding text.close_text
close_parts depth name = simp length-append (omega arith)

pub array_parts : (depth : ℕ) (array : Array)
    → length (text.array_text depth array) ≡ length (text.indent depth) + length (text.kind_text array.kind)
    + length array.name + length (text.dims_text array.dims) + 3
unfolding text.array_text
array_parts depth array = simp length-append (omega arith)

-- a Grid is as long as its lines together
pub grid_lines : (depth : ℕ) (name : List ℕ) (array : Array) (maps : List Array)
    → length (text.grid_text depth name array maps)
    ≡ length (text.line_text depth (codes "Grid {"))
    + (length (text.line_text (depth + 1) (codes "ARRAY:"))
    + (length (text.array_text (depth + 2) array)
    + (length (text.line_text (depth + 1) (codes "MAPS:"))
    + (length (text.arrays_text (depth + 2) maps) + length (text.close_text depth name)))))
unfolding text.grid_text
grid_lines depth name array maps = simp length-append (omega arith)

-- so is a Structure
pub structure_lines : (depth : ℕ) (name : List ℕ) (members : List Array)
    → length (text.structure_text depth name members)
    ≡ length (text.line_text depth (codes "Structure {"))
    + (length (text.arrays_text (depth + 1) members) + length (text.close_text depth name))
unfolding text.structure_text
structure_lines depth name members = simp length-append (omega arith)

-- so is the whole text
pub dds_lines : (label : List ℕ) (decls : List Decl)
    → length (text.dds_of label decls)
    ≡ length (text.line_text 0 (codes "Dataset {"))
    + (length (text.decls_text 1 decls) + length (text.close_text 0 label))
unfolding text.dds_of
dds_lines label decls = simp length-append (omega arith)

-- one item more is no longer than all, and adds its length
more_fits : {X Y : Type 0} (f : X → List Y) (xs : List X) (i : ℕ) (x : X) → i < length xs → x ≡ get_or xs i x
    → length (flat_map f (take i xs)) + length (f x) ≤ length (flat_map f xs)
more_fits {X} f xs i x within is =
    subst (λ (y : X). length (flat_map f (take i xs)) + length (f y) ≤ length (flat_map f xs)) (sym is)
    (taken_len f xs i x within)

more_len : {X Y : Type 0} (f : X → List Y) (xs : List X) (i : ℕ) (x : X) → i < length xs → x ≡ get_or xs i x
    → length (flat_map f (take i xs)) + length (f x) ≡ length (flat_map f (take (i + 1) xs))
more_len f xs i x within is =
    sym (ap (λ l. length (flat_map f l)) (take_more xs i x within ∙ ap (λ y. take i xs ++ y ∷ []) (sym is))
    ∙ ap length (flat_map-append f (take i xs) (x ∷ []) ∙ ap (λ l. flat_map f (take i xs) ++ l) (append-nil (f x)))
    ∙ length-append (flat_map f (take i xs)) (f x))

pub arrays_fit : (depth : ℕ) (arrays : List Array) (i : ℕ) (array : Array) → i < length arrays
    → array ≡ get_or arrays i array
    → length (text.arrays_text depth (take i arrays)) + length (text.array_text depth array)
    ≤ length (text.arrays_text depth arrays)
unfolding text.arrays_text
arrays_fit depth arrays i array within is = more_fits (text.array_text depth) arrays i array within is

pub arrays_more : (depth : ℕ) (arrays : List Array) (i : ℕ) (array : Array) → i < length arrays
    → array ≡ get_or arrays i array
    → length (text.arrays_text depth (take i arrays)) + length (text.array_text depth array)
    ≡ length (text.arrays_text depth (take (i + 1) arrays))
unfolding text.arrays_text
arrays_more depth arrays i array within is = more_len (text.array_text depth) arrays i array within is

pub decls_fit : (depth : ℕ) (decls : List Decl) (i : ℕ) (decl : Decl) → i < length decls → decl ≡ get_or decls i decl
    → length (text.decls_text depth (take i decls)) + length (text.decl_text depth decl)
    ≤ length (text.decls_text depth decls)
unfolding text.decls_text
decls_fit depth decls i decl within is = more_fits (text.decl_text depth) decls i decl within is

pub decls_more : (depth : ℕ) (decls : List Decl) (i : ℕ) (decl : Decl) → i < length decls → decl ≡ get_or decls i decl
    → length (text.decls_text depth (take i decls)) + length (text.decl_text depth decl)
    ≡ length (text.decls_text depth (take (i + 1) decls))
unfolding text.decls_text
decls_more depth decls i decl within is = more_len (text.decl_text depth) decls i decl within is
