-- Where the values of an attribute lie, and that its numbers are written one after the other.
use Rattle.std.proofs.Common.{◌≡◌, ℕ, ◌+◌, ◌*◌, ◌/◌, ◌<◌, ◌≤◌, List, [], ◌∷◌, ◌++◌, length, map, codes, refl, sym, ap, ◌∙◌, arith, append_assoc, append-nil}
use Rattle.std.specs.List.{flat_map, range_with_len}
use Rattle.std.proofs.lemmas.List.{flat_map_more}
use Rattle.std.proofs.lemmas.List.FromFn.{length-map-range_with_len, map-range_with_len_more}
use Rattle.nc_model.specs.declared.kind.Kind.{Kind}
use Rattle.nc_model.specs.declared.kind.Kind.TheVariants.{Byte, Char, Short, Int, Float, Double}
use Rattle.nc_model.specs.Kind.{size_of}
use Rattle.dap_das.specs.AttributeText.{after_comma, number_at, numbers_text, separated}

-- a value has a byte
pub some_size : (kind : Kind) → 0 < size_of kind
some_size Byte = omega arith
some_size Char = omega arith
some_size Short = omega arith
some_size Int = omega arith
some_size Float = omega arith
some_size Double = omega arith

-- a value of some bytes ends among them
pub value_ends : (kind : Kind) (i len : ℕ) → i < len / size_of kind → i * size_of kind + size_of kind ≤ len
value_ends Byte i len within = omega arith
value_ends Char i len within = omega arith
value_ends Short i len within = omega arith
value_ends Int i len within = omega arith
value_ends Float i len within = omega arith
value_ends Double i len within = omega arith

-- one text more
separated_more : (texts : List (List ℕ)) (text : List ℕ) → 0 < length texts
    → separated (texts ++ text ∷ []) ≡ separated texts ++ after_comma text
separated_more [] text some = elim some [ ]
separated_more (first ∷ texts) text some = sym (flat_map_more after_comma first texts text)

-- the first number
pub first_number : (kind : Kind) (values : List ℕ) → numbers_text kind values 1 ≡ number_at kind values 0
unfolding numbers_text
first_number kind values = append-nil (number_at kind values 0)

-- one number more
pub one_more_number : (kind : Kind) (values : List ℕ) (i : ℕ) → 1 ≤ i
    → numbers_text kind values (i + 1) ≡ numbers_text kind values i ++ after_comma (number_at kind values i)
unfolding numbers_text
one_more_number kind values i some =
    ap separated (map-range_with_len_more (number_at kind values) 0 i i (omega arith))
    ∙ separated_more (map (number_at kind values) (range_with_len 0 i)) (number_at kind values i)
    (omega (arith, length-map-range_with_len (number_at kind values) 0 i))
