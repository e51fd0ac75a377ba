-- Grids are read exactly.
use Rattle.std.proofs.Common.{◌≡◌, ℕ, ◌<◌, true, List, [], ◌∷◌, ◌++◌, length, codes, refl, sym, ap, ap₂, subst, ◌∙◌, append_assoc, append-nil, arith}
use Rattle.std.specs.List.{AllByRecursion}
use Rattle.fm_base.specs.Name.{is_name_byte}
use Rattle.fm_base.proofs.Exact.{Then, Is, onto}
use Rattle.nc_model.specs.declared.header.Dim.{Dim}
use Rattle.dap_model.specs.declared.declaration.Array.{Array}
use Rattle.dap_model.specs.declared.declaration.DapKind.{DapKind}
use Rattle.dap_model.specs.StructureText.{array_text, arrays_text, dim_text, dims_text, indent, kind_text}
use Rattle.dap_client.specs.Message.{AreMapsOf, IsArray, map_of}
use Rattle.dap_client.specs.Reading.{fixed_at, word_at}
use Rattle.dap_client.specs.TextReading.{grid_array_at, kind_at, map_at, map_end, maps_at, some_dims_at}
use Rattle.dap_client.proofs.Dimensions.{AreSomeDims, ExactTo-some_dims, dim_tail}
use Rattle.dap_client.proofs.OneDimension.{only_mark}
use Rattle.dap_client.proofs.Exactly.{ExactTo, ExactTo-as, ExactTo-pure}
use Rattle.dap_client.proofs.Joined.{then_so}
use Rattle.dap_client.proofs.KindWords.{IsKind, ExactTo-kind}
use Rattle.dap_client.proofs.Fixed.{IsFixed, ExactTo-fixed}
use Rattle.dap_client.proofs.Repeated.{EachMore, ExactTo-each, SpelledEach}
use Rattle.dap_client.proofs.Words.{IsMarked, ExactTo-word}

-- the array of a Grid and the end of its line
pub record IsGridArray (text : List ℕ) (array : Array) : Type 0 where
  pub is : IsArray array
  pub some : 0 < length array.dims
  pub text_is : text ≡ kind_text array.kind ++ codes " " ++ array.name ++ dims_text array.dims ++ codes ";\n"

abbrev made : DapKind → List ℕ → List Dim → Array
made kind name dims = record { name = name; kind = kind; dims = dims }

abbrev GridArrayParts : List ℕ → Array → Type 0
GridArrayParts = Then IsKind (λ kind. Then (IsMarked is_name_byte 91 91) (λ name. Then AreSomeDims
    (λ dims. Then (IsFixed (codes "\n")) (λ end. Is (made kind name.0 dims)))))

grid_joined : (kind space name bracket dims whole end line : List ℕ) → bracket ++ dims ≡ whole ++ end
    → (kind ++ space) ++ ((name ++ bracket) ++ (dims ++ (line ++ [])))
    ≡ kind ++ space ++ name ++ whole ++ (end ++ line)
grid_joined kind space name bracket dims whole end line e =
    let after : (name ++ bracket) ++ (dims ++ (line ++ [])) ≡ name ++ (whole ++ (end ++ line)) =
    append_assoc name bracket (dims ++ (line ++ []))
    ∙ onto name (sym (append_assoc bracket dims (line ++ [])) ∙ ap (λ (l : List ℕ). l ++ (line ++ [])) e
    ∙ append_assoc whole end (line ++ []) ∙ ap (λ (l : List ℕ). whole ++ (end ++ l)) (append-nil line)) in
    onto (kind ++ space) after
    ∙ sym (append_assoc (kind ++ space) name (whole ++ (end ++ line)))
    ∙ sym (append_assoc (kind ++ space ++ name) whole (end ++ line))

grid_array_whole : (text : List ℕ) (array : Array) → GridArrayParts text array → IsGridArray text array
grid_array_whole text array s =
    let kind = s.a in
    let word = s.second in
    let dims = word.second in
    let end = dims.second in
    let whole : text ≡ (kind_text kind ++ codes " ") ++ ((word.a.0 ++ 91 ∷ []) ++ (dims.front ++ (codes "\n" ++ []))) =
    s.text_is
    ∙ ap₂ (λ (x y : List ℕ). x ++ y) s.first.text_is (word.text_is
    ∙ ap₂ (λ (x y : List ℕ). x ++ y)
    (word.first.text_is ∙ onto word.a.0 (only_mark 91 word.first.back word.a.1 word.first.mark))
    (dims.text_is ∙ onto dims.front (end.text_is
    ∙ ap₂ (λ (x y : List ℕ). x ++ y) end.first.text_is end.second.text_is))) in
    subst (IsGridArray text) end.second.value (record {
      is = record { name = word.first.word; dims = dims.first.are.each; few = dims.first.are.few };
      some = dims.first.some;
      text_is = whole
          ∙ grid_joined (kind_text kind) (codes " ") word.a.0 (91 ∷ []) dims.front (dims_text dims.a) (codes ";")
          (codes "\n") dims.first.text_is;
    })

grid_array_split : (text : List ℕ) (array : Array) → IsGridArray text array → GridArrayParts text array
unfolding dims_text dim_text
grid_array_split text array t = by_dims array.dims refl
  where
    parts : (dims_part : List ℕ) → AreSomeDims dims_part array.dims
        → text ≡ (kind_text array.kind ++ codes " ") ++ ((array.name ++ 91 ∷ []) ++ (dims_part ++ (codes "\n" ++ [])))
        → GridArrayParts text array
    parts dims_part are is = record {
      a = array.kind;
      front = kind_text array.kind ++ codes " ";
      back = (array.name ++ 91 ∷ []) ++ (dims_part ++ (codes "\n" ++ []));
      first = record { text_is = refl };
      second = record {
        a = (array.name, true);
        front = array.name ++ 91 ∷ [];
        back = dims_part ++ (codes "\n" ++ []);
        first = record {
          word = t.is.name;
          back = 91 ∷ [];
          mark = record { byte = 91; holds = tt; meant = refl; text_is = refl };
          text_is = refl;
        };
        second = record {
          a = array.dims;
          front = dims_part;
          back = codes "\n" ++ [];
          first = are;
          second = record {
            a = tt;
            front = codes "\n";
            back = [];
            first = record { text_is = refl };
            second = record { value = refl; text_is = refl };
            text_is = refl;
          };
          text_is = refl;
        };
        text_is = refl;
      };
      text_is = is;
    }

    by_dims : (dims : List Dim) → array.dims ≡ dims → GridArrayParts text array
    by_dims [] none = absurd (let some = t.some in omega (arith, some, ap length none))
    by_dims (dim ∷ more) is =
        let tail = dim_tail dim in
        let dims_part = tail.0 ++ (dims_text more ++ codes ";") in
        let whole : 91 ∷ dims_part ≡ dims_text (dim ∷ more) ++ codes ";" =
        ap (λ (l : List ℕ). l ++ (dims_text more ++ codes ";")) tail.1
        ∙ sym (append_assoc (dim_text dim) (dims_text more) (codes ";")) in
        parts dims_part
        (record {
          are = record { each = t.is.dims; few = t.is.few };
          some = t.some;
          text_is = whole ∙ ap (λ (l : List Dim). dims_text l ++ codes ";") (sym is);
        })
        (t.text_is
        ∙ ap (λ (l : List Dim). kind_text array.kind ++ codes " " ++ array.name ++ dims_text l ++ codes ";\n") is
        ∙ sym (grid_joined (kind_text array.kind) (codes " ") array.name (91 ∷ []) dims_part (dims_text (dim ∷ more))
        (codes ";") (codes "\n") whole))

pub ExactTo-grid_array : (n : ℕ) → ExactTo n IsGridArray grid_array_at
unfolding grid_array_at is_name_byte
ExactTo-grid_array n =
    ExactTo-as n GridArrayParts IsGridArray grid_array_at grid_array_whole grid_array_split
    (then_so n IsKind _ kind_at _ (ExactTo-kind n)
    (λ kind front s. then_so n (IsMarked is_name_byte 91 91) _ (word_at is_name_byte 91 91) _
    (ExactTo-word n is_name_byte 91 91 97 (record { at_first = refl; at_other = refl }) refl)
    (λ name front s. then_so n AreSomeDims _ some_dims_at _ (ExactTo-some_dims n)
    (λ dims front s. then_so n (IsFixed (codes "\n")) _ (fixed_at (codes "\n")) _ (ExactTo-fixed n (codes "\n"))
    (λ end front s. ExactTo-pure n (made kind name.0 dims))))))

-- the line of the map of a dimension
pub record IsMapLine (dim : Dim) (text : List ℕ) (map : Array) : Type 0 where
  pub is : map ≡ map_of dim map.kind
  pub text_is : text ≡ array_text 3 map

abbrev MapParts : Dim → List ℕ → Array → Type 0
MapParts dim = Then (IsFixed (indent 3)) (λ spaces. Then IsKind (λ kind. Then (IsFixed (map_end dim))
    (λ end. Is (map_of dim kind))))

map_joined : (spaces kind space name dim end : List ℕ)
    → spaces ++ ((kind ++ space) ++ ((name ++ dim ++ end) ++ []))
    ≡ spaces ++ kind ++ space ++ name ++ (dim ++ []) ++ end
map_joined spaces kind space name dim end = simp (append_assoc, append-nil)

map_text : (dim : Dim) (kind : DapKind)
    → indent 3 ++ ((kind_text kind ++ codes " ") ++ (map_end dim ++ [])) ≡ array_text 3 (map_of dim kind)
unfolding map_end array_text dims_text
map_text dim kind = map_joined (indent 3) (kind_text kind) (codes " ") dim.name (dim_text dim) (codes ";\n")

ExactTo-map : (n : ℕ) (dim : Dim) → ExactTo n (IsMapLine dim) (map_at dim)
unfolding map_at
ExactTo-map n dim =
    ExactTo-as n (MapParts dim) (IsMapLine dim) (map_at dim)
    (λ text map s.
    let kind = s.second.a in
    let last = s.second.second in
    let whole : text ≡ indent 3 ++ ((kind_text kind ++ codes " ") ++ (map_end dim ++ [])) =
    s.text_is
    ∙ ap₂ (λ (x y : List ℕ). x ++ y) s.first.text_is (s.second.text_is
    ∙ ap₂ (λ (x y : List ℕ). x ++ y) s.second.first.text_is (last.text_is
    ∙ ap₂ (λ (x y : List ℕ). x ++ y) last.first.text_is last.second.text_is)) in
    subst (IsMapLine dim text) last.second.value (record { is = refl; text_is = whole ∙ map_text dim kind }))
    (λ text map t. record {
      a = tt;
      front = indent 3;
      back = (kind_text map.kind ++ codes " ") ++ (map_end dim ++ []);
      first = record { text_is = refl };
      second = record {
        a = map.kind;
        front = kind_text map.kind ++ codes " ";
        back = map_end dim ++ [];
        first = record { text_is = refl };
        second = record {
          a = tt;
          front = map_end dim;
          back = [];
          first = record { text_is = refl };
          second = record { value = sym t.is; text_is = refl };
          text_is = refl;
        };
        text_is = refl;
      };
      text_is = t.text_is ∙ ap (array_text 3) t.is ∙ sym (map_text dim map.kind);
    })
    (then_so n (IsFixed (indent 3)) _ (fixed_at (indent 3)) _ (ExactTo-fixed n (indent 3))
    (λ spaces front s. then_so n IsKind _ kind_at _ (ExactTo-kind n)
    (λ kind front s. then_so n (IsFixed (map_end dim)) _ (fixed_at (map_end dim)) _ (ExactTo-fixed n (map_end dim))
    (λ end front s. ExactTo-pure n (map_of dim kind)))))

-- the lines of the maps of dimensions
pub record AreMapLines (dims : List Dim) (text : List ℕ) (maps : List Array) : Type 0 where
  pub are : AreMapsOf dims maps
  pub text_is : text ≡ arrays_text 3 maps

lines_of_each : (dims : List Dim) (text : List ℕ) (maps : List Array) → SpelledEach IsMapLine dims text maps
    → AreMapLines dims text maps
unfolding SpelledEach arrays_text
lines_of_each [] text [] s = record { are = tt; text_is = s }
lines_of_each [] text (map ∷ maps) s = absurd s
lines_of_each (dim ∷ dims) text [] s = absurd s
lines_of_each (dim ∷ dims) text (map ∷ maps) s =
    let others = lines_of_each dims s.1 maps s.3 in
    record {
      are = (s.2.is, others.are);
      text_is = s.4 ∙ ap₂ (λ (x y : List ℕ). x ++ y) s.2.text_is others.text_is;
    }

each_of_lines : (dims : List Dim) (text : List ℕ) (maps : List Array) → AreMapsOf dims maps → text ≡ arrays_text 3 maps
    → SpelledEach IsMapLine dims text maps
unfolding SpelledEach arrays_text
each_of_lines [] text [] are is = is
each_of_lines [] text (map ∷ maps) are is = absurd are
each_of_lines (dim ∷ dims) text [] are is = absurd are
each_of_lines (dim ∷ dims) text (map ∷ maps) are is = (
  array_text 3 map,
  arrays_text 3 maps,
  record { is = are.0; text_is = refl },
  each_of_lines dims (arrays_text 3 maps) maps are.1 refl,
  is,
)

no_doubt : (dims : List Dim) → AllByRecursion (λ (dim : Dim). Unit {0}) dims
no_doubt [] = tt
no_doubt (dim ∷ dims) = (tt, no_doubt dims)

pub ExactTo-maps : (n : ℕ) (dims : List Dim) → ExactTo n (AreMapLines dims) (maps_at dims)
unfolding maps_at
ExactTo-maps n dims =
    ExactTo-as n (EachMore IsMapLine dims []) (AreMapLines dims) (maps_at dims)
    (λ text maps s. subst (AreMapLines dims text) (sym s.all_is) (lines_of_each dims text s.more s.spelled))
    (λ text maps t. record { more = maps; all_is = refl; spelled = each_of_lines dims text maps t.are t.text_is })
    (ExactTo-each n IsMapLine map_at (λ dim. Unit {0}) (λ dim good. ExactTo-map n dim) dims (no_doubt dims) [])
