-- Grids are read exactly, behind the line that opens them.
use Rattle.std.proofs.Common.{◌≡◌, ℕ, List, [], ◌++◌, codes, refl, sym, ap₂, ◌∙◌, append_assoc, append-nil}
use Rattle.std.proofs.lemmas.List.{append_cancel_left}
use Rattle.fm_base.proofs.Exact.{Then, Is, onto}
use Rattle.dap_model.specs.declared.declaration.Array.{Array}
use Rattle.dap_model.specs.declared.declaration.Decl.{Decl}
use Rattle.dap_model.specs.declared.declaration.Decl.TheVariants.{Grid}
use Rattle.dap_model.specs.StructureText.{array_text, arrays_text, close_text, dims_text, grid_text, indent, kind_text, line_text}
use Rattle.dap_client.specs.Message.{IsGrid}
use Rattle.dap_client.specs.Reading.{fixed_at}
use Rattle.dap_client.specs.TextReading.{grid_array_at, grid_at, maps_at}
use Rattle.dap_client.proofs.Exactly.{ExactTo, ExactTo-as, ExactTo-pure}
use Rattle.dap_client.proofs.Joined.{then_so}
use Rattle.dap_client.proofs.Grids.{AreMapLines, ExactTo-grid_array, ExactTo-maps, IsGridArray}
use Rattle.dap_client.proofs.Fixed.{IsFixed, ExactTo-fixed}

-- a Grid behind the line that opens it
pub record IsGridRest (text : List ℕ) (decl : Decl) : Type 0 where
  pub array : Array
  pub maps : List Array
  pub decl_is : Grid array.name array maps ≡ decl
  pub is : IsGrid array.name array maps
  pub text_is : line_text 1 (codes "Grid {") ++ text ≡ grid_text 1 array.name array maps

abbrev above : List ℕ
above = line_text 2 (codes "ARRAY:") ++ indent 3

abbrev between : List ℕ
between = line_text 2 (codes "MAPS:")

abbrev GridParts : List ℕ → Decl → Type 0
GridParts = Then (IsFixed above) (λ lines. Then IsGridArray (λ array. Then (IsFixed between)
    (λ line. Then (AreMapLines array.dims) (λ maps. Then (IsFixed (close_text 1 array.name))
    (λ end. Is (Grid array.name array maps))))))

grid_joined : (opens line spaces kind space name dims end line_2 maps close : List ℕ)
    → opens ++ ((line ++ spaces) ++ ((kind ++ space ++ name ++ dims ++ end) ++ (line_2 ++ (maps ++ (close ++ [])))))
    ≡ opens ++ line ++ (spaces ++ kind ++ space ++ name ++ dims ++ end) ++ line_2 ++ maps ++ close
grid_joined opens line spaces kind space name dims end line_2 maps close = simp (append_assoc, append-nil)

grid_whole : (array : Array) (maps : List Array)
    → line_text 1 (codes "Grid {") ++ (above
    ++ ((kind_text array.kind ++ codes " " ++ array.name ++ dims_text array.dims ++ codes ";\n")
    ++ (between ++ (arrays_text 3 maps ++ (close_text 1 array.name ++ [])))))
    ≡ grid_text 1 array.name array maps
unfolding grid_text array_text
grid_whole array maps =
    grid_joined (line_text 1 (codes "Grid {")) (line_text 2 (codes "ARRAY:")) (indent 3) (kind_text array.kind)
    (codes " ") array.name (dims_text array.dims) (codes ";\n") between (arrays_text 3 maps) (close_text 1 array.name)

pub ExactTo-grid : (n : ℕ) → ExactTo n IsGridRest grid_at
unfolding grid_at
ExactTo-grid n =
    ExactTo-as n GridParts IsGridRest grid_at
    (λ text decl s.
    let array = s.second in
    let line = array.second in
    let maps = line.second in
    let close = maps.second in
    let whole = s.text_is
    ∙ ap₂ (λ (x y : List ℕ). x ++ y) s.first.text_is (array.text_is
    ∙ ap₂ (λ (x y : List ℕ). x ++ y) array.first.text_is (line.text_is
    ∙ ap₂ (λ (x y : List ℕ). x ++ y) line.first.text_is (maps.text_is
    ∙ ap₂ (λ (x y : List ℕ). x ++ y) maps.first.text_is (close.text_is
    ∙ ap₂ (λ (x y : List ℕ). x ++ y) close.first.text_is close.second.text_is)))) in
    record {
      array = array.a;
      maps = maps.a;
      decl_is = close.second.value;
      is = record {
        name_is = refl;
        array_is = array.first.is;
        some = array.first.some;
        maps_are = maps.first.are;
      };
      text_is = onto (line_text 1 (codes "Grid {")) whole ∙ grid_whole array.a maps.a;
    })
    (λ text decl t.
    let array = t.array in
    let kind = kind_text array.kind ++ codes " " ++ array.name ++ dims_text array.dims ++ codes ";\n" in
    let close = close_text 1 array.name in
    let maps = arrays_text 3 t.maps in
    let whole : line_text 1 (codes "Grid {") ++ text
    ≡ line_text 1 (codes "Grid {") ++ (above ++ (kind ++ (between ++ (maps ++ (close ++ []))))) =
    t.text_is ∙ sym (grid_whole array t.maps) in
    record {
      a = tt;
      front = above;
      back = kind ++ (between ++ (maps ++ (close ++ [])));
      first = record { text_is = refl };
      second = record {
        a = array;
        front = kind;
        back = between ++ (maps ++ (close ++ []));
        first = record { is = t.is.array_is; some = t.is.some; text_is = refl };
        second = record {
          a = tt;
          front = between;
          back = maps ++ (close ++ []);
          first = record { text_is = refl };
          second = record {
            a = t.maps;
            front = maps;
            back = close ++ [];
            first = record { are = t.is.maps_are; text_is = refl };
            second = record {
              a = tt;
              front = close;
              back = [];
              first = record { text_is = refl };
              second = record { value = t.decl_is; text_is = refl };
              text_is = refl;
            };
            text_is = refl;
          };
          text_is = refl;
        };
        text_is = refl;
      };
      text_is = append_cancel_left (line_text 1 (codes "Grid {")) _ _ whole;
    })
    (then_so n (IsFixed above) _ (fixed_at above) _ (ExactTo-fixed n above)
    (λ lines front s. then_so n IsGridArray _ grid_array_at _ (ExactTo-grid_array n)
    (λ array front s. then_so n (IsFixed between) _ (fixed_at between) _ (ExactTo-fixed n between)
    (λ line front s. then_so n (AreMapLines array.dims) _ (maps_at array.dims) _ (ExactTo-maps n array.dims)
    (λ maps front s. then_so n (IsFixed (close_text 1 array.name)) _ (fixed_at (close_text 1 array.name)) _
    (ExactTo-fixed n (close_text 1 array.name))
    (λ end front s. ExactTo-pure n (Grid array.name array maps)))))))
