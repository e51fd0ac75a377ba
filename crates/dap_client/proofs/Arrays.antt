-- The lines of arrays and of maps are read exactly.
use Rattle.std.proofs.Common.{◌≡◌, ℕ, Bool, true, false, cond, List, [], ◌∷◌, ◌++◌, length, codes, decimal, refl, sym, ap, ap₂, subst, ◌∙◌, append_assoc, append-nil, arith}
use Rattle.fm_base.specs.Name.{is_name_byte}
use Rattle.fm_base.proofs.Exact.{Then, Is, onto}
use Rattle.nc_model.specs.declared.header.Dim.{Dim}
use Rattle.nc_model.specs.Layout.{product}
use Rattle.dap_model.specs.declared.declaration.Array.{Array}
use Rattle.dap_model.specs.declared.declaration.DapKind.{DapKind}
use Rattle.dap_model.specs.StructureText.{dim_text, dims_text}
use Rattle.dap_client.specs.Message.{IsArray}
use Rattle.dap_client.specs.Reading.{fixed_at, word_at}
use Rattle.dap_client.specs.TextReading.{array_at, dims_at}
use Rattle.dap_client.proofs.Dimensions.{AreDimsBehind, ExactTo-dims}
use Rattle.dap_client.proofs.Exactly.{ExactTo, ExactTo-as, ExactTo-pure}
use Rattle.dap_client.proofs.Joined.{then_so}
use Rattle.dap_client.proofs.Leaves.{IsMark, mark_of, mark_text}
use Rattle.dap_client.proofs.Fixed.{IsFixed, ExactTo-fixed}
use Rattle.dap_client.proofs.Words.{IsMarked, ExactTo-word}

-- an array of a kind behind it, and the end of its line
pub record IsLine (kind : DapKind) (text : List ℕ) (array : Array) : Type 0 where
  pub kind_is : kind ≡ array.kind
  pub is : IsArray array
  pub text_is : text ≡ array.name ++ dims_text array.dims ++ codes ";\n"

-- an array of this kind with this name and these dimensions
abbrev made : DapKind → List ℕ → List Dim → Array
made kind name dims = record { name = name; kind = kind; dims = dims }

abbrev LineParts : DapKind → List ℕ → Array → Type 0
LineParts kind = Then (IsMarked is_name_byte 91 59) (λ name. Then (AreDimsBehind name.1)
    (λ dims. Then (IsFixed (codes "\n")) (λ end. Is (made kind name.0 dims))))

joined : (name mark dims whole end line : List ℕ) → mark ++ dims ≡ whole ++ end
    → (name ++ mark) ++ (dims ++ (line ++ [])) ≡ name ++ whole ++ (end ++ line)
joined name mark dims whole end line e =
    append_assoc name mark (dims ++ (line ++ []))
    ∙ onto name (sym (append_assoc mark dims (line ++ [])) ∙ ap (λ (l : List ℕ). l ++ (line ++ [])) e
    ∙ append_assoc whole end (line ++ []) ∙ ap (λ (l : List ℕ). whole ++ (end ++ l)) (append-nil line))
    ∙ sym (append_assoc name whole (end ++ line))

line_whole : (kind : DapKind) (text : List ℕ) (array : Array) → LineParts kind text array → IsLine kind text array
unfolding AreDimsBehind dims_text product
line_whole kind text array s = by_more s.a.1 s.first.mark s.second.first
  where
    whole : (mark : List ℕ) → s.first.back ≡ mark
        → text ≡ (s.a.0 ++ mark) ++ (s.second.front ++ (codes "\n" ++ []))
    whole mark is = s.text_is
        ∙ ap₂ (λ (x y : List ℕ). x ++ y) (s.first.text_is ∙ onto s.a.0 is)
        (s.second.text_is ∙ onto s.second.front (s.second.second.text_is
        ∙ ap₂ (λ (x y : List ℕ). x ++ y) s.second.second.first.text_is s.second.second.second.text_is))

    line : IsArray (made kind s.a.0 s.second.a)
        → text ≡ s.a.0 ++ dims_text s.second.a ++ codes ";\n" → IsLine kind text array
    line is text_is = subst (IsLine kind text) s.second.second.second.value
        (record { kind_is = refl; is = is; text_is = text_is })

    by_more : (more : Bool) → IsMark 91 59 s.first.back more → AreDimsBehind more s.second.front s.second.a
        → IsLine kind text array
    by_more true mark some =
        line (record { name = s.first.word; dims = some.are.each; few = some.are.few })
        (whole (91 ∷ []) (mark_text 91 59 s.first.back true mark)
        ∙ joined s.a.0 (91 ∷ []) s.second.front (dims_text s.second.a) (codes ";") (codes "\n") some.text_is)
    by_more false mark none =
        line (subst (λ (l : List Dim). IsArray (made kind s.a.0 l)) none.value
        (record { name = s.first.word; dims = tt; few = omega arith }))
        (whole (59 ∷ []) (mark_text 91 59 s.first.back false mark)
        ∙ joined s.a.0 (59 ∷ []) s.second.front (dims_text s.second.a) (codes ";") (codes "\n")
        (ap (λ (l : List ℕ). 59 ∷ l) none.text_is
        ∙ ap (λ (l : List Dim). dims_text l ++ codes ";") none.value))

line_split : (kind : DapKind) (text : List ℕ) (array : Array) → IsLine kind text array → LineParts kind text array
unfolding AreDimsBehind dims_text dim_text
line_split kind text array t = by_dims array.dims refl
  where
    parts : (more : Bool) (dims_part : List ℕ) → AreDimsBehind more dims_part array.dims
        → text ≡ (array.name ++ (cond more 91 59 ∷ [])) ++ (dims_part ++ (codes "\n" ++ []))
        → LineParts kind text array
    parts more dims_part are is = record {
      a = (array.name, more);
      front = array.name ++ (cond more 91 59 ∷ []);
      back = dims_part ++ (codes "\n" ++ []);
      first = record {
        word = t.is.name;
        back = cond more 91 59 ∷ [];
        mark = mark_of 91 59 refl more;
        text_is = refl;
      };
      second = record {
        a = array.dims;
        front = dims_part;
        back = codes "\n" ++ [];
        first = are;
        second = record {
          a = tt;
          front = codes "\n";
          back = [];
          first = record { text_is = refl };
          second = record {
            value = ap (λ (k : DapKind). made k array.name array.dims) t.kind_is;
            text_is = refl;
          };
          text_is = refl;
        };
        text_is = refl;
      };
      text_is = is;
    }

    by_dims : (dims : List Dim) → array.dims ≡ dims → LineParts kind text array
    by_dims [] none =
        parts false [] (record { value = sym none; text_is = refl })
        (t.text_is ∙ ap (λ (l : List Dim). array.name ++ dims_text l ++ codes ";\n") none
        ∙ sym (joined array.name (59 ∷ []) [] [] (codes ";") (codes "\n") refl))
    by_dims (dim ∷ more) is =
        let tail = dim.name ++ codes " = " ++ decimal dim.size ++ codes "]" in
        let dims_part = tail ++ (dims_text more ++ codes ";") in
        let first : 91 ∷ tail ≡ dim_text dim = simp append_assoc in
        let whole : 91 ∷ dims_part ≡ dims_text (dim ∷ more) ++ codes ";" =
        ap (λ (l : List ℕ). l ++ (dims_text more ++ codes ";")) first
        ∙ sym (append_assoc (dim_text dim) (dims_text more) (codes ";")) in
        parts true dims_part
        (record {
          are = record { each = t.is.dims; few = t.is.few };
          some = omega (arith, ap length is);
          text_is = whole ∙ ap (λ (l : List Dim). dims_text l ++ codes ";") (sym is);
        })
        (t.text_is ∙ ap (λ (l : List Dim). array.name ++ dims_text l ++ codes ";\n") is
        ∙ sym (joined array.name (91 ∷ []) dims_part (dims_text (dim ∷ more)) (codes ";") (codes "\n") whole))

-- the line of an array behind its kind is read exactly
pub ExactTo-array : (n : ℕ) (kind : DapKind) → ExactTo n (IsLine kind) (array_at kind)
unfolding array_at is_name_byte
ExactTo-array n kind =
    ExactTo-as n (LineParts kind) (IsLine kind) (array_at kind) (line_whole kind) (line_split kind)
    (then_so n (IsMarked is_name_byte 91 59) _ (word_at is_name_byte 91 59) _
    (ExactTo-word n is_name_byte 91 59 97 (record { at_first = refl; at_other = refl }) refl)
    (λ name front s. then_so n (AreDimsBehind name.1) _ (dims_at name.1) _ (ExactTo-dims n name.1)
    (λ dims front s. then_so n (IsFixed (codes "\n")) _ (fixed_at (codes "\n")) _ (ExactTo-fixed n (codes "\n"))
    (λ end front s. ExactTo-pure n (made kind name.0 dims)))))
