-- Declarations are read exactly.
use Rattle.std.proofs.Common.{◌≡◌, ℕ, zero, suc, true, false, List, [], ◌∷◌, ◌++◌, length, codes, refl, sym, ap, ap₂, subst, ◌∙◌, append_assoc, append-nil, drop, arith}
use Rattle.std.specs.List.{AllByRecursion}
use Rattle.fm_base.proofs.Exact.{Then, Is, onto}
use Rattle.dap_model.specs.declared.declaration.Array.{Array}
use Rattle.dap_model.specs.declared.declaration.DapKind.{DapKind}
use Rattle.dap_model.specs.declared.declaration.Decl.{Decl}
use Rattle.dap_model.specs.declared.declaration.Decl.TheVariants.{Plain, Grid, Structure}
use Rattle.dap_model.specs.StructureText.{array_text, arrays_text, close_text, decl_text, decls_text, dims_text, grid_text, indent, kind_text, line_text, structure_text}
use Rattle.dap_client.specs.declared.opening.Opening.{Opening}
use Rattle.dap_client.specs.declared.opening.Opening.TheVariants as openings
use Rattle.dap_client.specs.Message.{IsDecl}
use Rattle.dap_client.specs.Reading.{fixed_at}
use Rattle.dap_client.specs.TextReading.{array_at, decl_at, opened_at, opening_at}
use Rattle.dap_client.proofs.Arrays.{IsLine, ExactTo-array}
use Rattle.dap_client.proofs.Exactly.{ExactTo, ExactTo-as, ExactTo-pure}
use Rattle.dap_client.proofs.Joined.{ExactTo-made, then_so}
use Rattle.dap_client.proofs.Leaves.{IsMark, mark_of, mark_text}
use Rattle.dap_client.proofs.Fixed.{IsFixed, ExactTo-fixed}
use Rattle.dap_client.proofs.Many.{AreMany, IsLoop, Many}
use Rattle.dap_client.proofs.Openings.{IsOpening, ExactTo-opening, opening_text}
use Rattle.dap_client.proofs.Structures.{IsStructureRest, ExactTo-structure}
use Rattle.dap_client.proofs.WholeGrids.{IsGridRest, ExactTo-grid}

-- the line of a plain array behind its kind, as a declaration
pub record IsPlainRest (kind : DapKind) (text : List ℕ) (decl : Decl) : Type 0 where
  pub array : Array
  pub decl_is : Plain array ≡ decl
  pub line : IsLine kind text array

-- a declaration behind what opens it
unfoldable pub IsRest : Opening → List ℕ → Decl → Type 0
IsRest (openings.Plain kind) = IsPlainRest kind
IsRest openings.Grid = IsGridRest
IsRest openings.Structure = IsStructureRest

ExactTo-opened : (n : ℕ) (opening : Opening) → ExactTo n (IsRest opening) (opened_at opening)
unfolding opened_at IsRest
ExactTo-opened n (openings.Plain kind) =
    ExactTo-made n (IsLine kind) (IsPlainRest kind) (array_at kind) Plain
    (λ text array s. record { array = array; decl_is = refl; line = s })
    (λ text decl t. (t.array, t.line, t.decl_is))
    (ExactTo-array n kind)
ExactTo-opened n openings.Grid = ExactTo-grid n
ExactTo-opened n openings.Structure = ExactTo-structure n

-- a declaration more behind its first space
pub record IsDeclMore (found : List Decl) (text : List ℕ) (all : List Decl) : Type 0 where
  pub decl : Decl
  pub is : IsDecl decl
  pub all_is : found ++ decl ∷ [] ≡ all
  pub text_is : 32 ∷ text ≡ decl_text 1 decl

abbrev DeclParts : List Decl → List ℕ → List Decl → Type 0
DeclParts found = Then (IsFixed (codes "   ")) (λ spaces. Then IsOpening (λ opening. Then (IsRest opening)
    (λ decl. Is (found ++ decl ∷ []))))

-- a declaration from what opens it and the rest
record DeclOf (opening : Opening) (rest : List ℕ) (decl : Decl) : Type 0 where
  is : IsDecl decl
  text_is : 32 ∷ (codes "   " ++ (opening_text opening ++ rest)) ≡ decl_text 1 decl

plain_joined : (spaces kind space name dims end : List ℕ)
    → spaces ++ ((kind ++ space) ++ (name ++ dims ++ end)) ≡ spaces ++ kind ++ space ++ name ++ dims ++ end
plain_joined spaces kind space name dims end = simp append_assoc

decl_of : (opening : Opening) (rest : List ℕ) (decl : Decl) → IsRest opening rest decl → DeclOf opening rest decl
unfolding IsRest opening_text decl_text array_text structure_text line_text indent
decl_of (openings.Plain kind) rest decl s =
    subst (DeclOf (openings.Plain kind) rest) s.decl_is (record {
      is = s.line.is;
      text_is = ap (λ (l : List ℕ). codes "    " ++ ((kind_text kind ++ codes " ") ++ l)) s.line.text_is
          ∙ plain_joined (codes "    ") (kind_text kind) (codes " ") s.array.name (dims_text s.array.dims) (codes ";\n")
          ∙ ap (λ (k : DapKind). codes "    " ++ kind_text k ++ codes " " ++ s.array.name ++ dims_text s.array.dims
          ++ codes ";\n") s.line.kind_is;
    })
decl_of openings.Grid rest decl s =
    subst (DeclOf openings.Grid rest) s.decl_is (record { is = s.is; text_is = s.text_is })
decl_of openings.Structure rest decl s =
    subst (DeclOf openings.Structure rest) s.decl_is (record {
      is = s.is;
      text_is = ap (λ (l : List ℕ). codes "    Structure {\n" ++ l) s.text_is
          ∙ sym (append_assoc (codes "    Structure {\n") (arrays_text 2 s.members) (close_text 1 s.name));
    })

-- what opens a declaration, and the rest of it
record OpeningOf (decl : Decl) : Type 0 where
  opening : Opening
  rest : List ℕ
  is : IsRest opening rest decl
  text_is : 32 ∷ (codes "   " ++ (opening_text opening ++ rest)) ≡ decl_text 1 decl

grid_joined : (a b c d e f : List ℕ) → a ++ (b ++ (c ++ (d ++ (e ++ f)))) ≡ a ++ b ++ c ++ d ++ e ++ f
grid_joined a b c d e f = simp append_assoc

opening_of : (decl : Decl) → IsDecl decl → OpeningOf decl
unfolding IsRest opening_text decl_text array_text grid_text structure_text line_text indent
opening_of (Plain array) is = record {
  opening = openings.Plain array.kind;
  rest = array.name ++ dims_text array.dims ++ codes ";\n";
  is = record { array = array; decl_is = refl; line = record { kind_is = refl; is = is; text_is = refl } };
  text_is =
      plain_joined (codes "    ") (kind_text array.kind) (codes " ") array.name (dims_text array.dims) (codes ";\n");
}
opening_of (Grid name array maps) is =
    let rest = line_text 2 (codes "ARRAY:") ++ (array_text 3 array ++ (line_text 2 (codes "MAPS:")
    ++ (arrays_text 3 maps ++ close_text 1 array.name))) in
    let whole : codes "    Grid {\n" ++ rest ≡ grid_text 1 array.name array maps =
    grid_joined (codes "    Grid {\n") (line_text 2 (codes "ARRAY:")) (array_text 3 array)
    (line_text 2 (codes "MAPS:")) (arrays_text 3 maps) (close_text 1 array.name) in
    record {
      opening = openings.Grid;
      rest = rest;
      is = record {
        array = array;
        maps = maps;
        decl_is = ap (λ (n : List ℕ). Grid n array maps) (sym is.name_is);
        is = record { name_is = refl; array_is = is.array_is; some = is.some; maps_are = is.maps_are };
        text_is = whole;
      };
      text_is = whole ∙ ap (λ (n : List ℕ). grid_text 1 n array maps) (sym is.name_is);
    }
opening_of (Structure name members) is = record {
  opening = openings.Structure;
  rest = arrays_text 2 members ++ close_text 1 name;
  is = record { name = name; members = members; decl_is = refl; is = is; text_is = refl };
  text_is = sym (append_assoc (codes "    Structure {\n") (arrays_text 2 members) (close_text 1 name));
}

pub ExactTo-decl : (n : ℕ) (found : List Decl) → ExactTo n (IsDeclMore found) (decl_at found)
unfolding decl_at
ExactTo-decl n found =
    ExactTo-as n (DeclParts found) (IsDeclMore found) (decl_at found)
    (λ text all s.
    let opening = s.second in
    let decl = opening.second in
    let of = decl_of opening.a decl.front decl.a decl.first in
    let whole = s.text_is
    ∙ ap₂ (λ (x y : List ℕ). x ++ y) s.first.text_is (opening.text_is
    ∙ ap₂ (λ (x y : List ℕ). x ++ y) opening.first.text_is (decl.text_is
    ∙ onto decl.front decl.second.text_is ∙ append-nil decl.front)) in
    record {
      decl = decl.a;
      is = of.is;
      all_is = decl.second.value;
      text_is = ap (λ (l : List ℕ). 32 ∷ l) whole ∙ of.text_is;
    })
    (λ text all t.
    let of = opening_of t.decl t.is in
    let whole : 32 ∷ text ≡ 32 ∷ (codes "   " ++ (opening_text of.opening ++ (of.rest ++ []))) =
    t.text_is ∙ sym of.text_is
    ∙ ap (λ (l : List ℕ). 32 ∷ (codes "   " ++ (opening_text of.opening ++ l))) (sym (append-nil of.rest)) in
    record {
      a = tt;
      front = codes "   ";
      back = opening_text of.opening ++ (of.rest ++ []);
      first = record { text_is = refl };
      second = record {
        a = of.opening;
        front = opening_text of.opening;
        back = of.rest ++ [];
        first = record { text_is = refl };
        second = record {
          a = t.decl;
          front = of.rest;
          back = [];
          first = of.is;
          second = record { value = t.all_is; text_is = refl };
          text_is = refl;
        };
        text_is = refl;
      };
      text_is = ap (λ (l : List ℕ). drop 1 l) whole;
    })
    (then_so n (IsFixed (codes "   ")) _ (fixed_at (codes "   ")) _ (ExactTo-fixed n (codes "   "))
    (λ spaces front s. then_so n IsOpening _ opening_at _ (ExactTo-opening n)
    (λ opening front s. then_so n (IsRest opening) (λ decl. Is (found ++ decl ∷ [])) (opened_at opening) _
    (ExactTo-opened n opening)
    (λ decl front s. ExactTo-pure n (found ++ decl ∷ [])))))

pub decl_loop : IsLoop (IsMark 32 125) IsDeclMore (λ found. Unit {0})
decl_loop = record {
  some = λ text more s. omega (arith, ap length s.text_is);
  end = 125 ∷ [];
  ends = mark_of 32 125 refl false;
  keeps = λ found next text good s. tt;
}

-- declarations more, up to the brace
pub record AddsDecls (found : List Decl) (text : List ℕ) (all : List Decl) : Type 0 where
  pub more : List Decl
  pub are : AllByRecursion IsDecl more
  pub all_is : found ++ more ≡ all
  pub text_is : text ≡ decls_text 1 more ++ codes "}"

pub adds_of_many : (n : ℕ) (found : List Decl) (text : List ℕ) (all : List Decl)
    → Many (IsMark 32 125) IsDeclMore n found text all → AddsDecls found text all
unfolding Many decls_text
adds_of_many zero found text all s =
    record { more = []; are = tt; all_is = append-nil found ∙ s.1; text_is = mark_text 32 125 text false s.0 }
adds_of_many (suc n) found text all s =
    let decl = s.5.decl in
    let others = adds_of_many n s.3 s.2 all s.6 in
    record {
      more = decl ∷ others.more;
      are = (s.5.is, others.are);
      all_is = sym (append_assoc found (decl ∷ []) others.more)
          ∙ ap (λ (l : List Decl). l ++ others.more) s.5.all_is ∙ others.all_is;
      text_is = s.7
          ∙ ap₂ (λ (x y : List ℕ). x ++ (s.1 ++ y)) (mark_text 32 125 s.0 true s.4) others.text_is
          ∙ ap (λ (l : List ℕ). l ++ (decls_text 1 others.more ++ codes "}")) s.5.text_is
          ∙ sym (append_assoc (decl_text 1 decl) (decls_text 1 others.more) (codes "}"));
    }

pub many_of_adds : (found : List Decl) (text : List ℕ) (all more : List Decl) → AllByRecursion IsDecl more
    → found ++ more ≡ all → text ≡ decls_text 1 more ++ codes "}"
    → AreMany (IsMark 32 125) IsDeclMore found text all
unfolding Many decls_text
many_of_adds found text all [] are is text_is = record {
  count = 0;
  spelled = (
    subst (λ (l : List ℕ). IsMark 32 125 l false) (sym text_is) (mark_of 32 125 refl false),
    sym (append-nil found) ∙ is,
  );
}
many_of_adds found text all (decl ∷ more) are is text_is =
    let next = found ++ decl ∷ [] in
    let of = opening_of decl are.0 in
    let tail = codes "   " ++ (opening_text of.opening ++ of.rest) in
    let rest = decls_text 1 more ++ codes "}" in
    let others = many_of_adds next rest all more are.1 (append_assoc found (decl ∷ []) more ∙ is) refl in
    record {
      count = suc others.count;
      spelled = (
        32 ∷ [],
        tail,
        rest,
        next,
        mark_of 32 125 refl true,
        record { decl = decl; is = are.0; all_is = refl; text_is = of.text_is },
        others.spelled,
        text_is ∙ append_assoc (decl_text 1 decl) (decls_text 1 more) (codes "}")
            ∙ ap (λ (l : List ℕ). l ++ rest) (sym of.text_is),
      );
    }
