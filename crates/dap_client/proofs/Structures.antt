-- Structures are read exactly, behind the line that opens them.
use Rattle.std.proofs.Common.{◌≡◌, ℕ, true, List, [], ◌∷◌, ◌++◌, length, codes, refl, sym, ap, ap₂, subst, ◌∙◌, append_assoc, append-nil, arith}
use Rattle.std.specs.List.{AllByRecursion}
use Rattle.fm_base.specs.Name.{is_name_byte}
use Rattle.fm_base.proofs.Exact.{Then, Is, onto}
use Rattle.dap_model.specs.declared.declaration.Array.{Array}
use Rattle.dap_model.specs.declared.declaration.Decl.{Decl}
use Rattle.dap_model.specs.declared.declaration.Decl.TheVariants.{Structure}
use Rattle.dap_model.specs.StructureText.{array_text, arrays_text, close_text, indent}
use Rattle.dap_client.specs.Message.{IsArray, IsStructure}
use Rattle.dap_client.specs.Reading.{fixed_at, items_at, word_at}
use Rattle.dap_client.specs.TextReading.{member_at, member_mark_at, structure_at}
use Rattle.dap_client.proofs.OneDimension.{only_mark}
use Rattle.dap_client.proofs.Exactly.{ExactTo, ExactTo-as, ExactTo-pure}
use Rattle.dap_client.proofs.Joined.{then_so}
use Rattle.dap_client.proofs.Fixed.{IsFixed, ExactTo-fixed}
use Rattle.dap_client.proofs.Many.{AreMany, ExactTo-items}
use Rattle.dap_client.proofs.Members.{ExactTo-member, ExactTo-member_mark, IsMemberMark, IsMemberMore, adds_of_many, many_of_adds, member_loop, member_tail}
use Rattle.dap_client.proofs.Words.{IsMarked, ExactTo-word}

-- a Structure behind the line that opens it
pub record IsStructureRest (text : List ℕ) (decl : Decl) : Type 0 where
  pub name : List ℕ
  pub members : List Array
  pub decl_is : Structure name members ≡ decl
  pub is : IsStructure name members
  pub text_is : text ≡ arrays_text 2 members ++ close_text 1 name

abbrev StructureParts : List ℕ → Decl → Type 0
StructureParts = Then (IsFixed (codes "     ")) (λ spaces. Then (IsMemberMore []) (λ first.
    Then (AreMany IsMemberMark IsMemberMore first) (λ members. Then (IsFixed (codes " ")) (λ space.
    Then (IsMarked is_name_byte 59 59) (λ name. Then (IsFixed (codes "\n")) (λ end. Is (Structure name.0 members)))))))

structure_joined : (five tail others brace space name semicolon line first : List ℕ) → five ++ tail ≡ first
    → five ++ (tail ++ ((others ++ brace) ++ (space ++ ((name ++ semicolon) ++ (line ++ [])))))
    ≡ (first ++ others) ++ (brace ++ space ++ name ++ (semicolon ++ line))
structure_joined five tail others brace space name semicolon line first e =
    sym (append_assoc five tail ((others ++ brace) ++ (space ++ ((name ++ semicolon) ++ (line ++ [])))))
    ∙ ap (λ (l : List ℕ). l ++ ((others ++ brace) ++ (space ++ ((name ++ semicolon) ++ (line ++ []))))) e
    ∙ simp (append_assoc, append-nil)

structure_whole : (text : List ℕ) (decl : Decl) → StructureParts text decl → IsStructureRest text decl
unfolding arrays_text close_text indent
structure_whole text decl s =
    let first = s.second in
    let others = first.second in
    let space = others.second in
    let name = space.second in
    let end = name.second in
    let more = adds_of_many others.first.count first.a others.front others.a others.first.spelled in
    let all : first.first.member ∷ more.more ≡ others.a =
    ap (λ (l : List Array). l ++ more.more) first.first.all_is ∙ more.all_is in
    let whole = s.text_is
    ∙ ap₂ (λ (x y : List ℕ). x ++ y) s.first.text_is (first.text_is
    ∙ onto first.front (others.text_is
    ∙ ap₂ (λ (x y : List ℕ). x ++ y) more.text_is (space.text_is
    ∙ ap₂ (λ (x y : List ℕ). x ++ y) space.first.text_is (name.text_is
    ∙ ap₂ (λ (x y : List ℕ). x ++ y)
    (name.first.text_is ∙ onto name.a.0 (only_mark 59 name.first.back name.a.1 name.first.mark)) (end.text_is
    ∙ ap₂ (λ (x y : List ℕ). x ++ y) end.first.text_is end.second.text_is))))) in
    record {
      name = name.a.0;
      members = others.a;
      decl_is = end.second.value;
      is = record {
        name_is = name.first.word;
        some = omega (arith, ap length all);
        members_are = subst (AllByRecursion IsArray) all (first.first.is, more.are);
      };
      text_is = whole
          ∙ structure_joined (codes "     ") first.front (arrays_text 2 more.more) (codes "    }") (codes " ")
          name.a.0 (codes ";") (codes "\n") (array_text 2 first.first.member) first.first.text_is
          ∙ ap (λ (l : List Array). arrays_text 2 l ++ close_text 1 name.a.0) all;
    }

structure_split : (text : List ℕ) (decl : Decl) → IsStructureRest text decl → StructureParts text decl
unfolding arrays_text close_text indent
structure_split text decl t = by_members t.members refl
  where
    by_members : (members : List Array) → t.members ≡ members → StructureParts text decl
    by_members [] none = absurd (let some = t.is.some in omega (arith, some, ap length none))
    by_members (member ∷ more) is =
        let are : AllByRecursion IsArray (member ∷ more) = subst (AllByRecursion IsArray) is t.is.members_are in
        let tail = member_tail member in
        let rest = arrays_text 2 more ++ (indent 1 ++ codes "}") in
        let behind = codes " " ++ ((t.name ++ 59 ∷ []) ++ (codes "\n" ++ [])) in
        record {
          a = tt;
          front = codes "     ";
          back = tail.0 ++ (rest ++ behind);
          first = record { text_is = refl };
          second = record {
            a = member ∷ [];
            front = tail.0;
            back = rest ++ behind;
            first = record { member = member; is = are.0; all_is = refl; text_is = tail.1 };
            second = record {
              a = member ∷ more;
              front = rest;
              back = behind;
              first = many_of_adds (member ∷ []) rest (member ∷ more) more are.1 refl refl;
              second = record {
                a = tt;
                front = codes " ";
                back = (t.name ++ 59 ∷ []) ++ (codes "\n" ++ []);
                first = record { text_is = refl };
                second = record {
                  a = (t.name, true);
                  front = t.name ++ 59 ∷ [];
                  back = codes "\n" ++ [];
                  first = record {
                    word = t.is.name_is;
                    back = 59 ∷ [];
                    mark = record { byte = 59; holds = tt; meant = refl; text_is = refl };
                    text_is = refl;
                  };
                  second = record {
                    a = tt;
                    front = codes "\n";
                    back = [];
                    first = record { text_is = refl };
                    second = record {
                      value = ap (λ (l : List Array). Structure t.name l) (sym is) ∙ t.decl_is;
                      text_is = refl;
                    };
                    text_is = refl;
                  };
                  text_is = refl;
                };
                text_is = refl;
              };
              text_is = refl;
            };
            text_is = refl;
          };
          text_is = t.text_is
              ∙ ap (λ (l : List Array). arrays_text 2 l ++ close_text 1 t.name) is
              ∙ sym (structure_joined (codes "     ") tail.0 (arrays_text 2 more) (codes "    }") (codes " ")
              t.name (codes ";") (codes "\n") (array_text 2 member) tail.1);
        }

pub ExactTo-structure : (n : ℕ) → ExactTo n IsStructureRest structure_at
unfolding structure_at is_name_byte
ExactTo-structure n =
    ExactTo-as n StructureParts IsStructureRest structure_at structure_whole structure_split
    (then_so n (IsFixed (codes "     ")) _ (fixed_at (codes "     ")) _ (ExactTo-fixed n (codes "     "))
    (λ spaces front s. then_so n (IsMemberMore []) _ (member_at []) _ (ExactTo-member n [])
    (λ first front s. then_so n (AreMany IsMemberMark IsMemberMore first) _ (items_at member_mark_at member_at first) _
    (ExactTo-items n IsMemberMark IsMemberMore (λ found. Unit {0}) member_mark_at member_at member_loop
    ExactTo-member_mark (λ m found good. ExactTo-member m found) first tt)
    (λ members front s. then_so n (IsFixed (codes " ")) _ (fixed_at (codes " ")) _ (ExactTo-fixed n (codes " "))
    (λ space front s. then_so n (IsMarked is_name_byte 59 59) _ (word_at is_name_byte 59 59) _
    (ExactTo-word n is_name_byte 59 59 97 (record { at_first = refl; at_other = refl }) refl)
    (λ name front s. then_so n (IsFixed (codes "\n")) _ (fixed_at (codes "\n")) _ (ExactTo-fixed n (codes "\n"))
    (λ end front s. ExactTo-pure n (Structure name.0 members))))))))
