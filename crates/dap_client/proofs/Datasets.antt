-- The whole structure text is read exactly.
use Rattle.std.proofs.Common.{◌≡◌, ℕ, true, List, [], ◌++◌, codes, refl, sym, ap, ap₂, subst, ◌∙◌, append_assoc, append-nil}
use Rattle.std.specs.List.{AllByRecursion}
use Rattle.fm_base.specs.Name.{is_name_byte}
use Rattle.fm_base.proofs.Exact.{Then, Is, onto}
use Rattle.dap_model.specs.declared.declaration.Decl.{Decl}
use Rattle.dap_model.specs.StructureText.{close_text, dds_of, decls_text, indent, line_text}
use Rattle.dap_client.specs.Message.{IsDecl, IsWord, is_label_byte}
use Rattle.dap_client.specs.Reading.{fixed_at, items_at, mark_at, word_at}
use Rattle.dap_client.specs.TextReading.{dataset_at, decl_at}
use Rattle.dap_client.proofs.Declarations.{ExactTo-decl, IsDeclMore, adds_of_many, decl_loop, many_of_adds}
use Rattle.dap_client.proofs.OneDimension.{only_mark}
use Rattle.dap_client.proofs.Exactly.{ExactTo, ExactTo-as, ExactTo-pure}
use Rattle.dap_client.proofs.Joined.{then_so}
use Rattle.dap_client.proofs.Leaves.{IsMark, ExactTo-mark}
use Rattle.dap_client.proofs.Fixed.{IsFixed, ExactTo-fixed}
use Rattle.dap_client.proofs.Many.{AreMany, ExactTo-items}
use Rattle.dap_client.proofs.Words.{IsMarked, ExactTo-word}

-- a structure text
pub record IsDataset (text : List ℕ) (dataset : List ℕ × List Decl) : Type 0 where
  pub label : IsWord is_label_byte dataset.0
  pub decls : AllByRecursion IsDecl dataset.1
  pub text_is : text ≡ dds_of dataset.0 dataset.1

abbrev first_line : List ℕ
first_line = line_text 0 (codes "Dataset {")

abbrev DatasetParts : List ℕ → List ℕ × List Decl → Type 0
DatasetParts = Then (IsFixed first_line) (λ line. Then (AreMany (IsMark 32 125) IsDeclMore []) (λ decls.
    Then (IsFixed (codes " ")) (λ space. Then (IsMarked is_label_byte 59 59) (λ label.
    Then (IsFixed (codes "\n")) (λ end. Is (label.0, decls))))))

dataset_joined : (first decls brace space label semicolon line : List ℕ)
    → first ++ ((decls ++ brace) ++ (space ++ ((label ++ semicolon) ++ (line ++ []))))
    ≡ first ++ decls ++ (brace ++ space ++ label ++ (semicolon ++ line))
dataset_joined first decls brace space label semicolon line = simp (append_assoc, append-nil)

dataset_whole : (label : List ℕ) (decls : List Decl)
    → first_line ++ ((decls_text 1 decls ++ codes "}") ++ (codes " " ++ ((label ++ codes ";") ++ (codes "\n" ++ []))))
    ≡ dds_of label decls
unfolding dds_of close_text indent
dataset_whole label decls =
    dataset_joined first_line (decls_text 1 decls) (codes "}") (codes " ") label (codes ";") (codes "\n")

-- the structure text is read exactly
pub ExactTo-dataset : (n : ℕ) → ExactTo n IsDataset dataset_at
unfolding dataset_at is_label_byte is_name_byte
ExactTo-dataset n =
    ExactTo-as n DatasetParts IsDataset dataset_at
    (λ text dataset s.
    let decls = s.second in
    let space = decls.second in
    let label = space.second in
    let end = label.second in
    let more = adds_of_many decls.first.count [] decls.front decls.a decls.first.spelled in
    let whole = s.text_is
    ∙ ap₂ (λ (x y : List ℕ). x ++ y) s.first.text_is (decls.text_is
    ∙ ap₂ (λ (x y : List ℕ). x ++ y)
    (more.text_is ∙ ap (λ (l : List Decl). decls_text 1 l ++ codes "}") more.all_is) (space.text_is
    ∙ ap₂ (λ (x y : List ℕ). x ++ y) space.first.text_is (label.text_is
    ∙ ap₂ (λ (x y : List ℕ). x ++ y)
    (label.first.text_is ∙ onto label.a.0 (only_mark 59 label.first.back label.a.1 label.first.mark)) (end.text_is
    ∙ ap₂ (λ (x y : List ℕ). x ++ y) end.first.text_is end.second.text_is)))) in
    subst (IsDataset text) end.second.value (record {
      label = label.first.word;
      decls = subst (AllByRecursion IsDecl) more.all_is more.are;
      text_is = whole ∙ dataset_whole label.a.0 decls.a;
    }))
    (λ text dataset t.
    let label = dataset.0 in
    let decls = dataset.1 in
    let texts = decls_text 1 decls ++ codes "}" in
    record {
      a = tt;
      front = first_line;
      back = texts ++ (codes " " ++ ((label ++ codes ";") ++ (codes "\n" ++ [])));
      first = record { text_is = refl };
      second = record {
        a = decls;
        front = texts;
        back = codes " " ++ ((label ++ codes ";") ++ (codes "\n" ++ []));
        first = many_of_adds [] texts decls decls t.decls refl refl;
        second = record {
          a = tt;
          front = codes " ";
          back = (label ++ codes ";") ++ (codes "\n" ++ []);
          first = record { text_is = refl };
          second = record {
            a = (label, true);
            front = label ++ codes ";";
            back = codes "\n" ++ [];
            first = record {
              word = t.label;
              back = codes ";";
              mark = record { byte = 59; holds = tt; meant = refl; text_is = refl };
              text_is = refl;
            };
            second = record {
              a = tt;
              front = codes "\n";
              back = [];
              first = record { text_is = refl };
              second = record { value = refl; text_is = refl };
              text_is = refl;
            };
            text_is = refl;
          };
          text_is = refl;
        };
        text_is = refl;
      };
      text_is = t.text_is ∙ sym (dataset_whole label decls);
    })
    (then_so n (IsFixed first_line) _ (fixed_at first_line) _ (ExactTo-fixed n first_line)
    (λ line front s. then_so n (AreMany (IsMark 32 125) IsDeclMore []) _ (items_at (mark_at 32 125) decl_at []) _
    (ExactTo-items n (IsMark 32 125) IsDeclMore (λ found. Unit {0}) (mark_at 32 125) decl_at decl_loop
    (λ m. ExactTo-mark m 32 125) (λ m found good. ExactTo-decl m found) [] tt)
    (λ decls front s. then_so n (IsFixed (codes " ")) _ (fixed_at (codes " ")) _ (ExactTo-fixed n (codes " "))
    (λ space front s. then_so n (IsMarked is_label_byte 59 59) _ (word_at is_label_byte 59 59) _
    (ExactTo-word n is_label_byte 59 59 97 (record { at_first = refl; at_other = refl }) refl)
    (λ label front s. then_so n (IsFixed (codes "\n")) _ (fixed_at (codes "\n")) _ (ExactTo-fixed n (codes "\n"))
    (λ end front s. ExactTo-pure n (label.0, decls)))))))
