-- A dimension is read exactly.
use Rattle.std.proofs.Common.{◌≡◌, ℕ, ◌^◌, ◌<◌, ◌≤◌, Bool, true, false, cond, List, [], ◌∷◌, ◌++◌, codes, decimal, refl, sym, ap, ap₂, ◌∙◌, append_assoc, append-nil, drop}
use Rattle.fm_base.specs.Name.{is_name_byte}
use Rattle.fm_base.proofs.Exact.{Then, Is, onto}
use Rattle.nc_model.specs.declared.header.Dim.{Dim}
use Rattle.dap_model.specs.StructureText.{dim_text}
use Rattle.dap_client.specs.declared.shape.Shape.{Shape}
use Rattle.dap_client.specs.Message.{IsDim}
use Rattle.dap_client.specs.Reading.{fixed_at, size_at, word_at}
use Rattle.dap_client.specs.TextReading.{dim_at, with_dim}
use Rattle.dap_client.proofs.Exactly.{ExactTo, ExactTo-as, ExactTo-pure}
use Rattle.dap_client.proofs.Joined.{then_so}
use Rattle.dap_client.proofs.Leaves.{IsMark, mark_text}
use Rattle.dap_client.proofs.Fixed.{IsFixed, ExactTo-fixed}
use Rattle.dap_client.proofs.Sizes.{IsSize}
use Rattle.dap_client.proofs.SizesExact.{ExactTo-size}
use Rattle.dap_client.proofs.Words.{IsMarked, ExactTo-word}

-- a dimension more behind its opening bracket, of which the room allows the size
pub record IsDimMore (shape : Shape) (text : List ℕ) (next : Shape) : Type 0 where
  pub dim : Dim
  pub is : IsDim dim
  pub within : dim.size ≤ shape.room
  pub next_is : with_dim shape dim.name dim.size ≡ next
  pub text_is : 91 ∷ text ≡ dim_text dim

-- the parts of a dimension as they are read
abbrev DimParts : Shape → List ℕ → Shape → Type 0
DimParts shape = Then (IsMarked is_name_byte 32 32) (λ name. Then (IsFixed (codes "= "))
    (λ equals. Then (IsSize shape.room) (λ size. Is (with_dim shape name.0 size))))

same_cond : (b : Bool) (x : ℕ) → cond b x x ≡ x
same_cond true x = refl
same_cond false x = refl

-- the one byte that may stand behind a word
pub only_mark : (byte : ℕ) (text : List ℕ) (mark : Bool) → IsMark byte byte text mark → text ≡ byte ∷ []
only_mark byte text mark s = mark_text byte byte text mark s ∙ ap (λ (b : ℕ). b ∷ []) (same_cond mark byte)

dim_joined : (name size : List ℕ)
    → 91 ∷ ((name ++ 32 ∷ []) ++ (codes "= " ++ ((size ++ 93 ∷ []) ++ [])))
    ≡ codes "[" ++ name ++ codes " = " ++ size ++ codes "]"
dim_joined name size = simp (append_assoc, append-nil)

dim_whole : (shape : Shape) (text : List ℕ) (next : Shape) → (s : DimParts shape text next)
    → 91 ∷ text ≡ dim_text (record { name = s.a.0; size = s.second.second.a })
unfolding dim_text
dim_whole shape text next s =
    let mark = only_mark 32 s.first.back s.a.1 s.first.mark in
    let size = s.second.second in
    let name : s.front ≡ s.a.0 ++ 32 ∷ [] = s.first.text_is ∙ onto s.a.0 mark in
    let last : s.second.back ≡ (decimal size.a ++ 93 ∷ []) ++ [] =
    size.text_is ∙ ap₂ (λ (x y : List ℕ). x ++ y) size.first.text_is size.second.text_is in
    let rest : s.back ≡ codes "= " ++ ((decimal size.a ++ 93 ∷ []) ++ []) =
    s.second.text_is ∙ ap₂ (λ (x y : List ℕ). x ++ y) s.second.first.text_is last in
    ap (λ (l : List ℕ). 91 ∷ l) (s.text_is ∙ ap₂ (λ (x y : List ℕ). x ++ y) name rest)
    ∙ dim_joined s.a.0 (decimal size.a)

dim_split : (shape : Shape) (text : List ℕ) (next : Shape) → IsDimMore shape text next → DimParts shape text next
unfolding dim_text
dim_split shape text next t =
    let name = t.dim.name in
    let size = decimal t.dim.size in
    let whole : 91 ∷ text ≡ 91 ∷ ((name ++ 32 ∷ []) ++ (codes "= " ++ ((size ++ 93 ∷ []) ++ []))) =
    t.text_is ∙ sym (dim_joined name size) in
    record {
      a = (name, true);
      front = name ++ 32 ∷ [];
      back = codes "= " ++ ((size ++ 93 ∷ []) ++ []);
      first = record {
        word = t.is.name;
        back = 32 ∷ [];
        mark = mark_first;
        text_is = refl;
      };
      second = record {
        a = tt;
        front = codes "= ";
        back = (size ++ 93 ∷ []) ++ [];
        first = record { text_is = refl };
        second = record {
          a = t.dim.size;
          front = size ++ 93 ∷ [];
          back = [];
          first = record { some = t.is.some; within = t.within; text_is = refl };
          second = record { value = t.next_is; text_is = refl };
          text_is = refl;
        };
        text_is = refl;
      };
      text_is = ap (λ (l : List ℕ). drop 1 l) whole;
    }
  where
    mark_first : IsMark 32 32 (32 ∷ []) true
    mark_first = record { byte = 32; holds = tt; meant = refl; text_is = refl }

pub ExactTo-dim : (n : ℕ) (shape : Shape) → 1 ≤ shape.room → shape.room < 2 ^ 32
    → ExactTo n (IsDimMore shape) (dim_at shape)
unfolding dim_at is_name_byte
ExactTo-dim n shape some small =
    ExactTo-as n (DimParts shape) (IsDimMore shape) (dim_at shape)
    (λ text next s. record {
      dim = record { name = s.a.0; size = s.second.second.a };
      is = record { name = s.first.word; some = s.second.second.first.some };
      within = s.second.second.first.within;
      next_is = s.second.second.second.value;
      text_is = dim_whole shape text next s;
    })
    (dim_split shape)
    (then_so n (IsMarked is_name_byte 32 32) _ (word_at is_name_byte 32 32) _
    (ExactTo-word n is_name_byte 32 32 97 (record { at_first = refl; at_other = refl }) refl)
    (λ name front s. then_so n (IsFixed (codes "= ")) _ (fixed_at (codes "= ")) _ (ExactTo-fixed n (codes "= "))
    (λ equals front s. then_so n (IsSize shape.room) (λ size. Is (with_dim shape name.0 size)) (size_at shape.room) _
    (ExactTo-size n shape.room some small)
    (λ size front s. ExactTo-pure n (with_dim shape name.0 size)))))
