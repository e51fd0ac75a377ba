-- Members of Structures are read exactly.
use Rattle.std.proofs.Common.{◌≡◌, ℕ, zero, suc, Bool, cond, List, [], ◌∷◌, ◌++◌, length, codes, refl, sym, ap, ap₂, ◌∙◌, append_assoc, append-nil, drop, arith}
use Rattle.std.proofs.lemmas.List.{append_cancel_left}
use Rattle.std.specs.List.{AllByRecursion}
use Rattle.fm_base.proofs.Exact.{Then, Is}
use Rattle.dap_model.specs.declared.declaration.Array.{Array}
use Rattle.dap_model.specs.declared.declaration.DapKind.{DapKind}
use Rattle.dap_model.specs.StructureText.{array_text, arrays_text, dims_text, indent, kind_text}
use Rattle.dap_client.specs.Message.{IsArray}
use Rattle.dap_client.specs.Reading.{fixed_at}
use Rattle.dap_client.specs.TextReading.{array_at, kind_at, member_at, member_mark_at, with_array}
use Rattle.dap_client.proofs.Arrays.{IsLine, ExactTo-array}
use Rattle.dap_client.proofs.Exactly.{ExactTo, ExactTo-as, ExactTo-pure}
use Rattle.dap_client.proofs.Joined.{then_so}
use Rattle.dap_client.proofs.KindWords.{IsKind, ExactTo-kind}
use Rattle.dap_client.proofs.Leaves.{IsMark, ExactTo-mark, mark_of, mark_text}
use Rattle.dap_client.proofs.Fixed.{IsFixed, ExactTo-fixed}
use Rattle.dap_client.proofs.Many.{AreMany, IsLoop, Many}

-- four spaces, and a fifth or a brace
pub record IsMemberMark (text : List ℕ) (mark : Bool) : Type 0 where
  pub text_is : text ≡ indent 1 ++ (cond mark 32 125 ∷ [])

pub ExactTo-member_mark : (n : ℕ) → ExactTo n IsMemberMark member_mark_at
unfolding member_mark_at
ExactTo-member_mark n =
    ExactTo-as n (Then (IsFixed (indent 1)) (λ spaces. IsMark 32 125)) IsMemberMark member_mark_at
    (λ text mark s. record {
      text_is = s.text_is
          ∙ ap₂ (λ (x y : List ℕ). x ++ y) s.first.text_is (mark_text 32 125 s.back mark s.second);
    })
    (λ text mark t. record {
      a = tt;
      front = indent 1;
      back = cond mark 32 125 ∷ [];
      first = record { text_is = refl };
      second = mark_of 32 125 refl mark;
      text_is = t.text_is;
    })
    (then_so n (IsFixed (indent 1)) (λ spaces. IsMark 32 125) (fixed_at (indent 1)) _ (ExactTo-fixed n (indent 1))
    (λ spaces front s. ExactTo-mark n 32 125))

-- a member more behind its first five spaces
pub record IsMemberMore (found : List Array) (text : List ℕ) (all : List Array) : Type 0 where
  pub member : Array
  pub is : IsArray member
  pub all_is : with_array found member ≡ all
  pub text_is : indent 1 ++ (32 ∷ text) ≡ array_text 2 member

abbrev MemberParts : List Array → List ℕ → List Array → Type 0
MemberParts found = Then (IsFixed (codes "   ")) (λ spaces. Then IsKind (λ kind. Then (IsLine kind)
    (λ array. Is (with_array found array))))

member_joined : (spaces kind space name dims end : List ℕ)
    → spaces ++ ((kind ++ space) ++ ((name ++ dims ++ end) ++ []))
    ≡ spaces ++ kind ++ space ++ name ++ dims ++ end
member_joined spaces kind space name dims end = simp (append_assoc, append-nil)

member_whole : (member : Array)
    → indent 1 ++ (32 ∷ (codes "   " ++ ((kind_text member.kind ++ codes " ")
    ++ ((member.name ++ dims_text member.dims ++ codes ";\n") ++ []))))
    ≡ array_text 2 member
unfolding array_text indent
member_whole member =
    member_joined (codes "        ") (kind_text member.kind) (codes " ") member.name (dims_text member.dims)
    (codes ";\n")

pub ExactTo-member : (n : ℕ) (found : List Array) → ExactTo n (IsMemberMore found) (member_at found)
unfolding member_at
ExactTo-member n found =
    ExactTo-as n (MemberParts found) (IsMemberMore found) (member_at found)
    (λ text all s.
    let kind = s.second in
    let line = kind.second in
    let member = line.a in
    let same = ap (λ (k : DapKind). kind_text k ++ codes " ") line.first.kind_is in
    let whole = s.text_is
    ∙ ap₂ (λ (x y : List ℕ). x ++ y) s.first.text_is (kind.text_is
    ∙ ap₂ (λ (x y : List ℕ). x ++ y) (kind.first.text_is ∙ same) (line.text_is
    ∙ ap₂ (λ (x y : List ℕ). x ++ y) line.first.text_is line.second.text_is)) in
    record {
      member = member;
      is = line.first.is;
      all_is = line.second.value;
      text_is = ap (λ (l : List ℕ). indent 1 ++ (32 ∷ l)) whole ∙ member_whole member;
    })
    (λ text all t.
    let member = t.member in
    let kind = kind_text member.kind ++ codes " " in
    let line = member.name ++ dims_text member.dims ++ codes ";\n" in
    let whole : indent 1 ++ (32 ∷ text) ≡ indent 1 ++ (32 ∷ (codes "   " ++ (kind ++ (line ++ [])))) =
    t.text_is ∙ sym (member_whole member) in
    let tail : 32 ∷ text ≡ 32 ∷ (codes "   " ++ (kind ++ (line ++ []))) =
    append_cancel_left (indent 1) _ _ whole in
    record {
      a = tt;
      front = codes "   ";
      back = kind ++ (line ++ []);
      first = record { text_is = refl };
      second = record {
        a = member.kind;
        front = kind;
        back = line ++ [];
        first = record { text_is = refl };
        second = record {
          a = member;
          front = line;
          back = [];
          first = record { kind_is = refl; is = t.is; text_is = refl };
          second = record { value = t.all_is; text_is = refl };
          text_is = refl;
        };
        text_is = refl;
      };
      text_is = ap (λ (l : List ℕ). drop 1 l) tail;
    })
    (then_so n (IsFixed (codes "   ")) _ (fixed_at (codes "   ")) _ (ExactTo-fixed n (codes "   "))
    (λ spaces front s. then_so n IsKind _ kind_at _ (ExactTo-kind n)
    (λ kind front s. then_so n (IsLine kind) (λ array. Is (with_array found array)) (array_at kind) _
    (ExactTo-array n kind)
    (λ array front s. ExactTo-pure n (with_array found array)))))

pub member_loop : IsLoop IsMemberMark IsMemberMore (λ found. Unit {0})
unfolding indent
member_loop = record {
  some = λ text more s. omega (arith, ap length s.text_is);
  end = codes "    }";
  ends = record { text_is = refl };
  keeps = λ found next text good s. tt;
}

-- members more, up to the brace
pub record AddsMembers (found : List Array) (text : List ℕ) (all : List Array) : Type 0 where
  pub more : List Array
  pub are : AllByRecursion IsArray more
  pub all_is : found ++ more ≡ all
  pub text_is : text ≡ arrays_text 2 more ++ (indent 1 ++ codes "}")

pub adds_of_many : (n : ℕ) (found : List Array) (text : List ℕ) (all : List Array)
    → Many IsMemberMark IsMemberMore n found text all → AddsMembers found text all
unfolding Many arrays_text
adds_of_many zero found text all s =
    record { more = []; are = tt; all_is = append-nil found ∙ s.1; text_is = s.0.text_is }
adds_of_many (suc n) found text all s =
    let member = s.5.member in
    let others = adds_of_many n s.3 s.2 all s.6 in
    let tail : indent 1 ++ (32 ∷ []) ++ (s.1 ++ s.2) ≡ (indent 1 ++ (32 ∷ s.1)) ++ s.2 = simp append_assoc in
    record {
      more = member ∷ others.more;
      are = (s.5.is, others.are);
      all_is = sym (append_assoc found (member ∷ []) others.more)
          ∙ ap (λ (l : List Array). l ++ others.more) s.5.all_is ∙ others.all_is;
      text_is = s.7
          ∙ ap (λ (l : List ℕ). l ++ (s.1 ++ s.2)) s.4.text_is
          ∙ tail
          ∙ ap₂ (λ (x y : List ℕ). x ++ y) s.5.text_is others.text_is
          ∙ sym (append_assoc (array_text 2 member) (arrays_text 2 others.more) (indent 1 ++ codes "}"));
    }

-- the text of a member behind its first five spaces
pub member_tail : (member : Array) → (tail : List ℕ) × (indent 1 ++ (32 ∷ tail) ≡ array_text 2 member)
member_tail member = (
  codes "   " ++ ((kind_text member.kind ++ codes " ")
      ++ ((member.name ++ dims_text member.dims ++ codes ";\n") ++ [])),
  member_whole member,
)

pub many_of_adds : (found : List Array) (text : List ℕ) (all more : List Array) → AllByRecursion IsArray more
    → found ++ more ≡ all → text ≡ arrays_text 2 more ++ (indent 1 ++ codes "}")
    → AreMany IsMemberMark IsMemberMore found text all
unfolding Many arrays_text
many_of_adds found text all [] are is text_is =
    record { count = 0; spelled = (record { text_is = text_is }, sym (append-nil found) ∙ is) }
many_of_adds found text all (member ∷ more) are is text_is =
    let next = with_array found member in
    let tail = member_tail member in
    let rest = arrays_text 2 more ++ (indent 1 ++ codes "}") in
    let others = many_of_adds next rest all more are.1 (append_assoc found (member ∷ []) more ∙ is) refl in
    let split : (indent 1 ++ (32 ∷ tail.0)) ++ rest ≡ indent 1 ++ (32 ∷ []) ++ (tail.0 ++ rest) = simp append_assoc in
    record {
      count = suc others.count;
      spelled = (
        indent 1 ++ (32 ∷ []),
        tail.0,
        rest,
        next,
        record { text_is = refl },
        record { member = member; is = are.0; all_is = refl; text_is = tail.1 },
        others.spelled,
        text_is ∙ append_assoc (array_text 2 member) (arrays_text 2 more) (indent 1 ++ codes "}")
            ∙ ap (λ (l : List ℕ). l ++ rest) (sym tail.1) ∙ split,
      );
    }
