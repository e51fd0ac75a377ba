-- What opens a declaration is read exactly.
use Rattle.std.proofs.Common.{◌≡◌, ℕ, Bool, true, false, cond, ◌==◌, List, [], ◌∷◌, ◌++◌, codes, Option, Some, None, refl, ap, ap₂, ◌∙◌, get_or, drop, arith}
use Rattle.std.proofs.lemmas.Bool.{eqb-true}
use Rattle.std.proofs.lemmas.Option.{same_Some}
use Rattle.fm_base.specs.Parser.{◌>>=◌, pure}
use Rattle.fm_base.proofs.Exact.{Then}
use Rattle.dap_model.specs.declared.declaration.DapKind.{DapKind}
use Rattle.dap_model.specs.declared.declaration.DapKind.TheVariants.{Byte, Int16, Int32, Float32, Float64, Text}
use Rattle.dap_model.specs.StructureText.{kind_text}
use Rattle.dap_client.specs.declared.opening.Opening.{Opening}
use Rattle.dap_client.specs.declared.opening.Opening.TheVariants as openings
use Rattle.dap_client.specs.declared.opening.Stem.{Stem}
use Rattle.dap_client.specs.declared.opening.Stem.TheVariants as stems
use Rattle.dap_client.specs.Reading.{Reader, byte_as, fixed_at, mark_at}
use Rattle.dap_client.specs.TextReading.{ended_at, float_at, head_of, int_at, opening_at, opening_from, string_at}
use Rattle.dap_client.proofs.Exactly.{ExactTo, ExactTo-as}
use Rattle.dap_client.proofs.Joined.{ExactTo-made, then_so}
use Rattle.dap_client.proofs.KindWords.{IsBehind, ExactTo-byte_kind, ExactTo-float, ExactTo-int, letter_of}
use Rattle.dap_client.proofs.Leaves.{Any, IsMark, IsMeant, ExactTo-byte_as, ExactTo-mark, mark_of, mark_text}
use Rattle.dap_client.proofs.Fixed.{IsFixed, ExactTo-fixed}

-- the text of what opens a declaration
unfoldable pub opening_text : Opening → List ℕ
opening_text (openings.Plain kind) = kind_text kind ++ codes " "
opening_text openings.Grid = codes "Grid {\n"
opening_text openings.Structure = codes "Structure {\n"

pub record IsOpening (text : List ℕ) (opening : Opening) : Type 0 where
  pub text_is : text ≡ opening_text opening

-- the same behind its first letter
record IsBehindLetter (letter : ℕ) (text : List ℕ) (opening : Opening) : Type 0 where
  text_is : letter ∷ text ≡ opening_text opening

-- this text, which stands for this
record LeadsTo (fixed : List ℕ) (value : Opening) (text : List ℕ) (opening : Opening) : Type 0 where
  value_is : value ≡ opening
  text_is : text ≡ fixed

ExactTo-leads : (n : ℕ) (fixed : List ℕ) (value : Opening)
    → ExactTo n (LeadsTo fixed value) (fixed_at fixed >>= λ done. pure value)
ExactTo-leads n fixed value =
    ExactTo-made n (IsFixed fixed) (LeadsTo fixed value) (fixed_at fixed) (λ done. value)
    (λ text unit s. record { value_is = refl; text_is = s.text_is })
    (λ text opening t. (tt, record { text_is = t.text_is }, t.value_is))
    (ExactTo-fixed n fixed)

-- the first letter of a kind
first_letter : DapKind → ℕ
first_letter Byte = 66
first_letter Int16 = 73
first_letter Int32 = 73
first_letter Float32 = 70
first_letter Float64 = 70
first_letter Text = 83

first_is : (letter : ℕ) (text : List ℕ) (kind : DapKind) → letter ∷ text ≡ kind_text kind ++ codes " "
    → letter ≡ first_letter kind
unfolding kind_text first_letter
first_is letter text Byte e = ap (λ (l : List ℕ). get_or l 0 0) e
first_is letter text Int16 e = ap (λ (l : List ℕ). get_or l 0 0) e
first_is letter text Int32 e = ap (λ (l : List ℕ). get_or l 0 0) e
first_is letter text Float32 e = ap (λ (l : List ℕ). get_or l 0 0) e
first_is letter text Float64 e = ap (λ (l : List ℕ). get_or l 0 0) e
first_is letter text Text e = ap (λ (l : List ℕ). get_or l 0 0) e

not_71 : (kind : DapKind) → 71 ≡ first_letter kind → ⊥
unfolding first_letter
not_71 Byte e = omega (arith, e)
not_71 Int16 e = omega (arith, e)
not_71 Int32 e = omega (arith, e)
not_71 Float32 e = omega (arith, e)
not_71 Float64 e = omega (arith, e)
not_71 Text e = omega (arith, e)

ExactTo-grid_opening : (n : ℕ) → ExactTo n (IsBehindLetter 71) (opening_from None)
unfolding opening_from opening_text
ExactTo-grid_opening n =
    ExactTo-as n (LeadsTo (codes "rid {\n") openings.Grid) (IsBehindLetter 71) (opening_from None)
    (λ text opening s. record { text_is = ap (λ (l : List ℕ). 71 ∷ l) s.text_is ∙ ap opening_text s.value_is })
    (λ text opening t. of_opening text opening t.text_is)
    (ExactTo-leads n (codes "rid {\n") openings.Grid)
  where
    of_opening : (text : List ℕ) (opening : Opening) → 71 ∷ text ≡ opening_text opening
        → LeadsTo (codes "rid {\n") openings.Grid text opening
    of_opening text openings.Grid e = record { value_is = refl; text_is = ap (λ (l : List ℕ). drop 1 l) e }
    of_opening text openings.Structure e = let isnt : 71 ≡ 83 = ap (λ (l : List ℕ). get_or l 0 0) e in absurd
        (omega (arith, isnt))
    of_opening text (openings.Plain kind) e = absurd (not_71 kind (first_is 71 text kind e))

-- a kind behind a letter that only kinds have
ExactTo-kind_opening : (n letter : ℕ) (p : Reader DapKind) → (letter ≡ 71 → ⊥) → (letter ≡ 83 → ⊥)
    → ExactTo n (IsBehind letter) p
    → ExactTo n (IsBehindLetter letter) (p >>= λ kind. pure (openings.Plain kind))
unfolding opening_text
ExactTo-kind_opening n letter p no_grid no_structure ep =
    ExactTo-made n (IsBehind letter) (IsBehindLetter letter) p openings.Plain
    (λ text kind s. record { text_is = s.text_is })
    (λ text opening t. of_opening text opening t.text_is)
    ep
  where
    of_opening : (text : List ℕ) (opening : Opening) → letter ∷ text ≡ opening_text opening
        → (kind : DapKind) × IsBehind letter text kind × (openings.Plain kind ≡ opening)
    of_opening text openings.Grid e =
        let isnt : letter ≡ 71 = ap (λ (l : List ℕ). get_or l 0 0) e in absurd (no_grid isnt)
    of_opening text openings.Structure e = let isnt : letter ≡ 83 = ap (λ (l : List ℕ). get_or l 0 0) e in absurd
        (no_structure isnt)
    of_opening text (openings.Plain kind) e = (kind, record { text_is = e }, refl)

-- what follows `Str`
abbrev AfterStr : Bool → List ℕ → Opening → Type 0
AfterStr true = LeadsTo (codes "ng ") (openings.Plain Text)
AfterStr false = LeadsTo (codes "cture {\n") openings.Structure

abbrev SplitString : List ℕ → Opening → Type 0
SplitString = Then (IsFixed (codes "tr")) (λ unit. Then (IsMark 105 117) AfterStr)

string_text : (text : List ℕ) (opening : Opening) → SplitString text opening → 83 ∷ text ≡ opening_text opening
unfolding opening_text kind_text
string_text text opening s = by_mark s.second.a s.second.first s.second.second
  where
    whole : 83 ∷ text ≡ 83 ∷ (codes "tr" ++ (s.second.front ++ s.second.back))
    whole = ap (λ (l : List ℕ). 83 ∷ l)
        (s.text_is ∙ ap₂ (λ (x y : List ℕ). x ++ y) s.first.text_is s.second.text_is)

    by_mark : (mark : Bool) → IsMark 105 117 s.second.front mark → AfterStr mark s.second.back opening
        → 83 ∷ text ≡ opening_text opening
    by_mark true mark after = whole
        ∙ ap₂ (λ (x y : List ℕ). 83 ∷ (codes "tr" ++ (x ++ y)))
        (mark_text 105 117 s.second.front true mark) after.text_is
        ∙ ap opening_text after.value_is
    by_mark false mark after = whole
        ∙ ap₂ (λ (x y : List ℕ). 83 ∷ (codes "tr" ++ (x ++ y)))
        (mark_text 105 117 s.second.front false mark) after.text_is
        ∙ ap opening_text after.value_is

string_split : (mark : Bool) (back text : List ℕ) (opening : Opening) → AfterStr mark back opening
    → text ≡ codes "tr" ++ (cond mark 105 117 ∷ back) → SplitString text opening
string_split mark back text opening after is = record {
  a = tt;
  front = codes "tr";
  back = cond mark 105 117 ∷ back;
  first = record { text_is = refl };
  second = record {
    a = mark;
    front = cond mark 105 117 ∷ [];
    back = back;
    first = mark_of 105 117 refl mark;
    second = after;
    text_is = refl;
  };
  text_is = is;
}

ExactTo-string : (n : ℕ) → ExactTo n (IsBehindLetter 83) string_at
unfolding string_at opening_text kind_text
ExactTo-string n =
    ExactTo-as n SplitString (IsBehindLetter 83) string_at
    (λ text opening s. record { text_is = string_text text opening s })
    (λ text opening t. of_opening text opening t.text_is)
    (then_so n (IsFixed (codes "tr")) (λ unit. Then (IsMark 105 117) AfterStr) (fixed_at (codes "tr")) _
    (ExactTo-fixed n (codes "tr"))
    (λ unit front s. then_so n (IsMark 105 117) AfterStr (mark_at 105 117) _ (ExactTo-mark n 105 117)
    (λ mark front s. by_mark mark)))
  where
    by_mark : (mark : Bool) → ExactTo n (AfterStr mark)
        (cond mark (fixed_at (codes "ng ") >>= λ done. pure (openings.Plain Text))
        (fixed_at (codes "cture {\n") >>= λ done. pure openings.Structure))
    by_mark true = ExactTo-leads n (codes "ng ") (openings.Plain Text)
    by_mark false = ExactTo-leads n (codes "cture {\n") openings.Structure

    of_kind : (text : List ℕ) (kind : DapKind) → 83 ∷ text ≡ kind_text kind ++ codes " "
        → SplitString text (openings.Plain kind)
    of_kind text Text e =
        string_split true (codes "ng ") text (openings.Plain Text) (record { value_is = refl; text_is = refl })
        (ap (λ (l : List ℕ). drop 1 l) e)
    of_kind text Byte e = let isnt : 83 ≡ 66 = ap (λ (l : List ℕ). get_or l 0 0) e in absurd (omega (arith, isnt))
    of_kind text Int16 e = let isnt : 83 ≡ 73 = ap (λ (l : List ℕ). get_or l 0 0) e in absurd (omega (arith, isnt))
    of_kind text Int32 e = let isnt : 83 ≡ 73 = ap (λ (l : List ℕ). get_or l 0 0) e in absurd (omega (arith, isnt))
    of_kind text Float32 e = let isnt : 83 ≡ 70 = ap (λ (l : List ℕ). get_or l 0 0) e in absurd (omega (arith, isnt))
    of_kind text Float64 e = let isnt : 83 ≡ 70 = ap (λ (l : List ℕ). get_or l 0 0) e in absurd (omega (arith, isnt))

    of_opening : (text : List ℕ) (opening : Opening) → 83 ∷ text ≡ opening_text opening → SplitString text opening
    of_opening text openings.Grid e = let isnt : 83 ≡ 71 = ap (λ (l : List ℕ). get_or l 0 0) e in absurd
        (omega (arith, isnt))
    of_opening text openings.Structure e =
        string_split false (codes "cture {\n") text openings.Structure (record { value_is = refl; text_is = refl })
        (ap (λ (l : List ℕ). drop 1 l) e)
    of_opening text (openings.Plain kind) e = of_kind text kind e

-- the letter of a head
abbrev head_letter : Option Stem → ℕ
head_letter None = 71
head_letter (Some stem) = letter_of stem

head_of_letter : (byte : ℕ) (head : Option Stem) → head_of byte ≡ Some head → byte ≡ head_letter head
unfolding head_of
head_of_letter byte head e =
    by_test (byte == 66) (byte == 73) (byte == 70) (byte == 83) (byte == 71) refl refl refl refl refl e
  where
    by_test : (a b c d f : Bool) → (byte == 66) ≡ a → (byte == 73) ≡ b → (byte == 70) ≡ c → (byte == 83) ≡ d
        → (byte == 71) ≡ f
        → cond a (Some (Some stems.Byte)) (cond b (Some (Some stems.Int)) (cond c (Some (Some stems.Float))
        (cond d (Some (Some stems.Str)) (cond f (Some None) None)))) ≡ Some head → byte ≡ head_letter head
    by_test true b c d f p q r s t e = eqb-true byte 66 p ∙ ap head_letter (same_Some (Some stems.Byte) head e)
    by_test false true c d f p q r s t e = eqb-true byte 73 q ∙ ap head_letter (same_Some (Some stems.Int) head e)
    by_test false false true d f p q r s t e = eqb-true byte 70 r ∙ ap head_letter (same_Some (Some stems.Float) head e)
    by_test false false false true f p q r s t e = eqb-true byte 83 s ∙ ap head_letter
        (same_Some (Some stems.Str) head e)
    by_test false false false false true p q r s t e = eqb-true byte 71 t ∙ ap head_letter (same_Some None head e)
    by_test false false false false false p q r s t e = absurd cc

head_there : (head : Option Stem) → head_of (head_letter head) ≡ Some head
unfolding head_of
head_there None = refl
head_there (Some stems.Byte) = refl
head_there (Some stems.Int) = refl
head_there (Some stems.Float) = refl
head_there (Some stems.Str) = refl

ExactTo-from : (n : ℕ) (head : Option Stem) → ExactTo n (IsBehindLetter (head_letter head)) (opening_from head)
unfolding opening_from
ExactTo-from n None = ExactTo-grid_opening n
ExactTo-from n (Some stems.Byte) =
    ExactTo-kind_opening n 66 (ended_at Byte) (λ e. omega (arith, e)) (λ e. omega (arith, e)) (ExactTo-byte_kind n)
ExactTo-from n (Some stems.Int) =
    ExactTo-kind_opening n 73 int_at (λ e. omega (arith, e)) (λ e. omega (arith, e)) (ExactTo-int n)
ExactTo-from n (Some stems.Float) =
    ExactTo-kind_opening n 70 float_at (λ e. omega (arith, e)) (λ e. omega (arith, e)) (ExactTo-float n)
ExactTo-from n (Some stems.Str) = ExactTo-string n

-- the head of an opening
abbrev head_for : Opening → Option Stem
head_for openings.Grid = None
head_for openings.Structure = Some stems.Str
head_for (openings.Plain Byte) = Some stems.Byte
head_for (openings.Plain Int16) = Some stems.Int
head_for (openings.Plain Int32) = Some stems.Int
head_for (openings.Plain Float32) = Some stems.Float
head_for (openings.Plain Float64) = Some stems.Float
head_for (openings.Plain Text) = Some stems.Str

opening_split : (text : List ℕ) (opening : Opening) → IsOpening text opening
    → (back : List ℕ) × (text ≡ head_letter (head_for opening) ∷ back)
    × (head_letter (head_for opening) ∷ back ≡ opening_text opening)
unfolding opening_text kind_text
opening_split text openings.Grid s = (codes "rid {\n", s.text_is, refl)
opening_split text openings.Structure s = (codes "tructure {\n", s.text_is, refl)
opening_split text (openings.Plain Byte) s = (codes "yte ", s.text_is, refl)
opening_split text (openings.Plain Int16) s = (codes "nt16 ", s.text_is, refl)
opening_split text (openings.Plain Int32) s = (codes "nt32 ", s.text_is, refl)
opening_split text (openings.Plain Float32) s = (codes "loat32 ", s.text_is, refl)
opening_split text (openings.Plain Float64) s = (codes "loat64 ", s.text_is, refl)
opening_split text (openings.Plain Text) s = (codes "tring ", s.text_is, refl)

-- what opens a declaration is read exactly
pub ExactTo-opening : (n : ℕ) → ExactTo n IsOpening opening_at
unfolding opening_at
ExactTo-opening n =
    ExactTo-as n (Then (IsMeant Any head_of) (λ head. IsBehindLetter (head_letter head))) IsOpening opening_at
    (λ text opening s. record {
      text_is = s.text_is
          ∙ ap (λ (l : List ℕ). l ++ s.back) (s.first.text_is
          ∙ ap (λ (b : ℕ). b ∷ []) (head_of_letter s.first.byte s.a s.first.meant))
          ∙ s.second.text_is;
    })
    (λ text opening t.
    let parts = opening_split text opening t in
    record {
      a = head_for opening;
      front = head_letter (head_for opening) ∷ [];
      back = parts.0;
      first = record {
        byte = head_letter (head_for opening);
        holds = tt;
        meant = head_there (head_for opening);
        text_is = refl;
      };
      second = record { text_is = parts.2 };
      text_is = parts.1;
    })
    (then_so n (IsMeant Any head_of) (λ head. IsBehindLetter (head_letter head)) (byte_as head_of) opening_from
    (ExactTo-byte_as n Any head_of (λ byte small. tt) (record {
      text = 66 ∷ [];
      a = Some stems.Byte;
      spelled = record { byte = 66; holds = tt; meant = head_there (Some stems.Byte); text_is = refl };
    }))
    (λ head front s. ExactTo-from n head))
