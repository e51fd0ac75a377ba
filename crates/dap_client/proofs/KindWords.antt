-- The words of kinds, and what opens a declaration, are read exactly.
use Rattle.std.proofs.Common.{◌≡◌, ◌⊎◌, inl, inr, ℕ, Bool, true, false, cond, ◌==◌, List, [], ◌∷◌, ◌++◌, codes, Option, Some, None, refl, sym, ap, ap₂, ◌∙◌, get_or, drop, arith}
use Rattle.std.proofs.lemmas.Bool.{eqb-true}
use Rattle.std.proofs.lemmas.Option.{same_Some}
use Rattle.fm_base.proofs.Exact.{Then}
use Rattle.fm_base.proofs.Parts.{Example}
use Rattle.dap_model.specs.declared.declaration.DapKind.{DapKind}
use Rattle.dap_model.specs.declared.declaration.DapKind.TheVariants.{Byte, Int16, Int32, Float32, Float64, Text}
use Rattle.dap_model.specs.StructureText.{kind_text}
use Rattle.dap_client.specs.declared.opening.Stem.{Stem}
use Rattle.dap_client.specs.declared.opening.Stem.TheVariants as stems
use Rattle.dap_client.specs.Reading.{byte_as, fixed_at}
use Rattle.dap_client.specs.TextReading.{ended_at, float_at, float_kind, int_at, int_kind, kind_at, kind_end, stem_at, stem_of}
use Rattle.dap_client.proofs.Exactly.{ExactTo, ExactTo-as}
use Rattle.dap_client.proofs.Joined.{ExactTo-made, then_so}
use Rattle.dap_client.proofs.Leaves.{Any, IsMeant, ExactTo-byte_as}
use Rattle.dap_client.proofs.Fixed.{IsFixed, ExactTo-fixed}

-- the word of a kind and a space
pub record IsKind (text : List ℕ) (kind : DapKind) : Type 0 where
  pub text_is : text ≡ kind_text kind ++ codes " "

-- the same behind its first letter
pub record IsBehind (letter : ℕ) (text : List ℕ) (kind : DapKind) : Type 0 where
  pub text_is : letter ∷ text ≡ kind_text kind ++ codes " "

-- the end of this kind
record IsEnded (kind : DapKind) (text : List ℕ) (found : DapKind) : Type 0 where
  kind_is : kind ≡ found
  text_is : text ≡ kind_end kind

ExactTo-ended : (n : ℕ) (kind : DapKind) → ExactTo n (IsEnded kind) (ended_at kind)
unfolding ended_at
ExactTo-ended n kind =
    ExactTo-made n (IsFixed (kind_end kind)) (IsEnded kind) (fixed_at (kind_end kind)) (λ done. kind)
    (λ text unit s. record { kind_is = refl; text_is = s.text_is })
    (λ text found t. (tt, record { text_is = t.text_is }, t.kind_is))
    (ExactTo-fixed n (kind_end kind))

-- what a digit settles, by the two that may stand there
record Settled (first other : ℕ) (one two : DapKind) (byte : ℕ) (kind : DapKind) : Type 0 where
  either : ((byte ≡ first) × (kind ≡ one)) ⊎ ((byte ≡ other) × (kind ≡ two))

settled : (first other byte : ℕ) (one two kind : DapKind)
    → cond (byte == first) (Some one) (cond (byte == other) (Some two) None) ≡ Some kind
    → Settled first other one two byte kind
settled first other byte one two kind e = by_test (byte == first) (byte == other) refl refl e
  where
    by_test : (b c : Bool) → (byte == first) ≡ b → (byte == other) ≡ c
        → cond b (Some one) (cond c (Some two) None) ≡ Some kind → Settled first other one two byte kind
    by_test true c is also e = record { either = inl (eqb-true byte first is, sym (same_Some one kind e)) }
    by_test false true is also e = record { either = inr (eqb-true byte other also, sym (same_Some two kind e)) }
    by_test false false is also e = absurd cc

-- a kind as its letters, its digit and its end
abbrev Split : List ℕ → (ℕ → Option DapKind) → List ℕ → DapKind → Type 0
Split letters meaning = Then (IsFixed letters) (λ unit. Then (IsMeant Any meaning) (λ kind. IsEnded kind))

-- a split kind from its parts
split_of : (letters : List ℕ) (meaning : ℕ → Option DapKind) (byte : ℕ) (kind : DapKind) (text : List ℕ)
    → meaning byte ≡ Some kind → text ≡ letters ++ (byte ∷ kind_end kind) → Split letters meaning text kind
split_of letters meaning byte kind text meant is = record {
  a = tt;
  front = letters;
  back = byte ∷ kind_end kind;
  first = record { text_is = refl };
  second = record {
    a = kind;
    front = byte ∷ [];
    back = kind_end kind;
    first = record { byte = byte; holds = tt; meant = meant; text_is = refl };
    second = record { kind_is = refl; text_is = refl };
    text_is = refl;
  };
  text_is = is;
}

-- its text
text_of : (letters : List ℕ) (meaning : ℕ → Option DapKind) (kind : DapKind) (text : List ℕ)
    → (s : Split letters meaning text kind)
    → text ≡ letters ++ (s.second.first.byte ∷ kind_end kind)
text_of letters meaning kind text s =
    s.text_is
    ∙ ap₂ (λ (x y : List ℕ). x ++ y) s.first.text_is (s.second.text_is
    ∙ ap₂ (λ (x y : List ℕ). x ++ y) s.second.first.text_is
    (s.second.second.text_is ∙ ap kind_end s.second.second.kind_is))

meant_of : (letters : List ℕ) (meaning : ℕ → Option DapKind) (kind : DapKind) (text : List ℕ)
    → (s : Split letters meaning text kind) → meaning s.second.first.byte ≡ Some kind
meant_of letters meaning kind text s = s.second.first.meant ∙ ap Some s.second.second.kind_is

pub ExactTo-int : (n : ℕ) → ExactTo n (IsBehind 73) int_at
unfolding int_at int_kind kind_text kind_end
ExactTo-int n =
    ExactTo-as n (Split (codes "nt") int_kind) (IsBehind 73) int_at
    (λ text kind s.
    let whole = text_of (codes "nt") int_kind kind text s in
    let choice = settled 49 51 s.second.first.byte Int16 Int32 kind (meant_of (codes "nt") int_kind kind text s) in
    elim choice.either [
      | inl one ↦ record { text_is = rw (whole, one.0, one.1) refl }
      | inr two ↦ record { text_is = rw (whole, two.0, two.1) refl }
    ])
    (λ text kind t. of_kind text kind t.text_is)
    (then_so n (IsFixed (codes "nt")) (λ unit. Then (IsMeant Any int_kind) (λ kind. IsEnded kind))
    (fixed_at (codes "nt"))
    _ (ExactTo-fixed n (codes "nt"))
    (λ unit front s. then_so n (IsMeant Any int_kind) (λ kind. IsEnded kind) (byte_as int_kind) ended_at
    (ExactTo-byte_as n Any int_kind (λ byte small. tt) one_of) (λ kind front s. ExactTo-ended n kind)))
  where
    one_of : Example (IsMeant Any int_kind)
    one_of = record {
      text = 49 ∷ [];
      a = Int16;
      spelled = record { byte = 49; holds = tt; meant = refl; text_is = refl };
    }

    of_kind : (text : List ℕ) (kind : DapKind) → 73 ∷ text ≡ kind_text kind ++ codes " "
        → Split (codes "nt") int_kind text kind
    of_kind text Int16 e = split_of (codes "nt") int_kind 49 Int16 text refl (ap (λ (l : List ℕ). drop 1 l) e)
    of_kind text Int32 e = split_of (codes "nt") int_kind 51 Int32 text refl (ap (λ (l : List ℕ). drop 1 l) e)
    of_kind text Byte e = let isnt : 73 ≡ 66 = ap (λ (l : List ℕ). get_or l 0 0) e in absurd (omega (arith, isnt))
    of_kind text Float32 e = let isnt : 73 ≡ 70 = ap (λ (l : List ℕ). get_or l 0 0) e in absurd (omega (arith, isnt))
    of_kind text Float64 e = let isnt : 73 ≡ 70 = ap (λ (l : List ℕ). get_or l 0 0) e in absurd (omega (arith, isnt))
    of_kind text Text e = let isnt : 73 ≡ 83 = ap (λ (l : List ℕ). get_or l 0 0) e in absurd (omega (arith, isnt))

pub ExactTo-float : (n : ℕ) → ExactTo n (IsBehind 70) float_at
unfolding float_at float_kind kind_text kind_end
ExactTo-float n =
    ExactTo-as n (Split (codes "loat") float_kind) (IsBehind 70) float_at
    (λ text kind s.
    let whole = text_of (codes "loat") float_kind kind text s in
    let choice =
    settled 51 54 s.second.first.byte Float32 Float64 kind (meant_of (codes "loat") float_kind kind text s) in
    elim choice.either [
      | inl one ↦ record { text_is = rw (whole, one.0, one.1) refl }
      | inr two ↦ record { text_is = rw (whole, two.0, two.1) refl }
    ])
    (λ text kind t. of_kind text kind t.text_is)
    (then_so n (IsFixed (codes "loat")) (λ unit. Then (IsMeant Any float_kind) (λ kind. IsEnded kind))
    (fixed_at (codes "loat")) _ (ExactTo-fixed n (codes "loat"))
    (λ unit front s. then_so n (IsMeant Any float_kind) (λ kind. IsEnded kind) (byte_as float_kind) ended_at
    (ExactTo-byte_as n Any float_kind (λ byte small. tt) one_of) (λ kind front s. ExactTo-ended n kind)))
  where
    one_of : Example (IsMeant Any float_kind)
    one_of = record {
      text = 51 ∷ [];
      a = Float32;
      spelled = record { byte = 51; holds = tt; meant = refl; text_is = refl };
    }

    of_kind : (text : List ℕ) (kind : DapKind) → 70 ∷ text ≡ kind_text kind ++ codes " "
        → Split (codes "loat") float_kind text kind
    of_kind text Float32 e = split_of (codes "loat") float_kind 51 Float32 text refl (ap (λ (l : List ℕ). drop 1 l) e)
    of_kind text Float64 e = split_of (codes "loat") float_kind 54 Float64 text refl (ap (λ (l : List ℕ). drop 1 l) e)
    of_kind text Byte e = let isnt : 70 ≡ 66 = ap (λ (l : List ℕ). get_or l 0 0) e in absurd (omega (arith, isnt))
    of_kind text Int16 e = let isnt : 70 ≡ 73 = ap (λ (l : List ℕ). get_or l 0 0) e in absurd (omega (arith, isnt))
    of_kind text Int32 e = let isnt : 70 ≡ 73 = ap (λ (l : List ℕ). get_or l 0 0) e in absurd (omega (arith, isnt))
    of_kind text Text e = let isnt : 70 ≡ 83 = ap (λ (l : List ℕ). get_or l 0 0) e in absurd (omega (arith, isnt))

pub ExactTo-byte_kind : (n : ℕ) → ExactTo n (IsBehind 66) (ended_at Byte)
unfolding kind_text kind_end
ExactTo-byte_kind n =
    ExactTo-as n (IsEnded Byte) (IsBehind 66) (ended_at Byte)
    (λ text kind s. record {
      text_is = ap (λ (l : List ℕ). 66 ∷ l) s.text_is ∙ ap (λ (k : DapKind). kind_text k ++ codes " ") s.kind_is;
    })
    (λ text kind t. of_kind text kind t.text_is)
    (ExactTo-ended n Byte)
  where
    of_kind : (text : List ℕ) (kind : DapKind) → 66 ∷ text ≡ kind_text kind ++ codes " " → IsEnded Byte text kind
    of_kind text Byte e = record { kind_is = refl; text_is = ap (λ (l : List ℕ). drop 1 l) e }
    of_kind text Int16 e = let isnt : 66 ≡ 73 = ap (λ (l : List ℕ). get_or l 0 0) e in absurd (omega (arith, isnt))
    of_kind text Int32 e = let isnt : 66 ≡ 73 = ap (λ (l : List ℕ). get_or l 0 0) e in absurd (omega (arith, isnt))
    of_kind text Float32 e = let isnt : 66 ≡ 70 = ap (λ (l : List ℕ). get_or l 0 0) e in absurd (omega (arith, isnt))
    of_kind text Float64 e = let isnt : 66 ≡ 70 = ap (λ (l : List ℕ). get_or l 0 0) e in absurd (omega (arith, isnt))
    of_kind text Text e = let isnt : 66 ≡ 83 = ap (λ (l : List ℕ). get_or l 0 0) e in absurd (omega (arith, isnt))

ExactTo-text_kind : (n : ℕ) → ExactTo n (IsBehind 83) (ended_at Text)
unfolding kind_text kind_end
ExactTo-text_kind n =
    ExactTo-as n (IsEnded Text) (IsBehind 83) (ended_at Text)
    (λ text kind s. record {
      text_is = ap (λ (l : List ℕ). 83 ∷ l) s.text_is ∙ ap (λ (k : DapKind). kind_text k ++ codes " ") s.kind_is;
    })
    (λ text kind t. of_kind text kind t.text_is)
    (ExactTo-ended n Text)
  where
    of_kind : (text : List ℕ) (kind : DapKind) → 83 ∷ text ≡ kind_text kind ++ codes " " → IsEnded Text text kind
    of_kind text Text e = record { kind_is = refl; text_is = ap (λ (l : List ℕ). drop 1 l) e }
    of_kind text Byte e = let isnt : 83 ≡ 66 = ap (λ (l : List ℕ). get_or l 0 0) e in absurd (omega (arith, isnt))
    of_kind text Int16 e = let isnt : 83 ≡ 73 = ap (λ (l : List ℕ). get_or l 0 0) e in absurd (omega (arith, isnt))
    of_kind text Int32 e = let isnt : 83 ≡ 73 = ap (λ (l : List ℕ). get_or l 0 0) e in absurd (omega (arith, isnt))
    of_kind text Float32 e = let isnt : 83 ≡ 70 = ap (λ (l : List ℕ). get_or l 0 0) e in absurd (omega (arith, isnt))
    of_kind text Float64 e = let isnt : 83 ≡ 70 = ap (λ (l : List ℕ). get_or l 0 0) e in absurd (omega (arith, isnt))

-- the first letter of a stem
abbrev pub letter_of : Stem → ℕ
letter_of stems.Byte = 66
letter_of stems.Int = 73
letter_of stems.Float = 70
letter_of stems.Str = 83

-- the stem of a kind
abbrev pub stem_for : DapKind → Stem
stem_for Byte = stems.Byte
stem_for Int16 = stems.Int
stem_for Int32 = stems.Int
stem_for Float32 = stems.Float
stem_for Float64 = stems.Float
stem_for Text = stems.Str

-- a letter that stands for a stem is its first
stem_letter : (byte : ℕ) (stem : Stem) → stem_of byte ≡ Some stem → byte ≡ letter_of stem
unfolding stem_of
stem_letter byte stem e = by_test (byte == 66) (byte == 73) (byte == 70) (byte == 83) refl refl refl refl e
  where
    by_test : (a b c d : Bool) → (byte == 66) ≡ a → (byte == 73) ≡ b → (byte == 70) ≡ c → (byte == 83) ≡ d
        → cond a (Some stems.Byte) (cond b (Some stems.Int) (cond c (Some stems.Float) (cond d (Some stems.Str) None)))
        ≡ Some stem → byte ≡ letter_of stem
    by_test true b c d p q r s e = eqb-true byte 66 p ∙ ap letter_of (same_Some stems.Byte stem e)
    by_test false true c d p q r s e = eqb-true byte 73 q ∙ ap letter_of (same_Some stems.Int stem e)
    by_test false false true d p q r s e = eqb-true byte 70 r ∙ ap letter_of (same_Some stems.Float stem e)
    by_test false false false true p q r s e = eqb-true byte 83 s ∙ ap letter_of (same_Some stems.Str stem e)
    by_test false false false false p q r s e = absurd cc

letter_stem : (stem : Stem) → stem_of (letter_of stem) ≡ Some stem
unfolding stem_of
letter_stem stems.Byte = refl
letter_stem stems.Int = refl
letter_stem stems.Float = refl
letter_stem stems.Str = refl

ExactTo-stem : (n : ℕ) (stem : Stem) → ExactTo n (IsBehind (letter_of stem)) (stem_at stem)
unfolding stem_at
ExactTo-stem n stems.Byte = ExactTo-byte_kind n
ExactTo-stem n stems.Int = ExactTo-int n
ExactTo-stem n stems.Float = ExactTo-float n
ExactTo-stem n stems.Str = ExactTo-text_kind n

kind_split : (text : List ℕ) (kind : DapKind) → IsKind text kind
    → (back : List ℕ) × (text ≡ letter_of (stem_for kind) ∷ back)
    × (letter_of (stem_for kind) ∷ back ≡ kind_text kind ++ codes " ")
unfolding kind_text
kind_split text Byte s = (codes "yte ", s.text_is, refl)
kind_split text Int16 s = (codes "nt16 ", s.text_is, refl)
kind_split text Int32 s = (codes "nt32 ", s.text_is, refl)
kind_split text Float32 s = (codes "loat32 ", s.text_is, refl)
kind_split text Float64 s = (codes "loat64 ", s.text_is, refl)
kind_split text Text s = (codes "tring ", s.text_is, refl)

-- the word of a kind is read exactly
pub ExactTo-kind : (n : ℕ) → ExactTo n IsKind kind_at
unfolding kind_at
ExactTo-kind n =
    ExactTo-as n (Then (IsMeant Any stem_of) (λ stem. IsBehind (letter_of stem))) IsKind kind_at
    (λ text kind s. record {
      text_is = s.text_is
          ∙ ap (λ (l : List ℕ). l ++ s.back) (s.first.text_is
          ∙ ap (λ (b : ℕ). b ∷ []) (stem_letter s.first.byte s.a s.first.meant))
          ∙ s.second.text_is;
    })
    (λ text kind t.
    let parts = kind_split text kind t in
    record {
      a = stem_for kind;
      front = letter_of (stem_for kind) ∷ [];
      back = parts.0;
      first = record {
        byte = letter_of (stem_for kind);
        holds = tt;
        meant = letter_stem (stem_for kind);
        text_is = refl;
      };
      second = record { text_is = parts.2 };
      text_is = parts.1;
    })
    (then_so n (IsMeant Any stem_of) (λ stem. IsBehind (letter_of stem)) (byte_as stem_of) stem_at
    (ExactTo-byte_as n Any stem_of (λ byte small. tt) (record {
      text = 66 ∷ [];
      a = stems.Byte;
      spelled = record { byte = 66; holds = tt; meant = letter_stem stems.Byte; text_is = refl };
    }))
    (λ stem front s. ExactTo-stem n stem))
