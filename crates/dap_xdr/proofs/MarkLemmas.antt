-- Marks in an array of texts.
use Rattle.std.proofs.Common.{◌≡◌, ◌≢◌, ℕ, ◌*◌, List, [], ◌∷◌, length, Some, inl, inr, refl, sym, ap₂, subst, ◌∙◌, arith}
use Rattle.std.proofs.Math.Path.{subst₂}
use Rattle.std.proofs.lemmas.Bool.{cases_lt}
use Rattle.std.proofs.lemmas.List.{get_or_append_left, get_or_push, length_push}
use Rattle.std.proofs.lemmas.Option.{same_Some}
use Rattle.dap_model.specs.declared.declaration.Array.{Array}
use Rattle.dap_model.specs.declared.declaration.DapKind.TheVariants.{Text}
use Rattle.dap_model.specs.declared.projection.Sent.{Sent}
use Rattle.dap_model.specs.Box.{box_len}
use Rattle.fm_dataset.specs.Values.{Shown}
use Rattle.dap_xdr.specs.Content.{array_in}
use Rattle.dap_xdr.specs.Datasets.{content_of}
use Rattle.dap_xdr.specs.Marks.{spacing, texts_before, AreMarks, AreMarksOf, IsMark, IsNoted}
use Rattle.dap_xdr.specs.Portion.{IsPortion, Portion}

-- no marks are those of each array
pub no-marks : (n : Portion) → AreMarks n []
no-marks n = λ k below. absurd (omega (arith, below))

-- one more mark
pub marks-noted : (n : Portion) (old : List ℕ) (every element offset : ℕ) (new : List ℕ) → AreMarks n old
    → every ≡ spacing (box_len n.sent.slabs) → IsMark n element offset → IsNoted old every element offset new
    → AreMarks n new
marks-noted n old every element offset new marks same is noted = elim noted [
  | inl stay ↦ subst (AreMarks n) (sym stay) marks
  | inr next ↦ subst (AreMarks n) (sym next.1) (λ k below. elim (cases_lt k (length old)) [
    | inl before ↦
        subst (IsMark n (k * spacing (box_len n.sent.slabs)))
        (sym (get_or_append_left old (offset ∷ []) 0 k before)) (marks k before)
    | inr past ↦
        let at : length old ≡ k = omega (arith, below, past, length_push old offset) in
        subst (IsMark n (k * spacing (box_len n.sent.slabs))) (sym (get_or_push old offset 0 k at))
        (subst (λ (m : ℕ). IsMark n m offset) (next.0 ∙ ap₂ (λ (a b : ℕ). a * b) at same) is)
  ])
]

-- the marks of a part are those of its portion
pub marks-of : (shown : Shown) (sent : Sent) (marks : List ℕ) (n : Portion) → AreMarksOf shown sent marks
    → IsPortion n → n.shown ≡ shown → n.sent ≡ sent → n.array.kind ≡ Text → sent.slabs ≢ [] → AreMarks n marks
marks-of shown sent marks n of portion shown_is sent_is text many =
    let is : array_in (content_of shown).decls sent.decl sent.part ≡ Some n.array =
    subst₂ (λ (c : Shown) (s : Sent). array_in (content_of c).decls s.decl s.part ≡ Some n.array) shown_is sent_is
    portion.part_is in
    subst₂ (λ (c : Shown) (s : Sent). AreMarks (record { shown = c; sent = s; array = n.array }) marks)
    (sym shown_is) (sym sent_is) (of n.array is text many)

-- and those of its portion are the part's
pub marks-from : (shown : Shown) (sent : Sent) (marks : List ℕ) (n : Portion) → AreMarks n marks
    → IsPortion n → n.shown ≡ shown → n.sent ≡ sent → AreMarksOf shown sent marks
marks-from shown sent marks n are portion shown_is sent_is = λ array is text many.
    let found : array_in (content_of shown).decls sent.decl sent.part ≡ Some n.array =
    subst₂ (λ (c : Shown) (s : Sent). array_in (content_of c).decls s.decl s.part ≡ Some n.array) shown_is sent_is
    portion.part_is in
    let same : n.array ≡ array = same_Some n.array array (sym found ∙ is) in
    subst (λ (a : Array). AreMarks (record { shown = shown; sent = sent; array = a }) marks) same
    (subst₂ (λ (c : Shown) (s : Sent). AreMarks (record { shown = c; sent = s; array = n.array }) marks)
    shown_is sent_is are)

-- no marks are those of any part
pub none-of : (shown : Shown) (sent : Sent) → AreMarksOf shown sent []
none-of shown sent = λ array is text many. no-marks (record { shown = shown; sent = sent; array = array })

-- where nothing is passed over but the count
pub before-first : (n : Portion) → length (texts_before n 0) ≡ 4
unfolding texts_before
before-first n = refl
