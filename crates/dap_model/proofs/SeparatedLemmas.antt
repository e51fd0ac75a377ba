-- Items with a byte after each, and one more item at the end.
use Rattle.std.proofs.Common.{◌≡◌, ℕ, List, [], ◌∷◌, ◌++◌, refl, sym, ap, subst, ◌∙◌, append_assoc, append-nil}
use Rattle.nc_model.specs.Spelling.{Spelled}
use Rattle.dap_model.specs.Constraint.{Separated}

-- an item and the byte after it
pub record Ended {A : Type 0} (byte : ℕ) (S : List ℕ → A → Type 0) (text : List ℕ) (item : A) : Type 0 where
  pub inner : List ℕ
  pub spelled : S inner item
  pub text_is : text ≡ inner ++ byte ∷ []

-- items with this byte after each
abbrev pub Followed : {A : Type 0} → ℕ → (List ℕ → A → Type 0) → List ℕ → List A → Type 0
Followed byte S text items = Spelled (Ended byte S) text items

pub Spelled-push : {A : Type 0} (S : List ℕ → A → Type 0) (front last : List ℕ) (items : List A) (item : A)
    → Spelled S front items → S last item → Spelled S (front ++ last) (items ++ item ∷ [])
Spelled-push S front last [] item none s =
    (last, [], s, refl, ap (λ (l : List ℕ). l ++ last) none ∙ sym (append-nil last))
Spelled-push S front last (x ∷ items) item each s = (
  each.0,
  each.1 ++ last,
  each.2,
  Spelled-push S each.1 last items item each.3 s,
  ap (λ (l : List ℕ). l ++ last) each.4 ∙ append_assoc each.0 each.1 last,
)

-- one item more, with the byte after it
pub Followed-push : {A : Type 0} (byte : ℕ) (S : List ℕ → A → Type 0) (front last : List ℕ) (items : List A) (item : A)
    → Followed byte S front items → S last item → Followed byte S ((front ++ last) ++ byte ∷ []) (items ++ item ∷ [])
Followed-push {A} byte S front last items item each s =
    subst (λ (l : List ℕ). Followed byte S l (items ++ item ∷ [])) (sym (append_assoc front last (byte ∷ [])))
    (Spelled-push (Ended byte S) front (last ++ byte ∷ []) items item each
    (record { inner = last; spelled = s; text_is = refl }))

joined : (byte : ℕ) (front first others inner last : List ℕ) → front ≡ first ++ others → first ≡ inner ++ byte ∷ []
    → front ++ last ≡ inner ++ byte ∷ (others ++ last)
joined byte front first others inner last whole ended =
    ap (λ (l : List ℕ). l ++ last)
    (whole ∙ ap (λ (l : List ℕ). l ++ others) ended ∙ append_assoc inner (byte ∷ []) others)
    ∙ append_assoc inner (byte ∷ others) last

-- one item more, with no byte after it
pub Separated-last : {A : Type 0} (byte : ℕ) (S : List ℕ → A → Type 0) (front last : List ℕ) (items : List A) (item : A)
    → Followed byte S front items → S last item → Separated byte S (front ++ last) (items ++ item ∷ [])
Separated-last byte S front last [] item none s = subst (λ (l : List ℕ). S (l ++ last) item) (sym none) s
Separated-last byte S front last (x ∷ []) item each s = (
  each.2.inner,
  each.1 ++ last,
  each.2.spelled,
  Separated-last byte S each.1 last [] item each.3 s,
  joined byte front each.0 each.1 each.2.inner last each.4 each.2.text_is,
)
Separated-last byte S front last (x ∷ y ∷ items) item each s = (
  each.2.inner,
  each.1 ++ last,
  each.2.spelled,
  Separated-last byte S each.1 last (y ∷ items) item each.3 s,
  joined byte front each.0 each.1 each.2.inner last each.4 each.2.text_is,
)
