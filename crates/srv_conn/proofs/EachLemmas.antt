-- What holds of each reply: of its number in its connection, its mark and its item.
use Rattle.std.proofs.Common.{◌≡◌, ℕ, zero, suc, ◌+◌, List, [], ◌∷◌, ◌++◌, length, Some, subst, arith}
use Rattle.std.specs.Prelude.{slice_get}
use Rattle.std.proofs.lemmas.Option.{none-some, same_Some}
use Rattle.web_frame.specs.Items.{Item}
use Rattle.dap_reply.specs.declared.served.Mark.{Mark}
use Rattle.srv_conn.specs.SoFar.{Each}

pub Each-at : (P : ℕ → Mark → Item → Type 0) (marks : List Mark) (items : List Item) (number index : ℕ) (mark : Mark)
    (item : Item) → Each P marks items number → slice_get marks index ≡ Some mark → slice_get items index ≡ Some item
    → P (number + index) mark item
Each-at P [] items number index mark item each there is = absurd (none-some mark there)
Each-at P (m ∷ marks) [] number index mark item each there is = absurd (none-some item is)
Each-at P (m ∷ marks) (i ∷ items) number zero mark item each there is =
    let same : number ≡ number + 0 = omega arith in
    subst (λ (n : ℕ). P n mark item) same
    (subst (λ (x : Mark). P number x item) (same_Some m mark there)
    (subst (λ (x : Item). P number m x) (same_Some i item is) each.0))
Each-at P (m ∷ marks) (i ∷ items) number (suc index) mark item each there is =
    let same : number + 1 + index ≡ number + suc index = omega arith in
    subst (λ (n : ℕ). P n mark item) same (Each-at P marks items (number + 1) index mark item each.1 there is)

pub Each-append : (P : ℕ → Mark → Item → Type 0) (marks more : List Mark) (items others : List Item) (number : ℕ)
    → length marks ≡ length items → Each P marks items number → Each P more others (number + length marks)
    → Each P (marks ++ more) (items ++ others) number
Each-append P [] more [] others number same each rest =
    let start : number + 0 ≡ number = omega arith in
    subst (λ (n : ℕ). Each P more others n) start rest
Each-append P [] more (i ∷ items) others number same each rest = absurd (omega arith)
Each-append P (m ∷ marks) more [] others number same each rest = absurd (omega arith)
Each-append P (m ∷ marks) more (i ∷ items) others number same each rest =
    let next : number + suc (length marks) ≡ number + 1 + length marks = omega arith in (
      each.0,
      Each-append P marks more items others (number + 1) (omega arith) each.1
          (subst (λ (n : ℕ). Each P more others n) next rest),
    )

pub Each-map : (P Q : ℕ → Mark → Item → Type 0) (marks : List Mark) (items : List Item) (number : ℕ)
    → ((n : ℕ) (mark : Mark) (item : Item) → P n mark item → Q n mark item) → Each P marks items number
    → Each Q marks items number
Each-map P Q [] items number step each = tt
Each-map P Q (m ∷ marks) [] number step each = tt
Each-map P Q (m ∷ marks) (i ∷ items) number step each =
    (step number m i each.0, Each-map P Q marks items (number + 1) step each.1)

-- the reply at an index that has an item
pub Each-item : (P : ℕ → Item → Type 0) (marks : List Mark) (items : List Item) (number index : ℕ) (item : Item)
    → length marks ≡ length items → Each (λ n _ i. P n i) marks items number → slice_get items index ≡ Some item
    → P (number + index) item
Each-item P [] [] number index item same each is = absurd (none-some item is)
Each-item P [] (i ∷ items) number index item same each is = absurd (omega arith)
Each-item P (m ∷ marks) [] number index item same each is = absurd (none-some item is)
Each-item P (m ∷ marks) (i ∷ items) number zero item same each is =
    let start : number ≡ number + 0 = omega arith in
    subst (λ (n : ℕ). P n item) start (subst (λ (x : Item). P number x) (same_Some i item is) each.0)
Each-item P (m ∷ marks) (i ∷ items) number (suc index) item same each is =
    let next : number + 1 + index ≡ number + suc index = omega arith in
    subst (λ (n : ℕ). P n item) next (Each-item P marks items (number + 1) index item (omega arith) each.1 is)
