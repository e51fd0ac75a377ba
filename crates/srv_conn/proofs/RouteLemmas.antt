-- The requests for one collection among those for all, with the marks of the replies to them.
use Rattle.std.proofs.Common.{◌≡◌, ◌≢◌, ℕ, suc, Bool, true, false, List, [], ◌∷◌, ◌++◌, length, refl, ap, ◌∙◌, append-nil, arith}
use Rattle.std.specs.Prelude.{nat_eq, if◌then◌else◌}
use Rattle.std.proofs.lemmas.Bool.{eq-eqb, ne_eqb}
use Rattle.std.proofs.lemmas.List.Elements.{filter-append}
use Rattle.web_frame.specs.Items.{Item}
use Rattle.dap_reply.specs.declared.served.Mark.{Mark}
use Rattle.dap_reply.specs.Collections.{Collections}
use Rattle.dap_reply.specs.ServedMany.{items_for, marks_for}

pub marks-none : (them : Collections) (number : ℕ) (items : List Item) → marks_for them number [] items ≡ []
unfolding marks_for
marks-none them number items = refl

marks-test : (own : Bool) (mark : Mark) (front back : List Mark)
    → (if own then mark ∷ (front ++ back) else front ++ back) ≡ (if own then mark ∷ front else front) ++ back
marks-test true mark front back = refl
marks-test false mark front back = refl

pub marks-append : (them : Collections) (number : ℕ) (marks more : List Mark) (items others : List Item)
    → length marks ≡ length items
    → marks_for them number (marks ++ more) (items ++ others)
    ≡ marks_for them number marks items ++ marks_for them number more others
unfolding marks_for
marks-append them number [] more [] others same = refl
marks-append them number [] more (i ∷ items) others same = absurd (omega arith)
marks-append them number (m ∷ marks) more [] others same = absurd (omega arith)
marks-append them number (m ∷ marks) more (i ∷ items) others same =
    let own : Bool = nat_eq (them.choice i) number in
    ap (λ (l : List Mark). if own then m ∷ l else l) (marks-append them number marks more items others (omega arith))
    ∙ marks-test own m (marks_for them number marks items) (marks_for them number more others)

-- requests without a mark make no difference
pub marks-front : (them : Collections) (number : ℕ) (marks : List Mark) (items others : List Item)
    → length marks ≡ length items
    → marks_for them number marks (items ++ others) ≡ marks_for them number marks items
unfolding marks_for
marks-front them number [] items others same = refl
marks-front them number (m ∷ marks) [] others same = absurd (omega arith)
marks-front them number (m ∷ marks) (i ∷ items) others same =
    ap (λ (l : List Mark). if nat_eq (them.choice i) number then m ∷ l else l)
    (marks-front them number marks items others (omega arith))

-- there is a mark for each request
pub count-for : (them : Collections) (number : ℕ) (marks : List Mark) (items : List Item)
    → length marks ≡ length items → length (marks_for them number marks items) ≡ length (items_for them number items)
unfolding marks_for
count-for them number [] [] same = refl
count-for them number [] (i ∷ items) same = absurd (omega arith)
count-for them number (m ∷ marks) [] same = absurd (omega arith)
count-for them number (m ∷ marks) (i ∷ items) same =
    by_test (nat_eq (them.choice i) number) (count-for them number marks items (omega arith))
  where
    by_test : (own : Bool) → length (marks_for them number marks items) ≡ length (items_for them number items)
        → length (if own then m ∷ marks_for them number marks items else marks_for them number marks items)
        ≡ length (if own then i ∷ items_for them number items else items_for them number items)
    by_test true rest = ap suc rest
    by_test false rest = rest

pub items-append : (them : Collections) (number : ℕ) (items others : List Item)
    → items_for them number (items ++ others) ≡ items_for them number items ++ items_for them number others
items-append them number items others = filter-append (λ (item : Item). nat_eq (them.choice item) number) items others

-- ---- one request more

pub marks-own : (them : Collections) (marks : List Mark) (mark : Mark) (items : List Item) (item : Item)
    → length marks ≡ length items
    → marks_for them (them.choice item) (marks ++ mark ∷ []) (items ++ item ∷ [])
    ≡ marks_for them (them.choice item) marks items ++ mark ∷ []
unfolding marks_for
marks-own them marks mark items item same =
    marks-append them (them.choice item) marks (mark ∷ []) items (item ∷ []) same
    ∙ ap (λ (b : Bool). marks_for them (them.choice item) marks items ++ (if b then mark ∷ [] else []))
    (eq-eqb (them.choice item) (them.choice item) refl)

pub marks-other : (them : Collections) (number : ℕ) (marks : List Mark) (mark : Mark) (items : List Item) (item : Item)
    → length marks ≡ length items → them.choice item ≢ number
    → marks_for them number (marks ++ mark ∷ []) (items ++ item ∷ []) ≡ marks_for them number marks items
unfolding marks_for
marks-other them number marks mark items item same differs =
    marks-append them number marks (mark ∷ []) items (item ∷ []) same
    ∙ ap (λ (b : Bool). marks_for them number marks items ++ (if b then mark ∷ [] else []))
    (ne_eqb (them.choice item) number differs)
    ∙ append-nil (marks_for them number marks items)

pub items-own : (them : Collections) (items : List Item) (item : Item)
    → items_for them (them.choice item) (items ++ item ∷ []) ≡ items_for them (them.choice item) items ++ item ∷ []
items-own them items item =
    items-append them (them.choice item) items (item ∷ [])
    ∙ ap (λ (b : Bool). items_for them (them.choice item) items ++ (if b then item ∷ [] else []))
    (eq-eqb (them.choice item) (them.choice item) refl)

pub items-other : (them : Collections) (number : ℕ) (items : List Item) (item : Item) → them.choice item ≢ number
    → items_for them number (items ++ item ∷ []) ≡ items_for them number items
items-other them number items item differs =
    items-append them number items (item ∷ [])
    ∙ ap (λ (b : Bool). items_for them number items ++ (if b then item ∷ [] else []))
    (ne_eqb (them.choice item) number differs)
    ∙ append-nil (items_for them number items)
