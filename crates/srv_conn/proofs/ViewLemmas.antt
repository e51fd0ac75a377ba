-- What is seen of several collections, where something was done to one of them.
use Rattle.std.proofs.Common.{◌≡◌, ◌≢◌, inl, inr, ⊎_elim, ℕ, Bool, List, [], ◌∷◌, ◌++◌, refl, sym, ap, subst, ◌∙◌, append-nil}
use Rattle.std.specs.Prelude.{nat_eq, if◌then◌else◌}
use Rattle.std.proofs.lemmas.Bool.{cases_eq, eq-eqb, ne_eqb}
use Rattle.fm_model.specs.declared.op.Op.{Op}
use Rattle.pub_look.specs.History.{Continues, MayHaveLooked}
use Rattle.pub_look.proofs.HistoryLemmas.{continues_itself, continues_on}
use Rattle.dap_reply.specs.Collections.{Collections, Views}
use Rattle.srv_conn.specs.Sight.{sight_in, AreBehind, IsBehind, OthersStay, Sight}

-- ---- lists of operations

-- what is behind a list is behind one that goes on from it
pub behind-one : (still : Bool) (first second third : List Op) → IsBehind still first second
    → IsBehind still second third → IsBehind still first third
behind-one still first second third one two = record {
  grows = continues_on first second third one.grows two.grows;
  stays = λ is. two.stays is ∙ one.stays is;
}

pub behind-same : (still : Bool) (ops later : List Op) → later ≡ ops → IsBehind still ops later
behind-same still ops later same = record {
  grows = subst (Continues ops) (sym same) (continues_itself ops);
  stays = λ _. same;
}

-- the same of each collection
pub behind-on : (them : Collections) (first second third : ℕ → List Op) → AreBehind them first second
    → AreBehind them second third → AreBehind them first third
behind-on them first second third one two = λ number.
    behind-one (them.still number) (first number) (second number) (third number) (one number) (two number)

pub behind-itself : (them : Collections) (seen : ℕ → List Op) → AreBehind them seen seen
behind-itself them seen = λ number. behind-same (them.still number) (seen number) (seen number) refl

-- ---- one collection and the others

-- the others were left, so all are behind where the one is
pub all-behind : (them : Collections) (number : ℕ) (views views' : Views) → OthersStay number views views'
    → IsBehind (them.still number) (views.seen number) (views'.seen number)
    → AreBehind them views.seen views'.seen
all-behind them number views views' others behind = λ other. ⊎_elim
    (λ same. subst (λ (n : ℕ). IsBehind (them.still n) (views.seen n) (views'.seen n)) (sym same) behind)
    (λ differs. behind-same (them.still other) (views.seen other) (views'.seen other) (others.seen_are other differs))
    (cases_eq other number)

pub others-itself : (number : ℕ) (views : Views) → OthersStay number views views
others-itself number views = record { seen_are = λ other differs. refl; looks_are = λ other differs. refl }

-- these looks at one collection, and none at the others
abbrev pub looks_at : ℕ → List ℕ → ℕ → List ℕ
looks_at number more other = if nat_eq other number then more else []

pub looks_at-own : (number : ℕ) (more : List ℕ) → looks_at number more number ≡ more
looks_at-own number more = ap (λ (b : Bool). if b then more else []) (eq-eqb number number refl)

pub looks_at-other : (number other : ℕ) (more : List ℕ) → other ≢ number → looks_at number more other ≡ []
looks_at-other number other more differs = ap (λ (b : Bool). if b then more else []) (ne_eqb other number differs)

-- the looks of each collection, with these at one
pub looks-each : (number : ℕ) (views views' : Views) (more : List ℕ) → OthersStay number views views'
    → views'.looks number ≡ views.looks number ++ more
    → (other : ℕ) → views'.looks other ≡ views.looks other ++ looks_at number more other
looks-each number views views' more others own other = ⊎_elim
    (λ same. subst (λ (n : ℕ). views'.looks n ≡ views.looks n ++ looks_at number more n) (sym same)
    (own ∙ ap (λ (l : List ℕ). views.looks number ++ l) (sym (looks_at-own number more))))
    (λ differs. others.looks_are other differs ∙ sym (append-nil (views.looks other))
    ∙ ap (λ (l : List ℕ). views.looks other ++ l) (sym (looks_at-other number other more differs)))
    (cases_eq other number)

-- the look that may have been made
pub looks_made : (earlier : List ℕ) (count : ℕ) (later : List ℕ) → MayHaveLooked earlier count later → List ℕ
looks_made earlier count later (inl none) = []
looks_made earlier count later (inr one) = count ∷ []

pub looks_made-are : (earlier : List ℕ) (count : ℕ) (later : List ℕ) (may : MayHaveLooked earlier count later)
    → later ≡ earlier ++ looks_made earlier count later may
unfolding looks_made
looks_made-are earlier count later (inl none) = none ∙ sym (append-nil earlier)
looks_made-are earlier count later (inr one) = one

pub looks_made-few : (earlier : List ℕ) (count : ℕ) (later : List ℕ) (may : MayHaveLooked earlier count later)
    → MayHaveLooked [] count (looks_made earlier count later may)
unfolding looks_made
looks_made-few earlier count later (inl none) = inl refl
looks_made-few earlier count later (inr one) = inr refl

-- ---- views with another sight of one collection

abbrev pub with_sight : ℕ → Sight → Views → Views
with_sight number sight views = record {
  seen = λ other. if nat_eq other number then sight.seen else views.seen other;
  looks = λ other. if nat_eq other number then sight.looks else views.looks other;
}

pub with_sight-own : (number : ℕ) (sight : Sight) (views : Views)
    → sight_in (with_sight number sight views) number ≡ sight
with_sight-own number sight views =
    ap (λ (b : Bool). record {
      seen = if b then sight.seen else views.seen number;
      looks = if b then sight.looks else views.looks number;
    }) (eq-eqb number number refl)

pub with_sight-others : (number : ℕ) (sight : Sight) (views : Views)
    → OthersStay number views (with_sight number sight views)
with_sight-others number sight views = record {
  seen_are = λ other differs.
      ap (λ (b : Bool). if b then sight.seen else views.seen other) (ne_eqb other number differs);
  looks_are = λ other differs.
      ap (λ (b : Bool). if b then sight.looks else views.looks other) (ne_eqb other number differs);
}

-- what a link has seen stays behind what was seen where both are left at all collections but one
pub behind-kept : (them : Collections) (number : ℕ) (own own' views views' : Views) → OthersStay number own own'
    → OthersStay number views views' → AreBehind them own.seen views.seen
    → IsBehind (them.still number) (own'.seen number) (views'.seen number) → AreBehind them own'.seen views'.seen
behind-kept them number own own' views views' kept others behind this = λ other. ⊎_elim
    (λ same. subst (λ (n : ℕ). IsBehind (them.still n) (own'.seen n) (views'.seen n)) (sym same) this)
    (λ differs. subst (λ (ops : List Op). IsBehind (them.still other) ops (views'.seen other))
    (sym (kept.seen_are other differs))
    (subst (IsBehind (them.still other) (own.seen other)) (sym (others.seen_are other differs)) (behind other)))
    (cases_eq other number)
