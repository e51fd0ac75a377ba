-- One look at each collection, one after the other.
use Rattle.std.proofs.Common.{◌≡◌, ◌≢◌, ◌<◌, ◌≤◌, ⊎_elim, ℕ, ◌+◌, Bool, true, List, [], ◌∷◌, ◌++◌, length, sym, ap, subst, ◌∙◌, append-nil, arith}
use Rattle.std.specs.Prelude.{if◌then◌else◌}
use Rattle.std.proofs.lemmas.Bool.{cases_eq, cases_lt, le-ltb, lt-ltb}
use Rattle.fm_model.specs.declared.op.Op.{Op}
use Rattle.pub_look.specs.History.{Continues}
use Rattle.dap_reply.specs.Collections.{Collections, Views}
use Rattle.srv_conn.specs.declared.revisions.Revisions.{Revisions}
use Rattle.srv_conn.specs.Out.{first_looks}
use Rattle.srv_conn.specs.Revisions.{revision_at}
use Rattle.srv_conn.specs.Sight.{AreBehind, OthersStay}
use Rattle.srv_conn.proofs.ViewLemmas.{all-behind, behind-on}

first-there : (count : ℕ) (seen : ℕ → List Op) (number : ℕ) → number < count
    → first_looks count seen number ≡ length (seen number) ∷ []
first-there count seen number below =
    ap (λ (b : Bool). if b then length (seen number) ∷ [] else []) (lt-ltb number count below)

pub first-past : (count : ℕ) (seen : ℕ → List Op) (number : ℕ) → count ≤ number → first_looks count seen number ≡ []
first-past count seen number past =
    ap (λ (b : Bool). if b then length (seen number) ∷ [] else []) (le-ltb number count past)

module _ (them : Collections) (start views views' : Views) (number : ℕ) (others : OthersStay number views views')
  where
    -- what was seen grew at the collection of a number
    pub glance-later : (now : Collections) → now ≡ them → AreBehind them start.seen views.seen
        → Continues (views.seen number) (views'.seen number)
        → (now.still number ≡ true → views'.seen number ≡ views.seen number) → AreBehind them start.seen views'.seen
    glance-later now same behind grows stays =
        behind-on them start.seen views.seen views'.seen behind
        (all-behind them number views views' others (record {
          grows = grows;
          stays = λ is. stays (ap (λ (c : Collections). c.still number) same ∙ is);
        }))

    -- one look more was made
    pub glance-looked : ((n : ℕ) → views.looks n ≡ start.looks n ++ first_looks number views.seen n)
        → views'.looks number ≡ views.looks number ++ length (views'.seen number) ∷ []
        → (n : ℕ) → views'.looks n ≡ start.looks n ++ first_looks (number + 1) views'.seen n
    glance-looked looked own n = ⊎_elim
        (λ same. subst (λ (k : ℕ). views'.looks k ≡ start.looks k ++ first_looks (number + 1) views'.seen k) (sym same)
        (own ∙ ap (λ (l : List ℕ). l ++ length (views'.seen number) ∷ []) (looked number
        ∙ ap (λ (l : List ℕ). start.looks number ++ l) (first-past number views.seen number (omega arith))
        ∙ append-nil (start.looks number))
        ∙ ap (λ (l : List ℕ). start.looks number ++ l)
        (sym (first-there (number + 1) views'.seen number (omega arith)))))
        (λ differs. others.looks_are n differs ∙ looked n
        ∙ ap (λ (l : List ℕ). start.looks n ++ l) (first-same differs))
        (cases_eq n number)
      where
        first-same : n ≢ number → first_looks number views.seen n ≡ first_looks (number + 1) views'.seen n
        first-same differs = ⊎_elim
            (λ below. first-there number views.seen n below
            ∙ ap (λ (ops : List Op). length ops ∷ []) (sym (others.seen_are n differs))
            ∙ sym (first-there (number + 1) views'.seen n (omega (arith, below))))
            (λ past. first-past number views.seen n past
            ∙ sym (first-past (number + 1) views'.seen n (omega (arith, past, differs))))
            (cases_lt n number)

    -- and one revision more is known
    pub glance-revisions : (revisions revisions' : Revisions)
        → ((n : ℕ) → n < number → revision_at revisions n ≡ length (views.seen n))
        → revision_at revisions' number ≡ length (views'.seen number)
        → ((n : ℕ) → n ≢ number → revision_at revisions' n ≡ revision_at revisions n)
        → (n : ℕ) → n < number + 1 → revision_at revisions' n ≡ length (views'.seen n)
    glance-revisions revisions revisions' are own same n below = ⊎_elim
        (λ is. subst (λ (k : ℕ). revision_at revisions' k ≡ length (views'.seen k)) (sym is) own)
        (λ differs. same n differs ∙ are n (omega (arith, below, differs))
        ∙ ap length (sym (others.seen_are n differs)))
        (cases_eq n number)
