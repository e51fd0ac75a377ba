-- How much is held after an operation.
use Rattle.std.proofs.Common.{◌≡◌, ℕ, ◌≤◌, List, [], ◌∷◌, ◌++◌, length, take, refl, sym, ap, subst, ◌∙◌, arith}
use Rattle.std.proofs.lemmas.List.{take_all}
use Rattle.std.proofs.lemmas.List.Elements.{All-cons, All-nil}
use Rattle.fm_model.specs.declared.full.Tally.{Tally}
use Rattle.fm_model.specs.declared.op.Op.{Op}
use Rattle.fm_model.specs.Collection.{coll, tally}
use Rattle.pub_look.specs.History.{History}
use Rattle.pub_pass.specs.Copies.{longer}
use Rattle.srv_verdict.specs.declared.attempt.Attempt.{Attempt}
use Rattle.srv_verdict.specs.declared.attempt.Attempt.TheVariants.{Done}
use Rattle.srv_verdict.specs.Attempts.{HeldAfter, HeldAt}
use Rattle.srv_verdict.proofs.AttemptLemmas.{learnt_by, longer-more}

-- what is held after all operations, the last of which was just published
pub HeldAt-learnt : (op : Op) (pass pass' : History) (log log' : List Op) (held : Tally) (result : Attempt)
    → length pass.seen ≤ length log → log' ≡ log ++ op ∷ [] → result ≡ Done (length log')
    → pass' ≡ learnt_by pass log' → held ≡ tally (coll log') → HeldAt pass'.seen held result
HeldAt-learnt op pass pass' log log' held result within log_is result_is pass_is held_is =
    let seen_is : pass'.seen ≡ log' = ap (λ (h : History). h.seen) pass_is
    ∙ ap (λ (l : List Op). longer pass.seen l) log_is ∙ longer-more pass.seen log op within ∙ sym log_is in
    subst (λ (r : Attempt). HeldAt pass'.seen held r) (sym result_is)
    (subst (λ (l : List Op). held ≡ tally (coll (take (length log') l))) (sym seen_is)
    (held_is ∙ ap (λ (l : List Op). tally (coll l)) (sym (take_all (length log') log' (omega arith)))))

-- a verdict that says no operation
pub HeldAfter-none : (ops : List Op) (held : Tally) {numbers : List ℕ} → numbers ≡ [] → HeldAfter ops held numbers
HeldAfter-none ops held {numbers} none =
    let P : ℕ → Type 0 = λ number. held ≡ tally (coll (take number ops)) in
    subst (λ (l : List ℕ). HeldAfter ops held l) (sym none) (All-nil P)

-- a verdict that says one
pub HeldAfter-one : (ops : List Op) (held : Tally) {number : ℕ} {numbers : List ℕ}
    → held ≡ tally (coll (take number ops)) → numbers ≡ number ∷ [] → HeldAfter ops held numbers
HeldAfter-one ops held {number} {numbers} is one =
    let P : ℕ → Type 0 = λ n. held ≡ tally (coll (take n ops)) in
    subst (λ (l : List ℕ). HeldAfter ops held l) (sym one) (All-cons P number [] is (All-nil P))

pub ruleset helds = (HeldAt-learnt)
