-- What a desk was asked for, and its log, as a pass then sees it.
use Rattle.std.proofs.Common.{◌≡◌, ℕ, ◌+◌, ◌≤◌, List, [], ◌∷◌, ◌++◌, length, refl, sym, ap, subst, ◌∙◌, append-nil, length-append, arith, lt-ltb, if◌then◌else◌}
use Rattle.fm_base.proofs.ListLemmas.{slice_get-push}
use Rattle.fm_model.specs.declared.op.Op.{Op}
use Rattle.pub_look.specs.History.{Continues, History}
use Rattle.pub_pass.specs.Copies.{longer}
use Rattle.srv_verdict.specs.declared.attempt.Attempt.{Attempt}
use Rattle.srv_verdict.specs.declared.attempt.Attempt.TheVariants.{Done}
use Rattle.srv_verdict.specs.Attempts.{OnlyLearnt, Tried}
use Rattle.srv_verdict.specs.Verdicts.{IsNumbered}

-- the last operation has the length for its number
IsNumbered-last : (ops : List Op) (op : Op) → IsNumbered (ops ++ op ∷ []) (length (ops ++ op ∷ [])) op
IsNumbered-last ops op =
    record { index = length ops; number_is = length-append ops (op ∷ []); op_is = slice_get-push ops op }

-- a log with one operation more is the longer of it and a list that isn't longer than the log
pub longer-more : (own ops : List Op) (op : Op) → length own ≤ length ops
    → longer own (ops ++ op ∷ []) ≡ ops ++ op ∷ []
longer-more own ops op within = ap (λ b. if b then ops ++ op ∷ [] else own)
    (lt-ltb (length own) (length (ops ++ op ∷ [])) (omega (arith, within, length-append ops (op ∷ []))))

-- a pass after it learnt a log
abbrev pub learnt_by : History → List Op → History
learnt_by pass log = record { proto = pass.proto; seen = longer pass.seen log; looks = pass.looks }

-- an operation was published, and the pass learnt the log
pub Tried-learnt : (op : Op) (pass pass' : History) (log log' : List Op) (share share' : ℕ) (result : Attempt)
    → length pass.seen ≤ length log → log' ≡ log ++ op ∷ [] → share' ≡ share + 1 → result ≡ Done (length log')
    → pass' ≡ learnt_by pass log' → Tried op pass pass' share share' result
Tried-learnt op pass pass' log log' share share' result within log_is counted result_is pass_is =
    let seen_is : pass'.seen ≡ log ++ op ∷ [] = ap (λ (h : History). h.seen) pass_is
    ∙ ap (λ (l : List Op). longer pass.seen l) log_is ∙ longer-more pass.seen log op within in
    let more : length (log ++ op ∷ []) ≡ length log + 1 = length-append log (op ∷ []) in
    subst (λ (r : Attempt). Tried op pass pass' share share' r)
    (sym (result_is ∙ ap (λ (l : List Op). Done (length l)) log_is)) (
      subst (λ (l : List Op). IsNumbered l (length (log ++ op ∷ [])) op) (sym seen_is) (IsNumbered-last log op),
      omega (arith, within, more),
      counted,
    )

-- the pass saw more
pub OnlyLearnt-learnt : (pass pass' : History) (log : List Op) → pass' ≡ learnt_by pass log
    → Continues pass.seen pass'.seen → OnlyLearnt pass pass'
OnlyLearnt-learnt pass pass' log is later = record {
  proto = ap (λ (h : History). h.proto) is;
  later = later;
  looks = ap (λ (h : History). h.looks) is;
}

-- nothing was learnt
pub OnlyLearnt-none : (pass : History) → OnlyLearnt pass pass
OnlyLearnt-none pass = record { proto = refl; later = ([], sym (append-nil pass.seen)); looks = refl }

pub ruleset attempts = (Tried-learnt, OnlyLearnt-learnt, OnlyLearnt-none)
