-- Reading goes on with a byte, ends with a fault, or comes to the end of the text.
use Rattle.std.proofs.Common.{◌≡◌, ◌≢◌, ℕ, suc, ◌+◌, ◌<◌, ◌&&◌, false, List, [], ◌∷◌, length, get_or, slice_get, drop, Some, None, Ok, Err, Result, refl, sym, ap, ◌∙◌, arith}
use Rattle.std.specs.Option.{option_map_or}
use Rattle.std.proofs.Math.Seq.{drop-cons}
use Rattle.std.proofs.lemmas.Bool.{cond-false, ne_eqb}
use Rattle.std.proofs.lemmas.List.{drop_all}
use Rattle.std.proofs.lemmas.Option.{none-some, same_Some}
use Rattle.fm_base.specs.Name.{is_name_byte}
use Rattle.dap_model.specs.ConstraintReading.{State, front, before_name, clauses_at, constraint_of, ended_at, fault_at, fresh, may_end, read_from, step, step_to_name}
use Rattle.dap_model.specs.declared.fault.CeFault.{CeFault}
use Rattle.dap_model.specs.declared.fault.CeFault.TheVariants.{BadConstraint, Selection}
use Rattle.dap_model.specs.declared.projection.Clause.{Clause}

pub read_from-on : (state next : State) (at : ℕ) (text : List ℕ) → at < length text
    → step state (get_or text at 0) ≡ Some next
    → read_from state at (drop at text) ≡ read_from next (at + 1) (drop (at + 1) text)
unfolding read_from
read_from-on state next at text within leads =
    let byte = get_or text at 0 in
    let rest = drop (suc at) text in
    let one : suc at ≡ at + 1 = omega arith in
    ap (read_from state at) (drop-cons text at 0 within)
    ∙ ap (λ o. option_map_or (λ (s : State). read_from s (at + 1) rest) o (Err (fault_at state at byte))) leads
    ∙ ap (λ (n : ℕ). read_from next (at + 1) (drop n text)) one

pub read_from-fault : (state : State) (at : ℕ) (text : List ℕ) → at < length text → step state (get_or text at 0) ≡ None
    → read_from state at (drop at text) ≡ Err (fault_at state at (get_or text at 0))
unfolding read_from
read_from-fault state at text within ends =
    let byte = get_or text at 0 in
    let rest = drop (suc at) text in
    ap (read_from state at) (drop-cons text at 0 within)
    ∙ ap (λ o. option_map_or (λ (s : State). read_from s (at + 1) rest) o (Err (fault_at state at byte))) ends

pub read_from-end : (state : State) (text : List ℕ)
    → read_from state (length text) (drop (length text) text) ≡ ended_at (length text) (clauses_at state)
unfolding read_from
read_from-end state text = ap (read_from state (length text)) (drop_all (length text) text (omega arith))

pub constraint_of-none : constraint_of [] ≡ Ok []
unfolding constraint_of read_from clauses_at
constraint_of-none = refl

pub constraint_of-mark : (text : List ℕ) → constraint_of (38 ∷ text) ≡ Err (Selection 0)
unfolding constraint_of read_from clauses_at step step_to_name is_name_byte
constraint_of-mark text = refl

-- a byte that is no mark of a selection has the same fault in front of a text as in front of a name
same_fault : (byte : ℕ) → byte ≢ 38 → fault_at front 0 byte ≡ fault_at (before_name fresh) 0 byte
unfolding clauses_at
same_fault byte other =
    let none = ne_eqb byte 38 other in
    cond-false _ _ _ (ap (λ b. b && may_end front) none)
    ∙ sym (cond-false _ _ _ (ap (λ b. b && may_end (before_name fresh)) none))

pub constraint_of-clauses : (byte : ℕ) (text : List ℕ) → byte ≢ 38
    → constraint_of (byte ∷ text) ≡ read_from (before_name fresh) 0 (byte ∷ text)
unfolding constraint_of read_from step
constraint_of-clauses byte text other =
    ap (λ (fault : CeFault). option_map_or (λ (s : State). read_from s 1 text) (step_to_name fresh byte) (Err fault))
    (same_fault byte other)

-- what a text begins with
pub no_front : (text : List ℕ) → None ≡ slice_get text 0 → text ≡ []
no_front [] e = refl
no_front (byte ∷ text) e = absurd (none-some byte e)

pub front_of : (text : List ℕ) (byte : ℕ) → Some byte ≡ slice_get text 0 → (rest : List ℕ) × (text ≡ byte ∷ rest)
front_of [] byte e = absurd (none-some byte (sym e))
front_of (first ∷ rest) byte e = (rest, ap (λ (n : ℕ). n ∷ rest) (sym (same_Some byte first e)))
