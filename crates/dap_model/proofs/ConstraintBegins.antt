-- Some constraint begins with what is read, and none with more once reading has died.
use Rattle.std.proofs.Common.{◌≡◌, ℕ, suc, ◌<◌, ◌≤◌, List, [], ◌∷◌, ◌++◌, length, take, drop, slice_get, Some, None, refl, sym, ap, ◌∙◌, arith, zero}
use Rattle.std.specs.Option.{option_map, option_and_then}
use Rattle.std.proofs.lemmas.Option.{none-some, same_Some}
use Rattle.dap_model.specs.declared.projection.Clause.{Clause}
use Rattle.dap_model.specs.declared.projection.Slab.{Slab}
use Rattle.fm_base.specs.Name.{is_name_byte}
use Rattle.dap_model.specs.Constraint.{slab_of, BeginsConstraint}
use Rattle.dap_model.specs.ConstraintReading.{Begun, State, front, before_name, in_name, before_number, in_number, after_slab, with_name, with_slab, clauses_of, step_to_name, step_number, step, clauses_at}
use Rattle.dap_model.proofs.ConstraintDeath.{Dies, Leads-front}
use Rattle.dap_model.proofs.ConstraintLeads.{Constrains-from_leads}
use Rattle.dap_model.proofs.ConstraintReads.{Reads-constraint}
use Rattle.dap_model.proofs.ConstraintRuns.{run, run-append, run-cons}
use Rattle.dap_model.proofs.ConstraintStates.{Leads}

-- a shortest way from a state to one where a constraint may end
record Completed (state : State) : Type 0 where
  rest : List ℕ
  last : State
  clauses : List Clause
  ran : run state rest ≡ Some last
  ends : clauses_at last ≡ Some clauses

made_slab : (numbers : List ℕ) (value : ℕ) → length numbers ≤ 2
    → (slab : Slab) × (slab_of (numbers ++ value ∷ []) ≡ Some slab)
unfolding slab_of
made_slab [] value few = (_, refl)
made_slab (i ∷ []) value few = (_, refl)
made_slab (i ∷ j ∷ []) value few = (_, refl)
made_slab (i ∷ j ∷ k ∷ numbers) value few = absurd (omega arith)

completed_number : (begun : Begun) (numbers : List ℕ) (count value : ℕ) → length numbers ≤ 2
    → Completed (in_number begun numbers count value)
unfolding run step step_number clauses_at
completed_number begun numbers count value few =
    let made = made_slab numbers value few in
    record {
      rest = 93 ∷ [];
      last = after_slab (with_slab begun made.0);
      clauses = clauses_of (with_slab begun made.0);
      ran =
          run-cons (in_number begun numbers count value) (after_slab (with_slab begun made.0)) 93 []
          (ap (option_map (λ (s : Slab). after_slab (with_slab begun s))) made.1);
      ends = refl;
    }

completed : (text : List ℕ) (state : State) → Leads text state → Completed state
unfolding run step step_to_name clauses_at is_name_byte
completed text front leads = record { rest = []; last = front; clauses = []; ran = refl; ends = refl }
completed text (before_name begun) leads =
    record {
      rest = 97 ∷ [];
      last = in_name begun (97 ∷ []);
      clauses = clauses_of
          (with_name begun (97 ∷ []));
      ran = refl;
      ends = refl;
    }
completed text (in_name begun name) leads =
    record {
      rest = [];
      last = in_name begun name;
      clauses = clauses_of
          (with_name begun name);
      ran = refl;
      ends = refl;
    }
completed text (before_number begun numbers) leads =
    let more = completed_number begun numbers 1 0 leads.few in
    record {
      rest = 48 ∷ more.rest;
      last = more.last;
      clauses = more.clauses;
      ran = run-cons (before_number begun numbers) (in_number begun numbers 1 0) 48 more.rest refl ∙ more.ran;
      ends = more.ends;
    }
completed text (in_number begun numbers count value) leads = completed_number begun numbers count value leads.leads.few
completed text (after_slab begun) leads =
    record { rest = []; last = after_slab begun; clauses = clauses_of begun; ran = refl; ends = refl }

-- some constraint begins with what is read
pub BeginsConstraint-run : (text : List ℕ) (last : State) → run front text ≡ Some last → BeginsConstraint text
BeginsConstraint-run text last ran =
    let more = completed text last (Leads-front text last ran) in
    record {
      rest = more.rest;
      clauses = more.clauses;
      spelled = Constrains-from_leads (text ++ more.rest) more.last more.clauses
          (Leads-front (text ++ more.rest) more.last (run-append front last text more.rest ran ∙ more.ran)) more.ends;
    }

-- where reading dies it doesn't go on, whatever follows
stays_dead : (state last : State) (before after : List ℕ) (byte : ℕ) → run state before ≡ Some last
    → step last byte ≡ None → run state (before ++ byte ∷ after) ≡ None
unfolding run
stays_dead state last before after byte ran dead =
    run-append state last before (byte ∷ after) ran ∙ ap (option_and_then (λ (next : State). run next after)) dead

-- more of a text than up to an offset, by the byte there
cut : (text : List ℕ) (offset more byte : ℕ) (rest : List ℕ) → slice_get text offset ≡ Some byte → offset < more
    → take more text ++ rest ≡ take offset text ++ byte ∷ (drop (suc offset) (take more text) ++ rest)
cut [] offset more byte rest here longer = absurd (none-some byte here)
cut (x ∷ text) offset zero byte rest here longer = absurd (omega arith)
cut (x ∷ text) zero (suc more) byte rest here longer =
    ap (λ (b : ℕ). b ∷ (take more text ++ rest)) (same_Some x byte here)
cut (x ∷ text) (suc offset) (suc more) byte rest here longer =
    ap (λ (l : List ℕ). x ∷ l) (cut text offset more byte rest here (omega arith))

-- no constraint begins with more than what is read
pub dead_end : (text : List ℕ) (dies : Dies front text) (more : ℕ) → dies.offset < more
    → BeginsConstraint (take more text) → ⊥
dead_end text dies more longer begins =
    let reads = Reads-constraint (take more text ++ begins.rest) begins.clauses begins.spelled in
    none-some reads.last
    (sym (ap (run front) (cut text dies.offset more dies.byte begins.rest dies.here longer)
    ∙ stays_dead front dies.last (take dies.offset text)
    (drop (suc dies.offset) (take more text) ++ begins.rest) dies.byte dies.ran dies.dead)
    ∙ reads.ran)
