-- A text is a constraint and is read, or has one fault: where reading can't go on.
use Rattle.std.proofs.Common.{◌≡◌, ◌⊎◌, ℕ, ◌+◌, true, false, ◌&&◌, ◌==◌, List, length, take, Option, Some, None, Result, Ok, Err, refl, sym, ap, subst, ◌∙◌, inl, inr, arith, zero-add}
use Rattle.std.specs.Option.{option_map_or}
use Rattle.std.proofs.lemmas.Bool.{cases_Bool, cond-true, cond-false, and_parts, eqb-true, true≢false, cases_order}
use Rattle.std.proofs.lemmas.List.{take_all}
use Rattle.std.proofs.lemmas.Option.{none-some}
use Rattle.dap_model.specs.declared.fault.CeFault.{CeFault}
use Rattle.dap_model.specs.declared.fault.CeFault.TheVariants.{BadConstraint, Selection}
use Rattle.dap_model.specs.declared.projection.Clause.{Clause}
use Rattle.fm_base.specs.Name.{is_name_byte}
use Rattle.dap_model.specs.Constraint.{Constrains, BeginsConstraint, IsSelection, IsBadConstraint, HasFault}
use Rattle.dap_model.specs.ConstraintReading.{State, front, before_name, in_name, before_number, in_number, after_slab, step_on, step_to_name, step_name, step, clauses_at, may_end, fault_at, ended_at, constraint_of}
use Rattle.dap_model.proofs.ConstraintBegins.{BeginsConstraint-run, dead_end}
use Rattle.dap_model.proofs.ConstraintDeath.{Dies, goes-text, read_from-lives, read_from-dies, Leads-front}
use Rattle.dap_model.proofs.ConstraintLeads.{Constrains-from_leads}
use Rattle.dap_model.proofs.ConstraintReads.{Reads-constraint}
use Rattle.dap_model.proofs.ConstraintRuns.{run}

-- a constraint is read, with its clauses
pub constraint_of-constrains : (text : List ℕ) (clauses : List Clause) → Constrains text clauses
    → constraint_of text ≡ Ok clauses
unfolding constraint_of
constraint_of-constrains text clauses s =
    let reads = Reads-constraint text clauses s in
    read_from-lives front reads.last 0 text reads.ran ∙ ap (ended_at (0 + length text)) reads.clauses_are

ended_ok : (at : ℕ) (clauses : List Clause) (o : Option (List Clause)) → ended_at at o ≡ Ok clauses → o ≡ Some clauses
ended_ok at clauses None e = absurd (cc)
ended_ok at clauses (Some each) e = cc

ended_err : (at : ℕ) (fault : CeFault) (o : Option (List Clause)) → ended_at at o ≡ Err fault → fault ≡ BadConstraint at
ended_err at fault None e = cc
ended_err at fault (Some each) e = absurd (cc)

-- what is read is a constraint with these clauses
pub constrains_from_constraint_of : (text : List ℕ) (clauses : List Clause) → constraint_of text ≡ Ok clauses
    → Constrains text clauses
unfolding constraint_of
constrains_from_constraint_of text clauses e = elim (goes-text front text) [
  | inl lives ↦
      Constrains-from_leads text lives.last clauses (Leads-front text lives.last lives.ran)
      (ended_ok (0 + length text) clauses (clauses_at lives.last)
      (sym (read_from-lives front lives.last 0 text lives.ran) ∙ e))
  | inr dies ↦
      let other = sym (read_from-dies front dies.last 0 dies.offset dies.byte text dies.ran dies.here dies.dead) ∙ e in
      absurd (cc)
]

-- `&` goes on nowhere that a constraint may end
no_mark : (state : State) (clauses : List Clause) → clauses_at state ≡ Some clauses → step state 38 ≡ None
unfolding step step_to_name step_name step_on clauses_at is_name_byte
no_mark front clauses e = refl
no_mark (before_name begun) clauses e = absurd (none-some clauses e)
no_mark (in_name begun name) clauses e = refl
no_mark (before_number begun numbers) clauses e = absurd (none-some clauses e)
no_mark (in_number begun numbers count value) clauses e = absurd (none-some clauses e)
no_mark (after_slab begun) clauses e = refl

selects : (state : State) (clauses : List Clause) (at : ℕ) → clauses_at state ≡ Some clauses
    → fault_at state at 38 ≡ Selection at
selects state clauses at e =
    cond-true _ _ _ (ap (λ (o : Option (List Clause)). option_map_or (λ (each : List Clause). true) o false) e)

-- a selection is read as one
pub constraint_of-selection : (text : List ℕ) (at : ℕ) → IsSelection text at → constraint_of text ≡ Err (Selection at)
unfolding constraint_of
constraint_of-selection text at s =
    let reads = Reads-constraint (take at text) s.clauses s.before in
    read_from-dies front reads.last 0 at 38 text reads.ran s.mark (no_mark reads.last s.clauses reads.clauses_are)
    ∙ ap (λ (n : ℕ). Err (fault_at reads.last n 38)) (zero-add at)
    ∙ ap Err (selects reads.last s.clauses at reads.clauses_are)

-- what is read with a bad offset is neither
no_constraint : (text : List ℕ) (fault : CeFault) → constraint_of text ≡ Err fault → (clauses : List Clause)
    → Constrains text clauses → ⊥
no_constraint text fault e clauses s = let other = constraint_of-constrains text clauses s in cc

no_selection : (text : List ℕ) (at : ℕ) → constraint_of text ≡ Err (BadConstraint at) → (offset : ℕ)
    → IsSelection text offset → ⊥
no_selection text at e offset s = let other = constraint_of-selection text offset s in cc

-- reading comes to the end of a text that is no constraint
short : (text : List ℕ) (last : State) → run front text ≡ Some last
    → constraint_of text ≡ Err (BadConstraint (length text)) → IsBadConstraint text (length text)
short text last ran e = record {
  no_constraint = no_constraint text (BadConstraint (length text)) e;
  no_selection = no_selection text (length text) e;
  within = omega arith;
  begun = subst BeginsConstraint (sym (take_all (length text) text (omega arith))) (BeginsConstraint-run text last ran);
  greatest = λ more longer within begins. absurd (omega arith);
}

-- reading dies, at no selection
stuck : (text : List ℕ) (dies : Dies front text) → constraint_of text ≡ Err (BadConstraint dies.offset)
    → IsBadConstraint text dies.offset
stuck text dies e = record {
  no_constraint = no_constraint text (BadConstraint dies.offset) e;
  no_selection = no_selection text dies.offset e;
  within = omega (arith, dies.within);
  begun = BeginsConstraint-run (take dies.offset text) dies.last dies.ran;
  greatest = λ more longer within begins. dead_end text dies more longer begins;
}

ends_some : (state : State) → may_end state ≡ true → (clauses : List Clause) × (clauses_at state ≡ Some clauses)
unfolding clauses_at
ends_some front e = (_, refl)
ends_some (before_name begun) e = absurd (true≢false (sym e))
ends_some (in_name begun name) e = (_, refl)
ends_some (before_number begun numbers) e = absurd (true≢false (sym e))
ends_some (in_number begun numbers count value) e = absurd (true≢false (sym e))
ends_some (after_slab begun) e = (_, refl)

-- reading dies of `&` where a constraint may end
marked : (text : List ℕ) (dies : Dies front text) → dies.byte ≡ 38 → may_end dies.last ≡ true
    → IsSelection text dies.offset
marked text dies mark may =
    let ends = ends_some dies.last may in
    record {
      clauses = ends.0;
      before =
          Constrains-from_leads (take dies.offset text) dies.last ends.0
          (Leads-front (take dies.offset text) dies.last dies.ran) ends.1;
      mark = dies.here ∙ ap Some mark;
    }

same_fault : (fault other : CeFault) → ◌≡◌ {A = Result (List Clause) CeFault} (Err fault) (Err other) → fault ≡ other
same_fault fault other e = cc

-- a fault that is read is the text's
pub HasFault-constraint_of : (text : List ℕ) (fault : CeFault) → constraint_of text ≡ Err fault → HasFault text fault
unfolding constraint_of
HasFault-constraint_of text fault e = elim (goes-text front text) [
  | inl lives ↦
      let is : fault ≡ BadConstraint (length text) =
      ended_err (0 + length text) fault (clauses_at lives.last)
      (sym (read_from-lives front lives.last 0 text lives.ran) ∙ e) ∙ ap BadConstraint (zero-add (length text)) in
      subst (HasFault text) (sym is) (short text lives.last lives.ran (e ∙ ap Err is))
  | inr dies ↦
      let found : fault ≡ fault_at dies.last dies.offset dies.byte =
      same_fault fault _ (sym e
      ∙ read_from-dies front dies.last 0 dies.offset dies.byte text dies.ran dies.here dies.dead)
      ∙ ap (λ (n : ℕ). fault_at dies.last n dies.byte) (zero-add dies.offset) in
      elim (cases_Bool (dies.byte == 38 && may_end dies.last)) [
        | inl t ↦
            let tests = and_parts (dies.byte == 38) (may_end dies.last) t in
            subst (HasFault text) (sym (found ∙ cond-true _ _ _ t))
            (marked text dies (eqb-true dies.byte 38 tests.0) tests.1)
        | inr f ↦
            let is = found ∙ cond-false _ _ _ f in
            subst (HasFault text) (sym is) (stuck text dies (e ∙ ap Err is))
      ]
]

-- a text has one bad offset at most
same_offset : (text : List ℕ) (at other : ℕ) → IsBadConstraint text at → IsBadConstraint text other → at ≡ other
same_offset text at other s t = elim (cases_order at other) [
  | inl same ↦ same
  | inr apart ↦ elim apart [
    | inl below ↦ absurd (s.greatest other below t.within t.begun)
    | inr above ↦ absurd (t.greatest at above s.within s.begun)
  ]
]

either : (outcome : Result (List Clause) CeFault)
    → ((clauses : List Clause) × (outcome ≡ Ok clauses)) ⊎ ((fault : CeFault) × (outcome ≡ Err fault))
either (Ok clauses) = inl (clauses, refl)
either (Err fault) = inr (fault, refl)

bad_offset : (text : List ℕ) (at : ℕ) (fault : CeFault) → IsBadConstraint text at → HasFault text fault
    → fault ≡ BadConstraint at
bad_offset text at (BadConstraint other) s t = ap BadConstraint (same_offset text other at t s)
bad_offset text at (Selection offset) s t = absurd (s.no_selection offset t)

-- a fault of a text is read
pub constraint_of-fault : (text : List ℕ) (fault : CeFault) → HasFault text fault → constraint_of text ≡ Err fault
constraint_of-fault text (Selection at) s = constraint_of-selection text at s
constraint_of-fault text (BadConstraint at) s = elim (either (constraint_of text)) [
  | inl found ↦ absurd (s.no_constraint found.0 (constrains_from_constraint_of text found.0 found.1))
  | inr found ↦ found.1 ∙ ap Err (bad_offset text at found.0 s (HasFault-constraint_of text found.0 found.1))
]
