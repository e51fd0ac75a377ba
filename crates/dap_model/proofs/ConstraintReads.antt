-- Where slabs and clauses lead reading: a text that is a constraint is read.
use Rattle.std.proofs.Common.{◌≡◌, ℕ, ◌≤◌, List, [], ◌∷◌, ◌++◌, length, Option, Some, refl, sym, ap, subst, ◌∙◌, append_assoc, append-nil, inl, inr, arith}
use Rattle.std.specs.Option.{option_map}
use Rattle.std.proofs.lemmas.Option.{none-some, same_Some}
use Rattle.nc_model.specs.Spelling.{Spelled}
use Rattle.dap_model.specs.declared.projection.Clause.{Clause}
use Rattle.dap_model.specs.declared.projection.Slab.{Slab}
use Rattle.fm_base.specs.Name.{is_name_byte}
use Rattle.dap_model.specs.Constraint.{slab_of, Separated, SpellsSlab, SpellsClause, Constrains}
use Rattle.dap_model.specs.ConstraintReading.{Begun, State, front, before_name, in_name, before_number, in_number, after_slab, fresh, with_name, with_slab, clauses_of, next_clause, step_on, step_name, step_number, step, clauses_at}
use Rattle.dap_model.proofs.ConstraintRuns.{run, run-append, run-cons, run-path, run-numbers}

-- a clause may end here
record StandsOn (begun : Begun) (state : State) : Type 0 where
  bracket : step state 91 ≡ Some (before_number begun [])
  comma : step state 44 ≡ Some (before_name (next_clause begun))
  clauses : clauses_at state ≡ Some (clauses_of begun)

-- reading comes to where a clause may end
record Ends (begun : Begun) (state : Option State) : Type 0 where
  last : State
  ran : state ≡ Some last
  stands : StandsOn begun last

at_slab : (begun : Begun) → StandsOn begun (after_slab begun)
unfolding step step_on clauses_at
at_slab begun = record { bracket = refl; comma = refl; clauses = refl }

at_name : (begun : Begun) (name : List ℕ) → StandsOn (with_name begun name) (in_name begun name)
unfolding step step_name step_on clauses_at is_name_byte
at_name begun name = record { bracket = refl; comma = refl; clauses = refl }

few_numbers : (numbers : List ℕ) (slab : Slab) → slab_of numbers ≡ Some slab → length numbers ≤ 3
unfolding slab_of
few_numbers [] slab h = omega arith
few_numbers (i ∷ []) slab h = omega arith
few_numbers (i ∷ j ∷ []) slab h = omega arith
few_numbers (i ∷ j ∷ k ∷ []) slab h = omega arith
few_numbers (i ∷ j ∷ k ∷ l ∷ numbers) slab h = absurd (none-some slab h)

run-close : (begun : Begun) (numbers : List ℕ) (count value : ℕ) (slab : Slab)
    → slab_of (numbers ++ value ∷ []) ≡ Some slab
    → run (in_number begun numbers count value) (93 ∷ []) ≡ Some (after_slab (with_slab begun slab))
unfolding run step step_number
run-close begun numbers count value slab h =
    run-cons (in_number begun numbers count value) (after_slab (with_slab begun slab)) 93 []
    (ap (option_map (λ (s : Slab). after_slab (with_slab begun s))) h)

run-slab : (begun : Begun) (state : State) (text : List ℕ) (slab : Slab) → StandsOn begun state → SpellsSlab text slab
    → run state text ≡ Some (after_slab (with_slab begun slab))
run-slab begun state text slab stands s =
    let inside = run-numbers begun [] s.inner s.numbers (omega (arith, few_numbers s.numbers slab s.slab_is)) s.each in
    ap (run state) s.text_is
    ∙ run-cons state (before_number begun []) 91 (s.inner ++ 93 ∷ []) stands.bracket
    ∙ run-append (before_number begun []) (in_number begun inside.earlier inside.count inside.value) s.inner
    (93 ∷ []) inside.ran
    ∙ run-close begun inside.earlier inside.count inside.value slab (ap slab_of inside.whole ∙ s.slab_is)

run-slabs : (begun : Begun) (state : State) (text : List ℕ) (slabs : List Slab) → StandsOn begun state
    → Spelled SpellsSlab text slabs
    → Ends (record begun { slabs = begun.slabs ++ slabs }) (run state text)
unfolding run
run-slabs begun state text [] stands s = record {
  last = state;
  ran = ap (run state) s;
  stands =
      subst (λ (slabs : List Slab). StandsOn (record begun { slabs = slabs }) state)
      (sym (append-nil begun.slabs)) stands;
}
run-slabs begun state text (slab ∷ slabs) stands s =
    let others =
    run-slabs (with_slab begun slab) (after_slab (with_slab begun slab)) s.1 slabs
    (at_slab (with_slab begun slab)) s.3 in
    record {
      last = others.last;
      ran =
          ap (run state) s.4 ∙ run-append state (after_slab (with_slab begun slab)) s.0 s.1
          (run-slab begun state s.0 slab stands s.2) ∙ others.ran;
      stands =
          subst (λ (each : List Slab). StandsOn (record begun { slabs = each }) others.last)
          (append_assoc begun.slabs (slab ∷ []) slabs) others.stands;
    }

-- a clause after others
abbrev with_clause : List Clause → Clause → Begun
with_clause clauses clause = record { clauses = clauses; path = clause.path; slabs = clause.slabs }

abbrev opened : List Clause → Begun
opened clauses = record { clauses = clauses; path = []; slabs = [] }

run-clause : (clauses : List Clause) (text : List ℕ) (clause : Clause) → SpellsClause text clause
    → Ends (with_clause clauses clause) (run (before_name (opened clauses)) text)
run-clause clauses text clause s =
    let path = run-path (opened clauses) s.path_text clause.path s.path_is in
    let whole : Begun = record { clauses = clauses; path = clause.path; slabs = [] } in
    let stands =
    subst (λ (b : Begun). StandsOn b (in_name path.earlier path.name)) path.whole (at_name path.earlier path.name) in
    let slabs = run-slabs whole (in_name path.earlier path.name) s.slabs_text clause.slabs stands s.slabs_is in
    record {
      last = slabs.last;
      ran = ap (run (before_name (opened clauses))) s.text_is
          ∙ run-append (before_name (opened clauses)) (in_name path.earlier path.name) s.path_text s.slabs_text path.ran
          ∙ slabs.ran;
      stands = slabs.stands;
    }

-- reading ends with these clauses
pub record Reads (clauses : List Clause) (state : Option State) : Type 0 where
  pub last : State
  pub ran : state ≡ Some last
  pub clauses_are : clauses_at last ≡ Some clauses

run-clauses : (before : List Clause) (text : List ℕ) (clauses : List Clause) → Separated 44 SpellsClause text clauses
    → Reads (before ++ clauses) (run (before_name (opened before)) text)
run-clauses before text [] s = absurd s
run-clauses before text (clause ∷ []) s =
    let ends = run-clause before text clause s in
    record { last = ends.last; ran = ends.ran; clauses_are = ends.stands.clauses }
run-clauses before text (clause ∷ next ∷ clauses) s =
    let first = run-clause before s.0 clause s.2 in
    let others = run-clauses (before ++ clause ∷ []) s.1 (next ∷ clauses) s.3 in
    record {
      last = others.last;
      ran = ap (run (before_name (opened before))) s.4
          ∙ run-append (before_name (opened before)) first.last s.0 (44 ∷ s.1) first.ran
          ∙ run-cons first.last (before_name (opened (before ++ clause ∷ []))) 44 s.1 first.stands.comma
          ∙ others.ran;
      clauses_are = others.clauses_are ∙ ap Some (append_assoc before (clause ∷ []) (next ∷ clauses));
    }

no_clauses : (clauses : List Clause) → Reads clauses (run (before_name fresh) []) → ⊥
unfolding run clauses_at
no_clauses clauses reads = none-some clauses (ap clauses_at (same_Some _ _ reads.ran) ∙ reads.clauses_are)

-- a constraint is read to its end
pub Reads-constraint : (text : List ℕ) (clauses : List Clause) → Constrains text clauses
    → Reads clauses (run front text)
unfolding run step clauses_at
Reads-constraint text clauses (inl empty) =
    record { last = front; ran = ap (run front) empty.0; clauses_are = ap Some (sym empty.1) }
Reads-constraint [] clauses (inr s) = absurd (no_clauses clauses (run-clauses [] [] clauses s))
Reads-constraint (byte ∷ text) clauses (inr s) = run-clauses [] (byte ∷ text) clauses s
