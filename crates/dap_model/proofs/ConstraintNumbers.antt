-- One byte more at the front of a number, in a number, or at the end of a slab.
use Rattle.std.proofs.Common.{◌≡◌, ℕ, ◌+◌, ◌-◌, ◌*◌, ◌<◌, true, List, [], ◌∷◌, ◌++◌, length, Option, Some, None, refl, sym, ap, ap₂, subst, ◌∙◌, append_assoc, arith}
use Rattle.std.specs.Char.{is_ascii_digit}
use Rattle.std.specs.Option.{option_map, option_and_then}
use Rattle.std.proofs.lemmas.Bool.{and_parts, and_from, ltb-true, eqb-true}
use Rattle.std.proofs.lemmas.List.{length-append}
use Rattle.std.proofs.lemmas.List.Folds.{list_all-append}
use Rattle.std.proofs.lemmas.Option.{none-some, option_and_then_some}
use Rattle.nc_model.specs.Stamp.{number_after}
use Rattle.dap_model.specs.declared.projection.Slab.{Slab}
use Rattle.dap_model.specs.Constraint.{slab_of, SpellsNumber, SpellsSlab}
use Rattle.dap_model.specs.ConstraintReading.{Begun, State, in_number, after_slab, with_slab, step_close, step_number}
use Rattle.dap_model.proofs.SeparatedLemmas.{Spelled-push, Followed-push, Separated-last}
use Rattle.dap_model.proofs.ConstraintStates.{AfterClause, BeforeNumber, InNumber, Leads, choose, reached}

number_after-append : (n : ℕ) (digits : List ℕ) (byte : ℕ)
    → number_after n (digits ++ byte ∷ []) ≡ number_after n digits * 10 + (byte - 48)
number_after-append n [] byte = refl
number_after-append n (digit ∷ digits) byte = number_after-append (n * 10 + (digit - 48)) digits byte

pub first_digit : (text : List ℕ) (begun : Begun) (numbers : List ℕ) (byte : ℕ) → BeforeNumber text begun numbers
    → is_ascii_digit byte ≡ true
    → InNumber (text ++ byte ∷ []) begun numbers 1 (byte - 48)
first_digit text begun numbers byte s passes = record {
  before = text;
  digits = byte ∷ [];
  leads = s;
  spelled = record { digits = and_from _ _ passes refl; some = omega arith; few = omega arith; value = omega arith };
  count_is = refl;
  text_is = refl;
}

longer_number : (digits : List ℕ) (value byte count : ℕ) → SpellsNumber digits value → count ≡ length digits
    → count < 18 → is_ascii_digit byte ≡ true
    → SpellsNumber (digits ++ byte ∷ []) (value * 10 + (byte - 48))
longer_number digits value byte count s same below passes = record {
  digits = list_all-append is_ascii_digit digits (byte ∷ []) ∙ and_from _ _ s.digits (and_from _ _ passes refl);
  some = omega (arith, length-append digits (byte ∷ []));
  few = omega (arith, length-append digits (byte ∷ []));
  value = ap (λ (v : ℕ). v * 10 + (byte - 48)) s.value ∙ sym (number_after-append 0 digits byte);
}

-- the end of a slab of these numbers
closed : (text : List ℕ) (begun : Begun) (numbers : List ℕ) (count value : ℕ) (slab : Slab)
    → InNumber text begun numbers count value → slab_of (numbers ++ value ∷ []) ≡ Some slab
    → AfterClause (text ++ 93 ∷ []) (with_slab begun slab)
closed text begun numbers count value slab s made =
    let front = s.leads.leads in
    let inner = s.leads.inner ++ s.digits in
    let slab_text = 91 ∷ (inner ++ 93 ∷ []) in
    record {
      clauses_text = front.clauses_text;
      clause_text = front.clause_text ++ slab_text;
      clauses = front.clauses;
      clause = record {
        path_text = front.clause.path_text;
        slabs_text = front.clause.slabs_text ++ slab_text;
        path_is = front.clause.path_is;
        slabs_is =
            Spelled-push SpellsSlab front.clause.slabs_text slab_text begun.slabs slab front.clause.slabs_is (record {
              inner = inner;
              numbers = numbers ++ value ∷ [];
              each = Separated-last 58 SpellsNumber s.leads.inner s.digits numbers value s.leads.each s.spelled;
              slab_is = made;
              text_is = refl;
            });
        text_is =
            ap (λ (l : List ℕ). l ++ slab_text) front.clause.text_is
            ∙ append_assoc front.clause.path_text front.clause.slabs_text slab_text;
      };
      text_is =
          ap (λ (l : List ℕ). l ++ 93 ∷ [])
          (s.text_is ∙ ap (λ (l : List ℕ). l ++ s.digits)
          (s.leads.text_is ∙ ap (λ (l : List ℕ). l ++ 91 ∷ s.leads.inner) front.text_is))
          ∙ simp append_assoc;
    }

as_and_then : (begun : Begun) (made : Option Slab)
    → option_and_then (λ (slab : Slab). Some (after_slab (with_slab begun slab))) made ≡ option_map
    (λ (slab : Slab). after_slab (with_slab begun slab)) made
as_and_then begun None = refl
as_and_then begun (Some slab) = refl

ended_slab : (text : List ℕ) (begun : Begun) (numbers : List ℕ) (count value byte : ℕ) (next : State)
    → InNumber text begun numbers count value → byte ≡ 93
    → step_close begun (numbers ++ value ∷ []) ≡ Some next → Leads (text ++ byte ∷ []) next
ended_slab text begun numbers count value byte next s bracket h =
    option_and_then_some (λ (slab : Slab). Some (after_slab (with_slab begun slab)))
    (slab_of (numbers ++ value ∷ [])) next (as_and_then begun _ ∙ h)
    (λ slab made same. subst (λ (b : ℕ). Leads (text ++ b ∷ []) next) (sym bracket)
    (reached _ _ next same (closed text begun numbers count value slab s made)))

pub on_number : (text : List ℕ) (begun : Begun) (numbers : List ℕ) (count value byte : ℕ) (next : State)
    → InNumber text begun numbers count value
    → step_number begun numbers count value byte ≡ Some next → Leads (text ++ byte ∷ []) next
unfolding step_number
on_number text begun numbers count value byte next s h = choose _ _ _ next h
    (λ passes same.
    let tests = and_parts _ _ passes in
    let below : count < 18 = ltb-true count 18 tests.1 in
    reached _ (in_number begun numbers (count + 1) (value * 10 + (byte - 48))) next same (record {
      before = s.before;
      digits = s.digits ++ byte ∷ [];
      leads = s.leads;
      spelled = longer_number s.digits value byte count s.spelled s.count_is below tests.0;
      count_is = omega (arith, s.count_is, length-append s.digits (byte ∷ []));
      text_is = ap (λ (l : List ℕ). l ++ byte ∷ []) s.text_is ∙ append_assoc s.before s.digits (byte ∷ []);
    }))
    (λ other rest. choose _ _ _ next rest
    (λ passes same.
    let tests = and_parts _ _ passes in
    let colon = eqb-true byte 58 tests.0 in
    let below : length numbers < 2 = ltb-true (length numbers) 2 tests.1 in
    reached _ _ next same (record {
      before = s.leads.before;
      inner = (s.leads.inner ++ s.digits) ++ 58 ∷ [];
      leads = s.leads.leads;
      each = Followed-push 58 SpellsNumber s.leads.inner s.digits numbers value s.leads.each s.spelled;
      few = omega (arith, length-append numbers (value ∷ []));
      text_is =
          ap₂ (λ (l : List ℕ) (b : ℕ). l ++ b ∷ [])
          (s.text_is ∙ ap (λ (l : List ℕ). l ++ s.digits) s.leads.text_is) colon ∙ simp append_assoc;
    }))
    (λ other rest. choose _ _ _ next rest
    (λ passes same. ended_slab text begun numbers count value byte next s (eqb-true byte 93 passes) same)
    (λ other same. absurd (none-some next same))))
