-- Reading comes to the end of a text, or dies of a byte; what is read either way.
use Rattle.std.proofs.Common.{◌≡◌, ◌⊎◌, ℕ, suc, ◌+◌, ◌<◌, List, [], ◌∷◌, ◌++◌, length, take, slice_get, Option, Some, None, Err, refl, sym, ap, ap₂, subst, ◌∙◌, append_assoc, append-nil, inl, inr, arith, zero}
use Rattle.std.specs.Option.{option_map_or}
use Rattle.std.proofs.lemmas.Option.{none-some, same_Some, option_and_then_some}
use Rattle.fm_base.proofs.OptionLemmas.{cases_Option}
use Rattle.dap_model.specs.ConstraintReading.{State, front, step, clauses_at, fault_at, ended_at, read_from}
use Rattle.dap_model.proofs.ConstraintLeads.{Leads-step}
use Rattle.dap_model.proofs.ConstraintRuns.{run, run-cons}
use Rattle.dap_model.proofs.ConstraintStates.{Leads}

-- reading goes on up to an offset and dies of the byte there
pub record Dies (state : State) (text : List ℕ) : Type 0 where
  pub offset : ℕ
  pub last : State
  pub byte : ℕ
  pub within : offset < length text
  pub ran : run state (take offset text) ≡ Some last
  pub here : slice_get text offset ≡ Some byte
  pub dead : step last byte ≡ None

-- reading comes to the end of a text
pub record Lives (state : State) (text : List ℕ) : Type 0 where
  pub last : State
  pub ran : run state text ≡ Some last

abbrev pub goes : State → List ℕ → Type 0
goes state text = Lives state text ⊎ Dies state text

goes_on : (state next : State) (byte : ℕ) (text : List ℕ) → step state byte ≡ Some next → goes next text
    → goes state (byte ∷ text)
goes_on state next byte text took (inl lives) =
    inl (record { last = lives.last; ran = run-cons state next byte text took ∙ lives.ran })
goes_on state next byte text took (inr dies) = inr (record {
  offset = suc dies.offset;
  last = dies.last;
  byte = dies.byte;
  within = omega (arith, dies.within);
  ran = run-cons state next byte (take dies.offset text) took ∙ dies.ran;
  here = dies.here;
  dead = dies.dead;
})

pub goes-text : (state : State) (text : List ℕ) → goes state text
unfolding run
goes-text state [] = inl (record { last = state; ran = refl })
goes-text state (byte ∷ text) = elim (cases_Option (step state byte)) [
  | inl dead ↦
      inr (record { offset = 0; last = state; byte = byte; within = omega arith; ran = refl; here = refl; dead = dead })
  | inr took ↦ goes_on state took.0 byte text took.1 (goes-text took.0 text)
]

-- what is read where reading comes to the end
pub read_from-lives : (state last : State) (at : ℕ) (text : List ℕ) → run state text ≡ Some last
    → read_from state at text ≡ ended_at (at + length text) (clauses_at last)
unfolding run read_from
read_from-lives state last at [] ran =
    ap₂ (λ (n : ℕ) (s : State). ended_at n (clauses_at s)) (omega arith) (same_Some state last ran)
read_from-lives state last at (byte ∷ text) ran =
    option_and_then_some (λ (next : State). run next text) (step state byte) last ran
    (λ next took e. ap (λ (o : Option State). option_map_or (λ (s : State). read_from s (at + 1) text) o
    (Err (fault_at state at byte))) took
    ∙ read_from-lives next last (at + 1) text e
    ∙ ap (λ (n : ℕ). ended_at n (clauses_at last)) (omega arith))

-- what is read where it dies
pub read_from-dies : (state last : State) (at offset byte : ℕ) (text : List ℕ)
    → run state (take offset text) ≡ Some last → slice_get text offset ≡ Some byte → step last byte ≡ None
    → read_from state at text ≡ Err (fault_at last (at + offset) byte)
unfolding run read_from
read_from-dies state last at offset byte [] ran here dead = absurd (none-some byte here)
read_from-dies state last at zero byte (first ∷ text) ran here dead =
    let same = same_Some state last ran in
    let byte_is = same_Some first byte here in
    ap (λ (o : Option State). option_map_or (λ (s : State). read_from s (at + 1) text) o
    (Err (fault_at state at first)))
    (ap₂ (λ (s : State) (b : ℕ). step s b) same byte_is ∙ dead)
    ∙ ap₂ (λ (s : State) (b : ℕ). Err (fault_at s at b)) same byte_is
    ∙ ap (λ (n : ℕ). Err (fault_at last n byte)) (omega arith)
read_from-dies state last at (suc offset) byte (first ∷ text) ran here dead =
    option_and_then_some (λ (next : State). run next (take offset text)) (step state first) last ran
    (λ next took e. ap (λ (o : Option State). option_map_or (λ (s : State). read_from s (at + 1) text) o
    (Err (fault_at state at first))) took
    ∙ read_from-dies next last (at + 1) offset byte text e here dead
    ∙ ap (λ (n : ℕ). Err (fault_at last n byte)) (omega arith))

-- the text that was read leads to where reading stands
pub Leads-run : (before : List ℕ) (state last : State) (text : List ℕ) → Leads before state → run state text ≡ Some last
    → Leads (before ++ text) last
unfolding run
Leads-run before state last [] leads ran =
    subst (λ (l : List ℕ). Leads l last) (sym (append-nil before))
    (subst (Leads before) (same_Some state last ran) leads)
Leads-run before state last (byte ∷ text) leads ran =
    option_and_then_some (λ (next : State). run next text) (step state byte) last ran
    (λ next took e. subst (λ (l : List ℕ). Leads l last) (append_assoc before (byte ∷ []) text)
    (Leads-run (before ++ byte ∷ []) next last text (Leads-step before state byte next leads took) e))

pub Leads-front : (text : List ℕ) (last : State) → run front text ≡ Some last → Leads text last
Leads-front text last ran = Leads-run [] front last text refl ran
