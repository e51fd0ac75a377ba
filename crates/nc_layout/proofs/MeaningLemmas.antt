-- The first fault of a list of variables says that one is at fault, and none before it.
use Rattle.std.proofs.Common.{◌≡◌, ℕ, suc, ◌+◌, ◌^◌, ◌<◌, ◌≤◌, Bool, true, false, cond, ltb, List, [], ◌∷◌, take, All, Option, None, Some, refl, sym, ap, subst, ◌∙◌, arith}
use Rattle.std.specs.List.{slice_get}
use Rattle.std.specs.Option.{MatchOption, option_or}
use Rattle.std.proofs.lemmas.Bool.{ltb-true, ltb-false, false≢true}
use Rattle.std.proofs.lemmas.List.Elements.{All-nil, All-cons}
use Rattle.std.proofs.lemmas.Option.{cond_some, MatchOption-at_none}
use Rattle.nc_model.specs.declared.fault.LayoutFault.{LayoutFault}
use Rattle.nc_model.specs.declared.fault.LayoutFault.TheVariants.{TooLarge, DataOutside}
use Rattle.nc_model.specs.declared.header.Header.{Header}
use Rattle.nc_model.specs.declared.header.NcVar.{NcVar}
use Rattle.nc_model.specs.Layout.{vsize, has_elements, end_of, is_outside, first_too_large, first_outside, layout_fault}
use Rattle.nc_layout.specs.Meaning.{IsSmall, EndsWithin, IsInside, Says}

-- the fault of a variable of this number, and the first fault of the variables from this number on
abbrev too_large_at : Header → ℕ → NcVar → Option LayoutFault
too_large_at header n var = cond (ltb (2 ^ 40) (vsize header var)) (Some (TooLarge n)) None

abbrev outside_at : Header → ℕ → ℕ → NcVar → Option LayoutFault
outside_at header len n var = cond (is_outside header len var) (Some (DataOutside n (end_of header var) len)) None

first_fault : (ℕ → NcVar → Option LayoutFault) → ℕ → List NcVar → Option LayoutFault
first_fault fault_at n [] = None
first_fault fault_at n (var ∷ vars) = option_or (fault_at n var) (first_fault fault_at (n + 1) vars)

or_none : (b : Bool) (fault : LayoutFault) (rest later : Option LayoutFault) → rest ≡ later
    → cond b (Some fault) rest ≡ option_or (cond b (Some fault) None) later
or_none true fault rest later same = refl
or_none false fault rest later same = same

first_too_large-is : (header : Header) (n : ℕ) (vars : List NcVar)
    → first_too_large header n vars ≡ first_fault (too_large_at header) n vars
unfolding first_too_large first_fault
first_too_large-is header n [] = refl
first_too_large-is header n (var ∷ vars) =
    or_none (ltb (2 ^ 40) (vsize header var)) (TooLarge n) _ _ (first_too_large-is header (n + 1) vars)

first_outside-is : (header : Header) (len n : ℕ) (vars : List NcVar)
    → first_outside header len n vars ≡ first_fault (outside_at header len) n vars
unfolding first_outside first_fault
first_outside-is header len n [] = refl
first_outside-is header len n (var ∷ vars) =
    or_none (is_outside header len var) (DataOutside n (end_of header var) len) _ _
    (first_outside-is header len (n + 1) vars)

-- the first variable with a fault, among those from a number on, and none before it
record IsFirst (Good : NcVar → Type 0) (fault_at : ℕ → NcVar → Option LayoutFault) (from : ℕ) (vars : List NcVar)
    (fault : LayoutFault) : Type 0 where
  index : ℕ
  var : NcVar
  there : slice_get vars index ≡ Some var
  bad : fault_at (from + index) var ≡ Some fault
  before : All Good (take index vars)

-- all variables are good, or one is the first with a fault
first_fault-says : (Good : NcVar → Type 0) (fault_at : ℕ → NcVar → Option LayoutFault)
    → ((n : ℕ) (var : NcVar) → fault_at n var ≡ None → Good var) → (from : ℕ) (vars : List NcVar)
    → MatchOption (first_fault fault_at from vars) (All Good vars) (IsFirst Good fault_at from vars)
unfolding first_fault
first_fault-says Good fault_at good from [] = All-nil Good
first_fault-says Good fault_at good from (var ∷ vars) =
    at (fault_at from var) refl (first_fault fault_at (from + 1) vars)
    (first_fault-says Good fault_at good (from + 1) vars)
  where
    at : (here : Option LayoutFault) → fault_at from var ≡ here → (later : Option LayoutFault)
        → MatchOption later (All Good vars) (IsFirst Good fault_at (from + 1) vars)
        → MatchOption (option_or here later) (All Good (var ∷ vars)) (IsFirst Good fault_at from (var ∷ vars))
    at (Some fault) is later more =
        let same : from ≡ from + 0 = omega arith in
        record { index = 0; var = var; there = refl; bad = rw (← same) is; before = All-nil Good }
    at None is None more = All-cons Good var vars (good from var is) more
    at None is (Some fault) more =
        let same : from + suc more.index ≡ from + 1 + more.index = omega arith in
        record {
          index = suc more.index;
          var = more.var;
          there = more.there;
          bad = rw same more.bad;
          before = All-cons Good var (take more.index vars) (good from var is) more.before;
        }

cond_none : (b : Bool) (fault : LayoutFault) → cond b (Some fault) None ≡ None → b ≡ false
cond_none true fault is = absurd cc
cond_none false fault is = refl

-- a variable without one of the faults
small : (header : Header) (n : ℕ) (var : NcVar) → too_large_at header n var ≡ None → IsSmall header var
small header n var is =
    ltb-false (2 ^ 40) (vsize header var) (cond_none (ltb (2 ^ 40) (vsize header var)) (TooLarge n) is)

inside : (header : Header) (len n : ℕ) (var : NcVar) → outside_at header len n var ≡ None → EndsWithin header len var
inside header len n var is some = at (has_elements header var) some (cond_none (is_outside header len var) _ is)
  where
    at : (b : Bool) → b ≡ true → cond b (ltb len (end_of header var)) false ≡ false → end_of header var ≤ len
    at true some e = ltb-false len (end_of header var) e
    at false none e = absurd (false≢true none)

-- and one with it
outside : (header : Header) (len : ℕ) (var : NcVar) → is_outside header len var ≡ true
    → (has_elements header var ≡ true) × (len < end_of header var)
outside header len var is = at (has_elements header var) refl is
  where
    at : (b : Bool) → has_elements header var ≡ b → cond b (ltb len (end_of header var)) false ≡ true
        → (has_elements header var ≡ true) × (len < end_of header var)
    at true some e = (some, ltb-true len (end_of header var) e)
    at false none e = absurd (false≢true e)

large_says : (header : Header) (len : ℕ) (fault : LayoutFault)
    → IsFirst (IsSmall header) (too_large_at header) 0 header.vars fault → Says header len fault
large_says header len fault first =
    let same : 0 + first.index ≡ first.index = omega arith in
    let bad = cond_some (ltb (2 ^ 40) (vsize header first.var)) (TooLarge first.index) fault (rw same at first.bad) in
    subst (Says header len) bad.1 (record {
      var = first.var;
      numbered = first.there;
      large = ltb-true (2 ^ 40) (vsize header first.var) bad.0;
      before = first.before;
    })

outside_says : (header : Header) (len : ℕ) (fault : LayoutFault) → All (IsSmall header) header.vars
    → IsFirst (EndsWithin header len) (outside_at header len) 0 header.vars fault → Says header len fault
outside_says header len fault small first =
    let same : 0 + first.index ≡ first.index = omega arith in
    let bad = cond_some (is_outside header len first.var) (DataOutside first.index (end_of header first.var) len) fault
    (rw same at first.bad) in
    let past = outside header len first.var bad.0 in
    subst (Says header len) bad.1 (
      record {
        small = small;
        var = first.var;
        numbered = first.there;
        some = past.0;
        end_is = refl;
        outside = past.1;
        before = first.before;
      },
      refl,
    )

-- where no variable is too large
pub All-small : (header : Header) → first_too_large header 0 header.vars ≡ None → All (IsSmall header) header.vars
All-small header none =
    MatchOption-at_none (All (IsSmall header) header.vars)
    (IsFirst (IsSmall header) (too_large_at header) 0 header.vars)
    (sym (first_too_large-is header 0 header.vars) ∙ none)
    (first_fault-says (IsSmall header) (too_large_at header) (small header) 0 header.vars)

-- what the first fault of a layout says, or that there is none
pub layout_fault-says : (header : Header) (len : ℕ)
    → MatchOption (layout_fault header len) (IsInside header len) (Says header len)
unfolding layout_fault
layout_fault-says header len =
    rw (first_too_large-is header 0 header.vars, first_outside-is header len 0 header.vars)
    (at (first_fault (too_large_at header) 0 header.vars)
    (first_fault-says (IsSmall header) (too_large_at header) (small header) 0 header.vars)
    (first_fault (outside_at header len) 0 header.vars)
    (first_fault-says (EndsWithin header len) (outside_at header len) (inside header len) 0 header.vars))
  where
    at : (first : Option LayoutFault)
        → MatchOption first (All (IsSmall header) header.vars)
        (IsFirst (IsSmall header) (too_large_at header) 0 header.vars)
        → (second : Option LayoutFault)
        → MatchOption second (All (EndsWithin header len) header.vars)
        (IsFirst (EndsWithin header len) (outside_at header len) 0 header.vars)
        → MatchOption (option_or first second) (IsInside header len) (Says header len)
    at (Some fault) large second outside = large_says header len fault large
    at None small (Some fault) outside = outside_says header len fault small outside
    at None small None ends = record { small = small; ends = ends }

pub ruleset meanings = (layout_fault-says)
