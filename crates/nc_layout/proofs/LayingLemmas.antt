-- How laying out a header ends, by its first fault.
use Rattle.std.proofs.Common.{◌≡◌, ℕ, List, Option, None, Some, Ok, Err, refl}
use Rattle.fm_base.specs.declared.fail.Fail.{Fail}
use Rattle.fm_base.specs.declared.fail.Fail.TheVariants as fails
use Rattle.nc_model.specs.declared.fault.LayoutFault.{LayoutFault}
use Rattle.nc_model.specs.declared.header.Header.{Header}
use Rattle.fm_base.specs.Answer.{Answers}
use Rattle.nc_model.specs.Layout.{first_too_large, first_outside, layout_fault}
use Rattle.nc_layout.specs.Faults.{fault_or, layout_or_fault}
use Rattle.nc_layout.specs.Kept.{vsizes_of}
use Rattle.nc_layout.specs.LaidOut.{LaidOut}
use Rattle.nc_layout.proofs.MeaningLemmas.{All-small}

pub fault_or-none : {A : Type 0} (o : Option LayoutFault) (value found : A) → fault_or o value ≡ Ok found → o ≡ None
fault_or-none None value found is = refl
fault_or-none (Some fault) value found is = absurd cc

pub fault_or-some : {A : Type 0} (o : Option LayoutFault) (value : A) (fault : LayoutFault)
    → fault_or o value ≡ Err fault → o ≡ Some fault
fault_or-some None value fault is = absurd cc
fault_or-some (Some other) value fault is = cc

-- a variable is too large, or memory ran out
pub ends-large : (header : Header) (len : ℕ) (fail : Fail LayoutFault)
    → Answers {A = List ℕ} (fault_or (first_too_large header 0 header.vars) (vsizes_of header)) (Err fail)
    → Answers {A = LaidOut} (layout_or_fault header len) (Err fail)
unfolding layout_or_fault layout_fault
ends-large header len fails.NoMemory is = tt
ends-large header len (fails.Fault fault) is =
    rw (fault_or-some (first_too_large header 0 header.vars) (vsizes_of header) fault is) refl

-- none is, and an element of one lies outside
pub ends-outside : (header : Header) (len : ℕ) (fault : LayoutFault) → first_too_large header 0 header.vars ≡ None
    → first_outside header len 0 header.vars ≡ Some fault
    → layout_or_fault header len ≡ Err fault
unfolding layout_or_fault layout_fault
ends-outside header len fault small past = rw (small, past) refl

-- there is no fault
pub ends-well : (header : Header) (len : ℕ) → first_too_large header 0 header.vars ≡ None
    → first_outside header len 0 header.vars ≡ None → layout_fault header len ≡ None
unfolding layout_fault
ends-well header len small inside = rw (small, inside) refl

pub ends-laid : (header : Header) (len : ℕ) → layout_fault header len ≡ None
    → layout_or_fault header len ≡ Ok (record { header = header; len = len })
unfolding layout_or_fault
ends-laid header len none = rw none refl

pub ruleset layings = (fault_or-none, All-small, ends-large, ends-outside, ends-well, ends-laid)
