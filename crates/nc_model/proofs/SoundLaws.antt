-- A file without fault has the header that its bytes begin with, and its layout has no fault.
use Rattle.std.proofs.Common.{◌≡◌, ℕ, List, length, None, Result, Ok, Err, subst}
use Rattle.std.specs.Option.{option_map}
use Rattle.nc_model.specs.declared.header.Header.{Header}
use Rattle.fm_base.specs.Chain.{◌>>◌, refuse, fault_as}
use Rattle.nc_model.specs.Layout.{layout_fault}
use Rattle.nc_model.specs.Reading.{header_or_fault}
use Rattle.nc_model.specs.declared.fault.FormatFault.{FormatFault}
use Rattle.nc_model.specs.declared.fault.FormatFault.TheVariants.{OfHeader, OfLayout}
use Rattle.nc_model.specs.Sound.{sound_header}
use Rattle.fm_base.proofs.ChainLemmas.{step_ok, refuse_ok, same_Ok}
use Rattle.fm_base.proofs.OptionLemmas.{mapped_none}

-- a step that has a value has it in other words
pub ok-fault_as : {A D E : Type 0} (name : D → E) (r : Result A D) (a : A) → fault_as name r ≡ Ok a → r ≡ Ok a
ok-fault_as name (Ok b) a e = cc
ok-fault_as name (Err fault) a e = absurd cc

-- the header of some bytes with all data in them
abbrev pub HasData : List ℕ → Header → Type 0
HasData bytes header = (header_or_fault bytes ≡ Ok header) × (layout_fault header (length bytes) ≡ None)

-- a sound header has its data within the file
pub sound_header-ok : (bytes : List ℕ) (header : Header) → sound_header bytes ≡ Ok header → HasData bytes header
unfolding sound_header
sound_header-ok bytes header e =
    let found = step_ok (fault_as OfHeader (header_or_fault bytes))
    (λ h. refuse (option_map OfLayout (layout_fault h (length bytes))) >> Ok h) header e in
    let passed = refuse_ok (option_map OfLayout (layout_fault found.0 (length bytes))) (Ok found.0) header found.2 in
    subst (HasData bytes) (same_Ok {E = FormatFault} found.0 header passed.1)
    ((
      ok-fault_as OfHeader (header_or_fault bytes) found.0 found.1,
      mapped_none OfLayout
          (layout_fault found.0 (length bytes)) passed.0,
    ))
