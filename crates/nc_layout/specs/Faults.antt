-- What a header has to be to be laid out, and how that ends.
use Rattle.std.specs.Prelude.{ℕ, ◌^◌, ◌<◌, length, Option, Some, None, Result, Ok, Err}
use Rattle.nc_model.specs.declared.fault.LayoutFault.{LayoutFault}
use Rattle.nc_model.specs.declared.header.Header.{Header}
use Rattle.nc_model.specs.Layout.{layout_fault}
use Rattle.nc_model.specs.Spelling.{IsSound}
use Rattle.nc_layout.specs.LaidOut.{LaidOut}

-- what a reader of headers ensures: the header is sound, and its variables can be numbered with four bytes
pub record CanLayOut (header : Header) : Type 0 where
  pub sound : IsSound header
  pub few_vars : length header.vars < 2 ^ 32

-- the fault, or else the value
abbrev pub fault_or : {A : Type 0} → Option LayoutFault → A → Result A LayoutFault
fault_or None value = Ok value
fault_or (Some fault) value = Err fault

-- a header laid out over this length, or the first fault of where its elements lie
unfoldable pub layout_or_fault : Header → ℕ → Result LaidOut LayoutFault
layout_or_fault header len = fault_or (layout_fault header len) (record { header = header; len = len })
