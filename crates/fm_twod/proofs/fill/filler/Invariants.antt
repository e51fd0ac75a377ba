-- The attribute that is looked for stands among those that are left.
use Rattle.std.proofs.Common.{◌≡◌, codes, drop, find}
use Rattle.std.specs.Str.{bytes_eq}
use Rattle.nc_model.specs.declared.header.Attr.{Attr}
use Rattle.fm_twod.proofs.fill.filler.Given as goal

abbrev pub invariant-loop-attr : goal.invariant-loop-attr
invariant-loop-attr l =
    find (λ (attr : Attr). bytes_eq attr.name (codes "_FillValue")) (drop l.attr-index l.attrs)
    ≡ find (λ (attr : Attr). bytes_eq attr.name (codes "_FillValue")) l.attrs
