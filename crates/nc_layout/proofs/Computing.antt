-- What the check computes in worked examples: `unfolding(..::layouts)` opens all that `layouts` opens.
use Rattle.nc_model.specs.Layout.{first_outside, first_too_large, indices_of, layout_fault, offset_of, product, rank_in, record_size, vsize}
use Rattle.nc_model.specs.Reading.{names_record_dim}

unfoldable pub layouts : Unit {0}
unfolding
    product vsize record_size rank_in offset_of indices_of first_too_large first_outside layout_fault names_record_dim
layouts = tt
