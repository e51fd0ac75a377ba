-- Where no dimension has a bad name, the first bad name is that of a variable.
use Rattle.std.proofs.Common.{◌≡◌, map, None, ap, sym, ◌∙◌}
use Rattle.fm_model.specs.Prototype.{names_of}
use Rattle.fm_proto.specs.Searches.{dim_name, var_name, first_bad_name}
use Rattle.fm_proto.proofs.SearchLemmas.{first_bad_name-append}
use Rattle.fm_proto.proofs.faults.first_bad_name.Goals as goal

pub returns-in-None : goal.returns-in-None
returns-in-None c =
    let header = c.args.header.now in
    let none : first_bad_name (map dim_name header.dims) ≡ None =
    ap (λ dims. first_bad_name (map dim_name dims)) (sym c.as_slice.ensures) ∙ c.in-None.ensures in
    let whole : first_bad_name (names_of header) ≡ first_bad_name (map var_name header.vars) =
    first_bad_name-append (map dim_name header.dims) (map var_name header.vars) none in
    rw whole (rw (sym c.as_slice-in-None.ensures) c.first_bad_var.ensures)
