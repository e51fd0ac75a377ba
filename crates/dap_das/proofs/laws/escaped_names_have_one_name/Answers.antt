-- Names that are the same once escaped come from the same bytes.
use Rattle.dap_das.proofs.Names.{escaped_name_injective}
use Rattle.dap_das.proofs.laws.escaped_names_have_one_name.Goals as goal

pub returns : goal.returns
returns c =
    λ same. escaped_name_injective c.args.a.now c.args.b.now (λ i. (c.type_inv.a i).fits)
    (λ i. (c.type_inv.b i).fits) same
