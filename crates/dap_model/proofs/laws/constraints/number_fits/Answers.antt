-- A number of 18 digits is below 10^18.
use Rattle.dap_model.proofs.NumberLemmas.{number_below}
use Rattle.dap_model.proofs.laws.constraints.number_fits.Goals as goal

pub returns : goal.returns
returns c = λ number spelled. number_below c.args.text.now number spelled
