-- One file is counted where there is one.
use Rattle.std.proofs.Common.{ap, length, ◌∙◌}
use Rattle.std.specs.Prelude.{◌==◌}
use Rattle.fm_edition.proofs.FoundLemmas.{one-counted}
use Rattle.fm_edition.proofs.maps.walk.is_one.Goals as goal

pub returns : goal.returns
returns c = ap (λ n. n == 1) c.up_to_two.ensures ∙ one-counted (length c.args.files.now)
