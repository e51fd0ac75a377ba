-- Both clauses are laws of the definition.
use Rattle.std.proofs.Common.{ap, ◌∙◌}
use Rattle.nc_model.specs.Pattern.{pattern_value, whole_times}
use Rattle.fm_bits.proofs.SecondsLemmas.{whole_times_some, whole_times_none}
use Rattle.fm_bits.proofs.seconds.whole_seconds.Goals as goal

pub returns-clause-some : goal.returns-clause-some
returns-clause-some c =
    whole_times_some (pattern_value c.args.p) c.args.per _ (c.exact_times.ensures
    ∙ ap (λ v. whole_times v c.args.per) c.value_of.ensures.value)

pub returns-clause-none : goal.returns-clause-none
returns-clause-none c =
    whole_times_none (pattern_value c.args.p) c.args.per _ (c.exact_times.ensures
    ∙ ap (λ v. whole_times v c.args.per) c.value_of.ensures.value)
