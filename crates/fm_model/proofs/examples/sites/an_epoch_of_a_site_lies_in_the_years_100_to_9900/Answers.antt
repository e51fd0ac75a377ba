-- The definitions compute.
use Rattle.std.proofs.Common.{refl, arith}
use Rattle.std.proofs.lemmas.Int.{ints}
use Rattle.fm_base.specs.Name.{is_name_byte}
use Rattle.fm_model.specs.Prototype.{is_plain_name}
use Rattle.fm_model.proofs.examples.sites.an_epoch_of_a_site_lies_in_the_years_100_to_9900.Goals as goal

pub returns-clause-first : goal.returns-clause-first
unfolding is_plain_name is_name_byte
returns-clause-first c = record {
  plain = refl;
  some = omega arith;
  few = omega arith;
  from_year_100 = omega
      (arith, ints);
  to_year_9900 = omega (arith, ints);
}

pub returns-clause-before : goal.returns-clause-before
returns-clause-before c = λ s. absurd (let low = s.from_year_100 in omega (arith, ints, low))

pub returns-clause-last : goal.returns-clause-last
unfolding is_plain_name is_name_byte
returns-clause-last c = record {
  plain = refl;
  some = omega arith;
  few = omega arith;
  from_year_100 = omega
      (arith, ints);
  to_year_9900 = omega (arith, ints);
}

pub returns-clause-after : goal.returns-clause-after
returns-clause-after c = λ s. absurd (let high = s.to_year_9900 in omega (arith, ints, high))
