-- The definitions compute.
use Rattle.std.proofs.Common.{refl, arith}
use Rattle.std.proofs.lemmas.Bool.{false≢true}
use Rattle.std.proofs.lemmas.Int.{ints}
use Rattle.fm_base.specs.Name.{is_name_byte}
use Rattle.fm_model.specs.Prototype.{is_plain_name}
use Rattle.fm_model.proofs.SiteLemmas.{IsSite-site}
use Rattle.fm_model.proofs.examples.sites.a_name_of_a_site_is_short_and_plain.Goals as goal

pub returns-clause-site : goal.returns-clause-site
returns-clause-site c = IsSite-site

pub returns-clause-longest : goal.returns-clause-longest
unfolding is_plain_name is_name_byte
returns-clause-longest c = record {
  plain = refl;
  some = omega arith;
  few = omega arith;
  from_year_100 = omega
      (arith, ints);
  to_year_9900 = omega (arith, ints);
}

pub returns-clause-longer : goal.returns-clause-longer
returns-clause-longer c = λ s. absurd (let few = s.few in omega (arith, few))

pub returns-clause-empty : goal.returns-clause-empty
returns-clause-empty c = λ s. absurd (let some = s.some in omega (arith, some))

pub returns-clause-point : goal.returns-clause-point
unfolding is_plain_name is_name_byte
returns-clause-point c = λ s. false≢true s.plain
