-- A made file is never refused.
use Rattle.std.proofs.Common.{◌≡◌, ◌<◌, ◌≤◌, ℕ, length, Ok, refl, arith}
use Rattle.std.proofs.lemmas.Int.{ints}
use Rattle.fm_base.specs.Name.{is_name_byte}
use Rattle.fm_model.specs.declared.limit.TheConstants.{MAX_FILE_BYTES}
use Rattle.fm_model.specs.Load.{load_of}
use Rattle.fm_model.specs.Prototype.{is_plain_name, proto_of}
use Rattle.fm_model.specs.Site.{IsSite}
use Rattle.fm_gen.specs.File.{made_file}
use Rattle.fm_made.proofs.HeaderLemmas.{length-made_file}
use Rattle.fm_made.proofs.ProtoLemmas.{made_prototype}
use Rattle.fm_made.proofs.TakenLemmas.{made_file_taken}
use Rattle.srv_load.specs.Made.{held_file, load_proto}
use Rattle.srv_load.specs.Name.{made_name, made_site}
use Rattle.srv_load.proofs.NameLemmas.{mark_is}

-- the collection may have its site
pub site_is : IsSite made_site
unfolding is_plain_name is_name_byte
site_is = record {
  plain = refl;
  some = omega arith;
  few = omega arith;
  from_year_100 = omega (arith, ints);
  to_year_9900 = omega (arith, ints);
}

pub few_bytes : (seed k : ℕ) → length (made_file seed k) ≤ MAX_FILE_BYTES
few_bytes seed k = let long = length-made_file seed k in omega (arith, long)

pub proto_taken : (seed : ℕ) → proto_of (made_file seed 0) made_site ≡ Ok load_proto
proto_taken seed = made_prototype made_site seed 0

pub file_taken : (seed k : ℕ) → k < 400
    → load_of (made_name k) (made_file seed k) load_proto ≡ Ok (held_file seed k)
file_taken seed k few =
    made_file_taken made_site load_proto (made_name k) seed k few refl (mark_is k few) (proto_taken seed)

pub ruleset prototypes = (site_is, few_bytes, proto_taken)

pub ruleset files = (few_bytes, file_taken)

pub ruleset taken = (proto_taken, file_taken)
