-- Which sites and prototypes a collection may have.
use Rattle.std.specs.Prelude.{◌≡◌, ◌<◌, ◌≤◌, ℕ, List, length, IsTrue, Ok, pos, neg_ℤ, ◌≤ℤ◌}
use Rattle.fm_model.specs.declared.limit.TheConstants.{MAX_FILE_BYTES, MAX_NAME}
use Rattle.fm_model.specs.declared.proto.Proto.{Proto}
use Rattle.fm_model.specs.declared.site.Site.{Site}
use Rattle.fm_model.specs.Prototype.{is_plain_name, proto_of}

-- a site has a name of 1 to 64 letters, digits, `_` and `-`, and an epoch in the years 100 to 9900
pub record IsSite (site : Site) : Type 0 where
  pub plain : IsTrue (is_plain_name site.name)
  pub some : 0 < length site.name
  pub few : length site.name ≤ MAX_NAME
  pub from_year_100 : neg_ℤ (pos 59_011_459_200) ≤ℤ site.epoch
  pub to_year_9900 : site.epoch ≤ℤ pos 250_278_163_199

-- a prototype is that of some bytes of a file, at a site that a collection may have
pub record IsPrototype (proto : Proto) : Type 0 where
  pub bytes : List ℕ
  pub few : length bytes ≤ MAX_FILE_BYTES
  pub at : IsSite proto.site
  pub made : proto_of bytes proto.site ≡ Ok proto
