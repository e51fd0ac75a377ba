-- The site of the collections is one that a collection may have.
use Rattle.fm_model.proofs.SiteLemmas.{IsSite-site}

pub ruleset sites = (IsSite-site)
