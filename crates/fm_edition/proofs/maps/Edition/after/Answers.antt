-- What an operation leaves is an edition where no limit is passed.
use Rattle.std.proofs.Common.{sym, ◌∙◌}
use Rattle.fm_edition.proofs.maps.Edition.after.Goals as goal

pub follow-requires-clause-can : goal.follow-requires-clause-can
follow-requires-clause-can c = record { fits = c.requires; within = sym c.full_at.ensures ∙ c.in_default.is }
