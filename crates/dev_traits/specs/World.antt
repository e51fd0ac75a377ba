-- What the outside of a run shows, apart from what it opens.
use Rattle.dev_traits.specs.Shown.{FilesShown, LinkShown, SinkShown}
use Rattle.dev_traits.specs.declared.world.World.{World}

-- what the files, the link and the sink of a world show
pub record WorldShown : Type 0 where
  pub files : FilesShown
  pub link : LinkShown
  pub sink : SinkShown

-- the same, by what each of these devices shows
abbrev pub world_shown : {M D I C F L S G N K P : Type 0} → (F → FilesShown) → (L → LinkShown) → (S → SinkShown)
    → World M D I C F L S G N K P → WorldShown
world_shown files link sink world = record {
  files = files world.files;
  link = link world.link;
  sink = sink world.sink;
}
