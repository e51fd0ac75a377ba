-- A run of `once` whose memory runs out before the first step.
use Rattle.std.proofs.Common.{◌≡◌, List, ℕ, ap, Option, Some, None, IfSome}
use Rattle.fm_model.specs.declared.site.Site.{Site}
use Rattle.fm_base.specs.Chain.{◌>>=◌}
use Rattle.dev_traits.specs.Shown.{FilesShown}
use Rattle.srv_alone.specs.declared.end.End.TheVariants.{NoMemory}
use Rattle.srv_alone.specs.Once.{EndsOpening}
use Rattle.srv_alone.specs.Reading.{file_or_end, IsEndOf, proto_or_end}

-- memory that ran out is no matter of what files hold
ends_of-any : (site : Site) (path : List ℕ) (held : Option (List ℕ → Option (List ℕ)))
    → IfSome held (λ held. IsEndOf NoMemory (file_or_end (held path) >>= proto_or_end site))
ends_of-any site path None = tt
ends_of-any site path (Some held) = tt

pub EndsOpening-short : (site : Site) (path : List ℕ) (files files' : FilesShown) → files' ≡ files
    → EndsOpening site path files files' NoMemory
EndsOpening-short site path files files' same = record {
  at_file = tt;
  found = ends_of-any site path files.held;
  held_is = ap (λ (shown : FilesShown). shown.held) same;
  faults_are = ap (λ (shown : FilesShown). shown.faults) same;
}

pub ruleset runs = (EndsOpening-short)
