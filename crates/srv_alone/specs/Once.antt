-- The command `once`: it reads a prototype, and does steps on the collection over it.
use Rattle.std.specs.Prelude.{◌≡◌, ◌⊎◌, ℕ, List, [], Ok, IfSome}
use Rattle.fm_base.specs.Chain.{◌>>=◌}
use Rattle.fm_model.specs.declared.proto.Proto.{Proto}
use Rattle.fm_model.specs.declared.site.Site.{Site}
use Rattle.dev_traits.specs.World.{WorldShown}
use Rattle.dev_traits.specs.Shown.{FilesShown, LinkShown}
use Rattle.pub_look.specs.History.{History}
use Rattle.web_session.specs.State.{fresh, State}
use Rattle.srv_words.specs.declared.job.Step.{Step}
use Rattle.srv_alone.specs.declared.end.End.{End}
use Rattle.srv_alone.specs.Reading.{file_or_end, file_faults_after, IsEndAtFile, IsEndOf, proto_or_end}
use Rattle.srv_alone.specs.Report.{Reports}
use Rattle.srv_alone.specs.Steps.{DoesSteps, progress}

-- A file was read as the prototype of a collection.
pub record Opens (site : Site) (path : List ℕ) (files : FilesShown) (proto : Proto) : Type 0 where
  pub bytes : List ℕ
  pub read : IfSome files.held (λ held. file_or_end (held path) ≡ Ok bytes)
  pub made : proto_or_end site bytes ≡ Ok proto

-- A file wasn't read, or is no prototype: memory ran out, the files failed once more, or, where the content is known,
-- it is as defined.
pub record EndsOpening (site : Site) (path : List ℕ) (files files' : FilesShown) (end : End) : Type 0 where
  pub at_file : IsEndAtFile end
  pub found : IfSome files.held (λ held. IsEndOf end (file_or_end (held path) >>= proto_or_end site))
  pub held_is : files'.held ≡ files.held
  pub faults_are : files'.faults ≡ file_faults_after files.faults end

-- a collection over a prototype to which nothing was published
abbrev pub opened : Proto → History
opened proto = record { proto = proto; seen = []; looks = [] }

-- The steps were done on the collection over the prototype, up to this end at the file at a path.
pub record RunsSteps (site : Site) (path : List ℕ) (steps : List Step) (files files' : FilesShown)
    (link link' : LinkShown) (end : End) (at : List ℕ) : Type 0 where
  pub proto : Proto
  pub opens : Opens site path files proto
  pub history : History
  pub session : State
  pub does : DoesSteps steps (progress files (opened proto) fresh link) (progress files' history session link') end at

-- The run ended at the file of its prototype; the link wasn't used.
pub record EndsAtPrototype (site : Site) (path : List ℕ) (files files' : FilesShown) (link link' : LinkShown)
    (end : End) (at : List ℕ) : Type 0 where
  pub ends : EndsOpening site path files files' end
  pub unused : link' ≡ link
  pub at_is : at ≡ path

-- A run of `once` ended so, at the file at a path, and was reported.
pub record RunsOnce (site : Site) (path : List ℕ) (steps : List Step) (end : End) (world world' : WorldShown)
    : Type 0 where
  pub at : List ℕ
  pub runs : RunsSteps site path steps world.files world'.files world.link world'.link end at
      ⊎ EndsAtPrototype site path world.files world'.files world.link world'.link end at
  pub reports : Reports end at world.sink world'.sink
