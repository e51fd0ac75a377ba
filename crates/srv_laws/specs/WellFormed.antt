-- Well-formed use of `once`: the files are there and are taken, and the link has the requests that are asked for.
use Rattle.std.specs.Prelude.{◌≡◌, ℕ, ◌+◌, ◌-◌, ◌<◌, ◌≤◌, List, [], ◌∷◌, length, slice_get, false, Option, Some, Ok}
use Rattle.fm_base.specs.Chain.{◌>>=◌}
use Rattle.fm_model.specs.declared.proto.Proto.{Proto}
use Rattle.fm_model.specs.declared.site.Site.{Site}
use Rattle.dev_traits.specs.Cause.{one_more}
use Rattle.dev_traits.specs.Link.{Wire}
use Rattle.dev_traits.specs.World.{WorldShown}
use Rattle.dev_traits.specs.Shown.{Shown}
use Rattle.pub_look.specs.History.{History}
use Rattle.web_frame.specs.Items.{heads_of, Item}
use Rattle.dap_reply.specs.Reply.{is_last}
use Rattle.srv_words.specs.declared.job.Step.{Step}
use Rattle.srv_words.specs.declared.job.Step.TheVariants.{Put, Expire, Retract, Ask}
use Rattle.srv_alone.specs.Once.{opened}
use Rattle.srv_alone.specs.Publishing.{expired, put_or_end, retracted}
use Rattle.srv_alone.specs.Reading.{file_or_end, proto_or_end}

-- each file that steps put is there, and comes to the collection that the steps before it left
unfoldable pub AreTaken : (List ℕ → Option (List ℕ)) → History → List Step → Type 0
AreTaken held history [] = Unit {0}
AreTaken held history (Put path ∷ steps) =
    (next : History) × ((file_or_end (held path) >>= put_or_end history path) ≡ Ok next) × AreTaken held next steps
AreTaken held history (Expire cutoff ∷ steps) = AreTaken held (expired cutoff history) steps
AreTaken held history (Retract name ∷ steps) = AreTaken held (retracted name history) steps
AreTaken held history (Ask count ∷ steps) = AreTaken held history steps

-- a connection goes on after each of the first requests of an input
abbrev pub GoesOnAfter : List ℕ → ℕ → Type 0
GoesOnAfter input count = (index : ℕ) (item : Item) → index < count → slice_get (heads_of input).items index ≡ Some item
    → is_last item (index + 1) ≡ false

-- an input has `count` requests after the first `before`; the connection goes on after those, and after each of these
-- but the last
pub record HasRequests (input : List ℕ) (before count : ℕ) : Type 0 where
  pub enough : before + count ≤ length (heads_of input).items
  pub reached : GoesOnAfter input before
  pub goes_on : GoesOnAfter input (before + count - 1)

-- the requests that steps ask for are there, after the first `before`
unfoldable pub AreThere : List ℕ → ℕ → List Step → Type 0
AreThere input before [] = Unit {0}
AreThere input before (Put path ∷ steps) = AreThere input before steps
AreThere input before (Expire cutoff ∷ steps) = AreThere input before steps
AreThere input before (Retract name ∷ steps) = AreThere input before steps
AreThere input before (Ask count ∷ steps) = HasRequests input before count × AreThere input (before + count) steps

-- the file of the prototype is there and is one, the files of the steps are there and are taken, and the requests that
-- the steps ask for are there
pub record IsWellFormedRun (site : Site) (path : List ℕ) (steps : List Step) (held : List ℕ → Option (List ℕ))
    (input : List ℕ) : Type 0 where
  pub proto : Proto
  pub proto_is : (file_or_end (held path) >>= proto_or_end site) ≡ Ok proto
  pub taken : AreTaken held (opened proto) steps
  pub asked : AreThere input 0 steps

-- no call of a device failed: its count is less than one failure would make it
abbrev pub HasNotFailed : {H : Type 0} → Shown H → Shown H → Type 0
HasNotFailed before after = after.faults < one_more before.faults

-- a run of `once` was well-formed over what the files and the link showed that they held, and no call of either failed
pub record IsWellUsed (site : Site) (path : List ℕ) (steps : List Step) (world world' : WorldShown) : Type 0 where
  pub held : List ℕ → Option (List ℕ)
  pub held_is : world.files.held ≡ Some held
  pub wire : Wire
  pub wire_is : world.link.held ≡ Some wire
  pub well_formed : IsWellFormedRun site path steps held wire.left
  pub files : HasNotFailed world.files world'.files
  pub link : HasNotFailed world.link world'.link
