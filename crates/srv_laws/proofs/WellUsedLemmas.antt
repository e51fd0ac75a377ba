-- Well-formed use of `once` succeeds, unless memory runs out.
use Rattle.std.proofs.Common.{◌≡◌, ◌⊎◌, inl, inr, ℕ, List, [], Some, Result, Ok, refl, sym, ap, ◌∙◌, arith}
use Rattle.fm_base.specs.Chain.{◌>>=◌}
use Rattle.fm_base.proofs.ChainLemmas.{same_Ok}
use Rattle.fm_model.specs.declared.site.Site.{Site}
use Rattle.dev_traits.specs.Link.{Wire}
use Rattle.dev_traits.specs.Shown.{LinkShown}
use Rattle.dev_traits.specs.World.{WorldShown}
use Rattle.web_frame.proofs.ItemLemmas.{ReadsTo-start}
use Rattle.web_session.specs.State.{fresh}
use Rattle.srv_words.specs.declared.job.Job.TheVariants.{Once}
use Rattle.srv_words.specs.declared.job.Step.{Step}
use Rattle.srv_words.specs.declared.job.Stepping.{Stepping}
use Rattle.srv_alone.specs.declared.end.End.{End}
use Rattle.srv_alone.specs.declared.end.End.TheVariants.{Done, NoMemory, FileFault, LinkFault}
use Rattle.srv_alone.specs.Once.{opened, EndsAtPrototype, RunsOnce, RunsSteps}
use Rattle.srv_alone.specs.Reading.{file_or_end, proto_or_end}
use Rattle.srv_alone.specs.Report.{status_of}
use Rattle.srv_run.specs.Run.{Runs}
use Rattle.srv_serve.specs.Shows.{Shows}
use Rattle.srv_serve.specs.Stage.{Stage}
use Rattle.srv_alone.specs.Steps.{progress}
use Rattle.srv_laws.specs.WellFormed.{IsWellUsed}
use Rattle.srv_laws.proofs.AskedLemmas.{IsOpen}
use Rattle.srv_run.proofs.AloneBlameLemmas.{once_blamed}
use Rattle.srv_alone.proofs.SessionLemmas.{IsAtRest-fresh}
use Rattle.srv_laws.proofs.TakenLemmas.{excused-value, IsExcused}
use Rattle.srv_laws.proofs.UsedLemmas.{excused-steps, told}

-- a run of `once`, of its steps or up to its prototype
abbrev RunsOrEnds : Site → List ℕ → List Step → WorldShown → WorldShown → End → List ℕ → Type 0
RunsOrEnds site path steps world world' end at =
    RunsSteps site path steps world.files world'.files world.link world'.link end at
    ⊎ EndsAtPrototype site path world.files world'.files world.link world'.link end at

-- a connection at its start, whose input is all that is left
unfoldable pub opens-link : (link : LinkShown) (wire : Wire) → link.held ≡ Some wire → IsOpen wire.left 0 link fresh
opens-link link wire is = record {
  so_far = [];
  wire = wire;
  wire_is = is;
  input_is = refl;
  done = [];
  reads = ReadsTo-start [];
  count = refl;
  counted = refl;
  rests = IsAtRest-fresh;
}

-- a run ends in no other way
excused-run : (site : Site) (path : List ℕ) (steps : List Step) (world world' : WorldShown) (end : End) (at : List ℕ)
    → RunsOrEnds site path steps world world' end at → IsWellUsed site path steps world world' → IsExcused end
excused-run site path steps world world' end at (inl runs) used =
    let read : file_or_end (used.held path) ≡ Ok runs.opens.bytes =
    told _ world.files.held used.held used.held_is runs.opens.read in
    let made : (file_or_end (used.held path) >>= proto_or_end site) ≡ Ok runs.proto =
    ap (λ (content : Result (List ℕ) End). content >>= proto_or_end site) read ∙ runs.opens.made in
    excused-steps used.held used.wire.left steps (opened used.well_formed.proto) 0
    (progress world.files (opened runs.proto) fresh world.link) _ end at (record {
      files = used.held_is;
      alike = record {
        proto_is = same_Ok runs.proto used.well_formed.proto (sym made ∙ used.well_formed.proto_is);
        seen_is = refl;
      };
      line = inl (opens-link world.link used.wire used.wire_is);
    }) used.well_formed.taken used.well_formed.asked runs.does
excused-run site path steps world world' end at (inr ends) used =
    excused-value end _ used.well_formed.proto used.well_formed.proto_is
    (told _ world.files.held used.held used.held_is ends.ends.found)

-- where no device failed, all was done or memory ran out
pub done-or-short : (end : End) → IsExcused end → (end ≡ FileFault → ⊥) → (end ≡ LinkFault → ⊥)
    → (end ≡ Done) ⊎ (end ≡ NoMemory)
done-or-short Done excused files link = inl refl
done-or-short NoMemory excused files link = inr refl
done-or-short FileFault excused files link = absurd (files refl)
done-or-short LinkFault excused files link = absurd (link refl)
done-or-short end excused files link = absurd excused

pub end-once : (site : Site) (path : List ℕ) (steps : List Step) (end : End) (world world' : WorldShown)
    → RunsOnce site path steps end world world' → IsWellUsed site path steps world world'
    → (end ≡ Done) ⊎ (end ≡ NoMemory)
end-once site path steps end world world' runs used =
    let blamed = (once_blamed site path steps end world world' runs.at runs.runs).0 in
    done-or-short end (excused-run site path steps world world' end runs.at runs.runs used)
    (λ is. omega (arith, blamed.files is, used.files)) (λ is. omega (arith, blamed.link is, used.link))

pub status-of : (end : End) (status : ℕ) → status ≡ status_of end → (end ≡ Done) ⊎ (end ≡ NoMemory)
    → (status ≡ 0) ⊎ (status ≡ 4)
status-of end status is (inl done) = inl (is ∙ ap status_of done)
status-of end status is (inr short) = inr (is ∙ ap status_of short)

pub status-once : {D I C L : Type 0} (show : Shows D I C L) (stepping : Stepping) (status : ℕ)
    (stage stage' : Stage D I C) → Runs show (Some (Once stepping)) status stage stage'
    → IsWellUsed stepping.site stepping.proto stepping.steps stage.outside stage'.outside
    → (status ≡ 0) ⊎ (status ≡ 4)
status-once show stepping status stage stage' runs used =
    status-of runs.end status runs.status_is (elim runs.does [
      | inl does ↦
          end-once stepping.site stepping.proto stepping.steps runs.end stage.outside stage'.outside does.0 used
      | inr short ↦ inr short.0
    ])
