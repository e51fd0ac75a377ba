-- What a step of a run leaves: the link, where it doesn't ask, and what was published.
use Rattle.std.proofs.Common.{◌≡◌, ℕ, List, Option, Some, Result, Ok, refl, sym, ap, subst, ◌∙◌}
use Rattle.std.specs.Prelude.{⊤}
use Rattle.fm_base.specs.Chain.{◌>>=◌}
use Rattle.dev_traits.specs.Shown.{FilesShown}
use Rattle.pub_look.specs.History.{History}
use Rattle.srv_words.specs.declared.job.Step.{Step}
use Rattle.srv_words.specs.declared.job.Step.TheVariants.{Put, Expire, Retract, Ask}
use Rattle.srv_alone.specs.declared.end.End.{End}
use Rattle.srv_alone.specs.declared.end.End.TheVariants.{Done, NoMemory}
use Rattle.srv_laws.specs.Output.{history_after, left_by}
use Rattle.srv_alone.specs.Publishing.{expired, put_or_end, Puts, retracted}
use Rattle.srv_alone.specs.Reading.{file_or_end, IsEndAtFile}
use Rattle.srv_alone.specs.Steps.{EndsAt, IsDone, LeavesLink, Progress}
use Rattle.srv_laws.proofs.TakenLemmas.{content-alike, expired-alike, IsAlike, retracted-alike}
use Rattle.srv_laws.proofs.UsedLemmas.{told}

-- a step that doesn't ask
abbrev pub IsQuiet : Step → Type 0
IsQuiet (Ask count) = ⊥
IsQuiet step = ⊤

-- it leaves the link as it was
pub quiet-done : (step : Step) (before after : Progress) → IsQuiet step → IsDone step before after
    → LeavesLink before.at after.at
quiet-done (Put path) before after quiet done = done.1
quiet-done (Expire cutoff) before after quiet done = record {
  link_is = ap (λ (now : Progress). now.at.link) done;
  session_is = ap (λ (now : Progress). now.at.session) done;
}
quiet-done (Retract name) before after quiet done = record {
  link_is = ap (λ (now : Progress). now.at.link) done;
  session_is = ap (λ (now : Progress). now.at.session) done;
}
quiet-done (Ask count) before after quiet done = absurd quiet

short : NoMemory ≡ Done → ⊥
short same = cc

-- also where it ends the run
pub quiet-ends : (step : Step) (before after : Progress) (end : End) → IsQuiet step → EndsAt step before after end
    → (after.at.link ≡ before.at.link) × (end ≡ Done → ⊥)
quiet-ends (Put path) before after end quiet ends = (ends.1.link_is, λ done. subst IsEndAtFile done ends.0.at_file)
quiet-ends (Expire cutoff) before after end quiet ends =
    (ap (λ (now : Progress). now.at.link) ends.0, λ done. short (sym ends.1 ∙ done))
quiet-ends (Retract name) before after end quiet ends =
    (ap (λ (now : Progress). now.at.link) ends.0, λ done. short (sym ends.1 ∙ done))
quiet-ends (Ask count) before after end quiet ends = absurd quiet

-- ---- what was published after a step

-- the put of a file
put-alike : (path : List ℕ) (held : List ℕ → Option (List ℕ)) (files files' : FilesShown)
    (history at at' : History) → files.held ≡ Some held → IsAlike history at → Puts path files files' at at'
    → IsAlike (left_by history (file_or_end (held path) >>= put_or_end history path)) at'
put-alike path held files files' history at at' shows alike puts =
    let read : file_or_end (held path) ≡ Ok puts.bytes = told _ files.held held shows puts.read in
    let put : (file_or_end (held path) >>= put_or_end at path) ≡ Ok at' =
    ap (λ (content : Result (List ℕ) End). content >>= put_or_end at path) read ∙ puts.put in
    let follows = content-alike history at at' path (file_or_end (held path)) alike put in
    subst (λ (r : Result History End). IsAlike (left_by history r) at') (sym follows.is) follows.alike

-- a step leaves what is published after it, but for the looks
pub step-alike : (step : Step) (held : List ℕ → Option (List ℕ)) (history : History) (at after : Progress)
    → at.files.held ≡ Some held → IsAlike history at.at.history → IsDone step at after
    → IsAlike (history_after held history step) after.at.history
step-alike (Put path) held history at after shows alike done =
    put-alike path held at.files after.files history at.at.history after.at.history shows alike done.0
step-alike (Expire cutoff) held history at after shows alike done =
    subst (λ (h : History). IsAlike (expired cutoff history) h) (sym (ap (λ (now : Progress). now.at.history) done))
    (expired-alike history at.at.history cutoff alike)
step-alike (Retract name) held history at after shows alike done =
    subst (λ (h : History). IsAlike (retracted name history) h) (sym (ap (λ (now : Progress). now.at.history) done))
    (retracted-alike history at.at.history name alike)
step-alike (Ask count) held history at after shows alike done = record {
  proto_is = alike.proto_is ∙ sym done.0.asks.proto_is;
  seen_is = alike.seen_is ∙ sym (done.0.asks.serves.served.sees.stays refl);
}

-- and what the files hold
pub step-files : (step : Step) (at after : Progress) → IsDone step at after → after.files.held ≡ at.files.held
step-files (Put path) at after done = ap (λ (shown : FilesShown). shown.held) done.0.files_are
step-files (Expire cutoff) at after done = ap (λ (now : Progress). now.files.held) done
step-files (Retract name) at after done = ap (λ (now : Progress). now.files.held) done
step-files (Ask count) at after done = ap (λ (shown : FilesShown). shown.held) done.1
