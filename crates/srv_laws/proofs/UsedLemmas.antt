-- Well-formed use of `once`, step by step.
use Rattle.std.proofs.Common.{◌≡◌, inl, inr, ℕ, ◌+◌, List, [], ◌∷◌, Option, Some, Result, Ok, refl, sym, ap, subst, ◌∙◌}
use Rattle.std.specs.Prelude.{IfSome}
use Rattle.fm_base.specs.Chain.{◌>>=◌}
use Rattle.fm_base.proofs.ChainLemmas.{same_Ok}
use Rattle.dev_traits.specs.Shown.{FilesShown, LinkShown}
use Rattle.pub_look.specs.History.{History}
use Rattle.web_session.specs.State.{State}
use Rattle.srv_words.specs.declared.job.Step.{Step}
use Rattle.srv_words.specs.declared.job.Step.TheVariants.{Put, Expire, Retract, Ask}
use Rattle.srv_alone.specs.declared.end.End.{End}
use Rattle.srv_alone.specs.Publishing.{expired, put_or_end, retracted, EndsPut, Puts}
use Rattle.srv_alone.specs.Reading.{file_or_end}
use Rattle.srv_alone.specs.Steps.{with_history, Connection, DoesSteps, Progress}
use Rattle.srv_laws.specs.WellFormed.{AreTaken, AreThere}
use Rattle.srv_laws.proofs.AskedLemmas.{IsOpen}
use Rattle.srv_laws.proofs.OpenLemmas.{excused-ask, stands-ask, Stands}
use Rattle.srv_laws.proofs.TakenLemmas.{content-alike, excused-value, expired-alike, retracted-alike, Follows, IsAlike, IsExcused}

-- what files hold that say what they hold
pub told : {H : Type 0} (P : H → Type 0) (held : Option H) (known : H) → held ≡ Some known → IfSome held P → P known
told P held known is there = let Q : Option _ → Type 0 = λ h. IfSome h P in subst Q is there

-- the state of a run: the files hold this, these operations were published, and the link was read so far
pub record StandsAt (held : List ℕ → Option (List ℕ)) (input : List ℕ) (history : History) (before : ℕ)
    (at : Progress) : Type 0 where
  pub files : at.files.held ≡ Some held
  pub alike : IsAlike at.at.history history
  pub line : Stands input before at.at

-- a connection that isn't used stands as it did
unused : {input : List ℕ} {before : ℕ} (at after : Connection) → after.link ≡ at.link → after.session ≡ at.session
    → Stands input before at → Stands input before after
unused {input} {before} at after link session (inl o) =
    inl (subst (λ (l : LinkShown). IsOpen input before l after.session) (sym link)
    (subst (λ (s : State). IsOpen input before at.link s) (sym session) o))
unused at after link session (inr last) = inr last

-- ---- a step that puts

-- the state after the put of a file that is taken
put-follows : (path : List ℕ) (held : List ℕ → Option (List ℕ)) (history other next : History) → IsAlike history other
    → (file_or_end (held path) >>= put_or_end other path) ≡ Ok next
    → Follows (file_or_end (held path) >>= put_or_end history path) next
put-follows path held history other next alike is =
    content-alike history other next path (file_or_end (held path)) alike is

excused-put : (path : List ℕ) (held : List ℕ → Option (List ℕ)) (files files' : FilesShown)
    (history history' other next : History) (end : End) → files.held ≡ Some held → IsAlike history other
    → (file_or_end (held path) >>= put_or_end other path) ≡ Ok next
    → EndsPut path files files' history history' end → IsExcused end
excused-put path held files files' history history' other next end shows alike is ends =
    let follows = put-follows path held history other next alike is in
    excused-value end _ follows.history follows.is (told _ files.held held shows ends.found)

alike-put : (path : List ℕ) (held : List ℕ → Option (List ℕ)) (files files' : FilesShown)
    (history history' other next : History) → files.held ≡ Some held → IsAlike history other
    → (file_or_end (held path) >>= put_or_end other path) ≡ Ok next
    → Puts path files files' history history' → IsAlike history' next
alike-put path held files files' history history' other next shows alike is puts =
    let follows = put-follows path held history other next alike is in
    let read : file_or_end (held path) ≡ Ok puts.bytes = told _ files.held held shows puts.read in
    let put : (file_or_end (held path) >>= put_or_end history path) ≡ Ok history' =
    ap (λ (content : Result (List ℕ) End). content >>= put_or_end history path) read ∙ puts.put in
    rw (same_Ok history' follows.history (sym put ∙ follows.is)) follows.alike

-- ---- the steps

-- a step that publishes, or nothing
publishes : {held : List ℕ → Option (List ℕ)} {input : List ℕ} {before : ℕ} (history other other' : History)
    (at after : Progress) → StandsAt held input other before at → after ≡ with_history at history
    → IsAlike history other' → StandsAt held input other' before after
publishes history other other' at after stands is alike = record {
  files = ap (λ (now : Progress). now.files.held) is ∙ stands.files;
  alike = let same : after.at.history ≡ history = ap (λ (now : Progress). now.at.history) is in rw same alike;
  line = unused at.at after.at (ap (λ (now : Progress). now.at.link) is) (ap (λ (now : Progress). now.at.session) is)
      stands.line;
}

pub excused-steps : (held : List ℕ → Option (List ℕ)) (input : List ℕ) (steps : List Step) (history : History)
    (before : ℕ) (at after : Progress) (end : End) (path : List ℕ) → StandsAt held input history before at
    → AreTaken held history steps → AreThere input before steps → DoesSteps steps at after end path → IsExcused end
unfolding DoesSteps AreTaken AreThere
excused-steps held input [] history before at after end path stands taken there does =
    subst IsExcused (sym does.1) tt
excused-steps held input (Put file ∷ steps) history before at after end path stands taken there
    (inl (next, done, does)) =
    excused-steps held input steps taken.0 before next after end path (record {
      files = ap (λ (shown : FilesShown). shown.held) done.0.files_are ∙ stands.files;
      alike = alike-put file held at.files next.files at.at.history next.at.history history taken.0 stands.files
          stands.alike taken.1 done.0;
      line = unused at.at next.at done.1.link_is done.1.session_is stands.line;
    }) taken.2 there does
excused-steps held input (Put file ∷ steps) history before at after end path stands taken there (inr (ends, is)) =
    excused-put file held at.files after.files at.at.history after.at.history history taken.0 end stands.files
    stands.alike taken.1 ends.0
excused-steps held input (Expire cutoff ∷ steps) history before at after end path stands taken there
    (inl (next, done, does)) =
    excused-steps held input steps (expired cutoff history) before next after end path
    (publishes (expired cutoff at.at.history) history (expired cutoff history) at next stands done
    (expired-alike at.at.history history cutoff stands.alike)) taken there does
excused-steps held input (Expire cutoff ∷ steps) history before at after end path stands taken there (inr (ends, is)) =
    subst IsExcused (sym ends.1) tt
excused-steps held input (Retract name ∷ steps) history before at after end path stands taken there
    (inl (next, done, does)) =
    excused-steps held input steps (retracted name history) before next after end path
    (publishes (retracted name at.at.history) history (retracted name history) at next stands done
    (retracted-alike at.at.history history name stands.alike)) taken there does
excused-steps held input (Retract name ∷ steps) history before at after end path stands taken there (inr (ends, is)) =
    subst IsExcused (sym ends.1) tt
excused-steps held input (Ask count ∷ steps) history before at after end path stands taken there
    (inl (next, done, does)) =
    excused-steps held input steps history (before + count) next after end path (record {
      files = ap (λ (shown : FilesShown). shown.held) done.1 ∙ stands.files;
      alike = record {
        proto_is = done.0.asks.proto_is ∙ stands.alike.proto_is;
        seen_is = done.0.asks.serves.served.sees.stays refl ∙ stands.alike.seen_is;
      };
      line = stands-ask count at.at next.at stands.line there.0 done.0;
    }) taken there.1 does
excused-steps held input (Ask count ∷ steps) history before at after end path stands taken there (inr (ends, is)) =
    excused-ask count at.at after.at end stands.line there.0 ends.0
