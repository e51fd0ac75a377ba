-- Steps that change the collection alone leave the link and the session.
use Rattle.std.proofs.Common.{◌≡◌, List, [], ◌∷◌, ℕ, true, sym, ap, subst, ◌∙◌, inl, inr}
use Rattle.std.proofs.lemmas.Bool.{and_parts}
use Rattle.std.specs.List.{list_all}
use Rattle.fm_model.specs.declared.proto.Proto.{Proto}
use Rattle.fm_model.specs.declared.site.Site.{Site}
use Rattle.dev_traits.specs.Shown.{FilesShown, LinkShown}
use Rattle.pub_look.specs.History.{History}
use Rattle.web_session.specs.State.{fresh, State}
use Rattle.srv_words.specs.declared.job.Step.{Step}
use Rattle.srv_words.specs.declared.job.Step.TheVariants.{Put, Expire, Retract, Ask}
use Rattle.srv_words.specs.Stepping.{is_change}
use Rattle.srv_alone.specs.declared.end.End.{End}
use Rattle.srv_alone.specs.declared.end.End.TheVariants.{Done}
use Rattle.srv_alone.specs.Collect.{Collects}
use Rattle.srv_alone.specs.Once.{opened, Opens}
use Rattle.srv_alone.specs.Steps.{Connection, DoesSteps, EndsAt, IsDone, LeavesLink, Progress, progress}

same_link : (before after : Progress) → after.at.link ≡ before.at.link → after.at.session ≡ before.at.session
    → LeavesLink before.at after.at
same_link before after link session = record { link_is = link; session_is = session }

by_history : (before after : Progress) (history : History)
    → after ≡ progress before.files history before.at.session before.at.link → LeavesLink before.at after.at
by_history before after history is =
    same_link before after (ap (λ (p : Progress). p.at.link) is) (ap (λ (p : Progress). p.at.session) is)

step_leaves : (step : Step) (before after : Progress) → is_change step ≡ true → IsDone step before after
    → LeavesLink before.at after.at
step_leaves (Put path) before after is done = done.1
step_leaves (Expire cutoff) before after is done = by_history before after _ done
step_leaves (Retract name) before after is done = by_history before after _ done
step_leaves (Ask count) before after is done = absurd cc

end_leaves : (step : Step) (before after : Progress) (end : End) → is_change step ≡ true → EndsAt step before after end
    → LeavesLink before.at after.at
end_leaves (Put path) before after end is ends = ends.1
end_leaves (Expire cutoff) before after end is ends = by_history before after _ ends.0
end_leaves (Retract name) before after end is ends = by_history before after _ ends.0
end_leaves (Ask count) before after end is ends = absurd cc

leaves-then : {a b c : Connection} → LeavesLink a b → LeavesLink b c → LeavesLink a c
leaves-then first second = record {
  link_is = second.link_is ∙ first.link_is;
  session_is = second.session_is ∙ first.session_is;
}

-- such steps leave the link and the session, whatever they end with
pub steps_leave : (steps : List Step) (before after : Progress) (end : End) (path : List ℕ)
    → list_all is_change steps ≡ true → DoesSteps steps before after end path → LeavesLink before.at after.at
unfolding DoesSteps
steps_leave [] before after end path is does = by_history before after before.at.history does.0
steps_leave (step ∷ steps) before after end path is (inl (next, done, does)) =
    let each = and_parts (is_change step) (list_all is_change steps) is in
    leaves-then (step_leaves step before next each.0 done) (steps_leave steps next after end path each.1 does)
steps_leave (step ∷ steps) before after end path is (inr (ends, at)) =
    end_leaves step before after end (and_parts (is_change step) (list_all is_change steps) is).0 ends

not_done : (step : Step) (before after : Progress) → is_change step ≡ true → EndsAt step before after Done → ⊥
not_done (Put path) before after is ends = ends.0.at_file
not_done (Expire cutoff) before after is ends = cc
not_done (Retract name) before after is ends = cc
not_done (Ask count) before after is ends = cc

-- where all of them were done, no file is named
pub names_none : (steps : List Step) (before after : Progress) (path : List ℕ)
    → list_all is_change steps ≡ true → DoesSteps steps before after Done path → path ≡ []
unfolding DoesSteps
names_none [] before after path is does = does.2
names_none (step ∷ steps) before after path is (inl (next, done, does)) =
    names_none steps next after path (and_parts (is_change step) (list_all is_change steps) is).1 does
names_none (step ∷ steps) before after path is (inr (ends, at)) =
    absurd (not_done step before after (and_parts (is_change step) (list_all is_change steps) is).0 ends)

-- steps that were done over a prototype that was read, up to this end, leave a collection
pub Collects-made : {site : Site} {path : List ℕ} {steps : List Step} {files opened_files after : FilesShown}
    {proto : Proto} {first last : History} {session : State} {link : LinkShown} {end : End} {at : List ℕ}
    (session' : State) (link' : LinkShown) → list_all is_change steps ≡ true → Opens site path files proto
    → opened_files ≡ files
    → first ≡ opened proto → session ≡ fresh
    → DoesSteps steps (progress opened_files first session link) (progress after last session' link') end at
    → Collects site path steps files after link last end at
Collects-made {site} {path} {steps} {files} {opened_files} {after} {proto} {first} {last} {session} {link} {end} {at}
    session' link' changes opens same plain begins does =
    let leaves = steps_leave steps _ _ end at changes does in
    let Does : FilesShown → History → State → State → LinkShown → Type 0 = λ f h s s' l.
    DoesSteps steps (progress f h s link) (progress after last s' l) end at in
    let by_files = subst (λ (f : FilesShown). Does f first session session' link') same does in
    let by_plain = subst (λ (h : History). Does files h session session' link') plain by_files in
    let by_start = subst (λ (s : State). Does files (opened proto) s session' link') begins by_plain in
    let by_end = subst (λ (s : State). Does files (opened proto) fresh s link') (leaves.session_is ∙ begins) by_start in
    record {
      proto = proto;
      opens = opens;
      does = subst (λ (l : LinkShown). Does files (opened proto) fresh fresh l) leaves.link_is by_end;
    }

-- where all steps were done, no file is named
pub Collects-done : {site : Site} {path : List ℕ} {steps : List Step} {files after : FilesShown} {link : LinkShown}
    {last plain : History} {end : End} {at : List ℕ} → list_all is_change steps ≡ true → end ≡ Done
    → plain ≡ last → Collects site path steps files after link last end at
    → Collects site path steps files after link plain Done []
Collects-done {site} {path} {steps} {files} {after} {link} {last} {plain} {end} {at} changes ended same collects =
    let With : End → List ℕ → History → Type 0 = λ e p h. Collects site path steps files after link h e p in
    let done : With Done at last = subst (λ (e : End). With e at last) ended collects in
    let named = names_none steps _ _ at changes done.does in
    subst (λ (h : History). With Done [] h) (sym same) (subst (λ (p : List ℕ). With Done p last) named done)
