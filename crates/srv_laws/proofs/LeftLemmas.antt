-- A connection that has ended: nothing is written to it any more.
use Rattle.std.proofs.Common.{◌≡◌, inl, inr, ℕ, List, [], ◌∷◌, ◌++◌, length, Option, refl, sym, ap, subst, ◌∙◌}
use Rattle.std.specs.Prelude.{replicate}
use Rattle.pub_look.specs.History.{History}
use Rattle.srv_words.specs.declared.job.Step.{Step}
use Rattle.srv_words.specs.declared.job.Step.TheVariants.{Put, Expire, Retract, Ask}
use Rattle.srv_alone.specs.declared.end.End.{End}
use Rattle.srv_alone.specs.declared.end.End.TheVariants.{Done, InputEnded}
use Rattle.srv_laws.specs.Output.{history_after, replies_of, revisions_of}
use Rattle.srv_alone.specs.Steps.{Connection, DoesSteps, EndsAt, HasEnded, IsDone, LeavesLink, Progress}
use Rattle.srv_laws.proofs.AskedLemmas.{rests-goes_on}
use Rattle.srv_laws.proofs.LaterLemmas.{end-later, IsLater, later-on, same-later, step-later}
use Rattle.srv_laws.proofs.QuietLemmas.{quiet-done, quiet-ends}

-- the link is as it was, and no reply is asked for where every step is done
pub record IsLeft (revisions : List ℕ) (at after : Connection) (end : End) : Type 0 where
  pub link_is : after.link ≡ at.link
  pub later : IsLater at.history after.history
  pub none : end ≡ Done → revisions ≡ []

-- a step that is done asks for no reply
left-done : (step : Step) (at next : Progress) → HasEnded at.at.session → IsDone step at next
    → LeavesLink at.at next.at × (replies_of step ≡ 0)
left-done (Put path) at next ended done = (quiet-done (Put path) at next tt done, refl)
left-done (Expire cutoff) at next ended done = (quiet-done (Expire cutoff) at next tt done, refl)
left-done (Retract name) at next ended done = (quiet-done (Retract name) at next tt done, refl)
left-done (Ask count) at next ended done = absurd (rests-goes_on at.at.session done.0.asks.rests ended)

-- a step that isn't done
left-ends : (step : Step) (at after : Progress) (end : End) → HasEnded at.at.session → EndsAt step at after end
    → (after.at.link ≡ at.at.link) × (end ≡ Done → ⊥)
left-ends (Put path) at after end ended ends = quiet-ends (Put path) at after end tt ends
left-ends (Expire cutoff) at after end ended ends = quiet-ends (Expire cutoff) at after end tt ends
left-ends (Retract name) at after end ended ends = quiet-ends (Retract name) at after end tt ends
left-ends (Ask count) at after end ended (inl short, files) =
    absurd (rests-goes_on at.at.session short.asks.rests ended)
left-ends (Ask count) at after end ended (inr over, files) =
    (ap (λ (c : Connection). c.link) over.same, λ done. apart (sym over.end_is ∙ done))
  where
    apart : InputEnded ≡ Done → ⊥
    apart same = cc

-- steps one after the other
pub left-steps : (held : List ℕ → Option (List ℕ)) (steps : List Step) (history : History) (at after : Progress)
    (end : End) (path : List ℕ) → HasEnded at.at.session → DoesSteps steps at after end path
    → IsLeft (revisions_of held history steps) at.at after.at end
unfolding DoesSteps revisions_of
left-steps held [] history at after end path ended does = record {
  link_is = ap (λ (now : Progress). now.at.link) does.0;
  later = same-later at.at.history after.at.history (ap (λ (now : Progress). now.at.history) does.0);
  none = λ done. refl;
}
left-steps held (step ∷ steps) history at after end path ended (inl (next, done, does)) =
    let idle = left-done step at next ended done in
    let others = history_after held history step in
    let left = left-steps held steps others next after end path (subst HasEnded (sym idle.0.session_is) ended) does in
    record {
      link_is = left.link_is ∙ idle.0.link_is;
      later = later-on at.at.history next.at.history after.at.history (step-later step at next done) left.later;
      none = λ well. ap (λ (n : ℕ). replicate n (length history.seen) ++ revisions_of held others steps) idle.1
          ∙ left.none well;
    }
left-steps held (step ∷ steps) history at after end path ended (inr (ends, is)) =
    let left = left-ends step at after end ended ends in record {
      link_is = left.0;
      later = end-later step at after end ends;
      none = λ done. absurd (left.1 done);
    }
