-- What an inbox says comes next.
use Rattle.std.proofs.Common.{◌≡◌, ℕ, List, [], Option, Some, None, IfSome, sym, subst, ◌∙◌}
use Rattle.dev_traits.specs.declared.inbox.Arrival.TheVariants as arrivals
use Rattle.dev_traits.specs.Door.{first_of}
use Rattle.dev_traits.specs.Inbox.{after_next, InboxShown, IsNext, Post}
use Rattle.srv_ingest.specs.declared.report.IngestEnd.TheVariants as ends
use Rattle.srv_ingest.specs.Ingests.{EndsIngest}

-- an inbox that had nothing is as before
pub held-idle : (a b c : Option Post) → b ≡ a → c ≡ after_next arrivals.Idle b → c ≡ a
held-idle a None c same is = is ∙ same
held-idle a (Some post) c same is = is ∙ same

-- an inbox that is done is as before
pub held-done : (a b c : Option Post) → b ≡ a → c ≡ after_next arrivals.Done b → c ≡ a
held-done a None c same is = is ∙ same
held-done a (Some post) c same is = is ∙ same

-- an inbox that is done has no name left
pub EndsIngest-done : (a b c : InboxShown) → b.faults ≡ a.faults → IfSome b.held (λ post. IsNext post arrivals.Done)
    → c.held ≡ after_next arrivals.Done b.held → c.faults ≡ b.faults → EndsIngest a c ends.Done
unfolding EndsIngest
EndsIngest-done a b c faults next is same = (same ∙ faults, none_left b.held c.held next is)
  where
    none_left : (h h' : Option Post) → IfSome h (λ post. IsNext post arrivals.Done)
        → h' ≡ after_next arrivals.Done h → IfSome h' (λ post. post.left ≡ [])
    none_left None h' next is = subst (λ (o : Option Post). IfSome o (λ post. post.left ≡ [])) (sym is) tt
    none_left (Some post) h' next is = subst (λ (o : Option Post). IfSome o (λ post. post.left ≡ [])) (sym is) next

-- the first name of an inbox that is as before
pub first-name : (a b : Option Post) (name : List ℕ) → b ≡ a → IfSome b (λ post. IsNext post (arrivals.Name name))
    → IfSome a (λ post. first_of post.left ≡ Some name)
first-name a b name same next = subst (λ (o : Option Post). IfSome o (λ post. first_of post.left ≡ Some name)) same next

pub ruleset nexts = (held-idle, held-done, EndsIngest-done, first-name)
