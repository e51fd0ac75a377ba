-- The answer is over the edition that was taken at the look.
use Rattle.std.proofs.Common.{◌≡◌, subst, IfOk, IfSome, MatchResult, Result, Ok, Err}
use Rattle.fm_edition.specs.Held.{Held}
use Rattle.fm_edition.specs.Log.{held_of}
use Rattle.pub_pass.proofs.pass.look.Goals as goal

-- an answer comes only where there is an edition, and is over it
answered : {A E F : Type 0} (edition : Result Held E) (out : Result A F) (held : Held) (says : Held → A → Type 0)
    → IfOk edition (λ it. it ≡ held) → IfOk out (λ a. MatchResult edition (λ it. says it a) (λ _. ⊥))
    → IfOk out (λ a. says held a)
answered (Ok it) (Ok a) held says same said = subst (λ (h : Held). says h a) same said
answered (Err e) (Ok a) held says same said = absurd said
answered edition (Err f) held says same said = tt

pub returns-clause-answer : goal.returns-clause-answer
returns-clause-answer g c =
    let held : Held = held_of g.N.Name.proto c.in-Some.front.seen.log in
    let same = subst (λ o. IfSome o (λ found. IfOk found.1 (λ it. it ≡ held_of g.N.Name.proto found.0.seen.log)))
    c.in-Some.is c.take_share-seat.ensures.held in
    answered c.in-Some.edition c.answer_over-out.result held (λ it a. g.Q.Query.says c.args.query.now it a.1 a.0) same
    c.answer_over-out.ensures.answer
