-- A head that ends in the held bytes is within the limit, and is the one that is returned.
use Rattle.std.proofs.Common.{◌≡◌, ℕ, ◌≤◌, List, length, take, drop, Some, arith, sym, ap, ◌∙◌}
use Rattle.web_frame.specs.Cut.{Cut, whole, cut_of}
use Rattle.web_frame.specs.Items.{item_of}
use Rattle.web_frame.specs.Stream.{Held, next_by_item, next_by, next_of, held_by, held_after}
use Rattle.web_frame.proofs.CutLemmas.{head_len_fits, cut_found}
use Rattle.web_frame.proofs.frame.Frame.next.Goals as goal

pub give-requires-clause-fits : goal.give-requires-clause-fits
give-requires-clause-fits c =
    let fits = head_len_fits c.skip.new.self c.in-Some.len (sym c.in-Some.ensures.len) in
    omega (arith, fits.1, ap length c.head_len.ensures.same)

pub returns-in-Some-clause-answer : goal.returns-in-Some-clause-answer
unfolding next_of
returns-in-Some-clause-answer c =
    let skipped : c.skip.new.self ≡ c.args.self.now.rest = c.skip.ensures ∙ ap (λ (h : Held). h.rest) c.self.view_is in
    let cut : cut_of c.args.self.now.rest ≡ whole c.in-Some.len =
    cut_found c.args.self.now.rest c.skip.new.self c.in-Some.len skipped c.in-Some.ensures.len
    (omega (arith, c.len-held.ensures.bound)) in
    c.give.ensures.answer ∙ ap (λ (l : List ℕ). next_by_item (item_of (take c.in-Some.len l)))
    (c.head_len.ensures.same ∙ skipped)
    ∙ sym (ap (λ (k : Cut). next_by k c.args.self.now.rest) cut)

pub returns-in-Some-clause-held : goal.returns-in-Some-clause-held
unfolding held_after
returns-in-Some-clause-held c =
    let skipped : c.skip.new.self ≡ c.args.self.now.rest = c.skip.ensures ∙ ap (λ (h : Held). h.rest) c.self.view_is in
    let cut : cut_of c.args.self.now.rest ≡ whole c.in-Some.len =
    cut_found c.args.self.now.rest c.skip.new.self c.in-Some.len skipped c.in-Some.ensures.len
    (omega (arith, c.len-held.ensures.bound)) in
    c.give.ensures.held ∙ ap (λ (l : List ℕ). held_by (whole c.in-Some.len) l) (c.head_len.ensures.same ∙ skipped)
    ∙ sym (ap (λ (k : Cut). held_by k c.args.self.now.rest) cut)
