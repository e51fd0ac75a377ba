-- The end that was found is that of the head, and the bytes that were read leave the reader in its state.
use Rattle.std.proofs.Common.{◌≡◌, ℕ, ◌+◌, ◌≤◌, List, length, take, drop, Option, Some, rules, arith, refl, sym, ap, ◌∙◌}
use Rattle.std.specs.Option.{option_map}
use Rattle.web_frame.specs.declared.scan.State.TheVariants.{Before}
use Rattle.web_frame.specs.Cut.{head_len}
use Rattle.web_frame.specs.Scan.{end_from, state_past}
use Rattle.web_frame.proofs.CutLemmas.{head_len_fits}
use Rattle.web_frame.proofs.UnreadLemmas.{head_len_from, state_past_all}
use Rattle.web_frame.proofs.unread.Unread.head_len.Goals as goal

pub invariant_of-self : goal.invariant_of-self
invariant_of-self c =
    let left = c.split_at.ensures.back ∙ ap (drop c.self.inside.scanned) c.as_slice.ensures in (
      omega arith,
      ap (λ (n : ℕ). state_past Before (take n c.self.inside.store)) c.len-held.ensures.len
          ∙ state_past_all c.self.inside.store c.self.inside.scanned c.self.inside.state c.find_end.new.self
          c.self.invariant.1
          (ap (state_past c.self.inside.state) (sym left) ∙ c.in-None.ensures.state),
    )

pub overflow_add-len : goal.overflow_add-len
overflow_add-len c =
    let left = c.split_at.ensures.back ∙ ap (drop c.self.inside.scanned) c.as_slice.ensures in
    let found : head_len c.self.inside.store ≡ Some (c.self.inside.scanned + c.in-Some.more) =
    head_len_from c.self.inside.store c.self.inside.scanned c.self.inside.state c.self.invariant.0 c.self.invariant.1
    ∙ ap (λ (l : List ℕ). option_map (λ n. c.self.inside.scanned + n) (end_from c.self.inside.state l)) (sym left)
    ∙ ap (option_map (λ n. c.self.inside.scanned + n)) (sym c.in-Some.ensures.end) in
    let fits = head_len_fits c.self.inside.store _ found in
    let small : c.self.inside.scanned + c.in-Some.more ≤ 16384 = omega (arith, fits.1) in
    omega arith

pub invariant_of-self-in-Some : goal.invariant_of-self-in-Some
unfolding state_past
invariant_of-self-in-Some c = (omega arith, refl)

pub returns-in-None-clause-len : goal.returns-in-None-clause-len
returns-in-None-clause-len c =
    let left = c.split_at.ensures.back ∙ ap (drop c.self.inside.scanned) c.as_slice.ensures in
    sym (ap head_len (sym c.self.view_is)
    ∙ head_len_from c.self.inside.store c.self.inside.scanned c.self.inside.state c.self.invariant.0 c.self.invariant.1
    ∙ ap (λ (l : List ℕ). option_map (λ n. c.self.inside.scanned + n) (end_from c.self.inside.state l)) (sym left)
    ∙ ap (option_map (λ n. c.self.inside.scanned + n)) (sym c.in-None.ensures.end))

pub returns-in-Some-clause-len : goal.returns-in-Some-clause-len
returns-in-Some-clause-len c =
    let left = c.split_at.ensures.back ∙ ap (drop c.self.inside.scanned) c.as_slice.ensures in
    sym (ap head_len (sym c.self.view_is)
    ∙ head_len_from c.self.inside.store c.self.inside.scanned c.self.inside.state c.self.invariant.0 c.self.invariant.1
    ∙ ap (λ (l : List ℕ). option_map (λ n. c.self.inside.scanned + n) (end_from c.self.inside.state l)) (sym left)
    ∙ ap (option_map (λ n. c.self.inside.scanned + n)) (sym c.in-Some.ensures.end))
