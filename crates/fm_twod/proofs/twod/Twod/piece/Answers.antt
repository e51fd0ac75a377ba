-- The front is written, and the data behind it.
use Rattle.std.proofs.Common.{◌+◌, ◌-◌, ◌++◌, ℕ, length, min, drop, subst, sym, ap, ◌∙◌}
use Rattle.std.proofs.lemmas.List.{length-drop}
use Rattle.dap_number.specs.Overlay.{IsPut}
use Rattle.fm_twod.specs.Parts.{bytes_of, Body}
use Rattle.fm_twod.proofs.BodyLemmas.{body-piece, body-small}
use Rattle.fm_twod.proofs.twod.Twod.piece.Goals as goal

pub put_data-more-requires-clause-small : goal.put_data-more-requires-clause-small
put_data-more-requires-clause-small c =
    body-small c.self.inside.front c.self.inside.grid c.self.inside.sent c.as_slice-2.result.now c.self.inside.len
    c.self.invariant c.as_slice-2.ensures

pub returns-clause-count : goal.returns-clause-count
returns-clause-count c =
    let put = subst (λ (body : Body). IsPut (drop c.args.from (bytes_of body)) c.args.out.now
    (c.split_at_mut-rest.result.0.now ++ c.put_data-more.new.out) (c.put-count.result + c.put_data-more.result))
    c.self.view_is
    (body-piece c.self.inside.front c.self.inside.grid c.self.inside.sent c.as_slice-2.result.now
    c.as_slice.result.now c.args.out.now c.put-count.new.out c.split_at_mut-rest.result.0.now
    c.split_at_mut-rest.result.1.now c.put_data-more.new.out c.args.from c.put-count.result c.put_data-more.result
    c.saturating_sub-from.result c.as_slice.ensures c.as_slice-2.ensures c.put-count.ensures.count
    c.put-count.ensures.bytes c.split_at_mut-rest.ensures.value c.split_at_mut-rest.ensures.front_len
    (c.saturating_sub-from.ensures
    ∙ ap (λ (n : ℕ). c.args.from - n) (c.len.ensures ∙ ap length (sym c.as_slice.ensures)))
    c.put_data-more.ensures) in
    put.count_is ∙ ap (min (length c.args.out.now)) (length-drop c.args.from (bytes_of c.args.self.now))

pub returns-clause-bytes : goal.returns-clause-bytes
returns-clause-bytes c =
    let put = subst (λ (body : Body). IsPut (drop c.args.from (bytes_of body)) c.args.out.now
    (c.split_at_mut-rest.result.0.now ++ c.put_data-more.new.out) (c.put-count.result + c.put_data-more.result))
    c.self.view_is
    (body-piece c.self.inside.front c.self.inside.grid c.self.inside.sent c.as_slice-2.result.now
    c.as_slice.result.now c.args.out.now c.put-count.new.out c.split_at_mut-rest.result.0.now
    c.split_at_mut-rest.result.1.now c.put_data-more.new.out c.args.from c.put-count.result c.put_data-more.result
    c.saturating_sub-from.result c.as_slice.ensures c.as_slice-2.ensures c.put-count.ensures.count
    c.put-count.ensures.bytes c.split_at_mut-rest.ensures.value c.split_at_mut-rest.ensures.front_len
    (c.saturating_sub-from.ensures
    ∙ ap (λ (n : ℕ). c.args.from - n) (c.len.ensures ∙ ap length (sym c.as_slice.ensures)))
    c.put_data-more.ensures) in
    put.new_is
