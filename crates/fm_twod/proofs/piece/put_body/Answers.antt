-- Texts need no zero bytes after them.
use Rattle.std.proofs.Common.{◌≡◌, ℕ, ◌+◌, List, length, drop, sym, subst, ◌∙◌, arith}
use Rattle.dap_number.specs.Overlay.{IsPut}
use Rattle.fm_twod.specs.Chosen.{items_before, items_of}
use Rattle.fm_twod.proofs.ValueLemmas.{body-texts}
use Rattle.fm_twod.proofs.ItemLemmas.{items-none}
use Rattle.fm_twod.proofs.piece.put_body.Goals as goal

pub put_padded-requires-clause-number : goal.put_padded-requires-clause-number
put_padded-requires-clause-number c = λ e. c.in_default.not-Text (c.kind.ensures ∙ e)

pub returns-in-Text : goal.returns-in-Text
returns-in-Text c =
    let s = c.args.section.now in
    let none : length (items_before s 0) + c.args.from ≡ c.args.from = omega (arith, items-none s) in
    subst (λ (l : List ℕ). IsPut (drop c.args.from l) c.args.out.now c.put_items.new.out c.put_items.result)
    (sym (body-texts s (sym c.kind.ensures ∙ c.in-Text.is)))
    (subst (λ (m : ℕ). IsPut (drop m (items_of s)) c.args.out.now c.put_items.new.out c.put_items.result) none
    c.put_items.ensures)
