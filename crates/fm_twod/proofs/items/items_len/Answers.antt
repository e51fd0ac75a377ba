-- Each turn counts one value.
use Rattle.std.proofs.Common.{◌≡◌, ◌<◌, ℕ, List, length, sym, ap, subst, ◌∙◌, arith}
use Rattle.std.proofs.lemmas.List.{length-append}
use Rattle.dap_model.specs.Box.{box_len, index_at}
use Rattle.fm_twod.specs.Chosen.{item_of, items_before}
use Rattle.fm_twod.proofs.ItemLemmas.{items-more, items-none, items-whole}
use Rattle.fm_twod.proofs.items.items_len.Goals as goal

pub loop-element-init : goal.loop-element-init
loop-element-init c =
    (c.begin_at.ensures.room, c.begin_at.ensures.index, sym (items-none c.args.section.now), omega arith)

pub item_len-requires-clause-element : goal.item_len-requires-clause-element
item_len-requires-clause-element c = omega (arith, c.loop-element-test.true, c.requires.count)

pub item_len-requires-clause-index : goal.item_len-requires-clause-index
item_len-requires-clause-index c =
    c.loop-element.invariant.1 (omega (arith, c.loop-element-test.true, c.requires.count))

pub go_on_to-requires-clause-before : goal.go_on_to-requires-clause-before
go_on_to-requires-clause-before c =
    subst (λ (m : ℕ). c.loop-element.index ≡ index_at c.args.section.now.sent.slabs m) (omega arith)
    (c.loop-element.invariant.1 (omega (arith, c.loop-element-test.true, c.requires.count)))

pub loop-element-preserved : goal.loop-element-preserved
loop-element-preserved c =
    let s = c.args.section.now in
    let within : c.loop-element.element < box_len s.sent.slabs =
    omega (arith, c.loop-element-test.true, c.requires.count) in
    let more = items-more s c.loop-element.element within in
    let same = ap (λ (i : List ℕ). length (item_of s i)) (c.loop-element.invariant.1 within) in (
      c.go_on_to.ensures.room ∙ c.loop-element.invariant.0,
      c.go_on_to.ensures.index,
      omega (
        arith,
        c.loop-element.invariant.2,
        c.from-len.ensures,
        c.item_len.ensures.exact,
        same,
        length-append (items_before s c.loop-element.element)
            (item_of s (index_at s.sent.slabs c.loop-element.element)),
        ap length more,
      ),
      omega (arith, c.loop-element.invariant.3, c.from-len.ensures, c.item_len.ensures.few),
    )

pub returns-clause-exact : goal.returns-clause-exact
returns-clause-exact c =
    c.loop-element.invariant.2
    ∙ ap length (items-whole c.args.section.now c.loop-element.element
    (omega (arith, c.loop-element-test.false, c.requires.count)))

pub returns-clause-few : goal.returns-clause-few
returns-clause-few c =
    omega (arith, c.loop-element.invariant.3, c.loop-element.auto.element-end)
