-- Each turn reads one text.
use Rattle.std.proofs.Common.{◌≡◌, ◌≤◌, ◌<◌, ℕ, List, length, max, refl, sym, ap, subst, ◌∙◌, arith}
use Rattle.dap_model.specs.declared.projection.Slab.{Slab}
use Rattle.dap_model.specs.Box.{index_at}
use Rattle.dap_model.proofs.BoxLemmas.{length-index_at}
use Rattle.dap_xdr.specs.Datasets.{content_of}
use Rattle.nc_writer.proofs.TextLemmas.{longest-done, longest-first, longest-next, text-at}
use Rattle.nc_writer.proofs.text.longest_of.Goals as goal

pub loop-element-init : goal.loop-element-init
loop-element-init c = (refl, omega arith, longest-first (content_of c.args.source.now) c.args.sent.now)

pub text-text-requires : goal.text-text-requires
text-text-requires c =
    text-at c.args.source.now c.args.sent.now c.args.array.now c.loop-element.element c.put_index.new.index
    c.requires.part c.requires.text
    (subst (λ (n : ℕ). c.loop-element.element < n) c.requires.count c.loop-element-test.true)
    (c.put_index.ensures ∙ ap (λ (s : List Slab). index_at s c.loop-element.element) c.slabs.ensures)

pub loop-element-preserved : goal.loop-element-preserved
loop-element-preserved c =
    let content = content_of c.args.source.now in
    let sent = c.args.sent.now in
    let within = subst (λ (n : ℕ). c.loop-element.element < n) c.requires.count c.loop-element-test.true in
    let index_is = c.put_index.ensures ∙ ap (λ (s : List Slab). index_at s c.loop-element.element) c.slabs.ensures in
    let longer : c.max-most.result ≡ max c.loop-element.most (length c.text-text.result.now) =
    omega (arith, c.max-most.ensures) in (
      ap length index_is ∙ length-index_at sent.slabs c.loop-element.element ∙ sym c.requires.room,
      omega (arith, longer, c.loop-element.invariant.1),
      longest-next content sent c.loop-element.element c.loop-element.most (length c.text-text.result.now)
          c.max-most.result within (ap length (c.text-text.ensures ∙ ap (content.text sent.decl sent.part) index_is))
          longer c.loop-element.invariant.2,
    )

pub returns : goal.returns
returns c =
    longest-done (content_of c.args.source.now) c.args.sent.now c.loop-element.element c.loop-element.most
    c.loop-element.invariant.1
    (subst (λ (n : ℕ). n ≤ c.loop-element.element) c.requires.count c.loop-element-test.false)
    c.loop-element.invariant.2
