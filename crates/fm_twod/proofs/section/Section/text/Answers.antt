-- The index list of an element lies within the dimensions.
use Rattle.std.proofs.Common.{◌≡◌, ◌<◌, ◌^◌, ◌∙◌, List, ℕ, length, sym, ap, subst}
use Rattle.dap_model.specs.Box.{box_len, index_at}
use Rattle.dap_model.specs.declared.declaration.DapKind.TheVariants.{Text}
use Rattle.fm_twod.specs.Chosen.{text_in, Chosen}
use Rattle.fm_twod.proofs.ChosenLemmas.{has-text}
use Rattle.fm_twod.proofs.TextLemmas.{grid-short}
use Rattle.fm_twod.proofs.section.Section.text.Goals as goal

pub text_at-requires : goal.text_at-requires
text_at-requires c =
    has-text _ c.args.element c.args.index.now c.self.invariant.0
    (subst (λ (s : Chosen). s.array.kind ≡ Text) (sym c.self.view_is) c.requires.text)
    (subst (λ (s : Chosen). c.args.element < box_len s.sent.slabs) (sym c.self.view_is) c.requires.element)
    (subst (λ (s : Chosen). c.args.index.now ≡ index_at s.sent.slabs c.args.element) (sym c.self.view_is)
    c.requires.index)

pub returns-clause-short : goal.returns-clause-short
returns-clause-short c =
    subst (λ (l : List ℕ). length l < 2 ^ 32) (sym c.text_at.ensures)
    (grid-short _ _ c.self.inside.sent.now.decl c.self.inside.sent.now.part c.args.index.now
    c.proto-proto.ensures.keeps
    (has-text _ c.args.element c.args.index.now c.self.invariant.0
    (subst (λ (s : Chosen). s.array.kind ≡ Text) (sym c.self.view_is) c.requires.text)
    (subst (λ (s : Chosen). c.args.element < box_len s.sent.slabs) (sym c.self.view_is) c.requires.element)
    (subst (λ (s : Chosen). c.args.index.now ≡ index_at s.sent.slabs c.args.element) (sym c.self.view_is)
    c.requires.index)))

pub returns-clause-exact : goal.returns-clause-exact
returns-clause-exact c =
    c.text_at.ensures ∙ ap (λ (s : Chosen). text_in s c.args.index.now) c.self.view_is
