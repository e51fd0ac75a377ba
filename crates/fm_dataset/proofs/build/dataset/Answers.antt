-- The dataset keeps what its parts were made as.
use Rattle.std.proofs.Common.{ℕ, List, ap, ap₂, length, ◌∙◌, sym, subst}
use Rattle.fm_model.specs.declared.proto.Proto.{Proto}
use Rattle.fm_model.specs.Prototype.{IsSound}
use Rattle.fm_model.specs.Site.{IsPrototype}
use Rattle.fm_model.proofs.ProtoLemmas.{IsSound-given}
use Rattle.fm_dataset.specs.Declarations.{decls_of}
use Rattle.fm_dataset.specs.Kept.{HasCoordinates, HasSlotNumbers}
use Rattle.fm_dataset.specs.Rows.{AreRows}
use Rattle.fm_dataset.specs.Values.{Shown}
use Rattle.fm_dataset.proofs.build.dataset.Goals as goal

pub invariant_of-result : goal.invariant_of-result
invariant_of-result c =
    let shared = sym c.in_ok-proto.ensures in
    record {
      given = subst IsPrototype shared c.requires.proto;
      sound = subst IsSound shared (IsSound-given _ c.requires.proto);
      rows_are = subst (λ (p : Proto). AreRows p c.args.rows) shared c.requires.rows;
      decls_are = c.in_ok-decls.ensures ∙ ap₂ decls_of (c.get-2.ensures ∙ shared)
          (c.len.ensures ∙ ap length c.get-3.ensures);
      coordinates_are = subst (λ (p : Proto). HasCoordinates p c.in_ok-coordinates.coordinates)
          (c.get.ensures ∙ shared) c.in_ok-coordinates.ensures;
      slots_are = subst (λ (p : Proto). HasSlotNumbers p c.in_ok-slots.slots)
          (c.get-4.ensures ∙ shared) c.in_ok-slots.ensures;
    }

pub returns : goal.returns
returns c =
    let show : Proto → List ℕ → Shown =
    λ p l. record { proto = p; rows = c.args.rows; view = c.args.view; label = l } in
    ap₂ show c.in_ok-proto.ensures c.in_ok-label.ensures
