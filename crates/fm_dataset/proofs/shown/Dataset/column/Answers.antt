-- The number of the slot is that of the variable that was found.
use Rattle.std.proofs.Common.{◌≡◌, ◌∙◌, List, ℕ, ap, sym, subst}
use Rattle.std.specs.Prelude.{slice_get, slice_index}
use Rattle.fm_dataset.specs.Columns.{IsFound}
use Rattle.fm_dataset.specs.Values.{is_stored, var_of_part, Shown}
use Rattle.fm_dataset.proofs.shown.Dataset.column.Goals as goal

pub is_stored-stored-requires : goal.is_stored-stored-requires
is_stored-stored-requires c =
    subst (λ (s : Shown). slice_get s.proto.vars c.number_of_part-number.result
    ≡ var_of_part s.proto c.args.decl c.args.part) c.self.view_is
    (rw c.get.ensures at c.number_of_part-number.ensures)

pub invariant_of-result : goal.invariant_of-result
invariant_of-result c =
    subst (λ (s : Shown). IsFound s c.args.decl c.args.part c.number_of_part-number.result c.number_at-slot.result
    c.is_stored-stored.result) c.self.view_is (record {
      number_is = rw c.get.ensures at c.number_of_part-number.ensures;
      slot_is = λ below. c.number_at-slot.ensures
          ∙ ap (λ (l : List ℕ). slice_index l c.number_of_part-number.result) c.as_slice-2.ensures
          ∙ c.self.invariant.slots_are.each _ below;
      stored_is = c.is_stored-stored.ensures
          ∙ ap (λ (s : Shown). is_stored s c.args.decl c.args.part) (sym c.self.view_is);
    })
