-- What a search by the instants finds.
use Rattle.std.proofs.Common.{pos, rules, SFits, w64}
use Rattle.std.proofs.lemmas.Int.{to_z-of_z}
use Rattle.std.proofs.lemmas.List.Elements.{Contains-get_or}
use Rattle.std.proofs.lemmas.List.Sorted.{answers_always}
use Rattle.fm_edition.specs.declared.maps.page.Entry.{Entry}
use Rattle.fm_edition.proofs.ShownLemmas.{shown_at, shown_nowhere}
use Rattle.fm_edition.proofs.maps.page.entry_of.Goals as goal

pub returns-in-Ok : goal.returns-in-Ok
returns-in-Ok c =
    let d : Entry = record { instant = pos 0; list = 0 } in
    let a : SFits w64 c.args.instant = search rules in
    let found = c.in-Ok.ensures.position (λ (entry : Entry). entry.instant)
    (answers_always _ _ _ (λ f a r g called. search rules)) in
    record {
      one = Contains-get_or c.args.entries.now c.in-Ok.at d c.in-Ok.ensures.bound;
      files = λ lists. shown_at lists c.args.entries.now c.args.instant c.in-Ok.at d c.requires c.in-Ok.ensures.bound
          (simp to_z-of_z at found);
    }

pub returns-in-Err : goal.returns-in-Err
returns-in-Err c =
    let a : SFits w64 c.args.instant = search rules in
    let parted = c.in-Err.ensures.position (λ (entry : Entry). entry.instant)
    (answers_always _ _ _ (λ f a r g called. search rules)) in
    record {
      one = tt;
      files = λ lists. shown_nowhere lists c.args.entries.now c.args.instant c.in-Err.field-0 c.requires
          c.in-Err.ensures.bound (simp to_z-of_z at parted);
    }
