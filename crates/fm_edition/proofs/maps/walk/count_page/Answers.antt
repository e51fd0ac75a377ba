-- One more instant has a row or none.
use Rattle.std.proofs.Common.{◌≡◌, ◌+◌, ℤ, List, drop, length, rules, arith, sym, ◌∙◌, SFits, w64}
use Rattle.std.specs.Prelude.{is_some}
use Rattle.std.specs.List.{filter_map}
use Rattle.std.proofs.lemmas.Int.{to_z-of_z}
use Rattle.fm_base.proofs.ListLemmas.{length-filter_map}
use Rattle.fm_model.specs.declared.loaded.Loaded.{Loaded}
use Rattle.fm_edition.specs.Indexes.{entry_row, IsSound}
use Rattle.fm_edition.proofs.CountLemmas.{counted_more, counted_passed}
use Rattle.fm_edition.proofs.WalkLemmas.{all_first, all_rest}
use Rattle.fm_edition.proofs.maps.walk.count_page.Goals as goal
use Rattle.fm_edition.proofs.maps.walk.count_page.Goals.{then-has_wanted, else-has_wanted}

pub has_wanted-requires : goal.has_wanted-requires
has_wanted-requires c =
    let page = c.args.page.now.entries in
    all_first IsSound (c.entry-key.result.0, c.entry-key.result.1) (drop (c.loop-at.at + 1) page)
    (drop c.loop-at.at page) c.entry-key.ensures c.loop-at.invariant.sound

pub overflow_add-count : goal.overflow_add-count
overflow_add-count c =
    let a : SFits w64 c.entry-key.result.0 = search rules in
    let make = entry_row c.args.wanted in
    let page = c.args.page.now.entries in
    let entry : ℤ × List Loaded = (c.entry-key.result.0, c.entry-key.result.1) in
    let own : is_some (make entry) ≡ c.has_wanted.result = sym (simp to_z-of_z at c.has_wanted.ensures) in
    let next = counted_more make c.loop-at.count entry (drop (c.loop-at.at + 1) page) (drop c.loop-at.at page)
    (length (filter_map make page)) c.entry-key.ensures c.loop-at.invariant.counted (own ∙ c.if-has_wanted.true) in
    let most = length-filter_map make page in
    omega (arith, next, most, c.requires.count)

pub loop-at-preserved : goal.loop-at-preserved
loop-at-preserved c =
    let a : SFits w64 c.entry-key.result.0 = search rules in
    let make = entry_row c.args.wanted in
    let page = c.args.page.now.entries in
    let here = drop c.loop-at.at page in
    let rest = drop (c.loop-at.at + 1) page in
    let whole = length (filter_map make page) in
    let entry : ℤ × List Loaded = (c.entry-key.result.0, c.entry-key.result.1) in
    let own : is_some (make entry) ≡ c.has_wanted.result = sym (simp to_z-of_z at c.has_wanted.ensures) in
    let so_far = c.loop-at.invariant in
    record {
      sound = all_rest IsSound entry rest here c.entry-key.ensures so_far.sound;
      counted = elim c.if-has_wanted.branch [
        | then-has_wanted w ↦
            rw w.count-is (counted_more make c.loop-at.count entry rest here whole c.entry-key.ensures
            so_far.counted (own ∙ w.if-has_wanted.true))
        | else-has_wanted w ↦
            rw w.count-is (counted_passed make c.loop-at.count entry rest here whole c.entry-key.ensures
            so_far.counted (own ∙ w.if-has_wanted.false))
      ];
    }
