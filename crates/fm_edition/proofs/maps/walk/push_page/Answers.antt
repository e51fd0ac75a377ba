-- One more row.
use Rattle.std.proofs.Common.{◌+◌, ℤ, List, ◌++◌, drop, rules, refl, SFits, w64}
use Rattle.std.specs.List.{filter_map}
use Rattle.std.proofs.lemmas.Int.{to_z-of_z}
use Rattle.fm_model.specs.declared.loaded.Loaded.{Loaded}
use Rattle.fm_edition.specs.Indexes.{entry_row, IsSound}
use Rattle.fm_edition.proofs.WalkLemmas.{all_first, all_rest, one_taken}
use Rattle.fm_edition.proofs.maps.walk.push_page.Goals as goal

pub push_wanted-requires : goal.push_wanted-requires
push_wanted-requires c =
    let page = c.args.page.now.entries in
    all_first IsSound (c.entry-key.result.0, c.entry-key.result.1) (drop (c.loop-at.at + 1) page)
    (drop c.loop-at.at page) c.entry-key.ensures c.loop-at.invariant.sound

pub loop-at-preserved : goal.loop-at-preserved
loop-at-preserved c =
    let a : SFits w64 c.entry-key.result.0 = search rules in
    let make = entry_row c.args.wanted in
    let page = c.args.page.now.entries in
    let here = drop c.loop-at.at page in
    let rest = drop (c.loop-at.at + 1) page in
    let pushed = simp to_z-of_z at c.in_ok-push_wanted.ensures in
    let entry : ℤ × List Loaded = (c.entry-key.result.0, c.entry-key.result.1) in
    record {
      sound = all_rest IsSound entry rest here c.entry-key.ensures c.loop-at.invariant.sound;
      made = rw pushed (one_taken make c.loop-at.rows (make entry) entry rest here
          (c.args.rows.now ++ filter_map make page) c.entry-key.ensures c.loop-at.invariant.made refl);
    }
