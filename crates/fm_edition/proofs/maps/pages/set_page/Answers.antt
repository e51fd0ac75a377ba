-- The page of the number is set or taken out, and the pages stay in order.
use Rattle.std.proofs.Common.{rules, ◌≡◌, ◌∙◌, cond, List, None, Option, Some, ℤ, ap, sym, SFits, w64}
use Rattle.std.specs.BTreeMap.{BTreeMap, get, IsOrdered}
use Rattle.std.specs.Ordering.{int_cmp, int_eq}
use Rattle.std.proofs.lemmas.Int.{to_z-of_z}
use Rattle.std.proofs.lemmas.Map.Views.{All-map-remove_entry, All-values-insert_entry}
use Rattle.fm_model.specs.declared.loaded.Loaded.{Loaded}
use Rattle.fm_edition.specs.Indexes.{in_page}
use Rattle.fm_edition.proofs.SetLemmas.{in_none, in_page-set}
use Rattle.fm_edition.proofs.maps.pages.set_page.Goals as goal

pub returns-then-len-eq0 : goal.returns-then-len-eq0
returns-then-len-eq0 c =
    let a : SFits w64 c.args.number = search rules in
    let pages = c.args.pages.now in
    let number = c.args.number in
    let none : Option (BTreeMap ℤ (List Loaded)) = None in
    let set : (other : ℤ) → get int_cmp c.remove.new.self other
    ≡ cond (int_eq number other) none (get int_cmp pages other) =
    λ other. simp to_z-of_z at (c.remove.ensures.updates.0 other) in
    record {
      ordered = record {
        numbers = c.remove.ensures.ordered;
        each = rw c.remove.ensures.entries (All-map-remove_entry _ (λ e. e.1) (λ page. IsOrdered int_cmp page) _
            c.requires.pages.each);
      };
      set = λ other key. in_page-set pages c.remove.new.self number none set other key
          ∙ ap (λ (held : Option (List Loaded)). cond (int_eq number other) held (in_page pages other key))
          (sym (in_none c.args.page (sym c.len.ensures ∙ c.if-len-eq0.true) key));
      others = λ other apart. set other ∙ ap (λ b. cond b none (get int_cmp pages other)) apart;
    }

pub returns-in_ok-insert : goal.returns-in_ok-insert
returns-in_ok-insert c =
    let a : SFits w64 c.args.number = search rules in
    let pages = c.args.pages.now in
    let number = c.args.number in
    let set : (other : ℤ) → get int_cmp c.insert.new.self other
    ≡ cond (int_eq number other) (Some c.args.page) (get int_cmp pages other) =
    λ other. simp to_z-of_z at (c.in_ok-insert.ensures.updates.0 other)
    ∙ ap (λ (page : BTreeMap ℤ (List Loaded)). cond (int_eq number other) (Some page) (get int_cmp pages other))
    c.in_ok-new.ensures in
    record {
      ordered = record {
        numbers = c.insert.ensures.ordered;
        each = rw c.in_ok-insert.ensures.entries (All-values-insert_entry int_cmp _ _ (λ page. IsOrdered int_cmp page)
            _ c.requires.pages.each (rw c.in_ok-new.ensures c.requires.page));
      };
      set = in_page-set pages c.insert.new.self number (Some c.args.page) set;
      others = λ other apart. set other ∙ ap (λ b. cond b (Some c.args.page) (get int_cmp pages other)) apart;
    }
