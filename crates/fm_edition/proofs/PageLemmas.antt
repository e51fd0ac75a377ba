-- What pages hold after some of their instants were set.
use Rattle.std.proofs.Common.{◌≡◌, Bool, true, false, cond, List, [], ◌∷◌, Option, None, ℤ, refl, sym, ap, ◌∙◌}
use Rattle.std.specs.Prelude.{◌&&◌}
use Rattle.std.specs.List.{AllZip}
use Rattle.std.specs.Ordering.{int_eq}
use Rattle.fm_model.specs.declared.loaded.Loaded.{Loaded}
use Rattle.fm_model.specs.declared.op.Op.{Op}
use Rattle.fm_model.specs.Collection.{after_op}
use Rattle.fm_list.specs.declared.by.By.{By}
use Rattle.fm_list.specs.Change.{changed}
use Rattle.fm_list.specs.Selected.{part, part_after}
use Rattle.fm_edition.specs.Indexes.{in_page, instants, is_among, or_none, page_of, page_set, shown_in, some_of, AreOrdered, AreParts, Pages}
use Rattle.fm_edition.proofs.ChangeLemmas.{part-after, part-untouched}

-- entries that are clones are the same
pub same_entries : {A : Type 0} (from to : List (ℤ × A)) → AllZip (λ p q. (q.0 ≡ p.0) × (q.1 ≡ p.1)) from to → to ≡ from
same_entries [] [] all = refl
same_entries [] (q ∷ to) all = absurd all
same_entries (p ∷ from) [] all = absurd all
same_entries ((k, x) ∷ from) ((l, y) ∷ to) all =
    let keys : l ≡ k = all.0.0 in
    let values : y ≡ x = all.0.1 in
    let more : to ≡ from = same_entries from to all.1 in
    rw (keys, values, more) refl

-- a list that is there unless it is empty
pub or_none-some_of : {A : Type 0} (items : List A) → or_none (some_of items) ≡ items
or_none-some_of [] = refl
or_none-some_of (item ∷ items) = refl

-- what stands at one instant after an operation
set_at : (by : By) (files : List Loaded) (op : Op) (key : ℤ) (a b : Bool) (held : Option (List Loaded))
    → is_among (instants by (changed files op)) key ≡ b → held ≡ cond a (some_of (part by files key)) None
    → cond (a && b) (some_of (part_after by key op (or_none held))) held
    ≡ cond a (some_of (part by (after_op files op) key)) None
set_at by files op key true true held is e = ap some_of
    (ap (part_after by key op) (ap or_none e ∙ or_none-some_of (part by files key)) ∙ sym (part-after by files op key))
set_at by files op key true false held is e = e ∙ ap some_of (sym (part-untouched by files op key is))
set_at by files op key false b held is e = e

-- pages of the files before an operation become those of the files after it
pub AreParts-after : (by : By) (files : List Loaded) (op : Op) (pages next : Pages) → AreParts by files pages
    → AreOrdered next
    → ((number key : ℤ) → in_page next number key
    ≡ page_set by (instants by (changed files op)) op (in_page pages) number key)
    → AreParts by (after_op files op) next
unfolding page_set shown_in
AreParts-after by files op pages next are ordered set = record {
  ordered = ordered;
  shown = λ number key. set number key ∙ set_at by files op key (int_eq (page_of key) number)
      (is_among (instants by (changed files op)) key) (in_page pages number key) refl (are.shown number key);
}

-- nothing is set where no instant is touched
pub page_set-none : (by : By) (op : Op) (held : ℤ → ℤ → Option (List Loaded)) (number key : ℤ)
    → page_set by [] op held number key ≡ held number key
unfolding page_set
page_set-none by op held number key = by_page (int_eq (page_of key) number)
  where
    by_page : (a : Bool) → cond (a && false) (some_of (part_after by key op (or_none (held number key))))
        (held number key) ≡ held number key
    by_page true = refl
    by_page false = refl

-- pages with the same entries hold the same
pub in_page-same : (pages next : Pages) → next.entries ≡ pages.entries → (number key : ℤ)
    → in_page next number key ≡ in_page pages number key
in_page-same pages next e number key = rw e refl

pub AreOrdered-same : (pages next : Pages) → next.entries ≡ pages.entries → AreOrdered pages → AreOrdered next
AreOrdered-same pages next e are = record { numbers = rw e are.numbers; each = rw e are.each }
