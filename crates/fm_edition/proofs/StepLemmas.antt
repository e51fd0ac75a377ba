-- An operation on the pages of some touched instants, page by page.
use Rattle.std.proofs.Common.{◌≡◌, ◌≢◌, ℕ, ◌+◌, ◌-◌, ◌<◌, ◌≤◌, ◌<ℤ◌, ◌≤ℤ◌, Bool, true, false, cond, List, length, get_or, take, take-add, drop, Option, Some, ℤ, pos, refl, sym, ap, subst, ◌∙◌, inl, inr, arith}
use Rattle.std.specs.Prelude.{◌&&◌, ◌||◌, option_and_then, All}
use Rattle.std.specs.BTreeMap.{get, values, IsOrdered}
use Rattle.std.specs.Cmp.{signed_Decides}
use Rattle.std.specs.List.{slice_range}
use Rattle.std.specs.Ordering.{int_cmp, int_eq}
use Rattle.std.specs.declared.cmp.Ordering.{Ordering}
use Rattle.std.specs.declared.cmp.Ordering.TheVariants.{Less, Equal, Greater}
use Rattle.std.proofs.lemmas.Bool.{cases_order, false≢true}
use Rattle.std.proofs.lemmas.Cmp.{int_ranked}
use Rattle.std.proofs.lemmas.Int.{ints}
use Rattle.std.proofs.lemmas.List.{get_or_default, get_or-drop, get_or-take, length-take}
use Rattle.std.proofs.lemmas.List.Elements.{All-contains, Contains-get_or}
use Rattle.std.proofs.lemmas.List.Folds.{list_any-append}
use Rattle.fm_model.specs.declared.loaded.Loaded.{Loaded}
use Rattle.fm_model.specs.declared.op.Op.{Op}
use Rattle.fm_model.specs.Rising.{Rises}
use Rattle.fm_model.proofs.CellLemmas.{has-in}
use Rattle.fm_model.proofs.Members.{Contains-from_in, Each-in, In-map, each_from_All, in_from_Contains}
use Rattle.fm_list.specs.declared.by.By.{By}
use Rattle.fm_list.specs.Change.{HasGone}
use Rattle.fm_list.specs.Selected.{part_after}
use Rattle.fm_edition.specs.Indexes.{in_page, is_among, or_none, page_of, page_set, some_of, AreOrdered, Entries, Pages}
use Rattle.fm_edition.specs.Page.{turned_at}
use Rattle.fm_edition.specs.Steps.{AreDone, HasPage, HaveGone, IsPageEnd}
use Rattle.fm_edition.proofs.BestLemmas.{touches-less}
use Rattle.fm_edition.proofs.EntryLemmas.{entry_found, found_entry}
use Rattle.fm_edition.proofs.KeyLemmas.{page_rises}

-- what an operation takes out of the files by each instant of a page is among those that went
pub HasGone-entries : (went : List Loaded) (op : Op) (pages : Pages) (number : ℤ) (page : Entries) → AreOrdered pages
    → HaveGone went op pages → get int_cmp pages number ≡ Some page
    → All (λ (entry : ℤ × List Loaded). HasGone went op entry.1) page.entries
HasGone-entries went op pages number page ordered gone is = λ k entry within.
    let here = get_or page.entries k entry in
    let held = in_from_Contains here page.entries (Contains-get_or page.entries k entry within) in
    let rises : IsOrdered int_cmp page = Each-in (λ (p : Entries). IsOrdered int_cmp p) page (values pages)
    (each_from_All (λ (p : Entries). IsOrdered int_cmp p) (values pages) ordered.each)
    (In-map (λ (e : ℤ × Entries). e.1) (number, page) pages.entries (entry_found pages number page is)) in
    let found : in_page pages number here.0 ≡ Some here.1 =
    ap (option_and_then (λ (p : Entries). get int_cmp p here.0)) is ∙ found_entry page here.0 here.1 rises held in
    subst (λ o. HasGone went op (or_none o)) found (gone number here.0)

-- an instant of a part
part_at : (touched : List ℤ) (from end k : ℕ) (d : ℤ) → end ≤ length touched → k < length (slice_range touched from end)
    → (get_or (slice_range touched from end) k d ≡ get_or touched (from + k) d) × (from + k < end)
part_at touched from end k d within below =
    let long = length-take (end - from) (drop from touched) in
    let early : k < end - from = omega (arith, below, long) in
    (get_or-take (end - from) (drop from touched) k d early ∙ get_or-drop from touched k d, omega (arith, early))

-- a part of rising instants rises
pub Rises-part : (touched : List ℤ) (from end : ℕ) → end ≤ length touched → Rises touched
    → Rises (slice_range touched from end)
Rises-part touched from end within rises = λ i j d lt below.
    let first = part_at touched from end i d within (omega (arith, lt, below)) in
    let second = part_at touched from end j d within below in
    rw (first.0, second.0) (rises (from + i) (from + j) d (omega (arith, lt)) (omega (arith, second.1, within)))

-- the instants of one page
own_part : (touched : List ℤ) (from end : ℕ) (number : ℤ) → IsPageEnd touched from number end
    → All (λ key. page_of key ≡ number) (slice_range touched from end)
own_part touched from end number is = λ k d below.
    let here = part_at touched from end k d is.within below in
    ap page_of here.0 ∙ is.own (from + k) d (omega arith) here.1

-- the instants before the end of a page are of other pages than the one there
pub page_apart : (touched : List ℤ) (from end : ℕ) (number d : ℤ) → Rises touched → IsPageEnd touched from number end
    → end < length touched → All (λ key. page_of key ≢ page_of (get_or touched end d)) (take end touched)
page_apart touched from end number d rises is more = λ k e below same.
    let next = get_or touched end d in
    let top = get_or touched (end - 1) d in
    let key = get_or touched k d in
    let early : k < end = omega (arith, below, length-take end touched) in
    let here : get_or (take end touched) k e ≡ key = get_or-take end touched k e early
    ∙ get_or_default touched k e d (omega (arith, early, more)) in
    let own : page_of top ≡ number = is.own (end - 1) d (omega (arith, is.some)) (omega (arith, is.some)) in
    let other : page_of next ≢ number = λ e. is.other more
    (ap page_of (get_or_default touched end number d more) ∙ e) in
    let later : top <ℤ next = rises (end - 1) end d (omega (arith, is.some)) more in
    by_cmp next top key later (at_most k early) own other (ap page_of (sym here) ∙ same)
    (int_cmp (page_of next) number) refl
  where
    at_most : (k : ℕ) → k < end → get_or touched k d ≤ℤ get_or touched (end - 1) d
    at_most k early = elim (cases_order k (end - 1)) [
      | inl at ↦ at_or_below (get_or touched k d) (get_or touched (end - 1) d) (ap (λ n. get_or touched n d) at)
      | inr (inl before) ↦
          let lt : get_or touched k d <ℤ get_or touched (end - 1) d =
          rises k (end - 1) d before (omega (arith, more)) in
          omega (arith, ints, lt)
      | inr (inr after) ↦ absurd (omega (arith, early, after))
    ]
      where
        at_or_below : (a b : ℤ) → a ≡ b → a ≤ℤ b
        at_or_below a b e = omega (arith, ints, e)

    by_cmp : (next top key : ℤ) → top <ℤ next → key ≤ℤ top → page_of top ≡ number → page_of next ≢ number
        → page_of key ≡ page_of next → (o : Ordering) → int_cmp (page_of next) number ≡ o → ⊥
    by_cmp next top key later most own other same Less o =
        let less : page_of next <ℤ number = int_ranked (page_of next) number Less (sym o) in
        let lower : next <ℤ top = page_rises next top (rw own less) in
        omega (arith, ints, later, lower)
    by_cmp next top key later most own other same Equal o =
        other (int_ranked (page_of next) number Equal (sym o))
    by_cmp next top key later most own other same Greater o =
        let less : number <ℤ page_of next = int_ranked (page_of next) number Greater (sym o) in
        let lower : top <ℤ key = page_rises top key (rw (own, same) less) in
        omega (arith, ints, most, lower)

-- what is said of each of some instants holds of one among them
of_among : (P : ℤ → Type 0) (instants : List ℤ) (key : ℤ) → All P instants → is_among instants key ≡ true → P key
of_among P instants key all is = All-contains P instants key all
    (Contains-from_in key instants (has-in key instants is))

-- the pages after an operation on one more page
pub AreDone-more : (by : By) (touched : List ℤ) (op : Op) (pages now next : Pages) (from end : ℕ) (number : ℤ)
    (page : Entries) → AreDone by (take from touched) op pages now
    → All (λ key. page_of key ≢ number) (take from touched) → IsPageEnd touched from number end
    → ((key : ℤ) → get int_cmp page key
    ≡ turned_at by (slice_range touched from end) op key (in_page pages number key))
    → HasPage number page now next → AreDone by (take end touched) op pages next
unfolding page_set turned_at
AreDone-more by touched op pages now next from end number page done apart is turned has = record {
  ordered = has.ordered;
  set = λ other key. has.set other key ∙ by_test other key (int_eq number other) refl;
  same = λ other none.
      let less = touches-less touched from end (pos 0) other is.some is.within none in
      let own = is.own from (pos 0) (omega arith) is.some in
      has.others other (subst (λ n. int_eq n other ≡ false) own less.1) ∙ done.same other less.0;
}
  where
    set_at : ℤ → ℤ → Option (List Loaded)
    set_at other key = some_of (part_after by key op (or_none (in_page pages other key)))

    whole : end ≡ from + (end - from)
    whole = omega (arith, is.some)

    split : (key : ℤ) → is_among (take end touched) key
        ≡ (is_among (take from touched) key || is_among (slice_range touched from end) key)
    split key = ap (λ l. is_among l key) (ap (λ n. take n touched) whole ∙ take-add from (end - from) touched)
        ∙ list_any-append (λ other. int_eq other key) (take from touched) (slice_range touched from end)

    own : (key : ℤ) → is_among (slice_range touched from end) key ≡ true → page_of key ≡ number
    own key among = of_among (λ k. page_of k ≡ number) (slice_range touched from end) key
        (own_part touched from end number is) among

    none_early : (key : ℤ) → int_eq (page_of key) number ≡ true → is_among (take from touched) key ≡ false
    none_early key here = by_among (is_among (take from touched) key) refl
      where
        by_among : (b : Bool) → is_among (take from touched) key ≡ b → is_among (take from touched) key ≡ false
        by_among false none = none
        by_among true some = absurd (of_among (λ k. page_of k ≢ number) (take from touched) key apart some
            ((signed_Decides (page_of key) number).0 here))

    -- an instant is one of this page's if it is one of all, and of the page
    these : (here before part : Bool) → (part ≡ true → here ≡ true) → (here ≡ true → before ≡ false)
        → part ≡ (here && (before || part))
    these true true part a b = absurd (false≢true (sym (b refl)))
    these true false part a b = refl
    these false before true a b = absurd (false≢true (a refl))
    these false before false a b = refl

    -- an instant of another page is none of this one's
    others : (here before part : Bool) → (part ≡ true → here ≡ false)
        → (here && before) ≡ (here && (before || part))
    others true before true a = absurd (false≢true (sym (a refl)))
    others true true false a = refl
    others true false false a = refl
    others false before part a = refl

    by_test : (other key : ℤ) → (same : Bool) → int_eq number other ≡ same
        → cond same (get int_cmp page key) (in_page now other key)
        ≡ cond (int_eq (page_of key) other && is_among (take end touched) key) (set_at other key)
        (in_page pages other key)
    by_test other key true e =
        let same : number ≡ other = (signed_Decides number other).0 e in
        turned key ∙ ap (λ b. cond b (set_at number key) (in_page pages number key))
        (these (int_eq (page_of key) number) (is_among (take from touched) key)
        (is_among (slice_range touched from end) key)
        (λ among. (signed_Decides (page_of key) number).1 (own key among)) (none_early key)
        ∙ ap (λ b. int_eq (page_of key) number && b) (sym (split key)))
        ∙ ap (λ n. cond (int_eq (page_of key) n && is_among (take end touched) key) (set_at n key)
        (in_page pages n key)) same
    by_test other key false e = done.set other key
        ∙ ap (λ b. cond b (set_at other key) (in_page pages other key))
        (others (int_eq (page_of key) other) (is_among (take from touched) key)
        (is_among (slice_range touched from end) key)
        (λ among. subst (λ n. int_eq n other ≡ false) (sym (own key among)) e)
        ∙ ap (λ b. int_eq (page_of key) other && b) (sym (split key)))
