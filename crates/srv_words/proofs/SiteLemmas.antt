-- The site of a job is one that a collection may have, and its mark is short.
use Rattle.std.proofs.Common.{◌≡◌, ◌<◌, ◌≤◌, ◌≤ℤ◌, ℕ, ℤ, ◌&&◌, List, ◌++◌, length, Option, Some, None, true, ap, subst, arith, codes, length-append}
use Rattle.std.specs.Prelude.{int_le, nat_le, neg_ℤ, pos, IsTrue}
use Rattle.std.proofs.lemmas.Bool.{and_parts}
use Rattle.std.proofs.lemmas.Int.{ints}
use Rattle.std.proofs.lemmas.Option.{same_Some}
use Rattle.nc_model.specs.Instant.{instant_of}
use Rattle.fm_base.proofs.NumberLemmas.{at_most_from_test}
use Rattle.fm_model.specs.declared.site.Site.{Site}
use Rattle.fm_model.specs.Prototype.{is_plain_name}
use Rattle.fm_model.specs.Site.{IsSite}
use Rattle.clap.specs.Walk.{Row, first_of}
use Rattle.srv_words.specs.Sites.{default_site, name_of, site_of}
use Rattle.srv_words.specs.Reads.{◌>>=◌, if_so}
use Rattle.srv_words.specs.Values.{default_mark, epoch_at, epoch_of, is_collection_name, is_epoch, mark_of}
use Rattle.srv_words.proofs.SomeLemmas.{step_some, then_some, so_some, within}

-- an instant of the years 100 to 9900
abbrev IsOfYears : ℤ → Type 0
IsOfYears t = (neg_ℤ (pos 59_011_459_200) ≤ℤ t) × (t ≤ℤ pos 250_278_163_199)

epoch_of-some : (given : Option (List ℕ)) (epoch : ℤ) → epoch_of given ≡ Some epoch → IsOfYears epoch
unfolding epoch_of epoch_at is_epoch
epoch_of-some None epoch is =
    let same : pos 1_577_836_800 ≡ epoch = same_Some (pos 1_577_836_800) epoch is in
    subst IsOfYears same (omega (arith, ints), omega (arith, ints))
epoch_of-some (Some text) epoch is =
    let read = then_some epoch_at (instant_of text) epoch is in
    let there = so_some (is_epoch read.0) read.0 epoch read.2 in
    let first = neg_ℤ (pos 59_011_459_200) in
    let last = pos 250_278_163_199 in
    let parts = and_parts (int_le first read.0) (int_le read.0 last) there.0 in
    subst IsOfYears there.1 (at_most_from_test first read.0 parts.0, at_most_from_test read.0 last parts.1)

mark_of-some : (name mark : List ℕ) (given : Option (List ℕ)) → length name ≤ 64 → mark_of name given ≡ Some mark
    → length mark ≤ 65
unfolding mark_of
mark_of-some name mark None few is =
    let long : length (name ++ codes "_") ≡ length mark = ap length (same_Some (name ++ codes "_") mark is) in
    omega (arith, long, length-append name (codes "_"))
mark_of-some name mark (Some given) few is =
    let there = so_some (nat_le (length given) 64) given mark is in
    let short : length given ≤ 64 = within (length given) 64 there.0 in
    let long : length given ≡ length mark = ap length there.1 in
    omega (arith, short, long)

record IsName (name : List ℕ) : Type 0 where
  some : 0 < length name
  few : length name ≤ 64
  plain : IsTrue (is_plain_name name)

IsName-of : (name : List ℕ) → is_collection_name name ≡ true → IsName name
unfolding is_collection_name
IsName-of name is =
    let parts = and_parts (nat_le 1 (length name) && nat_le (length name) 64) (is_plain_name name) is in
    let sizes = and_parts (nat_le 1 (length name)) (nat_le (length name) 64) parts.0 in
    let some : 1 ≤ length name = within 1 (length name) sizes.0 in
    record { some = omega (arith, some); few = within (length name) 64 sizes.1; plain = parts.1 }

name_of-some : (rows : List Row) (name : List ℕ) → name_of rows ≡ Some name → IsName name
unfolding name_of
name_of-some rows name is =
    let read = step_some (first_of (codes "name") rows) (λ (n : List ℕ). if_so (is_collection_name n) n) name is in
    let there = so_some (is_collection_name read.0) read.0 name read.2 in
    subst IsName there.1 (IsName-of read.0 there.0)

-- a site of such values is one that a collection may have
made : (site : Site) → IsName site.name → IsOfYears site.epoch → length site.mark ≤ 65
    → IsSite site × (length site.mark ≤ 65)
made site named range short = (
  record {
    plain = named.plain;
    some = named.some;
    few = named.few;
    from_year_100 = range.0;
    to_year_9900 = range.1;
  },
  short,
)

-- a site with the defaults is one that a collection may have
pub default_site-is : (name : List ℕ) → is_collection_name name ≡ true
    → IsSite (default_site name) × (length (default_site name).mark ≤ 65)
default_site-is name is =
    let named = IsName-of name is in
    let few = named.few in
    made (default_site name) named (omega (arith, ints), omega (arith, ints))
    (omega (arith, few, length-append name (codes "_")))

-- the site of a job is one that a collection may have
pub site_of-some : (rows : List Row) (site : Site) → site_of rows ≡ Some site → IsSite site × (length site.mark ≤ 65)
unfolding site_of
site_of-some rows site is =
    let name = step_some (name_of rows) (λ (name : List ℕ).
    epoch_of (first_of (codes "epoch") rows) >>= λ (epoch : ℤ).
    mark_of name (first_of (codes "mark") rows) >>= λ (mark : List ℕ).
    Some (record { name = name; epoch = epoch; mark = mark })) site is in
    let epoch = step_some (epoch_of (first_of (codes "epoch") rows)) (λ (epoch : ℤ).
    mark_of name.0 (first_of (codes "mark") rows) >>= λ (mark : List ℕ).
    Some (record { name = name.0; epoch = epoch; mark = mark })) site name.2 in
    let mark = step_some (mark_of name.0 (first_of (codes "mark") rows)) (λ (mark : List ℕ).
    Some (record { name = name.0; epoch = epoch.0; mark = mark })) site epoch.2 in
    let named = name_of-some rows name.0 name.1 in
    subst (λ (site : Site). IsSite site × (length site.mark ≤ 65))
    (same_Some (record { name = name.0; epoch = epoch.0; mark = mark.0 }) site mark.2)
    (made (record { name = name.0; epoch = epoch.0; mark = mark.0 }) named
    (epoch_of-some (first_of (codes "epoch") rows) epoch.0 epoch.1)
    (mark_of-some name.0 mark.0 (first_of (codes "mark") rows) named.few mark.1))
