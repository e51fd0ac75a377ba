-- The collections of words, one word at a time; they may be, and have different names.
use Rattle.std.proofs.Common.{◌≡◌, ◌≢◌, ◌+◌, ◌<◌, ◌≤◌, ℕ, Bool, true, false, ◌&&◌, not, List, [], ◌∷◌, ◌++◌, length, get_or, Option, Some, None, All, refl, sym, ap, subst, ◌∙◌, arith, length-append}
use Rattle.std.specs.Prelude.{AllPairs, nat_eq, nat_lt}
use Rattle.std.specs.List.{list_any}
use Rattle.std.specs.Str.{bytes_eq}
use Rattle.std.proofs.lemmas.Bool.{and_parts, ltb-true}
use Rattle.std.proofs.lemmas.List.Elements.{All-nil, All-push}
use Rattle.std.proofs.lemmas.List.Folds.{list_any_at}
use Rattle.std.proofs.lemmas.List.Quantifiers.{all_pairs_push}
use Rattle.std.proofs.lemmas.Option.{same_Some}
use Rattle.fm_base.proofs.ListLemmas.{same_bytes}
use Rattle.srv_words.specs.declared.job.Spec.{Spec}
use Rattle.srv_words.specs.Collections.{DifferInName, IsSpec, cut_of, has_name, is_path, next_of, parts_of, spec_over, specs_from, specs_of}
use Rattle.srv_words.specs.Reads.{◌>>=◌, if_so}
use Rattle.srv_words.specs.Values.{is_collection_name}
use Rattle.srv_words.proofs.SiteLemmas.{default_site-is}
use Rattle.srv_words.proofs.SomeLemmas.{so_some, step_some}

pub spec_more : (found : List Spec) (word : List ℕ) (words : List (List ℕ)) (spec : Spec)
    → next_of found word ≡ Some spec → specs_from (found ++ spec ∷ []) words ≡ specs_from found (word ∷ words)
unfolding specs_from
spec_more found word words spec is =
    sym (ap (λ (o : Option Spec). o >>= λ (s : Spec). specs_from (found ++ s ∷ []) words) is)

pub spec_bad : (found : List Spec) (word : List ℕ) (words : List (List ℕ)) → next_of found word ≡ None
    → specs_from found (word ∷ words) ≡ None
unfolding specs_from
spec_bad found word words is = ap (λ (o : Option Spec). o >>= λ (s : Spec). specs_from (found ++ s ∷ []) words) is

pub spec_none : (found : List Spec) → specs_from found [] ≡ Some found
unfolding specs_from
spec_none found = refl

pub ruleset specs = (spec_more, spec_bad, spec_none)

-- a path that passes the test isn't empty
is_path-some : (text : List ℕ) → is_path text ≡ true → 0 < length text
unfolding is_path
is_path-some text is =
    ltb-true 0 (length text) (and_parts (nat_lt 0 (length text)) (not (list_any (λ byte. nat_eq byte 61) text)) is).0

-- the parts of a word
record ArePartsOf (name proto inbox : List ℕ) : Type 0 where
  named : is_collection_name name ≡ true
  some_proto : 0 < length proto
  some_inbox : 0 < length inbox

parts_of-some : (word : List ℕ) (parts : List ℕ × List ℕ × List ℕ) → parts_of word ≡ Some parts
    → ArePartsOf parts.0 parts.1 parts.2
unfolding parts_of
parts_of-some word parts is =
    let first = step_some (cut_of word) _ parts is in
    let second = step_some (cut_of first.0.1) _ parts first.2 in
    let there = so_some _ _ parts second.2 in
    let tests = and_parts (is_collection_name first.0.0 && is_path second.0.0) (is_path second.0.1) there.0 in
    let names = and_parts (is_collection_name first.0.0) (is_path second.0.0) tests.0 in
    subst (λ (p : List ℕ × List ℕ × List ℕ). ArePartsOf p.0 p.1 p.2) there.1 (record {
      named = names.0;
      some_proto = is_path-some second.0.0 names.1;
      some_inbox = is_path-some second.0.1 tests.1;
    })

not-true : (b : Bool) → not b ≡ true → b ≡ false
not-true true is = absurd cc
not-true false is = refl

-- the next collection may be, and has another name than those that were found
next_of-some : (found : List Spec) (word : List ℕ) (spec : Spec) → next_of found word ≡ Some spec
    → IsSpec spec × (has_name spec.site.name found ≡ false)
unfolding next_of
next_of-some found word spec is =
    let parts = step_some (parts_of word) _ spec is in
    let there = so_some _ _ spec parts.2 in
    let are = parts_of-some word parts.0 parts.1 in
    let site = default_site-is parts.0.0 are.named in
    subst (λ (s : Spec). IsSpec s × (has_name s.site.name found ≡ false)) there.1 (
      record { site = site.0; mark = site.1; proto = are.some_proto; inbox = are.some_inbox },
      not-true (has_name parts.0.0 found) there.0,
    )

-- a name that none has is other than each
other_name : (found : List Spec) (spec : Spec) → has_name spec.site.name found ≡ false → (k : ℕ) (d : Spec)
    → k < length found → DifferInName (get_or found k d) spec
other_name found spec none k d within same =
    let test = λ (s : Spec). bytes_eq s.site.name spec.site.name in
    let found_it : list_any test found ≡ true = list_any_at test found k d within (same_bytes _ _ same) in
    never (sym none ∙ found_it)
  where
    never : false ≡ true → ⊥
    never is = absurd cc

specs_from-some : (found : List Spec) (words : List (List ℕ)) (specs : List Spec) → specs_from found words ≡ Some specs
    → All IsSpec found → AllPairs DifferInName found
    → All IsSpec specs × AllPairs DifferInName specs × (length found + length words ≡ length specs)
unfolding specs_from
specs_from-some found [] specs is sound differ =
    let same : found ≡ specs = same_Some found specs is in
    let long : length found ≡ length specs = ap length same in
    (subst (All IsSpec) same sound, subst (AllPairs DifferInName) same differ, omega (arith, long))
specs_from-some found (word ∷ words) specs is sound differ =
    let read = step_some (next_of found word) (λ (s : Spec). specs_from (found ++ s ∷ []) words) specs is in
    let next = next_of-some found word read.0 read.1 in
    let more = specs_from-some (found ++ read.0 ∷ []) words specs read.2 (All-push IsSpec found read.0 sound next.0)
    (all_pairs_push DifferInName found read.0 differ (other_name found read.0 next.1)) in
    (more.0, more.1, omega (arith, more.2, length-append found (read.0 ∷ [])))

-- the collections of words may be, have different names, and are as many as the words
pub specs_of-some : (words : List (List ℕ)) (specs : List Spec) → specs_of words ≡ Some specs
    → All IsSpec specs × AllPairs DifferInName specs × (length words ≡ length specs)
unfolding specs_of
specs_of-some words specs is =
    let there = specs_from-some [] words specs is (All-nil IsSpec)
    (λ i j d below within. absurd (omega (arith, within))) in
    (there.0, there.1, omega (arith, there.2))
