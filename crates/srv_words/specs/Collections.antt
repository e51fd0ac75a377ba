-- The collections that words of `many` describe.
use Rattle.std.specs.Prelude.{◌≢◌, ◌≤◌, ◌<◌, ℕ, Bool, not, ◌&&◌, nat_eq, nat_lt, List, [], ◌∷◌, ◌++◌, length, take, drop, ◌+◌, codes, Option, Some, option_map, IsTrue}
use Rattle.std.specs.List.{list_any, position}
use Rattle.std.specs.Str.{bytes_eq}
use Rattle.fm_model.specs.Site.{IsSite}
use Rattle.srv_words.specs.declared.job.Spec.{Spec}
use Rattle.srv_words.specs.Reads.{◌>>=◌, if_so}
use Rattle.srv_words.specs.Sites.{default_site}
use Rattle.srv_words.specs.Values.{is_collection_name}

-- what stands before and behind the first `=`
unfoldable pub cut_of : List ℕ → Option (List ℕ × List ℕ)
cut_of text = option_map (λ at. (take at text, drop (at + 1) text)) (position (λ byte. nat_eq byte 61) text)

-- whether a path may stand in such a word: it isn't empty, and has no `=`
unfoldable pub is_path : List ℕ → Bool
is_path text = nat_lt 0 (length text) && not (list_any (λ byte. nat_eq byte 61) text)

-- the name, the prototype and the folder of `NAME=PROTO=INBOX`
unfoldable pub parts_of : List ℕ → Option (List ℕ × List ℕ × List ℕ)
parts_of word = do
  first ← cut_of word
  second ← cut_of first.1
  if_so (is_collection_name first.0 && is_path second.0 && is_path second.1) (first.0, second.0, second.1)

-- the collection of these parts, with the default epoch and the default mark
abbrev pub spec_over : List ℕ → List ℕ → List ℕ → Spec
spec_over name proto inbox = record { site = default_site name; proto = proto; inbox = inbox }

-- whether a collection has this name
abbrev pub has_name : List ℕ → List Spec → Bool
has_name name found = list_any (λ (spec : Spec). bytes_eq spec.site.name name) found

-- the collection that a word describes, whose name none of those that were found has
unfoldable pub next_of : List Spec → List ℕ → Option Spec
next_of found word = do
  parts ← parts_of word
  if_so (not (has_name parts.0 found)) (spec_over parts.0 parts.1 parts.2)

-- the collections of the words, one after the other, after those that were found
unfoldable pub specs_from : List Spec → List (List ℕ) → Option (List Spec)
specs_from found [] = Some found
specs_from found (word ∷ words) = next_of found word >>= λ (spec : Spec). specs_from (found ++ spec ∷ []) words

-- the collections that words describe, one after the other
unfoldable pub specs_of : List (List ℕ) → Option (List Spec)
specs_of words = specs_from [] words

-- a collection that may be, with a mark of at most 65 bytes, and paths that aren't empty
pub record IsSpec (spec : Spec) : Type 0 where
  pub site : IsSite spec.site
  pub mark : length spec.site.mark ≤ 65
  pub proto : 0 < length spec.proto
  pub inbox : 0 < length spec.inbox

-- two collections have different names
abbrev pub DifferInName : Spec → Spec → Type 0
DifferInName spec other = spec.site.name ≢ other.site.name
