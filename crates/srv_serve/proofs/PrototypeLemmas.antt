-- Prototypes that are read one after the other.
use Rattle.std.proofs.Common.{◌≡◌, ◌<◌, ◌+◌, ℕ, zero, suc, All, List, [], ◌∷◌, ◌++◌, length, get_or, take, slice_get, Option, Some, None, IsSomeAnd, refl, sym, ap, subst, ◌∙◌, arith}
use Rattle.std.proofs.lemmas.List.{take_more}
use Rattle.std.proofs.lemmas.List.Elements.{All-head, All-tail}
use Rattle.std.proofs.lemmas.Option.{slice_get-get_or}
use Rattle.std.specs.List.{AllZip}
use Rattle.std.specs.Prelude.{IfSome, ⊤}
use Rattle.dev_traits.specs.Shown.{FilesShown}
use Rattle.fm_model.specs.declared.proto.Proto.{Proto}
use Rattle.fm_model.specs.Site.{IsSite}
use Rattle.srv_alone.specs.declared.end.End.{End}
use Rattle.srv_alone.specs.declared.end.End.TheVariants.{NoMemory}
use Rattle.srv_alone.specs.Once.{EndsOpening, Opens}
use Rattle.srv_words.specs.declared.job.Spec.{Spec}
use Rattle.srv_words.specs.Collections.{IsSpec}
use Rattle.srv_serve.specs.Many.{EndsAt, OpensEach}

-- what holds of items of two lists, place by place, with one more of each
zip-more : {A B : Type 0} (R : A → B → Type 0) (xs : List A) (ys : List B) (x : A) (y : B) → AllZip R xs ys → R x y
    → AllZip R (xs ++ x ∷ []) (ys ++ y ∷ [])
zip-more R [] [] x y all more = (more, tt)
zip-more R [] (b ∷ ys) x y all more = absurd all
zip-more R (a ∷ xs) [] x y all more = absurd all
zip-more R (a ∷ xs) (b ∷ ys) x y all more = (all.0, zip-more R xs ys x y all.1 more)

-- nothing was read
pub none-read : (specs : List Spec) (files : FilesShown) (protos : List Proto) → protos ≡ []
    → OpensEach (take (length protos) specs) files protos
none-read specs files protos none =
    subst (λ (l : List Proto). OpensEach (take (length l) specs) files l) (sym none) tt

-- one prototype more was read
pub OpensEach-more : (specs : List Spec) (protos protos' : List Proto) (n : ℕ) (spec : Spec) (proto : Proto)
    (files now : FilesShown) → OpensEach (take n specs) files protos → n < length specs → spec ≡ get_or specs n spec
    → now ≡ files → Opens spec.site spec.proto now proto → protos' ≡ protos ++ proto ∷ []
    → OpensEach (take (n + 1) specs) files protos'
OpensEach-more specs protos protos' n spec proto files now reads below at same opens put =
    subst (λ (l : List Proto). OpensEach (take (n + 1) specs) files l) (sym put)
    (subst (λ (l : List Spec). OpensEach l files (protos ++ proto ∷ [])) (sym first)
    (zip-more (λ (s : Spec) (p : Proto). Opens s.site s.proto files p) (take n specs) protos spec proto reads
    (subst (λ (f : FilesShown). Opens spec.site spec.proto f proto) same opens)))
  where
    first : take (n + 1) specs ≡ take n specs ++ spec ∷ []
    first = take_more specs n spec below ∙ ap (λ (s : Spec). take n specs ++ s ∷ []) (sym at)

-- a collection at a number is sound
pub sound-at : (specs : List Spec) (n : ℕ) (spec : Spec) → All IsSpec specs → n < length specs
    → spec ≡ get_or specs n spec → IsSite spec.site
sound-at [] n spec all below at = absurd (omega (arith, below))
sound-at (first ∷ specs) zero spec all below at =
    subst (λ (s : Spec). IsSite s.site) (sym at) (All-head IsSpec first specs all).site
sound-at (first ∷ specs) (suc n) spec all below at =
    sound-at specs n spec (All-tail IsSpec first specs all) (omega (arith, below)) at

-- the run ends at a collection
pub ends-at : (specs : List Spec) (protos : List Proto) (n : ℕ) (spec : Spec) (files now files' : FilesShown)
    (end : End) → length protos ≡ n → n < length specs → spec ≡ get_or specs n spec → now ≡ files
    → EndsOpening spec.site spec.proto now files' end
    → IsSomeAnd (slice_get specs (length protos)) (λ found. EndsAt found files files' end)
ends-at specs protos n spec files now files' end count below at same ends =
    subst (λ (k : ℕ). IsSomeAnd (slice_get specs k) (λ found. EndsAt found files files' end)) (sym count)
    (subst (λ (o : Option Spec). IsSomeAnd o (λ found. EndsAt found files files' end)) (sym there)
    (subst (λ (f : FilesShown). EndsAt spec f files' end) same ends))
  where
    there : slice_get specs n ≡ Some spec
    there = slice_get-get_or specs n spec below ∙ ap (λ (s : Spec). Some s) (sym at)

-- memory ran out for a list of prototypes
pub unread : (specs : List Spec) (protos : List Proto) (files : FilesShown) → protos ≡ [] → 0 < length specs
    → IsSomeAnd (slice_get specs (length protos)) (λ found. EndsAt found files files NoMemory)
unread [] protos files none some = absurd (omega (arith, some))
unread (spec ∷ specs) protos files none some =
    subst (λ (l : List Proto). IsSomeAnd (slice_get (spec ∷ specs) (length l))
    (λ found. EndsAt found files files NoMemory)) (sym none)
    (record { at_file = tt; found = any files.held; held_is = refl; faults_are = refl })
  where
    any : (held : Option (List ℕ → Option (List ℕ))) → IfSome held (λ h. ⊤)
    any None = tt
    any (Some h) = tt
