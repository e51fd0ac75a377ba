-- The looks that were made for the links of a door.
use Rattle.std.proofs.Common.{◌≡◌, ◌≢◌, ◌<◌, ℕ, ◌+◌, Bool, List, [], ◌∷◌, ◌++◌, map, filter, refl, ap, ◌∙◌, append-nil, arith}
use Rattle.std.specs.Prelude.{nat_eq, All, if◌then◌else◌}
use Rattle.std.proofs.lemmas.Bool.{eq-eqb, ne_eqb}
use Rattle.std.proofs.lemmas.List.{map-append}
use Rattle.std.proofs.lemmas.List.Elements.{All-append, All-cons, All-head, All-nil, All-tail, All-weaker, filter-append}
use Rattle.srv_door.specs.DoorTurns.{looks_of, Tag}

-- the tags of looks for the link of a number
abbrev pub tagged : ℕ → List ℕ → List Tag
tagged number [] = []
tagged number (count ∷ more) = record { number = number; count = count } ∷ tagged number more

-- the tags at each collection, with those of these looks for the link of a number
abbrev pub tags_with : (ℕ → List Tag) → ℕ → (ℕ → List ℕ) → ℕ → List Tag
tags_with tags number more collection = tags collection ++ tagged number (more collection)

-- whether a tag is that of a number
abbrev pub is_of : ℕ → Tag → Bool
is_of number tag = nat_eq tag.number number

pub counts-tagged : (number : ℕ) (more : List ℕ) → map (λ (tag : Tag). tag.count) (tagged number more) ≡ more
counts-tagged number [] = refl
counts-tagged number (count ∷ more) = ap (λ (l : List ℕ). count ∷ l) (counts-tagged number more)

own-tagged : (number : ℕ) (more : List ℕ) → looks_of number (tagged number more) ≡ more
own-tagged number [] = refl
own-tagged number (count ∷ more) =
    ap (λ (b : Bool). map (λ (tag : Tag). tag.count)
    (if b then record { number = number; count = count } ∷ filter (is_of number) (tagged number more)
    else filter (is_of number) (tagged number more))) (eq-eqb number number refl)
    ∙ ap (λ (l : List ℕ). count ∷ l) (own-tagged number more)

other-tagged : (number other : ℕ) (more : List ℕ) → number ≢ other → looks_of other (tagged number more) ≡ []
other-tagged number other [] apart = refl
other-tagged number other (count ∷ more) apart =
    ap (λ (b : Bool). map (λ (tag : Tag). tag.count)
    (if b then record { number = number; count = count } ∷ filter (is_of other) (tagged number more)
    else filter (is_of other) (tagged number more))) (ne_eqb number other apart)
    ∙ other-tagged number other more apart

looks_of-append : (number : ℕ) (tags more : List Tag)
    → looks_of number (tags ++ more) ≡ looks_of number tags ++ looks_of number more
looks_of-append number tags more =
    ap (map (λ (tag : Tag). tag.count)) (filter-append (is_of number) tags more)
    ∙ map-append (λ (tag : Tag). tag.count) (filter (is_of number) tags) (filter (is_of number) more)

-- looks for the link of a number are added to its own
pub looks_of-own : (number : ℕ) (tags : List Tag) (more : List ℕ)
    → looks_of number (tags ++ tagged number more) ≡ looks_of number tags ++ more
looks_of-own number tags more =
    looks_of-append number tags (tagged number more)
    ∙ ap (λ (l : List ℕ). looks_of number tags ++ l) (own-tagged number more)

-- and those of every other link stay
pub looks_of-other : (number other : ℕ) (tags : List Tag) (more : List ℕ) → number ≢ other
    → looks_of other (tags ++ tagged number more) ≡ looks_of other tags
looks_of-other number other tags more apart =
    looks_of-append other tags (tagged number more)
    ∙ ap (λ (l : List ℕ). looks_of other tags ++ l) (other-tagged number other more apart)
    ∙ append-nil (looks_of other tags)

-- no look was made for a link that hasn't come
pub looks_of-none : (number : ℕ) (tags : List Tag) → All (λ (tag : Tag). tag.number < number) tags
    → looks_of number tags ≡ []
looks_of-none number [] below = refl
looks_of-none number (tag ∷ tags) below =
    let first : tag.number < number = All-head (λ (t : Tag). t.number < number) tag tags below in
    ap (λ (b : Bool). map (λ (t : Tag). t.count)
    (if b then tag ∷ filter (is_of number) tags else filter (is_of number) tags))
    (ne_eqb tag.number number (λ same. omega (arith, first, same)))
    ∙ looks_of-none number tags (All-tail (λ (t : Tag). t.number < number) tag tags below)

-- tags of links that came
pub below-tagged : (number count : ℕ) (more : List ℕ) → number < count
    → All (λ (tag : Tag). tag.number < count) (tagged number more)
below-tagged number count [] below = All-nil (λ (tag : Tag). tag.number < count)
below-tagged number count (first ∷ more) below =
    All-cons (λ (tag : Tag). tag.number < count) (record { number = number; count = first }) (tagged number more) below
    (below-tagged number count more below)

pub below-more : (number count : ℕ) (tags : List Tag) (more : List ℕ) → number < count
    → All (λ (tag : Tag). tag.number < count) tags
    → All (λ (tag : Tag). tag.number < count) (tags ++ tagged number more)
below-more number count tags more below all =
    All-append (λ (tag : Tag). tag.number < count) tags (tagged number more) all (below-tagged number count more below)

pub below-later : (count : ℕ) (tags : List Tag) → All (λ (tag : Tag). tag.number < count) tags
    → All (λ (tag : Tag). tag.number < count + 1) tags
below-later count tags all =
    All-weaker (λ (tag : Tag). tag.number < count) (λ (tag : Tag). tag.number < count + 1)
    (λ tag below. omega (arith, below)) tags all
