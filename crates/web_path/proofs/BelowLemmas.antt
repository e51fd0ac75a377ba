-- What a text begins with, byte by byte and by what follows.
use Rattle.std.proofs.Common.{◌≡◌, ℕ, ◌==◌, Bool, true, false, ◌&&◌, List, [], ◌∷◌, ◌++◌, length, drop, take, Option, Some, None, refl, sym, ap, ap₂, ◌∙◌, ◌⊎◌, inl, inr, append-nil, append_assoc}
use Rattle.std.specs.Prelude.{is_some}
use Rattle.std.proofs.lemmas.Bool.{cases_Bool, eq-eqb, eqb-true}
use Rattle.fm_model.specs.declared.site.Site.{Site}
use Rattle.percent_encoding.specs.Percent.{percent_decode}
use Rattle.web_path.specs.Begins.{begins}
use Rattle.web_path.specs.Below.{is_below}
use Rattle.web_path.specs.Path.{root_of}
use Rattle.web_path.specs.Reading.{after}
use Rattle.web_path.specs.Target.{path_and_query, path_text}
use Rattle.web_path.proofs.FrontLemmas.{after-append, after-none}

begins-append : (front rest : List ℕ) → begins front (front ++ rest) ≡ true
begins-append [] rest = refl
begins-append (byte ∷ front) rest =
    ap₂ (λ (x y : Bool). x && y) (eq-eqb byte byte refl) (begins-append front rest)

both-true : (x y : Bool) → (x && y) ≡ true → (x ≡ true) × (y ≡ true)
both-true true y is = (refl, is)
both-true false y is = absurd cc

begins-rest : (front text : List ℕ) → begins front text ≡ true → (rest : List ℕ) × (text ≡ front ++ rest)
begins-rest [] text is = (text, refl)
begins-rest (byte ∷ front) [] is = absurd cc
begins-rest (byte ∷ front) (next ∷ text) is =
    let both = both-true (next == byte) (begins front text) is in
    let more = begins-rest front text both.1 in
    (more.0, ap₂ (λ (x : ℕ) (l : List ℕ). x ∷ l) (eqb-true next byte both.0) more.1)

begins-after : (front text : List ℕ) → begins front text ≡ is_some (after front text)
begins-after front text = elim (cases_Bool (begins front text)) [
  | inl is ↦
      let more = begins-rest front text is in
      is ∙ sym (ap is_some (after-append front more.0 text more.1))
  | inr fails ↦
      fails ∙ sym (ap is_some (after-none front text (λ rest same. true-false
      (sym (ap (begins front) same ∙ begins-append front rest) ∙ fails))))
]
  where
    true-false : true ≡ false → ⊥
    true-false same = cc

-- three fronts in a row, each taken from what the one before it left
pub below-by : (first name last text text1 text2 text3 : List ℕ) (one two three : Bool)
    → ((more : List ℕ) → begins (first ++ more) text ≡ (one && begins more text1))
    → ((more : List ℕ) → begins (name ++ more) text1 ≡ (two && begins more text2))
    → ((more : List ℕ) → begins (last ++ more) text2 ≡ (three && begins more text3))
    → begins (first ++ name ++ last) text ≡ (one && two && three)
below-by first name last text text1 text2 text3 one two three a b c =
    ap (λ (l : List ℕ). begins l text) (append_assoc first name last)
    ∙ a (name ++ last) ∙ ap (λ (x : Bool). one && x) (b last ∙ ap (λ (x : Bool). two && x)
    (ap (λ (l : List ℕ). begins l text2) (sym (append-nil last)) ∙ c [] ∙ and-true three)) ∙ and-assoc one two three
  where
    and-true : (x : Bool) → (x && true) ≡ x
    and-true true = refl
    and-true false = refl

    and-assoc : (x y z : Bool) → (x && (y && z)) ≡ ((x && y) && z)
    and-assoc true y z = refl
    and-assoc false y z = refl

pub below-root : (target : List ℕ) (site : Site) (found : Bool)
    → begins (root_of site) (path_text (path_and_query target)) ≡ found → found ≡ is_below target site
unfolding is_below
below-root target site found is = sym is ∙ begins-after (root_of site) (path_text (path_and_query target))
