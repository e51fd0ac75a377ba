-- A look that a pass made.
use Rattle.std.proofs.Common.{◌≡◌, inl, inr, ℕ, List, [], ◌∷◌, ◌++◌, length, take, sym, ap, subst, ◌∙◌, append-nil, arith}
use Rattle.std.proofs.lemmas.List.{take_all}
use Rattle.fm_model.specs.declared.op.Op.{Op}
use Rattle.pub_look.specs.History.{Continues, History, MayHaveLooked}
use Rattle.pub_look.proofs.HistoryLemmas.{continues_length}
use Rattle.srv_verdict.specs.Attempts.{IsPickedFrom, RiseBetween, Sees}
use Rattle.srv_verdict.proofs.SeesLemmas.{IsPickedFrom-none, IsPickedFrom-one}

-- a look that is spoken of
pub Sees-found : (pass pass' : History) (count : ℕ) {spoken : List ℕ} → pass'.proto ≡ pass.proto
    → Continues pass.seen pass'.seen → pass'.looks ≡ pass.looks ++ length pass'.seen ∷ []
    → count ≡ length pass'.seen → spoken ≡ count ∷ [] → Sees pass pass' [] spoken
unfolding RiseBetween
Sees-found pass pass' count proto later looked count_is says = record {
  proto = proto;
  later = later;
  rise = continues_length pass.seen pass'.seen later;
  more = count ∷ [];
  looks = looked ∙ ap (λ (n : ℕ). pass.looks ++ n ∷ []) (sym count_is);
  picked = subst (λ (l : List ℕ). IsPickedFrom l (count ∷ [])) (sym says) (IsPickedFrom-one count);
}

-- a look that is not spoken of
pub Sees-unfound : (pass pass' : History) → pass'.proto ≡ pass.proto → Continues pass.seen pass'.seen
    → pass'.looks ≡ pass.looks ++ length pass'.seen ∷ [] → Sees pass pass' [] []
unfolding RiseBetween
Sees-unfound pass pass' proto later looked = record {
  proto = proto;
  later = later;
  rise = continues_length pass.seen pass'.seen later;
  more = length pass'.seen ∷ [];
  looks = looked;
  picked = IsPickedFrom-none (length pass'.seen ∷ []);
}

-- a look that was made or not, and is not spoken of
pub Sees-maybe : (pass pass' : History) {spoken : List ℕ} → pass'.proto ≡ pass.proto → Continues pass.seen pass'.seen
    → MayHaveLooked pass.looks (length pass'.seen) pass'.looks → spoken ≡ [] → Sees pass pass' [] spoken
unfolding RiseBetween
Sees-maybe pass pass' proto later maybe says =
    subst (λ (l : List ℕ). Sees pass pass' [] l) (sym says) (elim maybe [
      | inl unlooked ↦ record {
        proto = proto;
        later = later;
        rise = continues_length pass.seen pass'.seen later;
        more = [];
        looks = unlooked ∙ sym (append-nil pass.looks);
        picked = IsPickedFrom-none [];
      }
      | inr looked ↦ Sees-unfound pass pass' proto later looked
    ])

-- all of a list
pub take-all : (ops : List Op) (count : ℕ) → count ≡ length ops → ops ≡ take count ops
take-all ops count is = sym (take_all count ops (omega (arith, is)))
