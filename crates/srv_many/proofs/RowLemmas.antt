-- What stands at an index of a row.
use Rattle.std.proofs.Common.{◌≡◌, ◌≢◌, ◌<◌, ◌≤◌, ℕ, zero, suc, ◌-◌, List, [], ◌∷◌, Bool, length, map, Some, refl, sym, ap, ap₂, subst, arith}
use Rattle.std.specs.Prelude.{get_or, slice_get, slice_set}
use Rattle.std.proofs.lemmas.Option.{none-some, same_Some}
use Rattle.fm_edition.specs.Log.{held_of}
use Rattle.fm_model.specs.declared.op.Op.{Op}
use Rattle.fm_model.specs.declared.proto.Proto.{Proto}
use Rattle.web_frame.specs.Items.{Item}
use Rattle.srv_many.specs.Choice.{choice_of}
use Rattle.srv_many.specs.Several.{collections_of, nth, AreProtos, Rowed}

-- behind the first
pub nth-next : {A : Type 0} (none first : A) (more : List A) (index : ℕ) → index ≢ 0
    → nth none (first ∷ more) index ≡ nth none more (index - 1)
nth-next none first more zero differs = absurd (differs refl)
nth-next none first more (suc index) differs =
    let same : index ≡ suc index - 1 = omega arith in ap (nth none more) same

-- where there is one
pub nth-some : {A : Type 0} (none : A) (xs : List A) (index : ℕ) (x : A) → slice_get xs index ≡ Some x
    → nth none xs index ≡ x
nth-some none [] index x is = absurd (none-some x is)
nth-some none (y ∷ xs) zero x is = same_Some y x is
nth-some none (y ∷ xs) (suc index) x is = nth-some none xs index x is

-- what a function gives of the one at an index
pub nth-get : {A B : Type 0} (f : A → B) (none : B) (xs : List A) (index : ℕ) (d : A) → index < length xs
    → nth none (map f xs) index ≡ f (get_or xs index d)
nth-get f none [] index d below = absurd (omega (arith, below))
nth-get f none (y ∷ xs) zero d below = refl
nth-get f none (y ∷ xs) (suc index) d below = nth-get f none xs index d (omega (arith, below))

-- once it was changed
pub nth-set : {A B : Type 0} (f : A → B) (none : B) (xs : List A) (index : ℕ) (y : A) → index < length xs
    → nth none (map f (slice_set xs index y)) index ≡ f y
nth-set f none [] index y below = absurd (omega (arith, below))
nth-set f none (x ∷ xs) zero y below = refl
nth-set f none (x ∷ xs) (suc index) y below = nth-set f none xs index y (omega (arith, below))

pub nth-set-other : {A B : Type 0} (f : A → B) (none : B) (xs : List A) (index other : ℕ) (y : A) → other ≢ index
    → nth none (map f (slice_set xs index y)) other ≡ nth none (map f xs) other
nth-set-other f none [] index other y differs = refl
nth-set-other f none (x ∷ xs) zero zero y differs = absurd (differs refl)
nth-set-other f none (x ∷ xs) zero (suc other) y differs = refl
nth-set-other f none (x ∷ xs) (suc index) zero y differs = refl
nth-set-other f none (x ∷ xs) (suc index) (suc other) y differs =
    nth-set-other f none xs index other y (λ same. differs (ap suc same))

-- what a function gives of each stays where it does of the one that was changed
pub map-set : {A B : Type 0} (f : A → B) (xs : List A) (index : ℕ) (d y : A) → f y ≡ f (get_or xs index d)
    → map f (slice_set xs index y) ≡ map f xs
map-set f [] index d y same = refl
map-set {B = B} f (z ∷ xs) zero d y same = ap (λ (b : B). b ∷ map f xs) same
map-set {B = B} f (z ∷ xs) (suc index) d y same = ap (λ (l : List B). f z ∷ l) (map-set f xs index d y same)

-- the collections are the same where their prototypes are, and what stands still
pub same-collections : (proto proto' : Proto) (still still' : Bool) (row row' : Rowed) → proto' ≡ proto
    → still' ≡ still → row'.protos ≡ row.protos → row'.stills ≡ row.stills
    → collections_of proto' still' row' ≡ collections_of proto still row
same-collections proto proto' still still' row row' protos stills more_protos more_stills =
    λ i. record {
      count = count i;
      proto = λ n. proto_at n i;
      still = λ n. still_at n i;
      choice = λ item. choice item i;
    }
  where
    count : length row'.protos ≡ length row.protos
    count = ap (λ (l : List Proto). length l) more_protos

    proto_at : (n : ℕ) → nth proto' row'.protos n ≡ nth proto row.protos n
    proto_at n = ap₂ (λ (p : Proto) (l : List Proto). nth p l n) protos more_protos

    still_at : (n : ℕ) → nth still' row'.stills n ≡ nth still row.stills n
    still_at n = ap₂ (λ (b : Bool) (l : List Bool). nth b l n) stills more_stills

    choice : (item : Item) → choice_of row'.protos item ≡ choice_of row.protos item
    choice item = ap (λ (l : List Proto). choice_of l item) more_protos

-- the prototypes of a row are those of its collections
pub are-protos : (proto : Proto) (still : Bool) (row : Rowed) (protos : List Proto) → protos ≡ row.protos
    → 0 < length row.protos → length protos ≤ 8 → AreProtos (collections_of proto still row) protos
are-protos proto still row protos same some few = record {
  few = omega (arith, few, ap (λ (l : List Proto). length l) same);
  some = some;
  count_is = sym (ap (λ (l : List Proto). length l) same);
  each = λ number it is.
      nth-some proto row.protos number it (subst (λ (l : List Proto). slice_get l number ≡ Some it) same is);
  choice_is = λ item. ap (λ (l : List Proto). choice_of l item) (sym same);
}

-- what an edition stands for, over the same
pub held-of : {proto proto' : Proto} {ops ops' : List Op} → proto ≡ proto' → ops ≡ ops'
    → held_of proto ops ≡ held_of proto' ops'
held-of protos same = ap₂ held_of protos same
