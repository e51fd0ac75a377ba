-- The blanks of a run, one over each prototype, of which each desk takes the first.
use Rattle.std.proofs.Common.{◌≡◌, ◌∙◌, ℕ, zero, suc, ◌+◌, ◌-◌, ◌<◌, List, [], ◌∷◌, ◌++◌, length, map, All, drop, take, get_or, refl, sym, ap, ap₂, subst, arith}
use Rattle.std.proofs.lemmas.List.{drop_all, length-map, map-append, take_more}
use Rattle.std.proofs.lemmas.List.Elements.{All-drop, All-head, All-nil, All-push, All-same}
use Rattle.fm_model.specs.declared.proto.Proto.{Proto}
use Rattle.pub_snap.specs.Opening.{no_proto, Opening}
use Rattle.srv_many.specs.Several.{nth}
use Rattle.srv_workers.specs.Opened.{AreBlanks, blank_at, FirstAnd, IsSized, no_blank}

-- no blanks were made yet
pub AreBlanks-none : (doors clocks : ℕ) (blanks : List Opening) → blanks ≡ [] → AreBlanks doors clocks [] blanks
AreBlanks-none doors clocks blanks none = record {
  protos_are = ap (λ (l : List Opening). map (λ (b : Opening). b.proto) l) none;
  sized = All-same (λ b. IsSized doors clocks b) blanks [] none (All-nil (λ b. IsSized doors clocks b));
}

-- one more was made
pub AreBlanks-more : (doors clocks i : ℕ) (protos : List Proto) (proto : Proto) (blanks blanks' : List Opening)
    (blank : Opening) → AreBlanks doors clocks (take i protos) blanks → i < length protos
    → proto ≡ get_or protos i proto → blank.proto ≡ proto → IsSized doors clocks blank
    → blanks' ≡ blanks ++ blank ∷ [] → AreBlanks doors clocks (take (i + 1) protos) blanks'
AreBlanks-more doors clocks i protos proto blanks blanks' blank made below is same sized more =
    subst (λ (l : List Opening). AreBlanks doors clocks (take (i + 1) protos) l) (sym more) (record {
      protos_are = map-append (λ (b : Opening). b.proto) blanks (blank ∷ [])
          ∙ ap₂ (λ (l : List Proto) (p : Proto). l ++ p ∷ []) made.protos_are (same ∙ is)
          ∙ sym (take_more protos i proto below);
      sized = All-push (λ b. IsSized doors clocks b) blanks blank made.sized sized;
    })

-- there are as many
blank-count : (doors clocks : ℕ) (protos : List Proto) (blanks : List Opening) → AreBlanks doors clocks protos blanks
    → length blanks ≡ length protos
blank-count doors clocks protos blanks all =
    sym (length-map blanks (λ (b : Opening). b.proto)) ∙ ap (λ (l : List Proto). length l) all.protos_are

-- the item at an index, and those behind it
from-nth : {A : Type 0} (none : A) (xs : List A) (i : ℕ) → i < length xs
    → drop i xs ≡ nth none xs i ∷ drop (suc i) xs
from-nth none [] i below = absurd (omega (arith, below))
from-nth none (x ∷ xs) zero below = refl
from-nth none (x ∷ xs) (suc i) below = from-nth none xs i (omega (arith, below))

-- the blank at an index is over the prototype there
proto-at : (blanks : List Opening) (i : ℕ) → nth no_proto (map (λ (b : Opening). b.proto) blanks) i
    ≡ (blank_at i blanks).proto
proto-at [] i = refl
proto-at (blank ∷ blanks) zero = refl
proto-at (blank ∷ blanks) (suc i) = proto-at blanks i

-- the blank at an index is named, and those behind it are of other desks
pub first-named : (Named : Opening → Type 0) (Others : List Opening → Type 0) (doors clocks i : ℕ) (protos : List Proto)
    (blanks : List Opening) → AreBlanks doors clocks protos blanks → i < length protos → Named (blank_at i blanks)
    → Others (drop (suc i) blanks) → FirstAnd (λ blank. Named blank × IsSized doors clocks blank) Others (drop i blanks)
first-named Named Others doors clocks i protos blanks all below named others =
    let count : length blanks ≡ length protos = blank-count doors clocks protos blanks all in
    let are = from-nth no_blank blanks i (omega (arith, below, count)) in
    record {
      first = blank_at i blanks;
      others = drop (suc i) blanks;
      blanks_are = are;
      first_is = (
        named,
        All-head (λ b. IsSized doors clocks b) (blank_at i blanks) (drop (suc i) blanks)
            (All-same (λ b. IsSized doors clocks b) _ _ (sym are)
            (All-drop (λ b. IsSized doors clocks b) i blanks all.sized)),
      );
      others_are = others;
    }

-- no prototype stands behind the last one
pub none-left : (protos : List Proto) → drop (suc (length protos - 1)) protos ≡ []
none-left protos = drop_all (suc (length protos - 1)) protos (omega arith)

-- nor does a blank
pub none-behind : (doors clocks : ℕ) (protos : List Proto) (blanks : List Opening)
    → AreBlanks doors clocks protos blanks → drop (suc (length protos - 1)) blanks ≡ []
none-behind doors clocks protos blanks all =
    drop_all (suc (length protos - 1)) blanks (omega (arith, blank-count doors clocks protos blanks all))

-- the prototypes of a desk and of others, from the index of the desk
pub protos-from : (doors clocks i : ℕ) (protos : List Proto) (blanks : List Opening) (proto : Proto)
    (others : List Proto) → AreBlanks doors clocks protos blanks → i < length protos → (blank_at i blanks).proto ≡ proto
    → drop (suc i) protos ≡ others → drop i protos ≡ proto ∷ others
protos-from doors clocks i protos blanks proto others all below same behind =
    from-nth no_proto protos i below
    ∙ ap₂ (λ (p : Proto) (l : List Proto). p ∷ l)
    (ap (λ (l : List Proto). nth no_proto l i) (sym all.protos_are) ∙ proto-at blanks i ∙ same) behind

-- what is said of the first blank that was taken, and of those that are left
pub first-and : {First : Opening → Type 0} {Others : List Opening → Type 0} (blanks others : List Opening)
    (first : Opening) → FirstAnd First Others blanks → blanks ≡ first ∷ others → First first × Others others
first-and {First} {Others} blanks others first all is =
    let same : all.first ∷ all.others ≡ first ∷ others = sym all.blanks_are ∙ is in (
      subst First (ap (λ (l : List Opening). blank_at 0 l) same) all.first_is,
      subst Others (ap (λ (l : List Opening). drop 1 l) same) all.others_are,
    )

-- there is a first one
pub first-there : {First : Opening → Type 0} {Others : List Opening → Type 0} (blanks : List Opening)
    → FirstAnd First Others blanks → 0 < length blanks
first-there blanks all = omega (arith, ap (λ (l : List Opening). length l) all.blanks_are)
