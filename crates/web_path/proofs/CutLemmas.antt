-- Where a text is cut: at the first of a byte, and a path at the last `.`.
use Rattle.std.proofs.Common.{◌≡◌, ◌<◌, ◌≤◌, inl, inr, ⊎_elim, ℕ, zero, suc, ◌+◌, Bool, true, false, cond, ◌&&◌, ◌||◌, ◌==◌, not, List, [], ◌∷◌, ◌++◌, length, take, drop, get_or, Option, Some, None, option_map, refl, sym, ap, ap₂, subst, ◌∙◌, length-append, arith}
use Rattle.std.proofs.lemmas.Bool.{and_right, cond-true, cond-false, eq-eqb, eqb-true, or_parts}
use Rattle.std.proofs.lemmas.List.{get_or-append-add}
use Rattle.std.proofs.lemmas.Option.{same_Some}
use Rattle.std.proofs.Math.Seq.{take-append_seam}
use Rattle.std.specs.List.{list_any}
use Rattle.std.specs.Path.{rfind_below, rsplit_once}
use Rattle.fm_base.proofs.OptionLemmas.{mapped_some}
use Rattle.web_path.specs.Target.{first_at}
use Rattle.web_path.specs.Url.{IsCutBy}

-- ---- the first of a byte

one-more : (n : ℕ) → 1 + n ≡ suc n
one-more n = omega arith

pub first-cut : (c : ℕ) (front back : List ℕ) → list_any (λ b. b == c) front ≡ false
    → first_at c (front ++ c ∷ back) ≡ length front
first-cut c [] back none = ap (λ (is : Bool). cond (not is) (1 + first_at c back) 0) (eq-eqb c c refl)
first-cut c (b ∷ front) back none =
    let parts = or_parts (b == c) (list_any (λ x. x == c) front) none in
    let rest : ℕ = first_at c (front ++ c ∷ back) in
    ap (λ (is : Bool). cond (not is) (1 + rest) 0) parts.0 ∙ one-more rest ∙ ap suc (first-cut c front back parts.1)

pub first-none : (c : ℕ) (front : List ℕ) → list_any (λ b. b == c) front ≡ false → first_at c front ≡ length front
first-none c [] none = refl
first-none c (b ∷ front) none =
    let parts = or_parts (b == c) (list_any (λ x. x == c) front) none in
    ap (λ (is : Bool). cond (not is) (1 + first_at c front) 0) parts.0 ∙ one-more (first_at c front)
    ∙ ap suc (first-none c front parts.1)

-- none stands before the first one
pub plain-front : (c : ℕ) (text : List ℕ) → list_any (λ b. b == c) (take (first_at c text) text) ≡ false
plain-front c [] = refl
plain-front c (b ∷ text) = by_test (b == c) refl (plain-front c text)
  where
    by_test : (is : Bool) → (b == c) ≡ is
        → list_any (λ x. x == c) (take (first_at c text) text) ≡ false
        → list_any (λ x. x == c) (take (cond (not is) (1 + first_at c text) 0) (b ∷ text)) ≡ false
    by_test true same plain = refl
    by_test false same plain =
        ap (λ (n : ℕ). list_any (λ x. x == c) (take n (b ∷ text))) (one-more (first_at c text))
        ∙ ap (λ (t : Bool). t || list_any (λ x. x == c) (take (first_at c text) text)) same ∙ plain

-- a cut after one byte more
after-one : (c b : ℕ) (text : List ℕ) (n : ℕ) → IsCutBy c text (take n text) (drop (n + 1) text)
    → IsCutBy c (b ∷ text) (take (suc n) (b ∷ text)) (drop (suc n + 1) (b ∷ text))
after-one c b text n cut =
    let same : suc (n + 1) ≡ suc n + 1 = omega arith in
    subst (λ (m : ℕ). IsCutBy c (b ∷ text) (b ∷ take n text) (drop m (b ∷ text))) same
    (⊎_elim (λ seam. inl (ap (λ (l : List ℕ). b ∷ l) seam))
    (λ all. inr (ap (λ (l : List ℕ). b ∷ l) all.0, all.1)) cut)

pub cut-found : (c : ℕ) (text : List ℕ) → IsCutBy c text (take (first_at c text) text) (drop (first_at c text + 1) text)
cut-found c [] = inr (refl, refl)
cut-found c (b ∷ text) = by_test (b == c) refl (cut-found c text)
  where
    by_test : (is : Bool) → (b == c) ≡ is
        → IsCutBy c text (take (first_at c text) text) (drop (first_at c text + 1) text)
        → IsCutBy c (b ∷ text) (take (cond (not is) (1 + first_at c text) 0) (b ∷ text))
        (drop (cond (not is) (1 + first_at c text) 0 + 1) (b ∷ text))
    by_test true same cut = inl (ap (λ (x : ℕ). x ∷ text) (eqb-true b c same))
    by_test false same cut = subst (λ (n : ℕ). IsCutBy c (b ∷ text) (take n (b ∷ text)) (drop (n + 1) (b ∷ text)))
        (sym (one-more (first_at c text))) (after-one c b text (first_at c text) cut)

-- nothing follows the end
pub nothing-left : (path : List ℕ) → drop (length path + 1) path ≡ []
nothing-left [] = refl
nothing-left (b ∷ path) =
    let same : suc (length path) + 1 ≡ suc (length path + 1) = omega arith in
    ap (λ (n : ℕ). drop n (b ∷ path)) same ∙ nothing-left path

-- what follows a byte
pub after-seam : (c : ℕ) (front back : List ℕ) → drop (length front + 1) (front ++ c ∷ back) ≡ back
after-seam c [] back = refl
after-seam c (b ∷ front) back =
    let same : suc (length front) + 1 ≡ suc (length front + 1) = omega arith in
    ap (λ (n : ℕ). drop n (b ∷ (front ++ c ∷ back))) same ∙ after-seam c front back

-- ---- the last of a byte

none-at : (c : ℕ) (word : List ℕ) (k : ℕ) → list_any (λ b. b == c) word ≡ false → k < length word
    → (get_or word k 0 == c) ≡ false
none-at c [] k none below = absurd (omega (arith, below))
none-at c (b ∷ word) zero none below = (or_parts (b == c) (list_any (λ x. x == c) word) none).0
none-at c (b ∷ word) (suc k) none below =
    none-at c word k (or_parts (b == c) (list_any (λ x. x == c) word) none).1 (omega (arith, below))

found-last : (c : ℕ) (front word : List ℕ) (k : ℕ) → list_any (λ b. b == c) word ≡ false → k ≤ length word
    → rfind_below c (front ++ c ∷ word) (suc (length front + k)) ≡ Some (length front)
found-last c front word zero none within =
    let same : length front + 0 ≡ length front = omega arith in
    cond-true _ _ _ (ap (λ (b : ℕ). b == c) (get_or-append-add front (c ∷ word) 0 0) ∙ eq-eqb c c refl)
    ∙ ap Some same
found-last c front word (suc k) none within =
    let same : length front + suc k ≡ suc (length front + k) = omega arith in
    cond-false _ _ _ (ap (λ (b : ℕ). b == c) (get_or-append-add front (c ∷ word) (suc k) 0)
    ∙ none-at c word k none (omega (arith, within)))
    ∙ ap (rfind_below c (front ++ c ∷ word)) same
    ∙ found-last c front word k none (omega (arith, within))

-- a text is cut at the last of a byte
pub rsplit-joined : (c : ℕ) (front word : List ℕ) → list_any (λ b. b == c) word ≡ false
    → rsplit_once c (front ++ c ∷ word) ≡ Some (front, word)
unfolding rsplit_once
rsplit-joined c front word none =
    let text : List ℕ = front ++ c ∷ word in
    let len : length text ≡ suc (length front + length word) = omega (arith, length-append front (c ∷ word)) in
    let parts : ℕ → List ℕ × List ℕ = λ i. (take i text, drop (i + 1) text) in
    ap (λ (n : ℕ). option_map parts (rfind_below c text n)) len
    ∙ ap (option_map parts) (found-last c front word (length word) none (omega arith))
    ∙ ap₂ (λ (l r : List ℕ). Some (l, r)) (take-append_seam front (c ∷ word)) (after-seam c front word)

found-there : (c : ℕ) (text : List ℕ) (n i : ℕ) → rfind_below c text n ≡ Some i
    → (i < n) × (get_or text i 0 ≡ c)
found-there c text zero i is = absurd (cc)
found-there c text (suc n) i is = by_test (get_or text n 0 == c) refl is (found-there c text n i)
  where
    by_test : (here : Bool) → (get_or text n 0 == c) ≡ here → cond here (Some n) (rfind_below c text n) ≡ Some i
        → (rfind_below c text n ≡ Some i → (i < n) × (get_or text i 0 ≡ c))
        → (i < suc n) × (get_or text i 0 ≡ c)
    by_test true same found earlier =
        let at : n ≡ i = same_Some n i found in
        (omega (arith, at), subst (λ (k : ℕ). get_or text k 0 ≡ c) at (eqb-true (get_or text n 0) c same))
    by_test false same found earlier =
        let before = earlier found in
        (omega (arith, before.0), before.1)

split-at : (c : ℕ) (text : List ℕ) (i : ℕ) → i < length text → get_or text i 0 ≡ c
    → text ≡ take i text ++ c ∷ drop (i + 1) text
split-at c [] i below is = absurd (omega (arith, below))
split-at c (b ∷ text) zero below is = ap (λ (x : ℕ). x ∷ text) is
split-at c (b ∷ text) (suc i) below is =
    let same : suc (i + 1) ≡ suc i + 1 = omega arith in
    ap (λ (l : List ℕ). b ∷ l) (split-at c text i (omega (arith, below)) is)
    ∙ ap (λ (m : ℕ). b ∷ (take i text ++ c ∷ drop m (b ∷ text))) same

pub rsplit-parts : (c : ℕ) (text : List ℕ) (parts : List ℕ × List ℕ) → rsplit_once c text ≡ Some parts
    → text ≡ parts.0 ++ c ∷ parts.1
unfolding rsplit_once
rsplit-parts c text parts is =
    let found = mapped_some (λ (i : ℕ). (take i text, drop (i + 1) text)) (rfind_below c text (length text)) parts is in
    let there = found-there c text (length text) found.0 found.1 in
    split-at c text found.0 there.0 there.1
    ∙ ap (λ (p : List ℕ × List ℕ). p.0 ++ c ∷ p.1) found.2
