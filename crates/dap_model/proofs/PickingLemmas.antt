-- What a path picks of a declaration, and what it names.
use Rattle.std.proofs.Common.{◌≡◌, ◌⊎◌, ℕ, ◌<◌, ◌≤◌, Bool, true, List, [], ◌∷◌, length, get_or, Option, refl, sym, ap, ap₂, ◌∙◌, inl, inr, arith}
use Rattle.std.specs.List.{Contains, position, position_or_len}
use Rattle.std.specs.Option.{option_map_or}
use Rattle.std.specs.Str.{bytes_eq}
use Rattle.std.proofs.lemmas.Bool.{cases_Bool, cond-true, cond-false, cases_lt, le-ltb, lt-ltb, true≢false}
use Rattle.std.proofs.lemmas.List.Elements.{Contains-get_or}
use Rattle.std.proofs.lemmas.List.Sums.{fails_before_first, passes_at_first}
use Rattle.std.proofs.lemmas.Slice.Eq.{bytes_eq-Decides}
use Rattle.dap_model.specs.declared.declaration.Array.{Array}
use Rattle.dap_model.specs.declared.declaration.DapKind.TheVariants.{Byte}
use Rattle.dap_model.specs.declared.declaration.Decl.{Decl}
use Rattle.dap_model.specs.Picking.{name_of, named_parts, nothing, only, picked_part, picked_below, picked_by, is_picked}
use Rattle.dap_model.specs.ProjectionFacts.{Names}

-- a part of this name
record PartOf (decl : Decl) (name : List ℕ) : Type 0 where
  part : Array
  has : Contains (named_parts decl) part
  name_is : part.name ≡ name

-- a part that stands nowhere
abbrev pub blank : List ℕ → Array
blank name = record { name = name; kind = Byte; dims = [] }

-- whether a part has a name
abbrev pub is_named : List ℕ → Array → Bool
is_named name part = bytes_eq part.name name

-- the first of some parts that has a name, where one has it
first_named : (parts : List Array) (name : List ℕ) (part : Array) → Contains parts part → part.name ≡ name
    → is_picked (option_map_or only (position (is_named name) parts) nothing) ≡ true
first_named parts name part has same =
    let passes : is_named name (get_or parts has.0 part) ≡ true = ap (is_named name) has.2
    ∙ (bytes_eq-Decides part.name name).1 same in
    let first = position_or_len (is_named name) parts in
    let low : first ≤ has.0 = elim (cases_lt has.0 first) [
      | inl before ↦ absurd (true≢false (sym passes ∙ fails_before_first (is_named name) parts has.0 part before))
      | inr after ↦ after
    ] in
    let within : first < length parts = omega (arith, has.1) in
    ap (λ (o : Option ℕ). is_picked (option_map_or only o nothing))
    (cond-true _ _ _ (lt-ltb first (length parts) within))

named_if_picked : (decl : Decl) (name : List ℕ) → is_picked (picked_part decl name) ≡ true → PartOf decl name
unfolding picked_part
named_if_picked decl name e =
    let parts = named_parts decl in
    let first = position_or_len (is_named name) parts in
    elim (cases_lt first (length parts)) [
      | inl within ↦
          let part = get_or parts first (blank name) in
          record {
            part = part;
            has = Contains-get_or parts first (blank name) within;
            name_is =
                (bytes_eq-Decides part.name name).0 (passes_at_first (is_named name) parts (blank name) within);
          }
      | inr past ↦
          absurd (true≢false (sym e ∙ ap (λ (o : Option ℕ). is_picked (option_map_or only o nothing))
          (cond-false _ _ _ (le-ltb first (length parts) past))))
    ]

below_names : (decl : Decl) (names : List (List ℕ)) → is_picked (picked_below decl names) ≡ true
    → (names ≡ []) ⊎ ((part : Array) × Contains (named_parts decl) part × (names ≡ part.name ∷ []))
below_names decl [] e = inl refl
below_names decl (name ∷ []) e =
    let s = named_if_picked decl name e in inr (s.part, s.has, ap (λ (n : List ℕ). n ∷ []) (sym s.name_is))
below_names decl (name ∷ next ∷ names) e = absurd (true≢false (sym e))

-- what picks something names it
pub Names-picked : (decl : Decl) (path : List (List ℕ)) → is_picked (picked_by decl path) ≡ true → Names decl path
unfolding picked_by
Names-picked decl [] e = absurd (true≢false (sym e))
Names-picked decl (name ∷ names) e = elim (cases_Bool (bytes_eq (name_of decl) name)) [
  | inl t ↦
      let same = (bytes_eq-Decides (name_of decl) name).0 t in
      elim (below_names decl names (sym (ap is_picked (cond-true _ _ _ t)) ∙ e)) [
        | inl none ↦ inl (ap₂ (λ (n : List ℕ) (l : List (List ℕ)). n ∷ l) (sym same) none)
        | inr part ↦ inr (part.0, part.1, ap₂ (λ (n : List ℕ) (l : List (List ℕ)). n ∷ l) (sym same) part.2)
      ]
  | inr f ↦ absurd (true≢false (sym e ∙ ap is_picked (cond-false _ _ _ f)))
]

-- a path that begins with the name of a declaration picks what its other names pick
pub front_picks : (decl : Decl) (names : List (List ℕ))
    → picked_by decl (name_of decl ∷ names) ≡ picked_below decl names
unfolding picked_by
front_picks decl names = cond-true _ _ _ ((bytes_eq-Decides (name_of decl) (name_of decl)).1 refl)

-- what is named is picked
pub picked_if_named : (decl : Decl) (path : List (List ℕ)) → Names decl path → is_picked (picked_by decl path) ≡ true
unfolding picked_part
picked_if_named decl path (inl same) =
    ap (λ (l : List (List ℕ)). is_picked (picked_by decl l)) same ∙ ap is_picked (front_picks decl [])
picked_if_named decl path (inr part) =
    ap (λ (l : List (List ℕ)). is_picked (picked_by decl l)) part.2
    ∙ ap is_picked (front_picks decl (part.0.name ∷ []))
    ∙ first_named (named_parts decl) part.0.name part.0 part.1 refl
