-- The arrays of the declarations that are sent are the parts that are sent, in their order.
use Rattle.std.proofs.Common.{◌≡◌, ℕ, suc, ◌+◌, Bool, true, false, List, [], ◌∷◌, ◌++◌, length, map, filter, slice_get, Option, Some, None, refl, sym, ap, subst, ◌∙◌, inl, inr, arith, zero-add}
use Rattle.std.specs.List.{AllZip, enumerate_from, filter_map, flat_map, range_with_len, zip}
use Rattle.std.specs.Option.{option_map}
use Rattle.std.proofs.lemmas.Bool.{cases_Bool, cond-true, cond-false, true≢false}
use Rattle.nc_model.specs.declared.header.Dim.{Dim}
use Rattle.fm_base.proofs.OptionLemmas.{mapped_some, cases_Option}
use Rattle.dap_model.specs.declared.declaration.Array.{Array}
use Rattle.dap_model.specs.declared.declaration.Decl.{Decl}
use Rattle.dap_model.specs.declared.declaration.Decl.TheVariants.{Plain, Grid, Structure}
use Rattle.dap_model.specs.declared.projection.Clause.{Clause}
use Rattle.dap_model.specs.declared.projection.Sent.{Sent}
use Rattle.dap_model.specs.declared.projection.Slab.{Slab}
use Rattle.dap_model.specs.Box.{slab_count}
use Rattle.dap_model.specs.Picking.{parts_of, picked_by, is_picked}
use Rattle.dap_model.specs.Projection.{with_slabs, slabs_of, sent_of, cut_array, cut_parts, is_sent, is_kept, rebuilt, decl_sent, all_sent}
use Rattle.dap_model.specs.ProjectionFacts.{IsCut, array_lengths}
use Rattle.dap_model.proofs.WholeClauseLemmas.{is_sent-all}
use Rattle.dap_model.proofs.ListLemmas.{Has, Source-filter_map, filter_map-some, filter_map-none, none_passes}
use Rattle.dap_model.proofs.ProjectionAgreeLemmas.{picked_if_given, given-slabs_of}

-- each slab leaves its count
pub array_lengths-cut_array : (slabs : List Slab) (array : Array) → length slabs ≡ length array.dims
    → array_lengths (cut_array slabs array) ≡ map slab_count slabs
unfolding cut_array
array_lengths-cut_array slabs array same = go array.dims slabs same where
  go : (dims : List Dim) (each : List Slab) → length each ≡ length dims
      → map (λ (dim : Dim). dim.size)
      (map (λ (pair : Dim × Slab). record pair.0 { size = slab_count pair.1 }) (zip dims each)) ≡ map slab_count each
  go [] [] e = refl
  go [] (slab ∷ each) e = absurd (omega arith)
  go (dim ∷ dims) [] e = absurd (omega arith)
  go (dim ∷ dims) (slab ∷ each) e = ap (λ (l : List ℕ). slab_count slab ∷ l) (go dims each (omega arith))

AllZip-append : {A B : Type 0} (R : A → B → Type 0) (a c : List A) (b d : List B) → AllZip R a b → AllZip R c d
    → AllZip R (a ++ c) (b ++ d)
AllZip-append R [] c [] d first second = second
AllZip-append R [] c (y ∷ b) d first second = absurd first
AllZip-append R (x ∷ a) c [] d first second = absurd first
AllZip-append R (x ∷ a) c (y ∷ b) d first second = (first.0, AllZip-append R a c b d first.1 second)

nil_from_none : {A : Type 0} (xs : List A) → ((x : A) → Has xs x → ⊥) → xs ≡ []
nil_from_none [] none = refl
nil_from_none (x ∷ xs) none = absurd (none x (inl refl))

-- what is made of the items of a list and of their indices, where something is made of both or of neither
paired : {A B C D : Type 0} (P : B → C → Type 0) (o : ℕ → Option D) (cut : D → A → B) (mark : ℕ → D → C) (n : ℕ)
    (xs : List A)
    → ((k : ℕ) (x : A) (s : D) → slice_get xs k ≡ Some x → o (n + k) ≡ Some s → P (cut s x) (mark (n + k) s))
    → AllZip P (filter_map (λ (p : ℕ × A). option_map (λ (s : D). cut s p.1) (o p.0)) (enumerate_from n xs))
    (filter_map (λ (i : ℕ). option_map (mark i) (o i)) (range_with_len n (length xs)))
paired P o cut mark n [] each = tt
paired {A} {B} {C} {D} P o cut mark n (x ∷ xs) each =
    let h = λ (p : ℕ × A). option_map (λ (s : D). cut s p.1) (o p.0) in
    let g = λ (i : ℕ). option_map (mark i) (o i) in
    let others = paired P o cut mark (n + 1) xs (λ k y s is made.
    let same : n + 1 + k ≡ n + suc k = omega arith in
    subst (λ (i : ℕ). P (cut s y) (mark i s)) (sym same) (each (suc k) y s is (ap o (sym same) ∙ made))) in
    let arrays = enumerate_from (n + 1) xs in
    let numbers = range_with_len (n + 1) (length xs) in
    elim (cases_Option (o n)) [
      | inl none ↦
          let first = filter_map-none h (n, x) arrays (ap (option_map (λ (s : D). cut s x)) none) in
          let second = filter_map-none g n numbers (ap (option_map (mark n)) none) in
          subst (λ (l : List B). AllZip P l (filter_map g (n ∷ numbers))) (sym first)
          (subst (λ (l : List C). AllZip P (filter_map h arrays) l) (sym second) others)
      | inr some ↦
          let first = filter_map-some h (n, x) arrays (cut some.0 x) (ap (option_map (λ (s : D). cut s x)) some.1) in
          let second = filter_map-some g n numbers (mark n some.0) (ap (option_map (mark n)) some.1) in
          let here : n + 0 ≡ n = omega arith in
          let front =
          subst (λ (i : ℕ). P (cut some.0 x) (mark i some.0)) here (each 0 x some.0 refl (ap o here ∙ some.1)) in
          subst (λ (l : List B). AllZip P l (filter_map g (n ∷ numbers))) (sym first)
          (subst (λ (l : List C). AllZip P (cut some.0 x ∷ filter_map h arrays) l) (sym second) (front, others))
    ]

-- the parts of one declaration
parts_cut : (decls : List Decl) (clauses : List Clause) (index : ℕ) (decl : Decl) → slice_get decls index ≡ Some decl
    → AllZip (IsCut decls) (cut_parts clauses decl) (sent_of clauses (index, decl))
unfolding cut_parts sent_of
parts_cut decls clauses index decl is =
    paired (IsCut decls) (slabs_of clauses decl) cut_array (with_slabs index) 0 (parts_of decl)
    (λ k part slabs part_is made. record {
      decl = decl;
      part = part;
      decl_is = is;
      part_is = ap
          (slice_get (parts_of decl)) (zero-add k) ∙ part_is;
      array_is = refl;
    })

plain_parts : (clauses : List Clause) (array : Array) (o : Option (List Slab))
    → parts_of (rebuilt (is_kept clauses (Plain array)) (Plain array)
    (filter_map (λ (numbered : ℕ × Array). option_map (λ (slabs : List Slab). cut_array slabs numbered.1) o)
    ((0, array) ∷ [])))
    ≡ filter_map (λ (numbered : ℕ × Array). option_map (λ (slabs : List Slab). cut_array slabs numbered.1) o)
    ((0, array) ∷ [])
plain_parts clauses array None = refl
plain_parts clauses array (Some slabs) = refl

grid_parts : (kept : Bool) (name : List ℕ) (array : Array) (maps parts : List Array)
    → parts_of (rebuilt kept (Grid name array maps) parts) ≡ parts
grid_parts true name array maps [] = refl
grid_parts true name array maps (part ∷ parts) = refl
grid_parts false name array maps [] = refl
grid_parts false name array maps (part ∷ parts) = refl

-- a declaration that is sent has the parts that are
parts_of-sent : (clauses : List Clause) (decl : Decl) → parts_of (decl_sent clauses decl) ≡ cut_parts clauses decl
unfolding decl_sent cut_parts
parts_of-sent clauses (Plain array) = plain_parts clauses array (slabs_of clauses (Plain array) 0)
parts_of-sent clauses (Grid name array maps) =
    grid_parts (is_kept clauses (Grid name array maps)) name array maps (cut_parts clauses (Grid name array maps))
parts_of-sent clauses (Structure name members) = refl

-- a declaration that no clause names has no part that is sent
none_sent : (clauses : List Clause) (index : ℕ) (decl : Decl) → is_sent clauses decl ≡ false
    → sent_of clauses (index, decl) ≡ []
unfolding is_sent sent_of
none_sent [] index decl e = absurd (true≢false (sym (is_sent-all decl) ∙ e))
none_sent (x ∷ clauses) index decl e = nil_from_none (sent_of (x ∷ clauses) (index, decl)) (λ sent has.
    let s =
    Source-filter_map (λ (part : ℕ). option_map (with_slabs index part) (slabs_of (x ∷ clauses) decl part))
    (range_with_len 0 (length (parts_of decl))) sent has in
    let slabs = mapped_some (with_slabs index s.item) (slabs_of (x ∷ clauses) decl s.item) sent s.gives in
    let given = given-slabs_of x clauses decl s.item slabs.0 slabs.1 in
    let picked = picked_if_given decl given.0 s.item slabs.0 given.2 in
    true≢false (sym picked ∙ none_passes (λ (each : Clause). is_picked (picked_by decl each.path))
    (x ∷ clauses) given.0 e given.1))

cut_from : (decls : List Decl) (clauses : List Clause) (n : ℕ) (rest : List Decl)
    → ((k : ℕ) (decl : Decl) → slice_get rest k ≡ Some decl → slice_get decls (n + k) ≡ Some decl)
    → AllZip (IsCut decls) (flat_map parts_of (map (decl_sent clauses) (filter (is_sent clauses) rest)))
    (flat_map (sent_of clauses) (enumerate_from n rest))
cut_from decls clauses n [] each = tt
cut_from decls clauses n (decl ∷ rest) each =
    let others =
    cut_from decls clauses (n + 1) rest (λ k d is. ap (slice_get decls) (omega arith) ∙ each (suc k) d is) in
    let sents = flat_map (sent_of clauses) (enumerate_from (n + 1) rest) in
    let arrays = λ (l : List Decl). flat_map parts_of (map (decl_sent clauses) l) in
    elim (cases_Bool (is_sent clauses decl)) [
      | inl t ↦
          let front = parts_cut decls clauses n decl (ap (slice_get decls) (omega arith) ∙ each 0 decl refl) in
          let parts =
          subst (λ (l : List Array). AllZip (IsCut decls) l (sent_of clauses (n, decl)))
          (sym (parts_of-sent clauses decl)) front in
          subst (λ (l : List Decl). AllZip (IsCut decls) (arrays l) (sent_of clauses (n, decl) ++ sents))
          (sym (cond-true _ _ _ t))
          (AllZip-append (IsCut decls) _ _ _ _ parts others)
      | inr f ↦
          subst (λ (l : List Decl). AllZip (IsCut decls) (arrays l) (sent_of clauses (n, decl) ++ sents))
          (sym (cond-false _ _ _ f))
          (subst (λ (l : List Sent). AllZip (IsCut decls) (arrays (filter (is_sent clauses) rest)) (l ++ sents))
          (sym (none_sent clauses n decl f)) others)
    ]

-- the arrays of the declarations that are sent are the parts that are sent
pub cut_sent : (decls : List Decl) (clauses : List Clause)
    → AllZip (IsCut decls) (flat_map parts_of (all_sent decls clauses).decls) (all_sent decls clauses).sent
unfolding all_sent
cut_sent decls clauses = cut_from decls clauses 0 decls (λ k decl is. ap (slice_get decls) (zero-add k) ∙ is)
