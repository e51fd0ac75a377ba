-- The buckets have the indices of their declarations.
use Rattle.std.proofs.Common.{cond, ◌≡◌, ℕ, ◌+◌, ◌<◌, ◌≤◌, Bool, true, false, List, [], ◌∷◌, ◌++◌, length, drop, get_or, set, replicate, refl, sym, ap, ◌∙◌, append_assoc, append-nil, arith}
use Rattle.std.proofs.lemmas.Bool.{eq-eqb, eqb-true, true≢false}
use Rattle.std.proofs.lemmas.List.{drop_all, get_or-replicate, get_or-set_other, get_or-set_same, get_or_default}
use Rattle.dap_model.specs.Picking.{name_of}
use Rattle.dap_model.specs.declared.declaration.Decl.{Decl}
use Rattle.dap_project.specs.Buckets.{bucket_of, is_of, indices_for, indices_where, AreBuckets}
use Rattle.dap_project.proofs.StepLemmas.{left}

pub no_decls : (test : Decl → Bool) (decls : List Decl) → length decls ≡ 0 → [] ≡ indices_where test 0 decls
unfolding indices_where
no_decls test [] none = refl
no_decls test (decl ∷ decls) none = absurd (omega (arith, none))

none_may : (index : ℕ) (decls : List Decl) → [] ≡ indices_where (λ decl. false) index decls
unfolding indices_where
none_may index [] = refl
none_may index (decl ∷ decls) = none_may (index + 1) decls

-- a path without names may pick nothing
pub none_for : (decls : List Decl) (path : List (List ℕ)) → length path ≡ 0 → [] ≡ indices_for decls path
none_for decls [] none = none_may 0 decls
none_for decls (name ∷ names) none = absurd (omega (arith, none))

-- each bucket has the indices of its declarations up to an index
abbrev pub AreFilled : List Decl → List (List ℕ) → ℕ → Type 0
AreFilled decls buckets at =
    (bucket : ℕ) (d : List ℕ) → bucket < length decls
    → get_or buckets bucket d ++ indices_where (is_of (length decls) bucket) at (drop at decls)
    ≡ indices_where (is_of (length decls) bucket) 0 decls

pub none_filled : (decls : List Decl) (buckets : List (List ℕ)) → buckets ≡ replicate (length decls) []
    → AreFilled decls buckets 0
none_filled decls buckets empty bucket d lt =
    ap (λ (l : List ℕ). l ++ indices_where (is_of (length decls) bucket) 0 decls)
    (ap (λ (b : List (List ℕ)). get_or b bucket d) empty ∙ get_or-replicate (length decls) bucket [] d lt)

pub filled_more : (decls : List Decl) (buckets : List (List ℕ)) (at own : ℕ) (decl : Decl) (before new : List ℕ)
    → at < length decls → decl ≡ get_or decls at decl → own ≡ bucket_of (length decls) (name_of decl)
    → own < length buckets → before ≡ get_or buckets own before → new ≡ before ++ at ∷ [] → AreFilled decls buckets at
    → AreFilled decls (set buckets own new) (at + 1)
unfolding indices_where
filled_more decls buckets at own decl before new lt is own_is within before_is new_is filled bucket d below =
    by_test (is_of (length decls) bucket decl) refl
  where
    test : Decl → Bool
    test = is_of (length decls) bucket

    rest : List ℕ
    rest = indices_where test (at + 1) (drop (at + 1) decls)

    so_far : get_or buckets bucket d ++ cond (test decl) (at ∷ rest) rest ≡ indices_where test 0 decls
    so_far = ap (λ (l : List Decl). get_or buckets bucket d ++ indices_where test at l) (sym (left decls at decl lt is))
        ∙ filled bucket d below

    by_test : (b : Bool) → test decl ≡ b → get_or (set buckets own new) bucket d ++ rest ≡ indices_where test 0 decls
    by_test true passes =
        let same : own ≡ bucket = own_is ∙ eqb-true _ _ passes in
        let old : get_or buckets bucket d ≡ before =
        ap (λ (n : ℕ). get_or buckets n d) (sym same) ∙ sym (of_any before_is) in
        ap (λ (n : ℕ). get_or (set buckets own new) n d ++ rest) (sym same)
        ∙ ap (λ (l : List ℕ). l ++ rest) (get_or-set_same buckets own new d within ∙ new_is)
        ∙ append_assoc before (at ∷ []) rest
        ∙ ap (λ (l : List ℕ). l ++ at ∷ rest) (sym old)
        ∙ ap (λ (c : Bool). get_or buckets bucket d ++ cond c (at ∷ rest) rest) (sym passes)
        ∙ so_far
      where
        of_any : before ≡ get_or buckets own before → before ≡ get_or buckets own d
        of_any e = e ∙ get_or_default buckets own before d within
    by_test false fails =
        let other : bucket ≡ own → ⊥ = λ same. true≢false (sym (eq-eqb _ _ (sym own_is ∙ sym same)) ∙ fails) in
        ap (λ (l : List ℕ). l ++ rest) (get_or-set_other buckets own bucket new d other)
        ∙ ap (λ (c : Bool). get_or buckets bucket d ++ cond c (at ∷ rest) rest) (sym fails)
        ∙ so_far

pub all_filled : (decls : List Decl) (buckets : List (List ℕ)) (at : ℕ) → length buckets ≡ length decls
    → length decls ≤ at → AreFilled decls buckets at → AreBuckets decls buckets
unfolding indices_where
all_filled decls buckets at same past filled = record {
  count = same;
  each = λ bucket d lt.
      sym (append-nil (get_or buckets bucket d))
      ∙ ap (λ (l : List Decl). get_or buckets bucket d ++ indices_where (is_of (length decls) bucket) at l)
      (sym (drop_all at decls past))
      ∙ filled bucket d lt;
}
