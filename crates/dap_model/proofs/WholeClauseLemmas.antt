-- Where there is no clause, each declaration is sent, a Grid stays one, and each part has whole slabs.
use Rattle.std.proofs.Common.{◌≡◌, ℕ, zero, suc, true, false, ◌||◌, List, [], slice_get, Some, refl, ap, ◌∙◌}
use Rattle.dap_model.specs.declared.declaration.Decl.{Decl}
use Rattle.dap_model.specs.declared.projection.Clause.{Clause}
use Rattle.dap_model.specs.declared.projection.Slab.{Slab}
use Rattle.dap_model.specs.Picking.{part_dims, Picked, is_picked, is_every, whole_slabs, or_whole, spread, slabs_for, given_by}
use Rattle.dap_model.specs.Projection.{whole_clause, slabs_of, is_sent, is_kept}
use Rattle.dap_model.proofs.ListLemmas.{filter_map-some}
use Rattle.dap_model.proofs.PickingLemmas.{front_picks}

pub is_sent-all : (decl : Decl) → is_sent [] decl ≡ true
unfolding is_sent
is_sent-all decl = ap (λ (picked : Picked). is_picked picked || false) (front_picks decl [])

pub is_kept-all : (decl : Decl) → is_kept [] decl ≡ true
unfolding is_kept
is_kept-all decl = ap (λ (picked : Picked). is_every picked || false) (front_picks decl [])

-- no slabs are spread as none
pub no_spread : (part : ℕ) → spread [] part ≡ []
no_spread zero = refl
no_spread (suc zero) = refl
no_spread (suc (suc map)) = refl

whole_given : (decl : Decl) (part : ℕ)
    → given_by decl (whole_clause decl) part ≡ Some (whole_slabs (part_dims decl part))
unfolding given_by
whole_given decl part =
    ap (slabs_for decl [] part) (front_picks decl [])
    ∙ ap (λ (slabs : List Slab). Some (or_whole (part_dims decl part) slabs)) (no_spread part)

pub slabs_of-all : (decl : Decl) (part : ℕ) → slabs_of [] decl part ≡ Some (whole_slabs (part_dims decl part))
unfolding slabs_of
slabs_of-all decl part =
    ap (λ (given : List (List Slab)). slice_get given 0)
    (filter_map-some (λ (each : Clause). given_by decl each part) (whole_clause decl) [] _ (whole_given decl part))
