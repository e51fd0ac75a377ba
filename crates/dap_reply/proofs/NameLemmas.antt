-- The declarations of a view have names of their own.
use Rattle.std.proofs.Common.{◌≡◌, ◌≢◌, ℕ, List, [], ◌∷◌, ◌++◌, map, Bool, true, false, refl, sym, ap, subst, ◌∙◌, arith, length, codes}
use Rattle.std.proofs.lemmas.List.{append_assoc, length-append}
use Rattle.std.proofs.lemmas.Map.Made.{AllPairs-from_IsDistinct}
use Rattle.std.proofs.lemmas.Slice.Eq.{bytes_eq-Decides}
use Rattle.fm_model.specs.declared.proto.Proto.{Proto}
use Rattle.fm_model.specs.declared.proto.ProtoVar.{ProtoVar}
use Rattle.fm_model.specs.Prototype.{offset_name, run_name, HasFreeName, IsSound}
use Rattle.fm_model.proofs.Members.{AllPairs-from_each, Each, EachPair, EachPair-push, Each-push, each_from_All, each_from_AllPairs}
use Rattle.dap_model.specs.declared.declaration.Decl.{Decl}
use Rattle.dap_model.specs.Picking.{name_of}
use Rattle.dap_model.specs.ProjectionFacts.{AreNamedApart}
use Rattle.fm_dataset.specs.Declarations.{array_of, decl_of, decls_of, is_grid, seconds_of_rows}

-- two declarations have two names
abbrev Apart : Decl → Decl → Type 0
Apart decl other = name_of decl ≢ name_of other

module _ (proto : Proto) (count : ℕ) where
  -- a declaration has the name of its variable
  decl-name : (var : ProtoVar) → name_of (decl_of proto count var) ≡ var.name
  unfolding decl_of array_of
  decl-name var = by_grid (is_grid proto var) refl
    where
      by_grid : (b : Bool) → is_grid proto var ≡ b → name_of (decl_of proto count var) ≡ var.name
      by_grid true is = rw is refl
      by_grid false is = rw is refl

  seconds-name : (name : List ℕ) → name_of (seconds_of_rows proto count name) ≡ name
  unfolding seconds_of_rows
  seconds-name name = refl

  vars-after : (var : ProtoVar) (vars : List ProtoVar)
      → Each (λ (other : List ℕ). var.name ≢ other) (map (λ (v : ProtoVar). v.name) vars)
      → Each (Apart (decl_of proto count var)) (map (decl_of proto count) vars)
  vars-after var [] each = tt
  vars-after var (other ∷ vars) each =
      (λ same. each.0 (sym (decl-name var) ∙ same ∙ decl-name other), vars-after var vars each.1)

  vars-apart : (vars : List ProtoVar)
      → EachPair (λ (name other : List ℕ). name ≢ other) (map (λ (v : ProtoVar). v.name) vars)
      → EachPair Apart (map (decl_of proto count) vars)
  vars-apart [] each = tt
  vars-apart (var ∷ vars) each = (vars-after var vars each.0, vars-apart vars each.1)

  -- no variable has a name that the views add
  vars-free : (name : List ℕ) (vars : List ProtoVar) → Each (λ (var : ProtoVar). var.name ≢ name) vars
      → Each (λ decl. Apart decl (seconds_of_rows proto count name)) (map (decl_of proto count) vars)
  vars-free name [] each = tt
  vars-free name (var ∷ vars) each =
      (λ same. each.0 (sym (decl-name var) ∙ same ∙ seconds-name name), vars-free name vars each.1)

  free-runs : (vars : List ProtoVar) → Each (HasFreeName proto) vars
      → Each (λ (var : ProtoVar). var.name ≢ run_name proto.axis) vars
  free-runs [] each = tt
  free-runs (var ∷ vars) each = (each.0.run, free-runs vars each.1)

  free-offsets : (vars : List ProtoVar) → Each (HasFreeName proto) vars
      → Each (λ (var : ProtoVar). var.name ≢ offset_name proto.axis) vars
  free-offsets [] each = tt
  free-offsets (var ∷ vars) each = (each.0.offset, free-offsets vars each.1)

  added-apart : run_name proto.axis ≢ offset_name proto.axis
  unfolding run_name offset_name
  added-apart same = omega (
    arith,
    ap length same,
    length-append proto.axis (codes "_run"),
    length-append proto.axis (codes "_offset"),
  )

pub named-apart : (proto : Proto) (count : ℕ) → IsSound proto → AreNamedApart (decls_of proto count)
unfolding decls_of
named-apart proto count sound =
    AllPairs-from_each Apart _ (subst (EachPair Apart) (append_assoc vars (run ∷ []) (offset ∷ []))
    (EachPair-push Apart (vars ++ run ∷ []) offset (EachPair-push Apart vars run pairs runs)
    (Each-push (λ decl. Apart decl offset) vars run offsets (λ same.
    added-apart proto count (sym (seconds-name proto count (run_name proto.axis)) ∙ same
    ∙ seconds-name proto count (offset_name proto.axis))))))
  where
    vars : List Decl
    vars = map (decl_of proto count) proto.vars

    run : Decl
    run = seconds_of_rows proto count (run_name proto.axis)

    offset : Decl
    offset = seconds_of_rows proto count (offset_name proto.axis)

    free : Each (HasFreeName proto) proto.vars
    free = each_from_All (HasFreeName proto) proto.vars sound.free

    pairs : EachPair Apart vars
    pairs = vars-apart proto count proto.vars (each_from_AllPairs _ _
        (AllPairs-from_IsDistinct bytes_eq-Decides (map (λ (v : ProtoVar). v.name) proto.vars) sound.var_names))

    runs : Each (λ decl. Apart decl run) vars
    runs = vars-free proto count (run_name proto.axis) proto.vars (free-runs proto count proto.vars free)

    offsets : Each (λ decl. Apart decl offset) vars
    offsets = vars-free proto count (offset_name proto.axis) proto.vars (free-offsets proto count proto.vars free)
