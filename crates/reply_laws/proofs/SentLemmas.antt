-- The arrays of what is sent are cut from parts that are there.
use Rattle.std.proofs.Common.{◌≡◌, List, [], ◌∷◌, All, Option, Some, inl, inr, refl, sym, ap, subst, ◌∙◌}
use Rattle.std.specs.Prelude.{slice_get, option_and_then}
use Rattle.std.specs.List.{flat_map, AllZip}
use Rattle.std.specs.Option.{option_map_or}
use Rattle.std.proofs.lemmas.Option.{same_Some}
use Rattle.nc_model.specs.declared.header.Dim.{Dim}
use Rattle.fm_model.proofs.Members.{Each}
use Rattle.dap_model.specs.declared.declaration.Array.{Array}
use Rattle.dap_model.specs.declared.declaration.Decl.{Decl}
use Rattle.dap_model.specs.declared.projection.Clause.{Clause}
use Rattle.dap_model.specs.declared.projection.Sent.{Sent}
use Rattle.dap_model.specs.Picking.{part_dims, parts_of}
use Rattle.dap_model.specs.Projection.{all_sent}
use Rattle.dap_model.specs.ProjectionFacts.{AreNamedApart, FitsDim, IsCut, IsGridded}
use Rattle.dap_model.proofs.ListLemmas.{Has}
use Rattle.dap_model.proofs.ProjectionAgreeLemmas.{Faultless}
use Rattle.dap_model.proofs.ProjectionCutLemmas.{cut_sent}
use Rattle.dap_model.proofs.ProjectionFitLemmas.{Picks}
use Rattle.dap_model.proofs.ProjectionSentLemmas.{FitsPart-sent, PartSent, PartSent-all_sent, Picks-sent}
use Rattle.dap_xdr.specs.Content.{array_in}
use Rattle.reply_laws.proofs.TextLemmas.{HasPart}

-- a fact of whatever a list has is one of each item
each_has : {A : Type 0} (P : A → Type 0) (xs : List A) → ((x : A) → Has xs x → P x) → Each P xs
each_has P [] has = tt
each_has P (x ∷ xs) has = (has x (inl refl), each_has P xs (λ y later. has y (inr later)))

module _ (decls : List Decl) (clauses : List Clause) (apart : AreNamedApart decls) (gridded : All IsGridded decls)
    (none : Faultless decls [] clauses) where
  from_sent : (array : Array) (sent : Sent) → IsCut decls array sent → PartSent decls clauses sent
      → HasPart decls array sent
  unfolding array_in
  from_sent array sent cut is =
      let fit = FitsPart-sent decls clauses sent apart gridded none is in
      record {
        part = cut.part;
        part_is = ap (option_and_then (λ (found : Decl). slice_get (parts_of found) sent.part)) cut.decl_is
            ∙ cut.part_is;
        array_is = cut.array_is;
        fits = subst (λ (dims : List Dim). AllZip FitsDim dims sent.slabs) (dims_are fit.decl fit.decl_is) fit.fits;
        picks = subst (λ (dims : List Dim). AllZip Picks dims sent.slabs) (dims_are is.decl is.decl_is)
            (Picks-sent decls clauses sent apart gridded none is);
      }
    where
      dims_are : (decl : Decl) → slice_get decls sent.decl ≡ Some decl → part_dims decl sent.part ≡ cut.part.dims
      dims_are decl there =
          let same : decl ≡ cut.decl = same_Some decl cut.decl (sym there ∙ cut.decl_is) in
          ap (λ (d : Decl). part_dims d sent.part) same
          ∙ ap (λ (o : Option Array). option_map_or (λ (array : Array). array.dims) o []) cut.part_is

  each_part : (arrays : List Array) (sents : List Sent) → AllZip (IsCut decls) arrays sents
      → Each (PartSent decls clauses) sents → AllZip (HasPart decls) arrays sents
  each_part [] [] cut each = tt
  each_part [] (sent ∷ sents) cut each = absurd cut
  each_part (array ∷ arrays) [] cut each = absurd cut
  each_part (array ∷ arrays) (sent ∷ sents) cut each =
      (from_sent array sent cut.0 each.0, each_part arrays sents cut.1 each.1)

  -- each array that is declared of what is sent
  pub parts_sent : AllZip (HasPart decls) (flat_map parts_of (all_sent decls clauses).decls)
      (all_sent decls clauses).sent
  parts_sent = each_part _ _ (cut_sent decls clauses)
      (each_has (PartSent decls clauses) (all_sent decls clauses).sent (PartSent-all_sent decls clauses))
