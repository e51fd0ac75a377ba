-- What is sent of a dataset for a constraint can be written as a netCDF file.
use Rattle.std.proofs.Common.{◌≡◌, ℕ, ◌≤◌, List, [], ◌∷◌, length, get_or, slice_get, All, Option, Some, None, Ok, refl, sym, ap, subst, ◌∙◌, arith}
use Rattle.std.specs.Prelude.{option_and_then, IsSomeAnd}
use Rattle.std.specs.List.{AllZip}
use Rattle.std.specs.Option.{option_map_or}
use Rattle.std.proofs.lemmas.List.Elements.{All-cons, All-nil, All-tail}
use Rattle.nc_model.specs.declared.header.Dim.{Dim}
use Rattle.fm_model.specs.Site.{IsPrototype}
use Rattle.fm_model.proofs.ProtoLemmas.{IsSound-given}
use Rattle.dap_model.specs.declared.declaration.Array.{Array}
use Rattle.dap_model.specs.declared.declaration.Decl.{Decl}
use Rattle.dap_model.specs.declared.projection.Clause.{Clause}
use Rattle.dap_model.specs.declared.projection.Projected.{Projected}
use Rattle.dap_model.specs.declared.projection.Sent.{Sent}
use Rattle.dap_model.specs.declared.projection.Slab.{Slab}
use Rattle.dap_model.specs.Picking.{part_dims, parts_of}
use Rattle.dap_model.specs.Projection.{projection_of}
use Rattle.dap_model.specs.ProjectionFacts.{FitsDim}
use Rattle.dap_model.proofs.ListLemmas.{Has, Has-at}
use Rattle.dap_model.proofs.ProjectionAcceptLemmas.{Accepted-projection_of}
use Rattle.dap_model.proofs.ProjectionAgreeLemmas.{Faultless}
use Rattle.dap_model.proofs.ProjectionFitLemmas.{Picks}
use Rattle.dap_model.proofs.ProjectionSentLemmas.{PartSent, PartSent-all_sent, Picks-sent}
use Rattle.dap_slab.specs.Walking.{HasIndex}
use Rattle.fm_dataset.specs.Declarations.{decls_of}
use Rattle.fm_dataset.specs.Rows.{AreRows}
use Rattle.fm_dataset.specs.Values.{IsSmall, Shown}
use Rattle.dap_xdr.specs.Content.{array_in, FitsArray}
use Rattle.dap_xdr.proofs.DatasetLemmas.{small}
use Rattle.dap_reply.proofs.FewLemmas.{all_sent-few}
use Rattle.dap_reply.proofs.MapLemmas.{gridded}
use Rattle.dap_reply.proofs.NameLemmas.{named-apart}
use Rattle.dap_reply.proofs.SentLemmas.{clauses-of, sent-fits}
use Rattle.dap_reply.specs.Body.{projected_of}
use Rattle.nc_writer.specs.Facts.{CanBeWritten}

-- slabs that fit dimensions with sizes pick an index of each
index-each : (dims : List Dim) (slabs : List Slab) → AllZip FitsDim dims slabs → AllZip Picks dims slabs
    → All (λ (dim : Dim). 1 ≤ dim.size) dims → All HasIndex slabs
index-each [] [] fits picks sizes = All-nil HasIndex
index-each [] (slab ∷ slabs) fits picks sizes = absurd fits
index-each (dim ∷ dims) [] fits picks sizes = absurd fits
index-each (dim ∷ dims) (slab ∷ slabs) fits picks sizes =
    All-cons HasIndex slab slabs
    (record { stride = fits.0.stride; ordered = picks.0 (sizes 0 dim (omega arith)) })
    (index-each dims slabs fits.1 picks.1 (All-tail (λ (d : Dim). 1 ≤ d.size) dim dims sizes))

-- the dimensions of a part that is there
dims-there : (decls : List Decl) (decl : Decl) (sent : Sent) (array : Array) → slice_get decls sent.decl ≡ Some decl
    → array_in decls sent.decl sent.part ≡ Some array → part_dims decl sent.part ≡ array.dims
unfolding array_in
dims-there decls decl sent array decl_is is =
    ap (λ (o : Option Array). option_map_or (λ (a : Array). a.dims) o [])
    (ap (λ (o : Option Decl). option_and_then (λ (found : Decl). slice_get (parts_of found) sent.part) o)
    (sym decl_is) ∙ is)

sent-can : (shown : Shown) (clauses : List Clause) (projected : Projected) → IsPrototype shown.proto
    → AreRows shown.proto shown.rows
    → projection_of (decls_of shown.proto (length shown.rows)) clauses ≡ Ok projected
    → CanBeWritten shown projected.sent
sent-can shown clauses projected given rows_are is =
    let decls = decls_of shown.proto (length shown.rows) in
    let accepted = Accepted-projection_of decls clauses projected is in
    let same = ap (λ (p : Projected). p.sent) accepted.all in
    let few = all_sent-few shown.proto (length shown.rows) clauses given in
    record {
      each = λ k d within.
          let sent = get_or projected.sent k d in
          let fits = sent-fits shown clauses projected given is k d within in
          let has = subst (λ (l : List Sent). Has l sent) (sym same) (Has-at projected.sent k d within) in
          let part = PartSent-all_sent decls clauses sent has in
          record { fits = fits; some = picked sent part accepted.faultless fits };
      few = omega (arith, few, ap length same);
    }
  where
    picked : (sent : Sent) (part : PartSent (decls_of shown.proto (length shown.rows)) clauses sent)
        → Faultless (decls_of shown.proto (length shown.rows)) [] clauses
        → IsSomeAnd (array_in (decls_of shown.proto (length shown.rows)) sent.decl sent.part) (FitsArray sent)
        → All HasIndex sent.slabs
    picked sent part faultless fits =
        let decls = decls_of shown.proto (length shown.rows) in
        let sound = IsSound-given shown.proto given in
        let picks = Picks-sent decls clauses sent (named-apart shown.proto (length shown.rows) sound)
        (gridded shown.proto (length shown.rows) sound) faultless part in
        by_array (array_in decls sent.decl sent.part) refl fits picks
      where
        by_array : (o : Option Array) → array_in (decls_of shown.proto (length shown.rows)) sent.decl sent.part ≡ o
            → IsSomeAnd o (FitsArray sent) → AllZip Picks (part_dims part.decl sent.part) sent.slabs
            → All HasIndex sent.slabs
        by_array None e none pick = absurd none
        by_array (Some array) e fit pick =
            let tiny : IsSmall array = small shown given rows_are sent.decl sent.part array e in
            index-each array.dims sent.slabs fit
            (subst (λ (ds : List Dim). AllZip Picks ds sent.slabs)
            (dims-there (decls_of shown.proto (length shown.rows)) part.decl sent array part.decl_is e) pick) tiny.sizes

-- what is sent of a dataset can be written
pub picked-can : (shown : Shown) (decls : List Decl) (constraint : List ℕ) (projected : Projected)
    → IsPrototype shown.proto → AreRows shown.proto shown.rows → decls ≡ decls_of shown.proto (length shown.rows)
    → projected_of decls constraint ≡ Ok projected → CanBeWritten shown projected.sent
picked-can shown decls constraint projected given rows_are same is =
    let Given : List Decl → Type 0 = λ ds. projected_of ds constraint ≡ Ok projected in
    let found = clauses-of (decls_of shown.proto (length shown.rows)) constraint projected (subst Given same is) in
    sent-can shown found.clauses projected given rows_are found.projected_is
