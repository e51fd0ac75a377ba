-- What is sent of an array of a view: its data is that of the part, and its values are of the view.
use Rattle.std.proofs.Common.{◌≡◌, ◌≢◌, ℕ, ◌<◌, ◌≤◌, List, [], length, Option, Some, IsSomeAnd, sym, ap, subst}
use Rattle.std.specs.Option.{option_map_or}
use Rattle.nc_model.specs.Layout.{IsIndex}
use Rattle.dap_model.specs.declared.declaration.Array.{Array}
use Rattle.dap_model.specs.declared.declaration.DapKind.TheVariants.{Text}
use Rattle.dap_model.specs.declared.declaration.Decl.{Decl}
use Rattle.dap_model.specs.declared.projection.Sent.{Sent}
use Rattle.dap_model.specs.Box.{box_len, index_at}
use Rattle.fm_dataset.specs.Values.{HasNumberAt, HasTextAt}
use Rattle.dap_xdr.specs.Content.{array_data, array_in, part_data, FitsArray}
use Rattle.dap_xdr.proofs.ExtentLemmas.{sizes_of}
use Rattle.dap_xdr.proofs.FitLemmas.{as_many}
use Rattle.dap_xdr.proofs.PickedLemmas.{index_at-within}
use Rattle.fm_twod.specs.Chosen.{chosen_of, data_in, Chosen, IsChosen}
use Rattle.fm_twod.specs.Laid.{content_of, decls_in, IsGrid, Laid}
use Rattle.fm_twod.specs.Parts.{IsSentOf}
use Rattle.fm_twod.proofs.SmallLemmas.{small}

-- ---- the array of what is sent

pub is-chosen : (laid : Laid) (decls : List Decl) (sent : Sent) (array : Array) → IsGrid laid decls
    → IsSentOf laid sent → array_in (decls_in laid) sent.decl sent.part ≡ Some array
    → IsChosen (chosen_of laid sent array)
is-chosen laid decls sent array grid fits is = record {
  part_is = is;
  fits = subst (λ (found : Option Array). IsSomeAnd found (FitsArray sent)) is fits;
  small = small laid decls grid sent.decl sent.part array is;
}

-- its data is that of what is sent
pub data-of : (c : Chosen) → IsChosen c → data_in c ≡ part_data (content_of c.laid) c.sent
unfolding part_data
data-of c is = sym (ap (λ found. option_map_or (array_data (content_of c.laid) c.sent) found []) is.part_is)

-- slabs that fit are few
pub few-slabs : (c : Chosen) → IsChosen c → length c.sent.slabs ≤ 1025
few-slabs c is =
    subst (λ (m : ℕ). m ≤ 1025) (sym (as_many c.array.dims c.sent.slabs is.fits)) is.small.rank

-- ---- a value that is sent is one of the view

pub has-number : (c : Chosen) (element : ℕ) (index : List ℕ) → IsChosen c → c.array.kind ≢ Text
    → element < box_len c.sent.slabs → index ≡ index_at c.sent.slabs element
    → IsSomeAnd (array_in (decls_in c.laid) c.sent.decl c.sent.part) (HasNumberAt index)
has-number c element index is number within same =
    subst (λ (found : Option Array). IsSomeAnd found (HasNumberAt index)) (sym is.part_is) (record {
      number = number;
      index_is = subst (IsIndex (sizes_of c.array.dims)) (sym same)
          (index_at-within c.array.dims c.sent.slabs element is.fits within);
    })

pub has-text : (c : Chosen) (element : ℕ) (index : List ℕ) → IsChosen c → c.array.kind ≡ Text
    → element < box_len c.sent.slabs → index ≡ index_at c.sent.slabs element
    → IsSomeAnd (array_in (decls_in c.laid) c.sent.decl c.sent.part) (HasTextAt index)
has-text c element index is text within same =
    subst (λ (found : Option Array). IsSomeAnd found (HasTextAt index)) (sym is.part_is) (record {
      text = text;
      index_is = subst (IsIndex (sizes_of c.array.dims)) (sym same)
          (index_at-within c.array.dims c.sent.slabs element is.fits within);
    })
