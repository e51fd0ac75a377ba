-- The variables that are made of what is sent are those of the dataset, and as few.
use Rattle.std.proofs.Common.{◌≡◌, ℕ, suc, ◌+◌, ◌^◌, ◌<◌, ◌≤◌, Bool, true, false, List, [], ◌∷◌, ◌++◌, length, get_or, drop, All, Option, Some, None, Ok, refl, sym, ap, subst, ◌∙◌, arith}
use Rattle.std.specs.Prelude.{IsSomeAnd}
use Rattle.std.specs.Option.{option_map_or}
use Rattle.std.proofs.lemmas.List.{drop_all, drop_more, get_or-map, length-map, length_push}
use Rattle.std.proofs.lemmas.List.Elements.{All-nil, All-push, All-tail}
use Rattle.fm_base.specs.Chain.{◌>>=◌}
use Rattle.fm_base.proofs.ChainLemmas.{same_Ok, step_ok}
use Rattle.fm_model.specs.Site.{IsPrototype}
use Rattle.dap_model.specs.declared.declaration.Array.{Array}
use Rattle.dap_model.specs.declared.declaration.DapKind.{DapKind}
use Rattle.dap_model.specs.declared.declaration.DapKind.TheVariants.{Byte, Int16, Int32, Float32, Float64, Text}
use Rattle.dap_model.specs.declared.projection.Sent.{Sent}
use Rattle.dap_model.specs.Box.{box_len, box_of, index_at}
use Rattle.dap_model.proofs.BoxLemmas.{get_or-box_of, length-box_of}
use Rattle.fm_dataset.specs.Rows.{AreRows}
use Rattle.fm_dataset.specs.Values.{Shown}
use Rattle.dap_xdr.specs.Content.{array_in, Content, FitsArray}
use Rattle.dap_xdr.specs.Datasets.{content_of}
use Rattle.dap_xdr.proofs.ColumnLemmas.{is-portion}
use Rattle.dap_xdr.proofs.DatasetLemmas.{short}
use Rattle.nc_writer.specs.declared.fault.WriteFault.{WriteFault}
use Rattle.nc_writer.specs.declared.variable.Variable.{Variable}
use Rattle.nc_writer.specs.Facts.{CanBeWritten, IsDataset, IsPicked, IsSentPart, IsVariableOf}
use Rattle.nc_writer.specs.Variables.{add_known, add_part, add_sent, has_slabs, is_text, longest, texts_sent, variable_of, variable_with, variables_from, width_of}
use Rattle.nc_writer.proofs.TextLemmas.{text-at}

-- ---- texts are short

longest-small : (texts : List (List ℕ)) → All (λ (text : List ℕ). length text < 2 ^ 32) texts → longest texts < 2 ^ 32
unfolding longest
longest-small [] each = omega arith
longest-small (text ∷ texts) each =
    let first : length text < 2 ^ 32 = each 0 text (omega arith) in
    let rest = longest-small texts (All-tail (λ (t : List ℕ). length t < 2 ^ 32) text texts each) in
    omega (arith, first, rest)

module _ (shown : Shown) (dataset : IsDataset shown) (sent : Sent) (array : Array)
    (part : IsSentPart shown sent array) where
  text-short : array.kind ≡ Text → (element : ℕ) → element < box_len sent.slabs
      → length ((content_of shown).text sent.decl sent.part (index_at sent.slabs element)) < 2 ^ 32
  text-short text element within =
      short shown sent.decl sent.part (index_at sent.slabs element) dataset.given dataset.rows_are
      (text-at shown sent array element (index_at sent.slabs element) part text within refl)

  texts-short : array.kind ≡ Text
      → All (λ (text : List ℕ). length text < 2 ^ 32) (texts_sent (content_of shown) sent)
  texts-short text = λ element d within.
      let words = (content_of shown).text sent.decl sent.part in
      let box = box_of sent.slabs in
      let short_of : element < length box = subst (λ (n : ℕ). element < n) (length-map box words) within in
      let inside : element < box_len sent.slabs = subst (λ (n : ℕ). element < n) (length-box_of sent.slabs) short_of in
      subst (λ (l : List ℕ). length l < 2 ^ 32)
      (sym (get_or-map words box element [] d short_of
      ∙ ap words (get_or-box_of sent.slabs element [] inside)))
      (text-short text element inside)

  width-small : width_of (content_of shown) array.kind sent < 2 ^ 32
  unfolding width_of is_text
  width-small = by_kind array.kind refl
    where
      by_kind : (kind : DapKind) → array.kind ≡ kind → width_of (content_of shown) kind sent < 2 ^ 32
      by_kind Byte is = omega arith
      by_kind Int16 is = omega arith
      by_kind Int32 is = omega arith
      by_kind Float32 is = omega arith
      by_kind Float64 is = omega arith
      by_kind Text is = longest-small (texts_sent (content_of shown) sent) (texts-short is)

  -- the variable of a part
  made-variable : IsVariableOf shown (variable_of (content_of shown) sent array)
  unfolding variable_of variable_with
  made-variable = record { array = array; part = part; variable_is = refl; narrow = width-small }

-- ---- the array of what is sent

record Found (shown : Shown) (sent : Sent) : Type 0 where
  array : Array
  part : IsSentPart shown sent array

sent-part : (shown : Shown) (dataset : IsDataset shown) (sent : Sent) → IsPicked shown sent → Found shown sent
sent-part shown dataset sent picked = by_array (array_in (content_of shown).decls sent.decl sent.part) refl picked.fits
  where
    by_array : (o : Option Array) → array_in (content_of shown).decls sent.decl sent.part ≡ o
        → IsSomeAnd o (FitsArray sent) → Found shown sent
    by_array None is fits = absurd fits
    by_array (Some array) is fits = record {
      array = array;
      part = record {
        portion = is-portion shown sent array dataset.given dataset.rows_are picked.fits is;
        some = picked.some;
      };
    }

-- what is known of variables: they are those of the dataset, and no more than this
record Known (shown : Shown) (variables : List Variable) (most : ℕ) : Type 0 where
  each : All (IsVariableOf shown) variables
  few : length variables ≤ most

known-part : (shown : Shown) (dataset : IsDataset shown) (found next : List Variable) (most : ℕ) (sent : Sent)
    (array : Array) → IsSentPart shown sent array → Known shown found most
    → add_part (content_of shown) found sent array ≡ Ok next → Known shown next (suc most)
unfolding add_part
known-part shown dataset found next most sent array part known is =
    by_known (has_slabs found array.name sent.slabs) is
  where
    by_known : (o : Option Bool) → add_known (content_of shown) found sent array o ≡ Ok next
        → Known shown next (suc most)
    by_known None e =
        let variable = variable_of (content_of shown) sent array in
        subst (λ (l : List Variable). Known shown l (suc most))
        (same_Ok {E = WriteFault} (found ++ variable ∷ []) next e)
        (record {
          each = All-push (IsVariableOf shown) found variable known.each (made-variable shown dataset sent array part);
          few = omega (arith, length_push found variable, known.few);
        })
    by_known (Some true) e =
        subst (λ (l : List Variable). Known shown l (suc most)) (same_Ok {E = WriteFault} found next e)
        (record { each = known.each; few = omega (arith, known.few) })
    by_known (Some false) e = absurd cc

known-sent : (shown : Shown) (dataset : IsDataset shown) (found next : List Variable) (most : ℕ) (sent : Sent)
    → IsPicked shown sent → Known shown found most
    → add_sent (content_of shown) found sent ≡ Ok next → Known shown next (suc most)
unfolding add_sent
known-sent shown dataset found next most sent picked known is =
    let at = sent-part shown dataset sent picked in
    known-part shown dataset found next most sent at.array at.part known
    (ap (λ (o : Option Array). option_map_or (add_part (content_of shown) found sent) o (Ok found))
    (sym at.part.portion.part_is) ∙ is)

known-from : (shown : Shown) (dataset : IsDataset shown) (found all : List Variable) (most : ℕ) (sent : List Sent)
    → All (IsPicked shown) sent → Known shown found most
    → variables_from (content_of shown) found sent ≡ Ok all → Known shown all (length sent + most)
unfolding variables_from
known-from shown dataset found all most [] each known is =
    let same : most ≡ 0 + most = omega arith in
    subst (Known shown all) same
    (subst (λ (l : List Variable). Known shown l most) (same_Ok {E = WriteFault} found all is) known)
known-from shown dataset found all most (part ∷ sent) each known is =
    let next = step_ok (add_sent (content_of shown) found part)
    (λ l. variables_from (content_of shown) l sent) all is in
    let rest = known-from shown dataset next.0 all (suc most) sent (All-tail (IsPicked shown) part sent each)
    (known-sent shown dataset found next.0 most part (each 0 part (omega arith)) known next.1) next.2 in
    record { each = rest.each; few = omega (arith, rest.few) }

-- the variables of what is sent
pub variables-are : (shown : Shown) (sent : List Sent) (variables : List Variable) → IsPrototype shown.proto
    → AreRows shown.proto shown.rows → CanBeWritten shown sent
    → variables_from (content_of shown) [] sent ≡ Ok variables → All (IsVariableOf shown) variables
variables-are shown sent variables given rows_are can is =
    (known-from shown (record { given = given; rows_are = rows_are }) [] variables 0 sent can.each
    (record { each = All-nil (IsVariableOf shown); few = omega arith }) is).each

pub variables-few : (shown : Shown) (sent : List Sent) (variables : List Variable) → IsPrototype shown.proto
    → AreRows shown.proto shown.rows → CanBeWritten shown sent
    → variables_from (content_of shown) [] sent ≡ Ok variables → length variables < 2 ^ 28
variables-few shown sent variables given rows_are can is =
    let known = known-from shown (record { given = given; rows_are = rows_are }) [] variables 0 sent can.each
    (record { each = All-nil (IsVariableOf shown); few = omega arith }) is in
    omega (arith, known.few, can.few)

pub ruleset made = (variables-are, variables-few)

-- ---- one part more, and none left

pub variables_from-turn : (content : Content) (found : List Variable) (sent : List Sent) (at : ℕ) (part : Sent)
    → at < length sent → part ≡ get_or sent at part
    → variables_from content found (drop at sent)
    ≡ (add_sent content found part >>= λ next. variables_from content next (drop (at + 1) sent))
unfolding variables_from
variables_from-turn content found sent at part within is =
    ap (variables_from content found)
    (drop_more sent at part within ∙ ap (λ (p : Sent). p ∷ drop (at + 1) sent) (sym is))

pub variables_from-done : (content : Content) (found : List Variable) (sent : List Sent) (at : ℕ) → length sent ≤ at
    → variables_from content found (drop at sent) ≡ Ok found
unfolding variables_from
variables_from-done content found sent at past = ap (variables_from content found) (drop_all at sent past)

pub ruleset turns = (variables_from-turn, variables_from-done)
