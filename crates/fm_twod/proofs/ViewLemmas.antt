-- A collection as it is laid out shows its two-dimensional view.
use Rattle.std.proofs.Common.{◌≡◌, ℕ, zero, suc, ◌+◌, ◌==◌, Bool, true, false, cond, List, [], ◌∷◌, ◌++◌, length, drop, Option, Some, None, Result, Ok, Err, ℤ, refl, ap, ap₂, subst, ◌∙◌}
use Rattle.std.specs.Prelude.{nat_lt, slice_get, slice_index}
use Rattle.std.specs.Int.{w32, cast_unsigned, from_be_bytes}
use Rattle.std.specs.List.{flat_map}
use Rattle.std.specs.Option.{option_map_or}
use Rattle.std.proofs.Math.Path.{fun_ext}
use Rattle.std.proofs.lemmas.Bool.{lt-ltb}
use Rattle.std.proofs.lemmas.Option.{slice_get_within}
use Rattle.nc_model.specs.Layout.{indices_of}
use Rattle.nc_model.specs.Pattern.{width_of}
use Rattle.fm_base.specs.Chain.{◌>>=◌}
use Rattle.fm_model.specs.declared.loaded.Loaded.{Loaded}
use Rattle.fm_model.specs.declared.proto.Proto.{Proto}
use Rattle.fm_model.specs.declared.proto.ProtoVar.{ProtoVar}
use Rattle.fm_model.specs.declared.row.Row.{Row}
use Rattle.fm_model.specs.declared.row.ViewName.TheVariants.{Best}
use Rattle.fm_model.specs.Attribute.{trimmed}
use Rattle.fm_model.specs.Cell.{runs_of}
use Rattle.fm_model.specs.Prototype.{lengths_of}
use Rattle.fm_model.specs.Rising.{rising}
use Rattle.fm_edition.specs.Held.{Held}
use Rattle.dap_model.specs.declared.declaration.Decl.{Decl}
use Rattle.dap_model.specs.declared.projection.Projected.{Projected}
use Rattle.fm_dataset.specs.Declarations.{is_axis_of}
use Rattle.fm_dataset.specs.Values.{axis_time, bits_of, characters, element_along, element_of, text_of_part, time_bits, var_bits, var_of_part, var_text, Shown}
use Rattle.dap_reply.specs.declared.fault.DapFault.{DapFault}
use Rattle.dap_reply.specs.declared.fault.DapFault.TheVariants.{TooLarge}
use Rattle.dap_reply.specs.Body.{projected_of, MAX_BODY}
use Rattle.dap_xdr.specs.Content.{Content}
use Rattle.fm_twod.specs.declared.asked.TwodAsk.{TwodAsk}
use Rattle.fm_twod.specs.Asked.{body_of, laid_with, some_laid, twod_of, within_limit}
use Rattle.fm_twod.specs.Cells.{cells_of, offsets_of, run_rows, runs_from}
use Rattle.fm_twod.specs.Declarations.{grid_decls, sides_of}
use Rattle.fm_twod.specs.Fill.{absent_bits}
use Rattle.fm_twod.specs.Grid.{added_by, all_offsets, as_bytes, bits_by, bytes_within, content_with, grid_by_run_and_offset, row_by, row_for, seconds_at, text_by, twod_body_of, twod_bytes}
use Rattle.fm_twod.specs.Laid.{added_bits, content_of, decls_in, grid_bits, grid_text, in_row, laid_of, number_at, number_by, run_bits, seconds_bits, timed_bits, timed_text, var_bits as laid_bits, var_text as laid_text, Laid}
use Rattle.fm_twod.specs.Parts.{bytes_of}
use Rattle.fm_twod.proofs.LaidLemmas.{length-runs_from, offsets-all}
use Rattle.fm_twod.proofs.FoundLemmas.{agree-at, Agree}

-- ---- a value of a row in a dataset is that in a dataset of the row alone

module _ (proto : Proto) (rows : List Row) (row : Row) (number : ℕ) (is : slice_get rows number ≡ Some row)
    (var : ProtoVar) (timed : var.timed ≡ true) where
  row-element : (rest : List ℕ) → element_of proto rows var (number ∷ rest) ≡ element_of proto (row ∷ []) var (0 ∷ rest)
  unfolding element_of element_along
  row-element rest = rw (timed, is) refl

  row-bits : (rest : List ℕ)
      → var_bits proto rows Best var (number ∷ rest) ≡ var_bits proto (row ∷ []) Best var (0 ∷ rest)
  unfolding var_bits time_bits
  row-bits rest = by_axis (is_axis_of proto var)
    where
      by_axis : (b : Bool) → cond b
          (option_map_or (λ r. cast_unsigned w32 (axis_time Best r)) (slice_get rows number) 0)
          (from_be_bytes (width_of var.kind) (element_of proto rows var (number ∷ rest)))
          ≡ cond b (cast_unsigned w32 (axis_time Best row))
          (from_be_bytes (width_of var.kind) (element_of proto (row ∷ []) var (0 ∷ rest)))
      by_axis true = rw is refl
      by_axis false = ap (from_be_bytes (width_of var.kind)) (row-element rest)

  row-text : (rest : List ℕ) → var_text proto rows var (number ∷ rest) ≡ var_text proto (row ∷ []) var (0 ∷ rest)
  unfolding characters
  row-text rest =
      let same : (λ (more : List ℕ). element_of proto rows var (number ∷ (rest ++ more)))
      ≡ (λ (more : List ℕ). element_of proto (row ∷ []) var (0 ∷ (rest ++ more))) =
      fun_ext (λ more. row-element (rest ++ more)) in
      ap (λ (element : List ℕ → List ℕ). trimmed (flat_map element
      (indices_of (drop (length (0 ∷ rest)) (lengths_of proto var.dims))))) same

-- the values of a variable's part
part-bits : (shown : Shown) (decl : ℕ) (var : ProtoVar) (index : List ℕ) → slice_get shown.proto.vars decl ≡ Some var
    → bits_of shown decl 0 index ≡ var_bits shown.proto shown.rows shown.view var index
unfolding bits_of var_of_part
part-bits shown decl var index is =
    let small : nat_lt decl (length shown.proto.vars) ≡ true =
    lt-ltb decl (length shown.proto.vars) (slice_get_within shown.proto.vars decl var is) in
    rw (small, is) refl

part-text : (shown : Shown) (decl : ℕ) (var : ProtoVar) (index : List ℕ) → slice_get shown.proto.vars decl ≡ Some var
    → text_of_part shown decl 0 index ≡ var_text shown.proto shown.rows var index
unfolding text_of_part var_of_part
part-text shown decl var index is = rw is refl

-- ---- the collection with all offsets

offsets-are : (files : List Loaded) → offsets_of (runs_from files 0 (runs_of files)) ≡ all_offsets files
unfolding offsets_of all_offsets cells_of
offsets-are files = ap rising (offsets-all files 0 (runs_of files))

abbrev shown_in : Proto → List Loaded → Shown
shown_in proto files = record { proto = proto; rows = cells_of files; view = Best; label = [] }

abbrev laid_by : Proto → List Loaded → Laid
laid_by proto files = record {
  cells = shown_in proto files;
  runs = runs_from files 0 (runs_of files);
  offsets = all_offsets files;
}

laid-are : (proto : Proto) (files : List Loaded) → laid_of proto files ≡ laid_by proto files
unfolding laid_of
laid-are proto files = ap (λ (offsets : List ℤ). record {
  cells = shown_in proto files;
  runs = runs_from files 0 (runs_of files);
  offsets = offsets;
}) (offsets-are files)

-- ---- its values

runs-bits : (files : List Loaded) (first : ℕ) (runs : List ℤ) (index : ℕ)
    → run_bits (runs_from files first runs) index ≡ seconds_at runs index
unfolding run_bits runs_from
runs-bits files first [] index = refl
runs-bits files first (run ∷ runs) zero = refl
runs-bits files first (run ∷ runs) (suc index) = runs-bits files (first + length (run_rows files run)) runs index

module _ (proto : Proto) (files : List Loaded) (index : List ℕ) where
  agrees : Agree (cells_of files) (number_at (laid_by proto files) index) (row_for files index)
  unfolding number_by row_by
  agrees = agree-at files (all_offsets files) (slice_index index 0) (slice_index index 1)

  module _ (decl : ℕ) (var : ProtoVar) (is : slice_get proto.vars decl ≡ Some var) where
    timed-bits : var.timed ≡ true → timed_bits (laid_by proto files) decl var index
        ≡ option_map_or (λ row. var_bits proto (row ∷ []) Best var (0 ∷ drop 2 index)) (row_for files index)
        (absent_bits proto var)
    unfolding timed_bits
    timed-bits timed = by_both (number_at (laid_by proto files) index) (row_for files index) agrees
      where
        by_both : (o : Option ℕ) (r : Option Row) → Agree (cells_of files) o r
            → option_map_or (λ number. bits_of (shown_in proto files) decl 0 (in_row number index)) o
            (absent_bits proto var)
            ≡ option_map_or (λ row. var_bits proto (row ∷ []) Best var (0 ∷ drop 2 index)) r (absent_bits proto var)
        by_both None None agree = refl
        by_both None (Some row) agree = absurd agree
        by_both (Some number) None agree = absurd agree
        by_both (Some number) (Some row) agree =
            part-bits (shown_in proto files) decl var (in_row number index) is
            ∙ row-bits proto (cells_of files) row number agree var timed (drop 2 index)

    timed-text : var.timed ≡ true → timed_text (laid_by proto files) decl index
        ≡ option_map_or (λ row. var_text proto (row ∷ []) var (0 ∷ drop 2 index)) (row_for files index) []
    unfolding timed_text
    timed-text timed = by_both (number_at (laid_by proto files) index) (row_for files index) agrees
      where
        by_both : (o : Option ℕ) (r : Option Row) → Agree (cells_of files) o r
            → option_map_or (λ number. text_of_part (shown_in proto files) decl 0 (in_row number index)) o []
            ≡ option_map_or (λ row. var_text proto (row ∷ []) var (0 ∷ drop 2 index)) r []
        by_both None None agree = refl
        by_both None (Some row) agree = absurd agree
        by_both (Some number) None agree = absurd agree
        by_both (Some number) (Some row) agree =
            part-text (shown_in proto files) decl var (in_row number index) is
            ∙ row-text proto (cells_of files) row number agree var timed (drop 2 index)

    some-bits : laid_bits (laid_by proto files) decl index var ≡ bits_by proto files index var
    unfolding laid_bits bits_by
    some-bits = by_time var.timed refl
      where
        by_time : (b : Bool) → var.timed ≡ b
            → cond b (timed_bits (laid_by proto files) decl var index) (bits_of (shown_in proto files) decl 0 index)
            ≡ cond b (option_map_or (λ row. var_bits proto (row ∷ []) Best var (0 ∷ drop 2 index))
            (row_for files index) (absent_bits proto var)) (var_bits proto (cells_of files) Best var index)
        by_time true timed = timed-bits timed
        by_time false untimed = part-bits (shown_in proto files) decl var index is

    some-text : laid_text (laid_by proto files) decl index var ≡ text_by proto files index var
    unfolding laid_text text_by
    some-text = by_time var.timed refl
      where
        by_time : (b : Bool) → var.timed ≡ b
            → cond b (timed_text (laid_by proto files) decl index) (text_of_part (shown_in proto files) decl 0 index)
            ≡ cond b (option_map_or (λ row. var_text proto (row ∷ []) var (0 ∷ drop 2 index))
            (row_for files index) []) (var_text proto (cells_of files) var index)
        by_time true timed = timed-text timed
        by_time false untimed = part-text (shown_in proto files) decl var index is

  added-are : (decl : ℕ) → added_bits (laid_by proto files) decl index ≡ added_by proto files decl index
  unfolding added_bits seconds_bits
  added-are decl = ap (λ (bits : ℕ). cond (decl == length proto.vars) bits
      (seconds_at (all_offsets files) (slice_index index 0)))
      (runs-bits files 0 (runs_of files) (slice_index index 0))

  bits-at : (decl part : ℕ) → grid_bits (laid_by proto files) decl part index
      ≡ option_map_or (bits_by proto files index) (slice_get proto.vars decl) (added_by proto files decl index)
  unfolding grid_bits
  bits-at decl part = by_var (slice_get proto.vars decl) refl
    where
      by_var : (o : Option ProtoVar) → slice_get proto.vars decl ≡ o
          → option_map_or (laid_bits (laid_by proto files) decl index) o (added_bits (laid_by proto files) decl index)
          ≡ option_map_or (bits_by proto files index) o (added_by proto files decl index)
      by_var None is = added-are decl
      by_var (Some var) is = some-bits decl var is

  text-at : (decl part : ℕ) → grid_text (laid_by proto files) decl part index
      ≡ option_map_or (text_by proto files index) (slice_get proto.vars decl) []
  unfolding grid_text
  text-at decl part = by_var (slice_get proto.vars decl) refl
    where
      by_var : (o : Option ProtoVar) → slice_get proto.vars decl ≡ o
          → option_map_or (laid_text (laid_by proto files) decl index) o []
          ≡ option_map_or (text_by proto files index) o []
      by_var None is = refl
      by_var (Some var) is = some-text decl var is

-- ---- the whole

abbrev content : List Decl → (ℕ → ℕ → List ℕ → ℕ) → (ℕ → ℕ → List ℕ → List ℕ) → Content
content decls bits text = record { decls = decls; bits = bits; text = text }

pub content-are : (proto : Proto) (files : List Loaded)
    → content_of (laid_of proto files) ≡ grid_by_run_and_offset proto files
unfolding grid_by_run_and_offset
content-are proto files =
    let whole : Laid = laid_by proto files in
    let declared : ℕ → List Decl =
    λ runs. grid_decls (sides_of proto runs (length (all_offsets files))) proto (length (cells_of files)) in
    let decls_are : decls_in whole ≡ declared (length (runs_of files)) =
    ap declared (length-runs_from files 0 (runs_of files)) in
    let bits : ℕ → ℕ → List ℕ → ℕ = λ decl part index.
    option_map_or (bits_by proto files index) (slice_get proto.vars decl) (added_by proto files decl index) in
    let text : ℕ → ℕ → List ℕ → List ℕ = λ decl part index.
    option_map_or (text_by proto files index) (slice_get proto.vars decl) [] in
    let bits_are : grid_bits whole ≡ bits =
    fun_ext (λ decl. fun_ext (λ part. fun_ext (λ index. bits-at proto files index decl part))) in
    let text_are : grid_text whole ≡ text =
    fun_ext (λ decl. fun_ext (λ part. fun_ext (λ index. text-at proto files index decl part))) in
    ap content_of (laid-are proto files)
    ∙ ap₂ (λ (d : List Decl) (b : ℕ → ℕ → List ℕ → ℕ). content d b (grid_text whole)) decls_are bits_are
    ∙ ap (λ (t : ℕ → ℕ → List ℕ → List ℕ). content (declared (length (runs_of files))) bits t) text_are

-- a body within the limit has its bytes within the limit
within-are : (with_values : Bool) (proto : Proto) (files : List Loaded) (projected : Projected)
    → as_bytes (within_limit (body_of with_values (laid_of proto files) projected))
    ≡ bytes_within (twod_bytes with_values proto (content_of (laid_of proto files)) projected)
unfolding within_limit bytes_within bytes_of body_of twod_bytes laid_of
within-are with_values proto files projected =
    by_test (nat_lt MAX_BODY (length (twod_bytes with_values proto (content_of (laid_of proto files)) projected)))
  where
    by_test : (b : Bool) → as_bytes (cond b
        (Err (TooLarge (length (bytes_of (body_of with_values (laid_of proto files) projected))) MAX_BODY))
        (Ok (body_of with_values (laid_of proto files) projected)))
        ≡ cond b
        (Err (TooLarge (length (twod_bytes with_values proto (content_of (laid_of proto files)) projected)) MAX_BODY))
        (Ok (twod_bytes with_values proto (content_of (laid_of proto files)) projected))
    by_test true = refl
    by_test false = refl

pub bytes-are : (held : Held) (ask : TwodAsk) → as_bytes (twod_of held ask)
    ≡ twod_body_of held.proto held.files ask.with_values ask.constraint
unfolding twod_of twod_body_of some_laid
bytes-are held ask = by_rows (cells_of held.files)
  where
    by_projected : (p : Result Projected DapFault) → as_bytes
        (p >>= (λ projected. within_limit (body_of ask.with_values (laid_of held.proto held.files) projected)))
        ≡ (p >>= (λ projected. bytes_within
        (twod_bytes ask.with_values held.proto (content_of (laid_of held.proto held.files)) projected)))
    by_projected (Ok projected) = within-are ask.with_values held.proto held.files projected
    by_projected (Err fault) = refl

    by_rows : (rows : List Row) → as_bytes (laid_with held.proto held.files rows >>= (λ laid.
        projected_of (decls_in laid) ask.constraint >>= (λ projected.
        within_limit (body_of ask.with_values laid projected))))
        ≡ (content_with held.proto held.files rows >>= (λ content.
        projected_of content.decls ask.constraint >>= (λ projected.
        bytes_within (twod_bytes ask.with_values held.proto content projected))))
    by_rows [] = refl
    by_rows (row ∷ others) =
        subst (λ (shown : Content). as_bytes (projected_of (decls_in (laid_of held.proto held.files)) ask.constraint
        >>= (λ projected. within_limit (body_of ask.with_values (laid_of held.proto held.files) projected)))
        ≡ (projected_of shown.decls ask.constraint >>= (λ projected.
        bytes_within (twod_bytes ask.with_values held.proto shown projected))))
        (content-are held.proto held.files)
        (by_projected (projected_of (decls_in (laid_of held.proto held.files)) ask.constraint))
