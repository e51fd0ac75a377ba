-- Each text of a two-dimensional view is short.
use Rattle.std.proofs.Common.{◌≡◌, ℕ, ◌^◌, ◌<◌, Bool, true, false, cond, List, [], length, Option, Some, None, refl, arith}
use Rattle.std.specs.Prelude.{slice_get, IsSomeAnd}
use Rattle.std.specs.Option.{option_map_or}
use Rattle.fm_model.specs.declared.proto.ProtoVar.{ProtoVar}
use Rattle.dap_model.specs.declared.declaration.DapKind.TheVariants.{Text}
use Rattle.dap_model.specs.declared.declaration.Decl.{Decl}
use Rattle.fm_dataset.specs.Declarations.{kind_in}
use Rattle.fm_dataset.specs.Values.{text_of_part, HasTextAt}
use Rattle.dap_xdr.specs.Content.{array_in}
use Rattle.dap_xdr.proofs.DatasetLemmas.{short}
use Rattle.fm_twod.specs.Laid.{decls_in, grid_text, in_row, number_at, timed_text, var_text, HasIndex, IsGrid, Laid}
use Rattle.fm_twod.proofs.GridLemmas.{cell-text, text-asked, whole-text}
use Rattle.fm_twod.proofs.LookupLemmas.{number-within}

timed-short : (laid : Laid) (decls : List Decl) (decl : ℕ) (var : ProtoVar) (index : List ℕ) → IsGrid laid decls
    → HasIndex laid decl var index → var.timed ≡ true → kind_in laid.cells.proto var ≡ Text
    → length (timed_text laid decl index) < 2 ^ 32
unfolding timed_text
timed-short laid decls decl var index grid has timed kind = by_number (number_at laid index) refl
  where
    by_number : (o : Option ℕ) → number_at laid index ≡ o
        → length (option_map_or (λ number. text_of_part laid.cells decl 0 (in_row number index)) o []) < 2 ^ 32
    by_number None is = omega arith
    by_number (Some number) is = short laid.cells decl 0 (in_row number index) grid.given grid.rows_are
        (cell-text laid decl var index number has timed kind (number-within laid decls index number grid is))

var-short : (laid : Laid) (decls : List Decl) (decl : ℕ) (var : ProtoVar) (index : List ℕ) → IsGrid laid decls
    → HasIndex laid decl var index → kind_in laid.cells.proto var ≡ Text
    → length (var_text laid decl index var) < 2 ^ 32
unfolding var_text
var-short laid decls decl var index grid has kind = by_time var.timed refl
  where
    by_time : (b : Bool) → var.timed ≡ b
        → length (cond b (timed_text laid decl index) (text_of_part laid.cells decl 0 index)) < 2 ^ 32
    by_time true timed = timed-short laid decls decl var index grid has timed kind
    by_time false untimed = short laid.cells decl 0 index grid.given grid.rows_are
        (whole-text laid decl var index has untimed kind)

pub grid-short : (laid : Laid) (decls : List Decl) (decl part : ℕ) (index : List ℕ) → IsGrid laid decls
    → IsSomeAnd (array_in (decls_in laid) decl part) (HasTextAt index)
    → length (grid_text laid decl part index) < 2 ^ 32
unfolding grid_text
grid-short laid decls decl part index grid has = by_var (slice_get laid.cells.proto.vars decl) refl
  where
    by_var : (o : Option ProtoVar) → slice_get laid.cells.proto.vars decl ≡ o
        → length (option_map_or (var_text laid decl index) o []) < 2 ^ 32
    by_var None is = omega arith
    by_var (Some var) is =
        let asked = text-asked laid decl part index var has is in
        var-short laid decls decl var index grid asked.0 asked.1
