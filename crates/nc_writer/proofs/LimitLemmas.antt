-- A file within the limit, and one over it.
use Rattle.std.proofs.Common.{◌≡◌, ℕ, ◌+◌, ◌^◌, ◌<◌, ◌≤◌, List, length, All, Ok, Err, ap, sym, subst, ◌∙◌, arith}
use Rattle.std.specs.List.{sum_by}
use Rattle.std.proofs.lemmas.Bool.{cond-false, cond-true, le-ltb, lt-ltb}
use Rattle.std.proofs.lemmas.List.{length-append}
use Rattle.fm_model.specs.declared.limit.TheConstants.{MAX_FILE_BYTES}
use Rattle.nc_writer.specs.declared.fault.WriteFault.TheVariants.{FileTooLong}
use Rattle.nc_writer.specs.declared.variable.Variable.{Variable}
use Rattle.nc_writer.specs.Data.{data_len}
use Rattle.nc_writer.specs.Facts.{IsFile, IsVariableOf}
use Rattle.nc_writer.specs.File.{all_data, bytes_of, within_limit, File}
use Rattle.nc_writer.proofs.LenLemmas.{length-all}

-- how many bytes a file has, by those of its header and of its data
pub file-len : (file : File) (behind begin : ℕ) → behind ≡ sum_by data_len file.variables → begin ≡ length file.front
    → behind + begin ≡ length (bytes_of file)
unfolding bytes_of
file-len file behind begin is first = omega (
  arith,
  is,
  first,
  length-append file.front (all_data file.shown file.variables),
  length-all file.shown file.variables,
)

pub under : (file : File) (behind begin : ℕ) → behind ≡ sum_by data_len file.variables → begin ≡ length file.front
    → behind + begin ≤ MAX_FILE_BYTES → within_limit file ≡ Ok file
unfolding within_limit
under file behind begin is first few =
    cond-false _ _ _ (le-ltb MAX_FILE_BYTES (length (bytes_of file))
    (subst (λ (n : ℕ). n ≤ MAX_FILE_BYTES) (file-len file behind begin is first) few))

pub over : (file : File) (behind begin : ℕ) → behind ≡ sum_by data_len file.variables → begin ≡ length file.front
    → MAX_FILE_BYTES < behind + begin → within_limit file ≡ Err (FileTooLong (behind + begin) MAX_FILE_BYTES)
unfolding within_limit
over file behind begin is first many =
    let len = file-len file behind begin is first in
    cond-true _ _ _ (lt-ltb MAX_FILE_BYTES (length (bytes_of file))
    (subst (λ (n : ℕ). MAX_FILE_BYTES < n) len many))
    ∙ ap (λ (n : ℕ). Err (FileTooLong n MAX_FILE_BYTES)) (sym len)

-- what a file keeps, as writing it asks
pub record Asked (file : File) (variables : List Variable) : Type 0 where
  pub each : All (IsVariableOf file.shown) variables
  pub small : length (all_data file.shown variables) < 2 ^ 63

pub asked-of : (file : File) (len : ℕ) (variables : List Variable) → IsFile file len
    → variables ≡ file.variables → Asked file variables
unfolding bytes_of
asked-of file len variables is same =
    let whole = length-append file.front (all_data file.shown file.variables) in
    subst (Asked file) (sym same) (record { each = is.each; small = omega (arith, whole, is.len_is, is.few) })

-- an offset in a file is small
pub offset-small : (file : File) (len from : ℕ) → IsFile file len → from ≤ length (bytes_of file) → from < 2 ^ 63
offset-small file len from is within = omega (arith, within, is.len_is, is.few)
