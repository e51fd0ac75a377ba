-- A file keeps what is asked of its variables.
use Rattle.std.proofs.Common.{◌≤◌, ◌++◌, ℕ, List, length, drop, subst, sym, ap₂}
use Rattle.dap_number.specs.Overlay.{IsPut}
use Rattle.nc_writer.specs.declared.variable.Variable.{Variable}
use Rattle.nc_writer.specs.File.{all_data, bytes_of, File}
use Rattle.nc_writer.proofs.LimitLemmas.{asked-of, offset-small}
use Rattle.nc_writer.proofs.file.NcFile.piece.Goals as goal

pub put_file-requires : goal.put_file-requires
put_file-requires c =
    let asked = asked-of _ c.self.inside.len c.as_slice-2.result.now c.self.invariant c.as_slice-2.ensures in
    record {
      each = asked.each;
      small = asked.small;
      from = offset-small _ c.self.inside.len c.args.from c.self.invariant
          (subst (λ (file : File). c.args.from ≤ length (bytes_of file)) (sym c.self.view_is) c.requires);
    }

pub returns : goal.returns
unfolding bytes_of
returns c =
    subst (λ (file : File). IsPut (drop c.args.from (bytes_of file)) c.args.out.now c.put_file.new.out
    c.put_file.result) c.self.view_is
    (subst (λ (l : List ℕ). IsPut (drop c.args.from l) c.args.out.now c.put_file.new.out c.put_file.result)
    (ap₂ (λ (front : List ℕ) (variables : List Variable).
    front ++ all_data c.self.inside.source.now variables)
    c.as_slice.ensures c.as_slice-2.ensures)
    c.put_file.ensures)
