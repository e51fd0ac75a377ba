-- The parts so far are laid, each of fewer than 2^98 bytes.
use Rattle.std.proofs.Common.{◌≡◌, ◌≤◌, ◌*◌, ◌^◌, length}
use Rattle.dap_xdr.specs.Datasets.{content_of}
use Rattle.dap_plan.specs.Laid.{AreBegins, AreMarked}
use Rattle.dap_plan.proofs.DataLemmas.{data_before}
use Rattle.dap_plan.proofs.laid.lay_out.Given as goal

abbrev pub invariant-loop-part : goal.invariant-loop-part
invariant-loop-part l = record {
  len_is : l.len ≡ length (data_before (content_of l.source) l.sent l.part-index);
  few : l.len ≤ l.part-index * 2 ^ 98;
  within : l.part-index ≤ length l.sent;
  count : length l.begins ≡ l.part-index;
  begins_are : AreBegins l.source l.sent l.begins;
  marks_are : AreMarked l.source l.sent l.marks;
}
