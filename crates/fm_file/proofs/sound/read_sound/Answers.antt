-- A header that was read can be laid out, and the first fault of the two parts is that of the file.
use Rattle.std.proofs.Common.{◌≡◌, refl, subst}
use Rattle.std.specs.Prelude.{IfOk, length}
use Rattle.fm_base.specs.Answer.{Answers}
use Rattle.nc_model.specs.Reading.{header_or_fault}
use Rattle.nc_model.specs.Spelling.{HeaderOf}
use Rattle.nc_layout.specs.Faults.{layout_or_fault}
use Rattle.nc_layout.specs.LaidOut.{LaidOut}
use Rattle.nc_layout.proofs.ReadLemmas.{CanLayOut-from_HeaderOf, layout_fault-none}
use Rattle.fm_file.proofs.SizeLemmas.{record_size-small}
use Rattle.fm_file.proofs.SoundLemmas.{ForFault-all, header-refused, header-sound, layout-refused, ok-before, passed-on}
use Rattle.fm_file.proofs.sound.read_sound.Goals as goal

pub fault_as-requires : goal.fault_as-requires
fault_as-requires c = ForFault-all _ _ (λ fault. tt)

pub returns-in_err-header-clause-sound : goal.returns-in_err-header-clause-sound
returns-in_err-header-clause-sound c =
    passed-on _ _ c.from_residual.result _ c.in_err-header.field-0.0 c.from_residual.ensures.1 (λ given is. is)
    (header-refused _ c.args.bytes.now c.read_header.result c.fault_as.result _ (λ fault said is. is)
    c.read_header.ensures.exact c.fault_as.ensures c.in_err-header.was)

pub lay_out-requires : goal.lay_out-requires
lay_out-requires c = CanLayOut-from_HeaderOf (subst (λ r. IfOk r (HeaderOf c.args.bytes.now))
    (ok-before _ c.read_header.result c.fault_as.result c.in_ok-header.header c.fault_as.ensures c.in_ok-header.was)
    c.read_header.ensures.spelled)

pub fault_as-requires-2 : goal.fault_as-requires-2
fault_as-requires-2 c = ForFault-all _ _ (λ fault. tt)

pub returns-in_err-layout-clause-sound : goal.returns-in_err-layout-clause-sound
returns-in_err-layout-clause-sound c =
    let read = ok-before _ c.read_header.result c.fault_as.result c.in_ok-header.header c.fault_as.ensures
    c.in_ok-header.was in
    passed-on _ _ c.from_residual-in_err-layout.result _ c.in_err-layout.field-0.0
    c.from_residual-in_err-layout.ensures.1 (λ given is. is)
    (layout-refused _ c.args.bytes.now c.in_ok-header.header c.lay_out.result c.fault_as-2.result _
    (λ fault said is. is) (subst (Answers (header_or_fault c.args.bytes.now)) read c.read_header.ensures.exact)
    c.lay_out.ensures.exact c.fault_as-2.ensures c.in_err-layout.was)

pub returns-clause-sound : goal.returns-clause-sound
returns-clause-sound c =
    let bytes = c.args.bytes.now in
    let header = c.in_ok-header.header in
    let read = ok-before _ c.read_header.result c.fault_as.result header c.fault_as.ensures c.in_ok-header.was in
    let laid = ok-before _ c.lay_out.result c.fault_as-2.result c.in_ok-layout.layout c.fault_as-2.ensures
    c.in_ok-layout.was in
    let same : c.in_ok-layout.layout.header ≡ header =
    subst (λ r. IfOk r (λ (layout : LaidOut). layout.header ≡ header)) laid c.lay_out.ensures.header in
    rw (c.new.ensures, same)
    (header-sound bytes header c.in_ok-layout.layout
    (subst (Answers (header_or_fault bytes)) read c.read_header.ensures.exact)
    (subst (Answers (layout_or_fault header (length bytes))) laid c.lay_out.ensures.exact))

pub returns-clause-bytes : goal.returns-clause-bytes
returns-clause-bytes c = rw c.new.ensures refl

pub returns-clause-len : goal.returns-clause-len
returns-clause-len c =
    let laid = ok-before _ c.lay_out.result c.fault_as-2.result c.in_ok-layout.layout c.fault_as-2.ensures
    c.in_ok-layout.was in
    rw c.new.ensures
    (subst (λ r. IfOk r (λ (layout : LaidOut). layout.len ≡ length c.args.bytes.now)) laid c.lay_out.ensures.len)

pub returns-clause-small : goal.returns-clause-small
returns-clause-small c short =
    let bytes = c.args.bytes.now in
    let header = c.in_ok-header.header in
    let read = ok-before _ c.read_header.result c.fault_as.result header c.fault_as.ensures c.in_ok-header.was in
    let laid = ok-before _ c.lay_out.result c.fault_as-2.result c.in_ok-layout.layout c.fault_as-2.ensures
    c.in_ok-layout.was in
    let same : c.in_ok-layout.layout.header ≡ header =
    subst (λ r. IfOk r (λ (layout : LaidOut). layout.header ≡ header)) laid c.lay_out.ensures.header in
    let exact = subst (Answers (layout_or_fault header (length bytes))) laid c.lay_out.ensures.exact in
    rw (c.new.ensures, same)
    (record_size-small bytes header (subst (λ r. IfOk r (HeaderOf bytes)) read c.read_header.ensures.spelled)
    (layout_fault-none header (length bytes) c.in_ok-layout.layout exact) short)
