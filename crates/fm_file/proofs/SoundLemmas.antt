-- How reading a sound file ends, by the results of its two parts.
use Rattle.std.proofs.Common.{◌≡◌, ℕ, List, length, Some, Result, Ok, Err, refl, sym, ap, subst, ◌∙◌}
use Rattle.std.specs.Result.{IsErrAnd}
use Rattle.fm_base.specs.Answer.{Answers, AnswersAs, ForFault, Renames}
use Rattle.fm_base.specs.declared.fail.Fail.{Fail}
use Rattle.fm_base.specs.declared.fail.Fail.TheVariants as fails
use Rattle.nc_model.specs.declared.fault.FormatFault.{FormatFault}
use Rattle.nc_model.specs.declared.fault.FormatFault.TheVariants.{OfHeader, OfLayout}
use Rattle.nc_model.specs.declared.fault.HeaderFault.{HeaderFault}
use Rattle.nc_model.specs.declared.fault.LayoutFault.{LayoutFault}
use Rattle.nc_model.specs.declared.header.Header.{Header}
use Rattle.nc_model.specs.Layout.{layout_fault}
use Rattle.nc_model.specs.Reading.{header_or_fault}
use Rattle.nc_model.specs.Sound.{sound_header}
use Rattle.nc_layout.specs.Faults.{layout_or_fault}
use Rattle.nc_layout.specs.LaidOut.{LaidOut}
use Rattle.nc_layout.proofs.ReadLemmas.{layout_fault-none, layout_fault-some}

-- what holds of each fault holds of a result's
pub ForFault-all : {A E : Type 0} (P : E → Type 0) (r : Result A (Fail E)) → ((fault : E) → P fault) → ForFault r P
ForFault-all P (Ok value) all = tt
ForFault-all P (Err fails.NoMemory) all = tt
ForFault-all P (Err (fails.Fault fault)) all = all fault

-- what is a value in the words of the chain was that value before
pub ok-before : {A D E : Type 0} (names : D → E → Type 0) (r : Result A (Fail D)) (later : Result A (Fail E))
    (value : A) → Renames names r later → later ≡ Ok value → r ≡ Ok value
ok-before names (Ok found) later value renames is = let same : found ≡ value = cc in ap Ok same
ok-before names (Err fails.NoMemory) later value renames is = absurd cc
ok-before names (Err (fails.Fault fault)) (Ok found) value renames is = absurd renames
ok-before names (Err (fails.Fault fault)) (Err fails.NoMemory) value renames is = absurd renames
ok-before names (Err (fails.Fault fault)) (Err (fails.Fault said)) value renames is = absurd cc

-- an error that is passed on
pub passed-on : {X : Type 0} (view : X → Header) (outcome : Result Header FormatFault)
    (last : Result X (Fail FormatFault)) (gives : Fail FormatFault → Type 0) (fail : Fail FormatFault)
    → IsErrAnd last gives → ((given : Fail FormatFault) → gives given → given ≡ fail)
    → Answers outcome (Err fail) → AnswersAs view outcome last
passed-on view outcome (Ok value) gives fail is same answers = absurd is
passed-on view outcome (Err fails.NoMemory) gives fail is same answers = tt
passed-on view outcome (Err (fails.Fault fault)) gives fail is same answers =
    subst (λ e. Answers outcome (Err e)) (sym (same (fails.Fault fault) is)) answers

-- a header with a fault
pub header-refused : (names : HeaderFault → FormatFault → Type 0) (bytes : List ℕ)
    (r : Result Header (Fail HeaderFault)) (later : Result Header (Fail FormatFault)) (fail : Fail FormatFault)
    → ((fault : HeaderFault) (said : FormatFault) → names fault said → said ≡ OfHeader fault)
    → Answers (header_or_fault bytes) r → Renames names r later → later ≡ Err fail
    → Answers (sound_header bytes) (Err fail)
unfolding sound_header
header-refused names bytes (Ok found) later fail name exact renames is = absurd cc
header-refused names bytes (Err fails.NoMemory) later fails.NoMemory name exact renames is = tt
header-refused names bytes (Err fails.NoMemory) later (fails.Fault said) name exact renames is = absurd cc
header-refused names bytes (Err (fails.Fault fault)) (Ok found) fail name exact renames is = absurd renames
header-refused names bytes (Err (fails.Fault fault)) (Err fails.NoMemory) fail name exact renames is =
    absurd renames
header-refused names bytes (Err (fails.Fault fault)) (Err (fails.Fault said)) fails.NoMemory name exact renames
    is = tt
header-refused names bytes (Err (fails.Fault fault)) (Err (fails.Fault said)) (fails.Fault last) name exact renames
    is =
    let same : said ≡ last = cc in rw exact (ap Err (sym (name fault said renames) ∙ same))

-- data with one
pub layout-refused : (names : LayoutFault → FormatFault → Type 0) (bytes : List ℕ)
    (header : Header) (r : Result LaidOut (Fail LayoutFault)) (later : Result LaidOut (Fail FormatFault))
    (fail : Fail FormatFault)
    → ((fault : LayoutFault) (said : FormatFault) → names fault said → said ≡ OfLayout fault)
    → header_or_fault bytes ≡ Ok header → Answers (layout_or_fault header (length bytes)) r → Renames names r later
    → later ≡ Err fail → Answers (sound_header bytes) (Err fail)
unfolding sound_header
layout-refused names bytes header (Ok found) later fail name read exact renames is = absurd cc
layout-refused names bytes header (Err fails.NoMemory) later fails.NoMemory name read exact renames is = tt
layout-refused names bytes header (Err fails.NoMemory) later (fails.Fault said) name read exact renames is =
    absurd cc
layout-refused names bytes header (Err (fails.Fault fault)) (Ok found) fail name read exact renames is =
    absurd renames
layout-refused names bytes header (Err (fails.Fault fault)) (Err fails.NoMemory) fail name read exact renames is =
    absurd renames
layout-refused names bytes header (Err (fails.Fault fault)) (Err (fails.Fault said)) fails.NoMemory name read exact
    renames is = tt
layout-refused names bytes header (Err (fails.Fault fault)) (Err (fails.Fault said)) (fails.Fault last) name
    read exact renames is =
    let same : said ≡ last = cc in
    let of : layout_fault header (length bytes) ≡ Some fault = layout_fault-some header (length bytes) fault exact in
    rw (read, of) (ap Err (sym (name fault said renames) ∙ same))

-- a file without a fault
pub header-sound : (bytes : List ℕ) (header : Header) (laid : LaidOut) → header_or_fault bytes ≡ Ok header
    → layout_or_fault header (length bytes) ≡ Ok laid → sound_header bytes ≡ Ok header
unfolding sound_header
header-sound bytes header laid read exact = rw (read, layout_fault-none header (length bytes) laid exact) refl
