-- Bytes that spell a header are read as that header, and a fault means that they spell none.
use Rattle.std.proofs.Common.{◌≡◌, List, ℕ, Result, Ok, Err, refl, sym, ◌∙◌}
use Rattle.fm_base.specs.declared.fail.Fail.{Fail}
use Rattle.fm_base.specs.declared.fail.Fail.TheVariants as fails
use Rattle.nc_model.specs.declared.fault.HeaderFault.{HeaderFault}
use Rattle.nc_model.specs.declared.header.Header.{Header}
use Rattle.nc_model.specs.Reading.{Reads, header_at, header_or_fault}
use Rattle.fm_base.specs.Input.{Input, whole}
use Rattle.nc_model.specs.Spelling.{HeaderOf}
use Rattle.nc_model.proofs.HeaderLaws.{read-from_HeaderOf}
use Rattle.fm_base.specs.Answer.{Answers, IsReadAs, OnFault}
use Rattle.nc_header.specs.NoHeader.{HasNoHeader}

-- what reading all fields returns is the outcome of the definition
pub Answers-from_Reads : (bytes : List ℕ) (i left : Input) (r : Result Header (Fail HeaderFault)) → i ≡ whole bytes
    → Reads (λ (h : Header). h) (header_at i) r left → Answers (header_or_fault bytes) r
unfolding header_or_fault
Answers-from_Reads bytes i left (Ok found) start e = rw (← start, e) refl
Answers-from_Reads bytes i left (Err fails.NoMemory) start e = tt
Answers-from_Reads bytes i left (Err (fails.Fault fault)) start e = rw (← start, e) refl

-- what is spelled so is read
pub IsReadAs-from_HeaderOf : (bytes : List ℕ) (r : Result Header (Fail HeaderFault)) → Answers (header_or_fault bytes) r
    → (h : Header) → HeaderOf bytes h → IsReadAs h r
IsReadAs-from_HeaderOf bytes (Ok found) e h spelled = let same = sym e ∙ read-from_HeaderOf bytes h spelled in cc
IsReadAs-from_HeaderOf bytes (Err fails.NoMemory) e h spelled = refl
IsReadAs-from_HeaderOf bytes (Err (fails.Fault fault)) e h spelled = let same = sym e
    ∙ read-from_HeaderOf bytes h spelled in absurd cc

-- a fault is answered only where no header is spelled
pub HasNoHeader-from_fault : (bytes : List ℕ) (r : Result Header (Fail HeaderFault)) → Answers (header_or_fault bytes) r
    → OnFault r (HasNoHeader bytes)
HasNoHeader-from_fault bytes (Ok found) e = tt
HasNoHeader-from_fault bytes (Err fails.NoMemory) e = tt
HasNoHeader-from_fault bytes (Err (fails.Fault fault)) e = λ h spelled. let same = sym e
    ∙ read-from_HeaderOf bytes h spelled in cc
