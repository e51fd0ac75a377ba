-- What is read as a header is spelled so, what is spelled so is read as that header, and so bytes have one at most.
use Rattle.std.proofs.Common.{◌≡◌, List, ℕ, Ok, sym, ap, ◌∙◌}
use Rattle.nc_model.specs.declared.fault.HeaderFault.{HeaderFault}
use Rattle.nc_model.specs.declared.header.Header.{Header}
use Rattle.nc_model.specs.Format.{IsBytes}
use Rattle.fm_base.specs.Input.{whole}
use Rattle.nc_model.specs.Reading.{header_at, header_or_fault}
use Rattle.nc_model.specs.Spelling.{HeaderOf}
use Rattle.nc_model.proofs.HeaderParts.{Exact-header_at}
use Rattle.nc_model.proofs.ReadFacts.{value_of-ok}
use Rattle.fm_base.specs.Parser.{Outcome, value_of}

-- what is read as a header is spelled so
pub HeaderOf-from_read : (bytes : List ℕ) (h : Header) → IsBytes bytes → header_or_fault bytes ≡ Ok h → HeaderOf bytes h
unfolding header_or_fault
HeaderOf-from_read bytes h fits e =
    let read = value_of-ok (header_at (whole bytes)) h e in
    let took = Exact-header_at.takes (whole bytes) h read.0 fits read.1 in
    record {
      text = took.text;
      rest = read.0.rest;
      spelled = took.spelled.spelled;
      sound = took.spelled.holds;
      split =
          took.split;
    }

-- what is spelled so is read as that header
pub read-from_HeaderOf : (bytes : List ℕ) (h : Header) → HeaderOf bytes h → header_or_fault bytes ≡ Ok h
unfolding header_or_fault
read-from_HeaderOf bytes h s =
    let read = Exact-header_at.again 0 s.text s.rest h (record { spelled = s.spelled; holds = s.sound }) tt in
    ap (λ (l : List ℕ). value_of (header_at (whole l))) s.split
    ∙ ap (λ (r : Outcome Header HeaderFault). value_of r) read

-- bytes begin with a spelling of one header at most
pub HeaderOf-unique : {bytes : List ℕ} {h k : Header} → HeaderOf bytes h → HeaderOf bytes k → h ≡ k
HeaderOf-unique {bytes} {h} {k} one other = let same = sym (read-from_HeaderOf bytes h one)
    ∙ read-from_HeaderOf bytes k other in cc

-- the first two laws, to be named in an attribute
pub ruleset header_laws = (HeaderOf-from_read, read-from_HeaderOf)
