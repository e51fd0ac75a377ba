-- What is read is spelled, what is spelled is read, and where there is a fault no header is spelled.
use Rattle.nc_model.proofs.HeaderLaws.{HeaderOf-from_read, read-from_HeaderOf, HeaderOf-unique}
use Rattle.nc_header.proofs.AnswerLemmas.{Answers-from_Reads, IsReadAs-from_HeaderOf, HasNoHeader-from_fault}
use Rattle.nc_header.proofs.header.read_header.Goals as goal

pub returns-clause-read : goal.returns-clause-read
returns-clause-read c =
    IsReadAs-from_HeaderOf c.args.bytes.now c.read_fields.result
    (Answers-from_Reads _ _ _ _ c.new-reader.ensures c.read_fields.ensures)

pub returns-clause-refused : goal.returns-clause-refused
returns-clause-refused c =
    HasNoHeader-from_fault c.args.bytes.now c.read_fields.result
    (Answers-from_Reads _ _ _ _ c.new-reader.ensures c.read_fields.ensures)

pub returns-clause-one : goal.returns-clause-one
returns-clause-one c = λ h other spelled also. HeaderOf-unique spelled also

pub returns-clause-stands : goal.returns-clause-stands
returns-clause-stands c = λ h.
    (read-from_HeaderOf c.args.bytes.now h, HeaderOf-from_read c.args.bytes.now h (λ i. (c.type_inv.bytes i).fits))
