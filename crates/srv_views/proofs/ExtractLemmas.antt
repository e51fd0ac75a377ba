-- A view that is written as a netCDF file, and how it is delivered.
use Rattle.std.proofs.Common.{◌≡◌, ℕ, Result, Ok, Err, ap}
use Rattle.fm_base.specs.Chain.{fault_as}
use Rattle.fm_edition.specs.Held.{Held}
use Rattle.fm_edition.specs.Log.{held_of}
use Rattle.dev_traits.specs.Shown.{LinkShown}
use Rattle.pub_look.specs.History.{History}
use Rattle.dap_reply.specs.declared.fault.DapFault.{DapFault}
use Rattle.dap_reply.specs.Fault.{fault_code}
use Rattle.nc_writer.specs.declared.fault.WriteFault.{WriteFault}
use Rattle.nc_writer.specs.Code.{write_code}
use Rattle.nc_writer.specs.File.{bytes_of, File, netcdf_of}
use Rattle.srv_alone.specs.declared.end.End.{End}
use Rattle.srv_alone.specs.declared.end.End.TheVariants.{Refused}
use Rattle.srv_views.specs.declared.picked.ExtractAsk.{ExtractAsk}
use Rattle.srv_views.specs.Extract.{extract_bytes, file_bytes, Pick, picked_in, picked_of}
use Rattle.srv_views.specs.Sending.{Delivers}
use Rattle.srv_views.proofs.ViewLemmas.{answered, refused-by, sent-next}

pub extract-asked : (ask : ExtractAsk) (old new : History) (answer : Result Pick DapFault) → new.proto ≡ old.proto
    → new.seen ≡ old.seen → answer ≡ picked_of (held_of new.proto new.seen) ask
    → picked_in ask old ≡ fault_as fault_code answer
unfolding picked_in
extract-asked ask = answered (λ (held : Held). picked_of held ask)

-- the bytes of the file were sent
pub file-sent : (version : ℕ) (pick : Pick) (file : File) (end : End) (link link' : LinkShown)
    → netcdf_of pick.source pick.projected.sent version ≡ Ok file → Delivers end (Ok (bytes_of file)) link link'
    → Delivers end (file_bytes version pick) link link'
unfolding file_bytes
file-sent version pick file end link link' is sends =
    sent-next (fault_as write_code (netcdf_of pick.source pick.projected.sent version)) file
    (λ (f : File). Ok (bytes_of f)) end link link' (ap (λ r. fault_as write_code r) is) sends

-- what was picked can't be written as one file
pub file-refused : (version : ℕ) (pick : Pick) (fault : WriteFault) (link link' : LinkShown)
    → netcdf_of pick.source pick.projected.sent version ≡ Err fault → link' ≡ link
    → Delivers (Refused (write_code fault)) (file_bytes version pick) link link'
unfolding file_bytes
file-refused version pick fault link link' is same =
    refused-by (fault_as write_code (netcdf_of pick.source pick.projected.sent version)) (write_code fault)
    (λ (f : File). Ok (bytes_of f)) link link' (ap (λ r. fault_as write_code r) is) same

pub ruleset written = (file-sent, file-refused)

-- what was picked was delivered
pub extract-sent : (ask : ExtractAsk) (history : History) (pick : Pick) (end : End) (link link' : LinkShown)
    → picked_in ask history ≡ Ok pick → Delivers end (file_bytes ask.version pick) link link'
    → Delivers end (extract_bytes ask history) link link'
unfolding extract_bytes
extract-sent ask history pick end link link' is sends =
    sent-next (picked_in ask history) pick (file_bytes ask.version) end link link' is sends

-- the view is refused
pub extract-refused : (ask : ExtractAsk) (history : History) (code : ℕ) (link link' : LinkShown)
    → picked_in ask history ≡ Err code → link' ≡ link
    → Delivers (Refused code) (extract_bytes ask history) link link'
unfolding extract_bytes
extract-refused ask history code link link' is same =
    refused-by (picked_in ask history) code (file_bytes ask.version) link link' is same

pub ruleset delivered = (extract-sent, extract-refused)
