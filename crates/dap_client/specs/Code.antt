-- The numbers by which faults of replies are reported.
use Rattle.std.specs.Prelude.{ℕ}
use Rattle.dap_client.specs.declared.fault.ClientFault.{ClientFault}
use Rattle.dap_client.specs.declared.fault.ClientFault.TheVariants.{BadData, BadHead, NoLength, TooLong, Status, ReplyEnded}

abbrev pub client_code : ClientFault → ℕ
client_code (BadData at) = 81
client_code BadHead = 82
client_code NoLength = 83
client_code (TooLong len) = 84
client_code (Status code) = 85
client_code (ReplyEnded count) = 86
