-- What the lines of a head say of a body and a status.
use Rattle.std.specs.Prelude.{ℕ, List, codes}
use Rattle.dap_reply.specs.declared.body.BodyKind.{BodyKind}
use Rattle.dap_reply.specs.declared.body.BodyKind.TheVariants.{Structure, Attributes, Data, Error}
use Rattle.dap_reply.specs.declared.status.Status.{Status}
use Rattle.dap_reply.specs.declared.status.Status.TheVariants.{Fine, BadRequest, NotFound, NotAllowed, TooLarge, HeadTooLarge}

-- what a body is said to be
unfoldable pub description_of : BodyKind → List ℕ
description_of Structure = codes "dods_dds"
description_of Attributes = codes "dods_das"
description_of Data = codes "dods_data"
description_of Error = codes "dods_error"

-- the media type of a body
unfoldable pub media_of : BodyKind → List ℕ
media_of Structure = codes "text/plain"
media_of Attributes = codes "text/plain"
media_of Data = codes "application/octet-stream"
media_of Error = codes "text/plain"

-- what stands after the version in the first line
unfoldable pub status_text : Status → List ℕ
status_text Fine = codes "200 OK"
status_text BadRequest = codes "400 Bad Request"
status_text NotFound = codes "404 Not Found"
status_text NotAllowed = codes "405 Method Not Allowed"
status_text TooLarge = codes "413 Content Too Large"
status_text HeadTooLarge = codes "431 Request Header Fields Too Large"
