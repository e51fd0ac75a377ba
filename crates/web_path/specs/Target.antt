-- What a target asks for, or its first fault.
use Rattle.std.specs.Prelude.{ℕ, ◌+◌, ◌==◌, Bool, ◌&&◌, nat_lt, if◌then◌else◌, List, take, drop, codes, Option, Some, None, Result, Ok, Err}
use Rattle.std.specs.List.{position_or_len}
use Rattle.std.specs.Path.{rsplit_once}
use Rattle.std.specs.Str.{bytes_eq, str_eq_ignore_ascii_case}
use Rattle.percent_encoding.specs.Percent.{percent_decode}
use Rattle.fm_model.specs.declared.row.ViewName.{ViewName}
use Rattle.fm_model.specs.declared.site.Site.{Site}
use Rattle.web_path.specs.declared.fault.PathFault.{PathFault}
use Rattle.web_path.specs.declared.fault.PathFault.TheVariants.{BadEscape, NoSuchDataset, NoSuchService}
use Rattle.web_path.specs.declared.target.Service.{Service}
use Rattle.web_path.specs.declared.target.Service.TheVariants.{Dds, Das, Dods}
use Rattle.web_path.specs.declared.target.Target.{Target}
use Rattle.web_path.specs.Escape.{bad_escape}
use Rattle.web_path.specs.Reading.{view_of}

-- the bytes `.`, `/` and `?`
abbrev pub dot : ℕ
dot = 46

abbrev pub slash : ℕ
slash = 47

abbrev pub question : ℕ
question = 63

-- the service that the end of a path names
unfoldable pub service_of : List ℕ → Option Service
service_of end = if bytes_eq end (codes "dds") then Some Dds
    else (if bytes_eq end (codes "das") then Some Das else (if bytes_eq end (codes "dods") then Some Dods else None))

-- the second of two parts, or the whole where there are none
abbrev pub last_part : List ℕ → Option (List ℕ × List ℕ) → List ℕ
last_part path None = path
last_part path (Some parts) = parts.1

-- what stands after the last `/` of a path
unfoldable pub label_of : List ℕ → List ℕ
label_of path = last_part path (rsplit_once slash path)

-- the target of a view and a service
abbrev pub served : List ℕ → List ℕ → ViewName → Option Service → Result Target PathFault
served path constraint view None = Err NoSuchService
served path constraint view (Some service) =
    Ok (record { view = view; service = service; constraint = constraint; label = label_of path })

-- the target of a view, if there is one
abbrev pub viewed : List ℕ → List ℕ → List ℕ → Option ViewName → Result Target PathFault
viewed path end constraint None = Err NoSuchDataset
viewed path end constraint (Some view) = served path constraint view (service_of end)

-- the view and the service of a path that is cut at its last `.`, if it has one
abbrev pub asked_of_parts : Site → List ℕ → Option (List ℕ × List ℕ) → Result Target PathFault
asked_of_parts site constraint None = Err NoSuchDataset
asked_of_parts site constraint (Some parts) = viewed parts.0 parts.1 constraint (view_of site parts.0)

-- what a path and a constraint ask for that are decoded
unfoldable pub asked_of : Site → List ℕ → List ℕ → Result Target PathFault
asked_of site path constraint = asked_of_parts site constraint (rsplit_once dot path)

-- the offset of the first such byte of a text, or its length
abbrev pub first_at : ℕ → List ℕ → ℕ
first_at byte text = position_or_len (λ b. b == byte) text

-- the offset of the first `?` of a target, or its length
abbrev pub question_of : List ℕ → ℕ
question_of target = first_at question target

-- `http://`, before which nothing stands in the absolute form of a target (RFC 9112, section 3.2.2)
abbrev pub scheme : List ℕ
scheme = codes "http://"

-- a target begins with the scheme, in either case
abbrev pub has_scheme : List ℕ → Bool
has_scheme target = str_eq_ignore_ascii_case (take 7 target) scheme

-- where the first `/` ends an authority: behind one or more bytes, none of them a `?`
unfoldable pub authority_end : List ℕ → Option ℕ
authority_end rest = if nat_lt 0 (first_at slash rest) && nat_lt (first_at slash rest) (question_of rest)
    then Some (first_at slash rest)
    else None

-- what follows a scheme and an authority that ends there, or the whole target
abbrev pub behind_authority : List ℕ → List ℕ → Option ℕ → List ℕ
behind_authority target rest None = target
behind_authority target rest (Some end) = drop end rest

-- the path and query of a target: what follows its scheme and authority, or the whole of it where it has none
unfoldable pub path_and_query : List ℕ → List ℕ
path_and_query target = if has_scheme target
    then behind_authority target (drop 7 target) (authority_end (drop 7 target))
    else target

-- the path of a path and query, decoded
abbrev pub path_text : List ℕ → List ℕ
path_text text = percent_decode (take (question_of text) text)

-- what a path and query ask for, in which escapes are sound
unfoldable pub asked_at : Site → List ℕ → Result Target PathFault
asked_at site text = asked_of site (path_text text) (percent_decode (drop (question_of text + 1) text))

-- what a target without a bad escape asks for
abbrev pub asked_unless : Site → List ℕ → Option ℕ → Result Target PathFault
asked_unless site target (Some at) = Err (BadEscape at)
asked_unless site target None = asked_at site (path_and_query target)

-- what a target asks for, or its first fault
unfoldable pub target_of : Site → List ℕ → Result Target PathFault
target_of site target = asked_unless site target (bad_escape target)
