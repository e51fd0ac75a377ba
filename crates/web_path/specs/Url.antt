-- The targets of each view: a path and a query (RFC 3986, section 3), with any of their bytes escaped (section 2.1).
use Rattle.std.specs.Prelude.{◌≡◌, ◌⊎◌, ℕ, ◌<◌, ◌==◌, true, false, List, [], ◌∷◌, ◌++◌, length, codes, None}
use Rattle.std.specs.List.{list_any}
use Rattle.std.specs.Str.{str_eq_ignore_ascii_case}
use Rattle.percent_encoding.specs.Percent.{percent_decode}
use Rattle.fm_model.specs.declared.site.Site.{Site}
use Rattle.web_path.specs.declared.target.Service.{Service}
use Rattle.web_path.specs.declared.target.Service.TheVariants.{Dds, Das, Dods}
use Rattle.web_path.specs.declared.target.Target.{Target}
use Rattle.web_path.specs.Escape.{bad_escape}
use Rattle.web_path.specs.Path.{path_of, CanBeWritten, Spelling}
use Rattle.web_path.specs.Target.{label_of, question, scheme, slash}

-- the end of a path that names a service
abbrev pub word_of : Service → List ℕ
word_of Dds = codes "dds"
word_of Das = codes "das"
word_of Dods = codes "dods"

-- a text is two parts with a byte between them, or the first part alone, and the second is empty
abbrev pub IsCutBy : ℕ → List ℕ → List ℕ → List ℕ → Type 0
IsCutBy byte text front back = (text ≡ front ++ byte ∷ back) ⊎ ((text ≡ front) × (back ≡ []))

-- a text is a path, a `?` and a query, or a path alone, with an empty query
abbrev pub IsCut : List ℕ → List ℕ → List ℕ → Type 0
IsCut text path query = IsCutBy question text path query

-- a text is the absolute form of a path and query (RFC 9112, section 3.2.2): a scheme, in either case, and an authority
-- of one or more bytes stand before its first `/`, and the authority has no `?`
pub record IsAbsolute (text asked : List ℕ) : Type 0 where
  pub front : List ℕ
  pub authority : List ℕ
  pub rest : List ℕ
  pub text_is : text ≡ front ++ (authority ++ asked)
  pub front_is : str_eq_ignore_ascii_case front scheme ≡ true
  pub some : 0 < length authority
  pub no_slash : list_any (λ b. b == slash) authority ≡ false
  pub no_question : list_any (λ b. b == question) authority ≡ false
  pub asked_is : asked ≡ slash ∷ rest

-- a text asks for a target: it is a path and query, or their absolute form. The path, up to the first `?`, stands for
-- a path of the view, in one of the spellings, a `.` and the word of the service. The query stands for the
-- constraint. The label is the path's last segment. Each escape is sound, in the authority too.
pub record IsTargetOf (site : Site) (text : List ℕ) (target : Target) : Type 0 where
  pub asked : List ℕ
  pub path : List ℕ
  pub query : List ℕ
  pub spelling : Spelling
  pub asked_is : (asked ≡ text) ⊎ IsAbsolute text asked
  pub escapes : bad_escape text ≡ None
  pub cut : IsCut asked path query
  pub plain : list_any (λ b. b == question) path ≡ false
  pub path_is : percent_decode path ≡ path_of site spelling target.view ++ codes "." ++ word_of target.service
  pub query_is : percent_decode query ≡ target.constraint
  pub written : CanBeWritten site target.view
  pub label_is : target.label ≡ label_of (path_of site spelling target.view)
