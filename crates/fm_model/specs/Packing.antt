-- How the numbers of a variable are read: the attributes that say their unit, how they are packed, and which of them
-- are missing (NetCDF Users Guide, attribute conventions; CF Conventions, packed data and missing data).
use Rattle.std.specs.Prelude.{◌≡◌, ⊤, ℕ, List, [], ◌∷◌, ◌++◌, codes, All, Bool, true, false, not, ◌&&◌, if◌then◌else◌, Option, Some, None}
use Rattle.std.specs.Str.{bytes_eq}
use Rattle.nc_model.specs.declared.header.Attr.{Attr}
use Rattle.nc_model.specs.declared.header.NcVar.{NcVar}
use Rattle.fm_base.specs.Chain.{Check, ◌>>=◌, ◌>>◌, refuse_if}
use Rattle.fm_model.specs.declared.loaded.LoadFault.{LoadFault}
use Rattle.fm_model.specs.declared.loaded.LoadFault.TheVariants.{AttributeDiffers}
use Rattle.fm_model.specs.declared.proto.ProtoVar.{ProtoVar}
use Rattle.fm_model.specs.Attribute.{attr_named, attr_text, is_char, trimmed}
use Rattle.fm_model.specs.Variable.{is_same_kind}

-- what an attribute says: the text of characters, and of numbers their bytes
unfoldable pub said_by : Attr → List ℕ
said_by attr = if is_char attr.kind then trimmed attr.values else attr.values

-- whether two attributes are of one kind and say the same
unfoldable pub is_same_attr : Attr → Attr → Bool
is_same_attr attr other = is_same_kind attr.kind other.kind && bytes_eq (said_by attr) (said_by other)

-- whether two attributes are the same where one of them is there
abbrev pub are_same_attr : Option Attr → Option Attr → Bool
are_same_attr None None = true
are_same_attr None (Some other) = false
are_same_attr (Some attr) None = false
are_same_attr (Some attr) (Some other) = is_same_attr attr other

-- whether the attribute of this name is the same in two lists, or in neither
unfoldable pub have_same : List Attr → List Attr → List ℕ → Bool
have_same attrs others name = are_same_attr (attr_named attrs name) (attr_named others name)

-- the file's variable has the prototype's attribute of this name, or both have none
unfoldable pub same_attr : ProtoVar → NcVar → List ℕ → Check LoadFault
same_attr wanted var name = refuse_if (not (have_same wanted.attrs var.attrs name)) (AttributeDiffers wanted.name name)

-- the numbers of the file's variable are read as those of the prototype's
unfoldable pub same_packing : ProtoVar → NcVar → Check LoadFault
same_packing wanted var = do
  same_attr wanted var (codes "units")
  same_attr wanted var (codes "scale_factor")
  same_attr wanted var (codes "add_offset")
  same_attr wanted var (codes "_FillValue")
  same_attr wanted var (codes "missing_value")

-- two attributes are of one kind and have the same values; of characters the zero bytes at the end don't count
pub record IsSameAttr (attr other : Attr) : Type 0 where
  pub kind_is : other.kind ≡ attr.kind
  pub text_is : attr_text other ≡ attr_text attr
  pub values_are : is_char attr.kind ≡ false → other.values ≡ attr.values

-- two attributes are the same where one of them is there
abbrev pub AreSameAttr : Option Attr → Option Attr → Type 0
AreSameAttr None None = ⊤
AreSameAttr None (Some other) = ⊥
AreSameAttr (Some attr) None = ⊥
AreSameAttr (Some attr) (Some other) = IsSameAttr attr other

-- the attribute of this name is the same in two lists, or in neither
abbrev pub HaveSame : List Attr → List Attr → List ℕ → Type 0
HaveSame attrs others name = AreSameAttr (attr_named attrs name) (attr_named others name)

-- two lists of attributes have the same unit, packing and missing values
pub record HaveSamePacking (attrs others : List Attr) : Type 0 where
  pub unit : HaveSame attrs others (codes "units")
  pub scale : HaveSame attrs others (codes "scale_factor")
  pub offset : HaveSame attrs others (codes "add_offset")
  pub fill : HaveSame attrs others (codes "_FillValue")
  pub missing : HaveSame attrs others (codes "missing_value")

-- the names of these attributes, in the order in which they are compared
abbrev pub packing_names : List (List ℕ)
packing_names = codes "units" ∷ codes "scale_factor" ∷ codes "add_offset" ∷ codes "_FillValue" ∷ codes "missing_value"
    ∷ []

-- the attribute of this name isn't the same in two lists, and all that are compared before it are
pub record IsFirstOther (attrs others : List Attr) (name : List ℕ) : Type 0 where
  pub before : List (List ℕ)
  pub after : List (List ℕ)
  pub split : packing_names ≡ before ++ name ∷ after
  pub same : All (HaveSame attrs others) before
  pub differs : ¬ HaveSame attrs others name
