-- Which bytes of a file settle the first fault of its header.
use Rattle.std.specs.Prelude.{◌≡◌, ◌≢◌, ◌⊎◌, ℕ, ◌+◌, ◌<◌, ◌≤◌, List, [], ◌∷◌, ◌++◌, length, take, codes, Err}
use Rattle.nc_model.specs.declared.fault.HeaderFault.{HeaderFault}
use Rattle.nc_model.specs.declared.fault.HeaderFault.TheVariants.{BadMagic, BadVersion, Truncated, BadTag, BadCount, BadName, BadType, BadDimId, TwoRecordDims, RecordNotFirst, RepeatedName, Streaming}
use Rattle.nc_model.specs.declared.header.Header.{Header}
use Rattle.nc_model.specs.Reading.{header_or_fault}
use Rattle.nc_model.specs.Spelling.{SpellsHeader, HeaderOf}

-- the field at fault begins at this offset, which all faults after the version name but `Streaming`
abbrev pub StandsAt : HeaderFault → ℕ → Type 0
StandsAt BadMagic offset = ⊥
StandsAt (BadVersion version) offset = ⊥
StandsAt (Truncated at) offset = at ≡ offset
StandsAt (BadTag at) offset = at ≡ offset
StandsAt (BadCount at) offset = at ≡ offset
StandsAt (BadName at) offset = at ≡ offset
StandsAt (BadType at) offset = at ≡ offset
StandsAt (BadDimId at) offset = at ≡ offset
StandsAt (TwoRecordDims at) offset = at ≡ offset
StandsAt (RecordNotFirst at) offset = at ≡ offset
StandsAt (RepeatedName at) offset = at ≡ offset
StandsAt Streaming offset = Unit {0}

-- a field of the bytes settles the fault: it begins at the fault's offset, and whatever follows it, the fault is the
-- same and no header is spelled
pub record IsSettled (bytes : List ℕ) (fault : HeaderFault) : Type 0 where
  pub offset : ℕ
  pub size : ℕ
  pub some : 0 < size
  pub within : offset + size ≤ length bytes
  pub stands : StandsAt fault offset
  pub same : (other : List ℕ) → take (offset + size) other ≡ take (offset + size) bytes
      → header_or_fault other ≡ Err fault
  pub none : (other : List ℕ) → take (offset + size) other ≡ take (offset + size) bytes → (header : Header)
      → ¬ HeaderOf other header

-- a field that begins at this offset doesn't lie whole in the bytes: bytes with the same before it have this fault
-- exactly where they end before the field does
pub record IsPastEnd (bytes : List ℕ) (offset : ℕ) : Type 0 where
  pub size : ℕ
  pub within : offset ≤ length bytes
  pub short : length bytes < offset + size
  pub same : (other : List ℕ) → take offset other ≡ take offset bytes → length other < offset + size
      → header_or_fault other ≡ Err (Truncated offset)
  pub long : (other : List ℕ) → take offset other ≡ take offset bytes → offset + size ≤ length other
      → header_or_fault other ≢ Err (Truncated offset)

-- what stands in the bytes before this offset begins the spelling of some header, in which names may repeat and numbers
-- of dimensions may be any
pub record Begins (bytes : List ℕ) (offset : ℕ) : Type 0 where
  pub text : List ℕ
  pub header : Header
  pub spelled : SpellsHeader text header
  pub within : offset ≤ length bytes
  pub same : take offset bytes ≡ take offset text

-- the bytes begin with `CDF` and this byte, which is no version
pub record HasBadVersion (bytes : List ℕ) (version : ℕ) : Type 0 where
  pub begins : take 4 bytes ≡ codes "CDF" ++ version ∷ []
  pub not_1 : version ≢ 1
  pub not_2 : version ≢ 2

-- a header goes on up to this offset, and a field that begins there settles the fault
abbrev pub IsFaultAt : List ℕ → HeaderFault → ℕ → Type 0
IsFaultAt bytes fault offset = Begins bytes offset × IsSettled bytes fault

-- what settles the first fault of a header
abbrev pub IsFaultOf : List ℕ → HeaderFault → Type 0
IsFaultOf bytes BadMagic = (length bytes < 4) ⊎ (take 3 bytes ≢ codes "CDF")
IsFaultOf bytes (BadVersion version) = HasBadVersion bytes version
IsFaultOf bytes (Truncated at) = Begins bytes at × IsPastEnd bytes at
IsFaultOf bytes (BadTag at) = IsFaultAt bytes (BadTag at) at
IsFaultOf bytes (BadCount at) = IsFaultAt bytes (BadCount at) at
IsFaultOf bytes (BadName at) = IsFaultAt bytes (BadName at) at
IsFaultOf bytes (BadType at) = IsFaultAt bytes (BadType at) at
IsFaultOf bytes (BadDimId at) = IsFaultAt bytes (BadDimId at) at
IsFaultOf bytes (TwoRecordDims at) = IsFaultAt bytes (TwoRecordDims at) at
IsFaultOf bytes (RecordNotFirst at) = IsFaultAt bytes (RecordNotFirst at) at
IsFaultOf bytes (RepeatedName at) = IsFaultAt bytes (RepeatedName at) at
IsFaultOf bytes Streaming = IsSettled bytes Streaming
