-- Numbers that an array has one after the other and slabs pick one after the other.
use Rattle.std.specs.Prelude.{◌≡◌, ℕ, ◌-◌, ◌/◌, ◌%◌, ◌+◌, ◌*◌, ◌≤◌, List, [], ◌∷◌, map, take, drop, Bool, true, nat_lt, ◌==◌, ◌&&◌, if◌then◌else◌, All}
use Rattle.std.specs.Int.{w16, w32, w64, to_be_bytes}
use Rattle.std.specs.List.{flat_map}
use Rattle.nc_model.specs.declared.header.Dim.{Dim}
use Rattle.nc_model.specs.Layout.{rank_in, indices_of}
use Rattle.dap_xdr.specs.declared.slabs.Extent.{Extent}
use Rattle.dap_model.specs.Box.{box_of, slab_count}
use Rattle.dap_model.specs.declared.declaration.Array.{Array}
use Rattle.dap_model.specs.declared.declaration.DapKind.{DapKind}
use Rattle.dap_model.specs.declared.declaration.DapKind.TheVariants.{Byte, Int16, Int32, Float32, Float64, Text}
use Rattle.dap_model.specs.declared.projection.Slab.{Slab}
use Rattle.dap_model.specs.Xdr.{AreBitsOf}
use Rattle.dap_model.specs.ProjectionFacts.{array_lengths}

-- a number as it stands in a netCDF file, the most significant byte first
unfoldable pub stored_bytes : DapKind → ℕ → List ℕ
stored_bytes Byte bits = bits ∷ []
stored_bytes Int16 bits = to_be_bytes w16 bits
stored_bytes Int32 bits = to_be_bytes w32 bits
stored_bytes Float32 bits = to_be_bytes w32 bits
stored_bytes Float64 bits = to_be_bytes w64 bits
stored_bytes Text bits = []

-- how many bytes that takes
unfoldable pub stored_len : DapKind → ℕ
stored_len Byte = 1
stored_len Int16 = 2
stored_len Int32 = 4
stored_len Float32 = 4
stored_len Float64 = 8
stored_len Text = 0

-- the bytes are those of these numbers, each of this kind
pub record AreBytesOf (kind : DapKind) (numbers bytes : List ℕ) : Type 0 where
  pub fit : All (AreBitsOf kind) numbers
  pub bytes_are : bytes ≡ flat_map (stored_bytes kind) numbers

-- the bytes are those of at most `most` numbers of an array from an index list on, in row-major order
pub record AreStored (array : Array) (bits : List ℕ → ℕ) (index : List ℕ) (most : ℕ) (bytes : List ℕ) : Type 0 where
  pub count : ℕ
  pub few : count ≤ most
  pub bytes_are : AreBytesOf array.kind
      (map bits (take count (drop (rank_in (array_lengths array) index) (indices_of (array_lengths array))))) bytes

-- the bytes are those of at most `most` of the numbers that slabs pick, from an element on
pub record ArePicked (kind : DapKind) (bits : List ℕ → ℕ) (slabs : List Slab) (element most : ℕ) (bytes : List ℕ)
    : Type 0 where
  pub count : ℕ
  pub few : count ≤ most
  pub bytes_are : AreBytesOf kind (map bits (take count (drop element (box_of slabs)))) bytes

-- a slab is the whole of a dimension of this size
unfoldable pub is_whole : ℕ → Slab → Bool
is_whole size slab = slab.start == 0 && slab.stride == 1 && slab.stop + 1 == size

-- a slab has stride 1 and those behind it are whole, so that all that it picks with them stands together
abbrev pub stands_together : Slab → Extent → Bool
stands_together slab extent = slab.stride == 1 && extent.whole

-- all that is picked behind a slab stands together, and the slab picks some of that more than once
abbrev pub begins_turns : Slab → Extent → Bool
begins_turns slab extent = extent.unit == extent.count && nat_lt 1 (slab_count slab)

-- all that is picked behind a slab is one run of turns, and the next index of the slab goes on with it at the same
-- distance
abbrev pub goes_on : Slab → Extent → Bool
goes_on slab extent =
    nat_lt 0 extent.unit && extent.turns * extent.unit == extent.count
    && extent.turns * extent.pitch == slab.stride * extent.size

-- how many units follow each other with a slab before them: more where they go on with it
abbrev pub turns_with : Slab → Extent → ℕ
turns_with slab extent = if goes_on slab extent then slab_count slab * extent.turns else extent.turns

-- the extent with the slab of one dimension before it. What stands together is a unit. The first slab before the unit
-- that picks more than one index gives the turns: how many units follow each other, and how far each is from the last.
-- They go on with the slabs before it as long as the distance stays the same
abbrev pub extent_before : ℕ → Slab → Extent → Extent
extent_before size slab extent = record {
  count = slab_count slab * extent.count;
  size = size * extent.size;
  unit = if stands_together slab extent then slab_count slab * extent.count else extent.unit;
  turns =
      if stands_together slab extent
      then 1
      else if begins_turns slab extent
      then slab_count slab
      else turns_with slab extent;
  pitch =
      if stands_together slab extent
      then 0
      else if begins_turns slab extent
      then slab.stride * extent.size
      else extent.pitch;
  whole = is_whole size slab && extent.whole;
}

-- the extent of no slab
abbrev pub no_extent : Extent
no_extent = record { count = 1; size = 1; unit = 1; turns = 1; pitch = 0; whole = true }

-- the extent of slabs of dimensions
unfoldable pub extent_of : List Dim → List Slab → Extent
extent_of [] slabs = no_extent
extent_of (dim ∷ dims) [] = no_extent
extent_of (dim ∷ dims) (slab ∷ slabs) = extent_before dim.size slab (extent_of dims slabs)

-- how many of what slabs pick stand together in the array from an element on
abbrev pub left_at : List Dim → List Slab → ℕ → ℕ
left_at dims slabs element = (extent_of dims slabs).unit - element % (extent_of dims slabs).unit

-- how many units are left of the turns from an element on
abbrev pub turns_at : Extent → ℕ → ℕ
turns_at extent element = extent.turns - element / extent.unit % extent.turns
