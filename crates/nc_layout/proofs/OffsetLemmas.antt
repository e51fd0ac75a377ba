-- Elements and parts lie in the file, and their offsets fit 64 bits.
use Rattle.std.proofs.Common.{◌≡◌, ℕ, ◌+◌, ◌*◌, ◌^◌, ◌<◌, ◌≤◌, List, Some, arith}
use Rattle.std.specs.List.{slice_get}
use Rattle.std.proofs.lemmas.List.Elements.{All-get_or}
use Rattle.std.proofs.lemmas.Option.{MatchOption-at_none, slice_get_within, get_or_from_slice_get}
use Rattle.nc_model.specs.declared.header.Header.{Header}
use Rattle.nc_model.specs.declared.header.NcVar.{NcVar}
use Rattle.nc_model.specs.declared.kind.Kind.{Kind}
use Rattle.nc_model.specs.Kind.{size_of}
use Rattle.nc_model.specs.Layout.{product, fixed_shape, vsize, record_size}
use Rattle.nc_layout.specs.Kept.{HasLengths, IsWithin, IsLaidOut}
use Rattle.nc_layout.specs.Meaning.{IsInside, IsSmall, EndsWithin, Says}
use Rattle.nc_layout.specs.LaidOut.{part_count}
use Rattle.nc_layout.proofs.EndLemmas.{has-elements, part-le-end, element-within}
use Rattle.nc_layout.proofs.HeaderLemmas.{All-lengths, offset_of-part, index-part}
use Rattle.nc_layout.proofs.MeaningLemmas.{layout_fault-says}

-- all elements of each variable of a layout lie in the file
pub within : {header : Header} {len size : ℕ} {vsizes : List ℕ} (number : ℕ) (var : NcVar)
    → IsLaidOut header len size vsizes
    → slice_get header.vars number ≡ Some var → IsWithin header len var
within {header} {len} number var laid there =
    let inside : IsInside header len =
    MatchOption-at_none (IsInside header len) (Says header len) laid.faultless (layout_fault-says header len) in
    let below = slice_get_within header.vars number var there in
    let is = get_or_from_slice_get header.vars number var var there in
    record {
      lengths = rw (← is) (All-get_or (HasLengths header) header.vars number var below (All-lengths header laid.can));
      small = rw (← is) (All-get_or (IsSmall header) header.vars number var below inside.small);
      ends = rw (← is) (All-get_or (EndsWithin header len) header.vars number var below inside.ends);
    }

-- a part lies in the file
pub part-within : (header : Header) (len k recsize : ℕ) (var : NcVar) → recsize ≡ record_size header
    → IsWithin header len var
    → k < part_count header var → var.begin + k * recsize + vsize header var ≤ len
part-within header len k recsize var size within below =
    let end = within.ends (has-elements header var within.lengths (omega arith)) in
    let part = part-le-end header var k within.lengths below in
    rw size (omega arith)

-- a part has fewer than 2^64 elements
pub product-small : (header : Header) (var : NcVar) → IsSmall header var → product (fixed_shape header var) < 2 ^ 64
unfolding vsize
product-small header var small = let most = le_times (product (fixed_shape header var)) var.kind in omega arith
  where
    le_times : (n : ℕ) (kind : Kind) → n ≤ size_of kind * n
    le_times n kind = grind arith

pub ruleset parts = (part-within, element-within, product-small)

pub ruleset offsets = (offset_of-part, index-part)
