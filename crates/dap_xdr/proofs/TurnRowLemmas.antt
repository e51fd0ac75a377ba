-- Rows of what stands in a file are what slabs pick unit after unit.
use Rattle.std.proofs.Common.{◌≡◌, ◌≢◌, ℕ, zero, suc, ◌+◌, ◌-◌, ◌*◌, ◌/◌, ◌%◌, ◌<◌, ◌≤◌, List, [], ◌++◌, length, map, take, drop, inl, inr, refl, sym, ap, ap₂, subst, ◌∙◌, arith}
use Rattle.std.specs.List.{flat_map, AllZip}
use Rattle.std.proofs.Math.Nat.{mul-add-mod_self_right}
use Rattle.std.proofs.Math.Path.{subst₂}
use Rattle.std.proofs.Math.Seq.{take-add, take-append_seam}
use Rattle.std.proofs.lemmas.Grind.{flat_map-append}
use Rattle.std.proofs.lemmas.List.{drop_all, drop-drop, drop-map, drop-take, length-map, length-take, length-take-le, map-append, take-append-drop, take-map, take-take}
use Rattle.std.proofs.lemmas.List.Elements.{All-append, All-drop, All-nil, All-take}
use Rattle.std.proofs.lemmas.Bool.{cases_lt}
use Rattle.std.proofs.lemmas.Nat.{div-add-mod', mod-mul-add}
use Rattle.nc_model.specs.Layout.{indices_of, rank_in}
use Rattle.dap_model.specs.declared.declaration.Array.{Array}
use Rattle.dap_model.specs.declared.declaration.DapKind.{DapKind}
use Rattle.dap_model.specs.declared.declaration.DapKind.TheVariants.{Byte, Int16, Int32, Float32, Float64, Text}
use Rattle.dap_model.specs.declared.projection.Slab.{Slab}
use Rattle.dap_model.specs.Box.{box_len, box_of, index_at}
use Rattle.dap_model.specs.ProjectionFacts.{FitsDim}
use Rattle.dap_model.specs.Xdr.{AreBitsOf}
use Rattle.dap_xdr.specs.declared.rows.Rows.{Rows}
use Rattle.dap_xdr.specs.Portion.{bits_in, IsPortion, Portion}
use Rattle.dap_xdr.specs.Rows.{rows_in, AreRowsAt, PickRows}
use Rattle.dap_xdr.specs.Stretch.{extent_of, stored_bytes, stored_len, AreBytesOf, ArePicked, AreStored}
use Rattle.dap_xdr.proofs.ElementLemmas.{flat-drop, flat-length}
use Rattle.dap_xdr.proofs.ExtentLemmas.{sizes_of}
use Rattle.dap_xdr.proofs.PickedLemmas.{follow, picked-none, Stands}
use Rattle.dap_xdr.proofs.RowLemmas.{are_whole}
use Rattle.dap_xdr.proofs.StretchLemmas.{stretch_of, within_turns, Stretch}
use Rattle.dap_xdr.proofs.TurnLemmas.{quotient, turning_of, within_of, within_turning, Turning}

pub length-stored : (kind : DapKind) (bits : ℕ) → length (stored_bytes kind bits) ≡ stored_len kind
unfolding stored_bytes stored_len
length-stored Byte bits = refl
length-stored Int16 bits = refl
length-stored Int32 bits = refl
length-stored Float32 bits = refl
length-stored Float64 bits = refl
length-stored Text bits = refl

-- no more of one length in some bytes than of the same length in as many
cancel-len : (kind : DapKind) (few many : ℕ) → kind ≢ Text → few * stored_len kind ≤ many * stored_len kind → few ≤ many
unfolding stored_len
cancel-len Byte few many number least = omega (arith, least)
cancel-len Int16 few many number least = omega (arith, least)
cancel-len Int32 few many number least = omega (arith, least)
cancel-len Float32 few many number least = omega (arith, least)
cancel-len Float64 few many number least = omega (arith, least)
cancel-len Text few many number least = absurd (number refl)

-- the bytes of the first numbers, those of the others, and those of both
bytes-take : (kind : DapKind) (numbers bytes : List ℕ) (count : ℕ) → AreBytesOf kind numbers bytes
    → count ≤ length numbers → AreBytesOf kind (take count numbers) (take (count * stored_len kind) bytes)
bytes-take kind numbers bytes count are within =
    let f = stored_bytes kind in
    let front = flat_map f (take count numbers) in
    let long : length front ≡ count * stored_len kind =
    flat-length f (stored_len kind) (length-stored kind) (take count numbers)
    ∙ ap (λ (n : ℕ). n * stored_len kind) (length-take-le count numbers within) in
    let split : bytes ≡ front ++ flat_map f (drop count numbers) =
    are.bytes_are ∙ ap (flat_map f) (sym (take-append-drop count numbers))
    ∙ flat_map-append f (take count numbers) (drop count numbers) in
    record {
      fit = All-take (AreBitsOf kind) count numbers are.fit;
      bytes_are = ap₂ take (sym long) split ∙ take-append_seam front (flat_map f (drop count numbers));
    }

bytes-drop : (kind : DapKind) (numbers bytes : List ℕ) (count : ℕ) → AreBytesOf kind numbers bytes
    → AreBytesOf kind (drop count numbers) (drop (count * stored_len kind) bytes)
bytes-drop kind numbers bytes count are = record {
  fit = All-drop (AreBitsOf kind) count numbers are.fit;
  bytes_are = ap (drop (count * stored_len kind)) are.bytes_are
      ∙ flat-drop (stored_bytes kind) (stored_len kind) count (length-stored kind) numbers;
}

bytes-both : (kind : DapKind) (front back first second : List ℕ) → AreBytesOf kind front first
    → AreBytesOf kind back second → AreBytesOf kind (front ++ back) (first ++ second)
bytes-both kind front back first second one two = record {
  fit = All-append (AreBitsOf kind) front back one.fit two.fit;
  bytes_are = ap₂ (λ (l r : List ℕ). l ++ r) one.bytes_are two.bytes_are
      ∙ sym (flat_map-append (stored_bytes kind) front back);
}

-- some numbers of a list from an element on, behind the first of them
drop-some : {A : Type 0} (xs : List A) (many passed : ℕ)
    → drop passed (take many xs) ≡ take (many - passed) (drop passed xs)
drop-some xs many passed = elim (cases_lt many passed) [
  | inl past ↦
      let none : 0 ≡ many - passed = omega (arith, past) in
      drop_all passed (take many xs) (omega (arith, past, length-take many xs))
      ∙ ap (λ (n : ℕ). take n (drop passed xs)) none
  | inr within ↦
      let all : many ≡ passed + (many - passed) = omega (arith, within) in
      ap (λ (n : ℕ). drop passed (take n xs)) all ∙ drop-take passed (many - passed) xs
]

-- at an element a unit begins, at least `count` units are left of the turns, and these bytes are those of the array's
-- numbers from there on
pub record RowsAt (array : Array) (slabs : List Slab) (bits : List ℕ → ℕ) (unit turns count element : ℕ)
    (bytes : List ℕ) : Type 0 where
  pub within : element < box_len slabs
  pub begins : element % unit ≡ 0
  pub few : count ≤ turns - element / unit % turns
  pub many : ℕ
  pub bytes_are : AreBytesOf array.kind (map bits (take many
      (drop (rank_in (sizes_of array.dims) (index_at slabs element)) (indices_of (sizes_of array.dims))))) bytes

module _ (array : Array) (slabs : List Slab) (bits : List ℕ → ℕ) (fits : AllZip FitsDim array.dims slabs)
    (number : array.kind ≢ Text) (unit turns pitch : ℕ) (stretch : Stretch unit array.dims slabs)
    (turning : Turning unit turns pitch array.dims slabs) where
  -- the first row is the unit at the element
  first-row : (count element : ℕ) (bytes : List ℕ) → RowsAt array slabs bits unit turns count element bytes
      → length (take (unit * stored_len array.kind) bytes) ≡ unit * stored_len array.kind
      → AreBytesOf array.kind (map bits (take unit (drop element (box_of slabs))))
      (take (unit * stored_len array.kind) bytes)
  first-row count element bytes at whole =
      let rank = rank_in (sizes_of array.dims) (index_at slabs element) in
      let rest = drop rank (indices_of (sizes_of array.dims)) in
      let numbers = map bits (take at.many rest) in
      let long : length bytes ≡ length numbers * stored_len array.kind =
      ap length at.bytes_are.bytes_are
      ∙ flat-length (stored_bytes array.kind) (stored_len array.kind) (length-stored array.kind) numbers in
      let there : unit * stored_len array.kind ≤ length numbers * stored_len array.kind =
      omega (arith, whole, long, length-take (unit * stored_len array.kind) bytes) in
      let some : unit ≤ length numbers = cancel-len array.kind unit (length numbers) number there in
      let few : unit ≤ at.many =
      omega (arith, some, length-map (take at.many rest) bits, length-take at.many rest) in
      let stands : (more : ℕ) → more < unit → Stands array.dims slabs (element + more) (rank + more) =
      λ more below. (
      let close : more < unit - element % unit = omega (arith, below, at.begins) in
      record {
        within = subst (λ (n : ℕ). element + more < n) (sym stretch.turns)
            (within_turns stretch.times unit element more (subst (λ (n : ℕ). element < n) stretch.turns at.within)
            close);
        rank_is = stretch.follows element more at.within close;
      }) in
      let same : take unit numbers ≡ map bits (take unit (drop element (box_of slabs))) =
      take-map bits unit (take at.many rest)
      ∙ ap (map bits) (take-take unit at.many rest few ∙ follow unit array.dims slabs element rank fits stands) in
      subst (λ (l : List ℕ). AreBytesOf array.kind l (take (unit * stored_len array.kind) bytes)) same
      (bytes-take array.kind numbers bytes unit at.bytes_are some)

  -- the next unit begins one pitch further in the array
  next-row : (count element : ℕ) (bytes : List ℕ) → RowsAt array slabs bits unit turns (suc (suc count)) element bytes
      → RowsAt array slabs bits unit turns (suc count) (element + unit) (drop (pitch * stored_len array.kind) bytes)
  next-row count element bytes at =
      let rank = rank_in (sizes_of array.dims) (index_at slabs element) in
      let below : element < turning.times * (turns * unit) =
      subst (λ (n : ℕ). element < n) turning.whole at.within in
      let some = within_of turning.times turns unit element below in
      let short : 1 < turns - element / unit % turns = omega (arith, at.few) in
      let one : element + 1 * unit ≡ element + unit = omega arith in
      let unit_at : (element + unit) / unit ≡ element / unit + 1 =
      ap (λ (n : ℕ). n / unit) (omega arith) ∙ quotient 1 unit element some.unit_some ∙ omega arith in
      let split = div-add-mod' (element / unit) turns in
      let turn_at : (element / unit + 1) % turns ≡ element / unit % turns + 1 =
      ap (λ (n : ℕ). n % turns) (omega (arith, split))
      ∙ mod-mul-add (element / unit / turns) turns (element / unit % turns + 1) (omega (arith, short)) in
      let grows : rank_in (sizes_of array.dims) (index_at slabs (element + unit)) ≡ rank + pitch =
      ap (λ (n : ℕ). rank_in (sizes_of array.dims) (index_at slabs n)) (sym one)
      ∙ turning.grows element 1 at.within short ∙ omega arith in
      let indices = indices_of (sizes_of array.dims) in
      record {
        within = subst (λ (n : ℕ). element + unit < n) (sym turning.whole)
            (subst (λ (n : ℕ). n < turning.times * (turns * unit)) one
            (within_turning turning.times turns unit element 1 below short));
        begins = ap (λ (n : ℕ). n % unit) (omega arith) ∙ mul-add-mod_self_right 1 unit element ∙ at.begins;
        few = omega (arith, at.few, ap (λ (n : ℕ). n % turns) unit_at, turn_at);
        many = at.many - pitch;
        bytes_are = subst (λ (l : List ℕ). AreBytesOf array.kind l (drop (pitch * stored_len array.kind) bytes))
            (drop-map bits pitch (take at.many (drop rank indices))
            ∙ ap (map bits) (drop-some (drop rank indices) at.many pitch
            ∙ ap (take (at.many - pitch)) (drop-drop pitch rank indices
            ∙ ap (λ (n : ℕ). drop n indices) (sym grows))))
            (bytes-drop array.kind _ bytes pitch at.bytes_are);
      }

  -- rows are the units from an element on, as far as they are whole
  pub rows-picked : (count element : ℕ) (bytes : List ℕ)
      → (0 < count → RowsAt array slabs bits unit turns count element bytes)
      → length (rows_in (unit * stored_len array.kind) (pitch * stored_len array.kind) count bytes)
      ≡ count * (unit * stored_len array.kind)
      → AreBytesOf array.kind (map bits (take (count * unit) (drop element (box_of slabs))))
      (rows_in (unit * stored_len array.kind) (pitch * stored_len array.kind) count bytes)
  unfolding rows_in
  rows-picked zero element bytes at whole =
      let none : 0 ≡ zero * unit = omega arith in
      subst (λ (n : ℕ). AreBytesOf array.kind (map bits (take n (drop element (box_of slabs)))) []) none
      (record { fit = All-nil (AreBitsOf array.kind); bytes_are = refl })
  rows-picked (suc count) element bytes at whole =
      let row = unit * stored_len array.kind in
      let step = pitch * stored_len array.kind in
      let box = drop element (box_of slabs) in
      let parts = are_whole row step count bytes whole in
      let one = first-row (suc count) element bytes (at (omega arith)) parts.first in
      let others = rows-picked count (element + unit) (drop step bytes) (later count at) parts.others in
      let spread : unit + count * unit ≡ suc count * unit = grind arith in
      let both : map bits (take unit box) ++ map bits (take (count * unit) (drop (element + unit) (box_of slabs)))
      ≡ map bits (take (suc count * unit) box) =
      ap (λ (l : List (List ℕ)). map bits (take unit box) ++ map bits (take (count * unit) l))
      (sym (drop-drop unit element (box_of slabs)))
      ∙ sym (map-append bits (take unit box) (take (count * unit) (drop unit box)))
      ∙ ap (map bits) (sym (take-add unit (count * unit) box) ∙ ap (λ (n : ℕ). take n box) spread) in
      subst (λ (l : List ℕ). AreBytesOf array.kind l (take row bytes ++ rows_in row step count (drop step bytes))) both
      (bytes-both array.kind _ _ (take row bytes) (rows_in row step count (drop step bytes)) one others)
    where
      later : (count : ℕ) → (0 < suc count → RowsAt array slabs bits unit turns (suc count) element bytes)
          → 0 < count → RowsAt array slabs bits unit turns count (element + unit)
          (drop (pitch * stored_len array.kind) bytes)
      later zero at some = absurd (omega (arith, some))
      later (suc count) at some = next-row count element bytes (at (omega arith))

-- the rows that numbers have from an element on are what slabs pick from there on
pub rows-of : (n : Portion) (element most : ℕ) (index stored : List ℕ) (rows : Rows) → IsPortion n
    → n.array.kind ≢ Text → element < box_len n.sent.slabs → index ≡ index_at n.sent.slabs element
    → AreStored n.array (bits_in n) index most stored
    → AreRowsAt n.array.kind (extent_of n.array.dims n.sent.slabs) element rows
    → PickRows n element rows stored
unfolding rows_in
rows-of n element most index stored rows portion number within same are lie = by_count
  where
    by_count : (count : ℕ) → count ≤ rows.most
        → length (rows_in rows.row rows.step count stored) ≡ count * rows.row
        → ArePicked n.array.kind (bits_in n) n.sent.slabs element
        (count * (extent_of n.array.dims n.sent.slabs).unit) (rows_in rows.row rows.step count stored)
    by_count zero few whole = picked-none
    by_count (suc count) few whole =
        let extent = extent_of n.array.dims n.sent.slabs in
        let some : 0 < rows.most = omega (arith, few) in
        let at : RowsAt n.array n.sent.slabs (bits_in n) extent.unit extent.turns (suc count) element stored = record {
          within = within;
          begins = lie.begins some;
          few = omega (arith, few, lie.few);
          many = are.count;
          bytes_are = subst (λ (i : List ℕ). AreBytesOf n.array.kind (map (bits_in n) (take are.count
              (drop (rank_in (sizes_of n.array.dims) i) (indices_of (sizes_of n.array.dims))))) stored) same
              are.bytes_are;
        } in
        let picked = rows-picked n.array n.sent.slabs (bits_in n) portion.fits number extent.unit extent.turns
        extent.pitch (stretch_of n.array.dims n.sent.slabs portion.fits)
        (turning_of n.array.dims n.sent.slabs portion.fits) (suc count) element stored (λ _. at)
        (subst₂ (λ (row step : ℕ). length (rows_in row step (suc count) stored) ≡ suc count * row) (lie.row_is some)
        (lie.step_is some) whole) in
        record {
          count = suc count * extent.unit;
          few = omega arith;
          bytes_are = subst₂ (λ (row step : ℕ). AreBytesOf n.array.kind (map (bits_in n) (take
              (suc count * extent.unit) (drop element (box_of n.sent.slabs)))) (rows_in row step (suc count) stored))
              (sym (lie.row_is some)) (sym (lie.step_is some)) picked;
        }

-- there may be no rows
pub no-rows : (n : Portion) (element : ℕ) (stored : List ℕ) (rows : Rows) → rows.most ≡ 0
    → PickRows n element rows stored
unfolding rows_in
no-rows n element stored rows none = by_count
  where
    by_count : (count : ℕ) → count ≤ rows.most
        → length (rows_in rows.row rows.step count stored) ≡ count * rows.row
        → ArePicked n.array.kind (bits_in n) n.sent.slabs element
        (count * (extent_of n.array.dims n.sent.slabs).unit) (rows_in rows.row rows.step count stored)
    by_count zero few whole = picked-none
    by_count (suc count) few whole = absurd (omega (arith, few, none))

-- from an element on some units are left of the turns
pub some-turns : (n : Portion) (element : ℕ) → IsPortion n → element < box_len n.sent.slabs
    → 0 < (extent_of n.array.dims n.sent.slabs).turns
some-turns n element portion within =
    let extent = extent_of n.array.dims n.sent.slabs in
    let turning = turning_of n.array.dims n.sent.slabs portion.fits in
    (within_of turning.times extent.turns extent.unit element
    (subst (λ (m : ℕ). element < m) turning.whole within)).turns_some
