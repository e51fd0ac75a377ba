-- Units that slabs pick one after the other, each as far behind the one before it in the array.
use Rattle.std.proofs.Common.{◌≡◌, ℕ, zero, suc, ◌+◌, ◌-◌, ◌*◌, ◌/◌, ◌%◌, ◌<◌, ◌≤◌, List, [], ◌∷◌, Bool, true, false, cond, ◌==◌, ◌&&◌, refl, sym, ap, ap₂, subst, ◌∙◌, arith}
use Rattle.std.specs.Prelude.{nat_lt}
use Rattle.std.specs.List.{AllZip}
use Rattle.std.proofs.Math.Path.{subst₂}
use Rattle.std.proofs.Math.Nat.{div-lt_iff_lt-mul, mul-add-mod_self_right, mul-le-mul_right, mul_assoc}
use Rattle.std.proofs.lemmas.Bool.{and_parts, eqb-true, ltb-true}
use Rattle.std.proofs.lemmas.Nat.{div-add-mod', div-mul-add, mod-mul-add, mod_below}
use Rattle.nc_model.specs.Layout.{product, rank_in}
use Rattle.nc_model.specs.declared.header.Dim.{Dim}
use Rattle.dap_model.specs.declared.projection.Slab.{Slab}
use Rattle.dap_model.specs.Box.{box_len, index_at, slab_count, slab_index}
use Rattle.dap_model.specs.ProjectionFacts.{FitsDim}
use Rattle.dap_model.proofs.BoxLemmas.{index_at-cons, split_of}
use Rattle.dap_xdr.specs.Stretch.{begins_turns, extent_before, extent_of, goes_on, stands_together}
use Rattle.dap_xdr.specs.declared.slabs.Extent.{Extent}
use Rattle.dap_xdr.proofs.ExtentLemmas.{extent-size, sizes_of}
use Rattle.dap_xdr.proofs.StretchLemmas.{extent-count, within_turns}

-- slabs pick units, `turns` of them one after the other, and in the array each begins `pitch` numbers behind the one
-- before it
pub record Turning (unit turns pitch : ℕ) (dims : List Dim) (slabs : List Slab) : Type 0 where
  pub times : ℕ
  pub whole : box_len slabs ≡ times * (turns * unit)
  pub grows : (element k : ℕ) → element < box_len slabs → k < turns - element / unit % turns
      → rank_in (sizes_of dims) (index_at slabs (element + k * unit))
      ≡ rank_in (sizes_of dims) (index_at slabs element) + k * pitch

-- the units that are left of the turns stay within all
pub record Within (times turns unit element : ℕ) : Type 0 where
  pub unit_some : 0 < unit
  pub turns_some : 0 < turns
  pub unit_at : element / unit < times * turns
  pub element_is : element / unit * unit + element % unit ≡ element

pub within_of : (times turns unit element : ℕ) → element < times * (turns * unit) → Within times turns unit element
within_of times turns zero element below =
    let one : turns * zero ≡ 0 = omega arith in
    let none : times * (turns * zero) ≡ 0 = ap (λ (n : ℕ). times * n) one ∙ omega arith in
    absurd (omega (arith, below, none))
within_of times zero (suc unit) element below =
    let one : zero * suc unit ≡ 0 = omega arith in
    let none : times * (zero * suc unit) ≡ 0 = ap (λ (n : ℕ). times * n) one ∙ omega arith in
    absurd (omega (arith, below, none))
within_of times (suc turns) (suc unit) element below = record {
  unit_some = omega arith;
  turns_some = omega arith;
  unit_at = (div-lt_iff_lt-mul {k = suc unit} {x = element} {y = times * suc turns} (omega arith)).1
      (subst (λ (n : ℕ). element < n) (sym (mul_assoc times (suc turns) (suc unit))) below);
  element_is = div-add-mod' element (suc unit);
}

pub within_turning : (times turns unit element k : ℕ) → element < times * (turns * unit)
    → k < turns - element / unit % turns → element + k * unit < times * (turns * unit)
within_turning times turns unit element k below short =
    let at = within_of times turns unit element below in
    let last : element / unit + k < times * turns = within_turns times turns (element / unit) k at.unit_at short in
    let left : element % unit < unit = mod_below element unit at.unit_some in
    let most : suc (element / unit + k) * unit ≤ times * turns * unit = mul-le-mul_right unit last in
    let spread : suc (element / unit + k) * unit ≡ element / unit * unit + k * unit + unit = grind arith in
    let whole : times * turns * unit ≡ times * (turns * unit) = mul_assoc times turns unit in
    omega (arith, at.element_is, left, most, spread, whole)

-- a quotient, some times the divisor further
pub quotient : (m unit r : ℕ) → 0 < unit → (m * unit + r) / unit ≡ m + r / unit
quotient m unit r some =
    let spread : m * unit + r ≡ (m + r / unit) * unit + r % unit = grind (arith, div-add-mod' r unit) in
    ap (λ (n : ℕ). n / unit) spread ∙ div-mul-add (m + r / unit) unit (r % unit) (mod_below r unit some)

-- units that aren't picked more than once behind each other
turning_once : (unit : ℕ) (dims : List Dim) (slabs : List Slab) → box_len slabs ≡ unit → Turning unit 1 0 dims slabs
turning_once unit dims slabs same = record {
  times = 1;
  whole = omega (arith, same);
  grows = λ element k within short.
      let none : k ≡ 0 = omega (arith, short) in
      let stays : element + k * unit ≡ element = ap (λ (n : ℕ). element + n * unit) none ∙ omega arith in
      ap (λ (n : ℕ). rank_in (sizes_of dims) (index_at slabs n)) stays ∙ omega arith;
}

-- the first slab before a unit that picks more than one index
turning_begins : (dim : Dim) (dims : List Dim) (slab : Slab) (slabs : List Slab)
    → Turning (box_len slabs) (slab_count slab) (slab.stride * product (sizes_of dims)) (dim ∷ dims) (slab ∷ slabs)
unfolding box_len product rank_in index_at
turning_begins dim dims slab slabs = record {
  times = 1;
  whole = omega arith;
  grows = λ element k within short.
      let width = box_len slabs in
      let size = product (sizes_of dims) in
      let split = split_of (slab_count slab) width element within in
      let q = element / width in
      let r = element % width in
      let first : q % slab_count slab ≡ q =
      ap (λ (n : ℕ). n % slab_count slab) (omega arith) ∙ mod-mul-add 0 (slab_count slab) q split.first in
      let to : element + k * width ≡ (q + k) * width + r = grind (arith, split.whole) in
      let here : rank_in (sizes_of (dim ∷ dims)) (index_at (slab ∷ slabs) element)
      ≡ (slab.start + q * slab.stride) * size + rank_in (sizes_of dims) (index_at slabs r) = refl in
      let there : rank_in (sizes_of (dim ∷ dims)) (index_at (slab ∷ slabs) (element + k * width))
      ≡ (slab.start + (q + k) * slab.stride) * size + rank_in (sizes_of dims) (index_at slabs r) =
      ap (λ (n : ℕ). rank_in (sizes_of (dim ∷ dims)) (index_at (slab ∷ slabs) n)) to
      ∙ ap (rank_in (sizes_of (dim ∷ dims))) (index_at-cons slab slabs (q + k) r split.second) in
      there ∙ grind arith ∙ ap (λ (n : ℕ). n + k * (slab.stride * size)) (sym here);
}

-- the units that follow each other behind a slab do so with it
turning_apart : (unit turns pitch : ℕ) (dim : Dim) (dims : List Dim) (slab : Slab) (slabs : List Slab)
    → Turning unit turns pitch dims slabs → Turning unit turns pitch (dim ∷ dims) (slab ∷ slabs)
unfolding box_len product rank_in index_at
turning_apart unit turns pitch dim dims slab slabs others = record {
  times = slab_count slab * others.times;
  whole = ap (λ (n : ℕ). slab_count slab * n) others.whole
      ∙ sym (mul_assoc (slab_count slab) others.times (turns * unit));
  grows = λ element k within short.
      let width = box_len slabs in
      let split = split_of (slab_count slab) width element within in
      let q = element / width in
      let r = element % width in
      let inner : r < others.times * (turns * unit) = subst (λ (n : ℕ). r < n) others.whole split.second in
      let some = within_of others.times turns unit r inner in
      let before : element ≡ q * (others.times * turns) * unit + r =
      sym split.whole ∙ ap (λ (n : ℕ). q * n + r) others.whole ∙ grind arith in
      let units : element / unit ≡ q * others.times * turns + r / unit =
      ap (λ (n : ℕ). n / unit) before
      ∙ quotient (q * (others.times * turns)) unit r some.unit_some
      ∙ ap (λ (n : ℕ). n + r / unit) (sym (mul_assoc q others.times turns)) in
      let same : element / unit % turns ≡ r / unit % turns =
      ap (λ (n : ℕ). n % turns) units ∙ mul-add-mod_self_right (q * others.times) turns (r / unit) in
      let close : k < turns - r / unit % turns = subst (λ (n : ℕ). k < turns - n) same short in
      let far : r + k * unit < width = subst (λ (n : ℕ). r + k * unit < n) (sym others.whole)
      (within_turning others.times turns unit r k inner close) in
      let to : element + k * unit ≡ q * width + (r + k * unit) = omega (arith, split.whole) in
      ap (λ (n : ℕ). rank_in (sizes_of (dim ∷ dims)) (index_at (slab ∷ slabs) n)) to
      ∙ ap (rank_in (sizes_of (dim ∷ dims))) (index_at-cons slab slabs q (r + k * unit) far)
      ∙ ap (λ (n : ℕ). slab_index slab q * product (sizes_of dims) + n) (others.grows r k split.second close)
      ∙ omega arith;
}

-- all that is picked behind a slab is one run of turns, with which the slab goes on at the same distance
pub record GoesOn (slab : Slab) (extent : Extent) : Type 0 where
  pub some : 0 < extent.unit
  pub all_is : extent.turns * extent.unit ≡ extent.count
  pub next_is : extent.turns * extent.pitch ≡ slab.stride * extent.size

pub goes_on-parts : (slab : Slab) (extent : Extent) → goes_on slab extent ≡ true → GoesOn slab extent
goes_on-parts slab extent goes =
    let last = and_parts (nat_lt 0 extent.unit && extent.turns * extent.unit == extent.count)
    (extent.turns * extent.pitch == slab.stride * extent.size) goes in
    let first = and_parts (nat_lt 0 extent.unit) (extent.turns * extent.unit == extent.count) last.0 in
    record {
      some = ltb-true 0 extent.unit first.0;
      all_is = eqb-true (extent.turns * extent.unit) extent.count first.1;
      next_is = eqb-true (extent.turns * extent.pitch) (slab.stride * extent.size) last.1;
    }

-- the turns behind an index of a slab are those behind the indices before it, and some more
spread-turns : (start q stride size rank m turns pitch : ℕ) → turns * pitch ≡ stride * size
    → (start + q * stride) * size + (rank + m * pitch) ≡ start * size + rank + (q * turns + m) * pitch
spread-turns start q stride size rank m turns pitch far =
    let first : (start + q * stride) * size + (rank + m * pitch)
    ≡ start * size + rank + (q * (stride * size) + m * pitch) = grind arith in
    let last : q * (turns * pitch) + m * pitch ≡ (q * turns + m) * pitch = grind arith in
    first ∙ ap (λ (n : ℕ). start * size + rank + (q * n + m * pitch)) (sym far)
    ∙ ap (λ (n : ℕ). start * size + rank + n) last

-- an element that a run of turns picks stands as far behind the first unit as there are turns before it
run-rank : (unit turns pitch : ℕ) (dims : List Dim) (slabs : List Slab) → box_len slabs ≡ turns * unit
    → Turning unit turns pitch dims slabs → (element : ℕ) → element < box_len slabs
    → rank_in (sizes_of dims) (index_at slabs element)
    ≡ rank_in (sizes_of dims) (index_at slabs (element % unit)) + element / unit * pitch
run-rank unit turns pitch dims slabs one others element within =
    let at = within_of 1 turns unit element (omega (arith, within, one)) in
    let none : element % unit / unit ≡ 0 =
    ap (λ (n : ℕ). n / unit) (omega arith)
    ∙ div-mul-add 0 unit (element % unit) (mod_below element unit at.unit_some) in
    let first : element % unit / unit % turns ≡ 0 =
    ap (λ (n : ℕ). n % turns) (none ∙ omega arith) ∙ mod-mul-add 0 turns 0 at.turns_some in
    let to : element ≡ element % unit + element / unit * unit = omega (arith, at.element_is) in
    ap (λ (n : ℕ). rank_in (sizes_of dims) (index_at slabs n)) to
    ∙ others.grows (element % unit) (element / unit) (omega (arith, at.element_is, within))
    (omega (arith, at.unit_at, first))

-- the same with a slab before them that goes on
turn-rank : (unit turns pitch : ℕ) (dim : Dim) (dims : List Dim) (slab : Slab) (slabs : List Slab)
    → box_len slabs ≡ turns * unit → turns * pitch ≡ slab.stride * product (sizes_of dims)
    → Turning unit turns pitch dims slabs → (element : ℕ) → element < box_len (slab ∷ slabs)
    → rank_in (sizes_of (dim ∷ dims)) (index_at (slab ∷ slabs) element)
    ≡ slab.start * product (sizes_of dims) + rank_in (sizes_of dims) (index_at slabs (element % unit))
    + element / unit * pitch
unfolding box_len product rank_in index_at
turn-rank unit turns pitch dim dims slab slabs one far others element within =
    let width = box_len slabs in
    let size = product (sizes_of dims) in
    let split = split_of (slab_count slab) width element within in
    let q = element / width in
    let r = element % width in
    let at = within_of 1 turns unit r (omega (arith, split.second, one)) in
    let before : element ≡ q * turns * unit + r =
    sym split.whole ∙ ap (λ (n : ℕ). q * n + r) one ∙ grind arith in
    let units : element / unit ≡ q * turns + r / unit =
    ap (λ (n : ℕ). n / unit) before ∙ quotient (q * turns) unit r at.unit_some in
    let same : element % unit ≡ r % unit =
    ap (λ (n : ℕ). n % unit) before ∙ mul-add-mod_self_right (q * turns) unit r in
    ap (λ (n : ℕ). (slab.start + q * slab.stride) * size + n) (run-rank unit turns pitch dims slabs one others r
    split.second)
    ∙ spread-turns slab.start q slab.stride size (rank_in (sizes_of dims) (index_at slabs (r % unit))) (r / unit) turns
    pitch far
    ∙ ap₂ (λ (m n : ℕ). slab.start * size + rank_in (sizes_of dims) (index_at slabs m) + n * pitch) (sym same)
    (sym units)

-- so the turns go on with it
turning_on : (unit turns pitch : ℕ) (dim : Dim) (dims : List Dim) (slab : Slab) (slabs : List Slab)
    → box_len slabs ≡ turns * unit → turns * pitch ≡ slab.stride * product (sizes_of dims)
    → Turning unit turns pitch dims slabs
    → Turning unit (slab_count slab * turns) pitch (dim ∷ dims) (slab ∷ slabs)
unfolding box_len product
turning_on unit turns pitch dim dims slab slabs one far others = record {
  times = 1;
  whole = ap (λ (n : ℕ). slab_count slab * n) one ∙ grind arith;
  grows = λ element k within short.
      let all = slab_count slab * turns in
      let size = product (sizes_of dims) in
      let whole : box_len (slab ∷ slabs) ≡ 1 * (all * unit) =
      ap (λ (n : ℕ). slab_count slab * n) one ∙ grind arith in
      let below : element < 1 * (all * unit) = subst (λ (n : ℕ). element < n) whole within in
      let at = within_of 1 all unit element below in
      let further : element + k * unit < box_len (slab ∷ slabs) =
      subst (λ (n : ℕ). element + k * unit < n) (sym whole) (within_turning 1 all unit element k below short) in
      let to : element + k * unit ≡ k * unit + element = omega arith in
      let units : (element + k * unit) / unit ≡ k + element / unit =
      ap (λ (n : ℕ). n / unit) to ∙ quotient k unit element at.unit_some in
      let same : (element + k * unit) % unit ≡ element % unit =
      ap (λ (n : ℕ). n % unit) to ∙ mul-add-mod_self_right k unit element in
      let here = turn-rank unit turns pitch dim dims slab slabs one far others element within in
      turn-rank unit turns pitch dim dims slab slabs one far others (element + k * unit) further
      ∙ ap₂ (λ (m n : ℕ). slab.start * size + rank_in (sizes_of dims) (index_at slabs m) + n * pitch) same units
      ∙ grind arith
      ∙ ap (λ (n : ℕ). n + k * pitch) (sym here);
}

-- and with a slab of one dimension more, by what the extent becomes
turning_before : (extent : Extent) (dim : Dim) (dims : List Dim) (slab : Slab) (slabs : List Slab)
    → extent.count ≡ box_len slabs → extent.size ≡ product (sizes_of dims)
    → Turning extent.unit extent.turns extent.pitch dims slabs
    → Turning (extent_before dim.size slab extent).unit (extent_before dim.size slab extent).turns
    (extent_before dim.size slab extent).pitch (dim ∷ dims) (slab ∷ slabs)
unfolding box_len product
turning_before extent dim dims slab slabs count size others =
    by_case (stands_together slab extent) (begins_turns slab extent) (goes_on slab extent)
    (λ begins. eqb-true extent.unit extent.count
    (and_parts (extent.unit == extent.count) (nat_lt 1 (slab_count slab)) begins).0)
    (goes_on-parts slab extent)
  where
    by_case : (together begins goes : Bool) → (begins ≡ true → extent.unit ≡ extent.count)
        → (goes ≡ true → GoesOn slab extent)
        → Turning (cond together (slab_count slab * extent.count) extent.unit)
        (cond together 1 (cond begins (slab_count slab) (cond goes (slab_count slab * extent.turns) extent.turns)))
        (cond together 0 (cond begins (slab.stride * extent.size) extent.pitch)) (dim ∷ dims) (slab ∷ slabs)
    by_case true begins goes one on =
        turning_once (slab_count slab * extent.count) (dim ∷ dims) (slab ∷ slabs)
        (ap (λ (n : ℕ). slab_count slab * n) (sym count))
    by_case false true goes one on =
        subst₂ (λ (m n : ℕ). Turning m (slab_count slab) (slab.stride * n) (dim ∷ dims) (slab ∷ slabs))
        (sym (one refl ∙ count)) (sym size) (turning_begins dim dims slab slabs)
    by_case false false true one on =
        turning_on extent.unit extent.turns extent.pitch dim dims slab slabs
        (sym count ∙ sym (on refl).all_is)
        ((on refl).next_is ∙ ap (λ (n : ℕ). slab.stride * n) size) others
    by_case false false false one on =
        turning_apart extent.unit extent.turns extent.pitch dim dims slab slabs others

-- the units of an extent follow each other at its pitch
pub turning_of : (dims : List Dim) (slabs : List Slab) → AllZip FitsDim dims slabs
    → Turning (extent_of dims slabs).unit (extent_of dims slabs).turns (extent_of dims slabs).pitch dims slabs
unfolding extent_of box_len product
turning_of [] [] fits = turning_once 1 [] [] refl
turning_of [] (slab ∷ slabs) fits = absurd fits
turning_of (dim ∷ dims) [] fits = absurd fits
turning_of (dim ∷ dims) (slab ∷ slabs) fits =
    turning_before (extent_of dims slabs) dim dims slab slabs (extent-count dims slabs fits.1)
    (extent-size dims slabs fits.1) (turning_of dims slabs fits.1)
