-- Where the elements of a made file stand.
use Rattle.std.proofs.Common.{◌≡◌, ℕ, zero, suc, ◌+◌, ◌*◌, ◌<◌, ◌≤◌, ◌⊎◌, inl, inr, List, [], ◌∷◌, ◌++◌, length, take, drop, refl, sym, ap, ◌∙◌, arith, append_assoc}
use Rattle.std.proofs.Math.Seq.{drop-append-add, take-append_seam}
use Rattle.std.proofs.lemmas.List.{append-nil, drop-append-le, drop-drop, drop_at}
use Rattle.nc_model.specs.Layout.{element, elements_of, indices_of, offset_of, product, rank_in, record_size, vsize}
use Rattle.nc_model.specs.Reading.{names_record_dim}
use Rattle.fm_gen.specs.Fields.{word, counted, dim_text, attr_text, shape_text, var_front, var_end}
use Rattle.fm_gen.specs.File.{dims_text, time_text, lat_text, lon_text, v_text, vars_text, header_text, made_file}
use Rattle.fm_gen.proofs.ValueLemmas.{number_after-more}
use Rattle.fm_gen.specs.Values.{bits_of, first_number, number_after, number_at, record_text, records_text, steps_text, time_of, values_text}
use Rattle.fm_made.specs.Made.{lat_var, lon_var, made_header, time_var, v_var}
use Rattle.fm_made.proofs.HeaderLemmas.{front, length-front, length-records_text, length-values_text, length-word, parted}

-- the latitudes and the longitudes, whatever follows them
lat_before : (rest : List ℕ) → elements_of (header_text ++ steps_text 8 ++ steps_text 8 ++ rest) made_header lat_var
    ≡ steps_text 8
unfolding word counted dim_text attr_text shape_text var_front var_end dims_text time_text lat_text lon_text v_text
    vars_text header_text steps_text element elements_of indices_of offset_of product rank_in record_size vsize
    names_record_dim
lat_before rest = refl

lon_before : (rest : List ℕ) → elements_of (header_text ++ steps_text 8 ++ steps_text 8 ++ rest) made_header lon_var
    ≡ steps_text 8
unfolding word counted dim_text attr_text shape_text var_front var_end dims_text time_text lat_text lon_text v_text
    vars_text header_text steps_text element elements_of indices_of offset_of product rank_in record_size vsize
    names_record_dim
lon_before rest = refl

pub elements_lat : (seed k : ℕ) → elements_of (made_file seed k) made_header lat_var ≡ steps_text 8
unfolding made_file
elements_lat seed k = lat_before (records_text seed k 65)

pub elements_lon : (seed k : ℕ) → elements_of (made_file seed k) made_header lon_var ≡ steps_text 8
unfolding made_file
elements_lon seed k = lon_before (records_text seed k 65)

-- what stands from record j on: the record, and something
record Stands (seed k j n : ℕ) : Type 0 where
  rest : List ℕ
  here : drop (260 * j) (records_text seed k n) ≡ record_text seed k j ++ rest

pub below_or_last : (j n : ℕ) → j < suc n → (j < n) ⊎ (j ≡ n)
below_or_last j n below = grind arith

record_stands : (seed k j n : ℕ) → j < n → Stands seed k j n
unfolding records_text
record_stands seed k j zero below = absurd (omega arith)
record_stands seed k j (suc n) below =
    elim (below_or_last j n below) [
      | inl earlier ↦
          let before = record_stands seed k j n earlier in
          let long = length-records_text seed k n in
          let within : 260 * j ≤ length (records_text seed k n) = omega (arith, earlier, long) in
          record {
            rest = before.rest ++ record_text seed k n;
            here = drop-append-le (260 * j) (records_text seed k n) (record_text seed k n) within
                ∙ ap (λ (l : List ℕ). l ++ record_text seed k n) before.here
                ∙ append_assoc (record_text seed k j) before.rest (record_text seed k n);
          }
      | inr last ↦
          let long = length-records_text seed k n in
          let same : length (records_text seed k n) ≡ 260 * j = omega (arith, last, long) in
          record {
            rest = [];
            here = drop_at (records_text seed k n) (record_text seed k n) (260 * j) same
                ∙ ap (record_text seed k) (sym last) ∙ sym (append-nil (record_text seed k j));
          }
    ]

offset_of-time : (j : ℕ) → offset_of made_header time_var (j ∷ []) ≡ 340 + j * 260 + 4 * 0
unfolding offset_of product rank_in record_size vsize names_record_dim
offset_of-time j = refl

-- the bytes of time j are those of its number
pub element-time : (seed k j : ℕ) → j < 65
    → element (made_file seed k) made_header time_var (j ∷ []) ≡ word (time_of k j)
unfolding element record_text
element-time seed k j below =
    let at = record_stands seed k j 65 below in
    let words = word (time_of k j) in
    let values = values_text (number_at seed k (64 * j)) 64 in
    let long = length-front in
    let offset : 340 + j * 260 + 4 * 0 ≡ length front + 260 * j = omega (arith, long) in
    ap (λ (n : ℕ). take 4 (drop n (made_file seed k))) (offset_of-time j ∙ offset)
    ∙ ap (λ (l : List ℕ). take 4 (drop (length front + 260 * j) l)) (parted seed k)
    ∙ ap (take 4) (drop-append-add front (records_text seed k 65) (260 * j) ∙ at.here
    ∙ append_assoc words values at.rest)
    ∙ ap (λ (n : ℕ). take n (words ++ (values ++ at.rest))) (sym (length-word (time_of k j)))
    ∙ take-append_seam words (values ++ at.rest)

-- what stands from value m on: its bytes, and something
record StandsAt (x m n : ℕ) : Type 0 where
  rest : List ℕ
  here : drop (4 * m) (values_text x n) ≡ word (bits_of (number_after x m)) ++ rest

value_stands : (x m n : ℕ) → m < n → StandsAt x m n
unfolding values_text
value_stands x m zero below = absurd (omega arith)
value_stands x m (suc n) below =
    let last : List ℕ = word (bits_of (number_after x n)) in
    elim (below_or_last m n below) [
      | inl earlier ↦
          let before = value_stands x m n earlier in
          let long = length-values_text x n in
          let within : 4 * m ≤ length (values_text x n) = omega (arith, earlier, long) in
          record {
            rest = before.rest ++ last;
            here = drop-append-le (4 * m) (values_text x n) last within ∙ ap (λ (l : List ℕ). l ++ last) before.here
                ∙ append_assoc (word (bits_of (number_after x m))) before.rest last;
          }
      | inr equal ↦
          let long = length-values_text x n in
          let same : length (values_text x n) ≡ 4 * m = omega (arith, equal, long) in
          record {
            rest = [];
            here = drop_at (values_text x n) last (4 * m) same
                ∙ ap (λ (i : ℕ). word (bits_of (number_after x i))) (sym equal)
                ∙ sym (append-nil (word (bits_of (number_after x m))));
          }
    ]

offset_of-v : (j a b : ℕ) → offset_of made_header v_var (j ∷ a ∷ b ∷ []) ≡ 344 + j * 260 + 4 * (a * 8 + (b * 1 + 0))
unfolding offset_of product rank_in record_size vsize names_record_dim
offset_of-v j a b = refl

-- value m of record j, by the bytes from the record on
value-of_record : (seed k j m : ℕ) (rest : List ℕ) → m < 64
    → take 4 (drop (4 + 4 * m) (record_text seed k j ++ rest)) ≡ word (bits_of (number_at seed k (64 * j + m)))
unfolding record_text
value-of_record seed k j m rest below =
    let time : List ℕ = word (time_of k j) in
    let x : ℕ = number_at seed k (64 * j) in
    let values : List ℕ = values_text x 64 in
    let at = value_stands x m 64 below in
    let here : List ℕ = word (bits_of (number_after x m)) in
    let long = length-values_text x 64 in
    let within : 4 * m ≤ length values = omega (arith, below, long) in
    ap (λ (l : List ℕ). take 4 (drop (4 + 4 * m) l)) (append_assoc time values rest)
    ∙ ap (λ (n : ℕ). take 4 (drop (n + 4 * m) (time ++ (values ++ rest)))) (sym (length-word (time_of k j)))
    ∙ ap (take 4) (drop-append-add time (values ++ rest) (4 * m) ∙ drop-append-le (4 * m) values rest within
    ∙ ap (λ (l : List ℕ). l ++ rest) at.here ∙ append_assoc here at.rest rest)
    ∙ ap (λ (n : ℕ). take n (here ++ (at.rest ++ rest))) (sym (length-word (bits_of (number_after x m))))
    ∙ take-append_seam here (at.rest ++ rest)
    ∙ ap (λ (n : ℕ). word (bits_of n)) (number_after-more (first_number seed k) (64 * j) m)

-- the bytes of a value are those of its number in the sequence
pub element-v : (seed k j a b : ℕ) → j < 65 → a < 8 → b < 8
    → element (made_file seed k) made_header v_var (j ∷ a ∷ b ∷ [])
    ≡ word (bits_of (number_at seed k (64 * j + (8 * a + b))))
unfolding element
element-v seed k j a b below first second =
    let at = record_stands seed k j 65 below in
    let m : ℕ = 8 * a + b in
    let long = length-front in
    let offset : 344 + j * 260 + 4 * (a * 8 + (b * 1 + 0)) ≡ length front + (260 * j + (4 + 4 * m)) =
    omega (arith, long) in
    ap (λ (n : ℕ). take 4 (drop n (made_file seed k))) (offset_of-v j a b ∙ offset)
    ∙ ap (λ (l : List ℕ). take 4 (drop (length front + (260 * j + (4 + 4 * m))) l)) (parted seed k)
    ∙ ap (take 4) (drop-append-add front (records_text seed k 65) (260 * j + (4 + 4 * m))
    ∙ sym (drop-drop (4 + 4 * m) (260 * j) (records_text seed k 65)) ∙ ap (drop (4 + 4 * m)) at.here)
    ∙ value-of_record seed k j m at.rest (omega (arith, first, second))
