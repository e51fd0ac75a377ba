-- Rows of what stands in a file.
use Rattle.std.proofs.Common.{◌≡◌, ◌≢◌, ℕ, zero, suc, ◌+◌, ◌*◌, ◌/◌, ◌%◌, ◌<◌, ◌≤◌, List, [], ◌∷◌, ◌++◌, length, min, take, drop, refl, sym, ap, ap₂, subst, ◌∙◌, arith}
use Rattle.std.specs.Int.{w16, from_be_bytes}
use Rattle.std.specs.List.{flat_map}
use Rattle.std.proofs.Math.Seq.{drop-append-add, take-append_seam}
use Rattle.std.proofs.lemmas.List.{append-nil, append_assoc, drop-drop, drop_min, length-append, length-drop, length-take, length-take-le, take_all}
use Rattle.dap_model.specs.Xdr.{element_bytes, number_bytes}
use Rattle.dap_model.specs.declared.declaration.DapKind.{DapKind}
use Rattle.dap_model.specs.declared.declaration.DapKind.TheVariants.{Int16}
use Rattle.dap_xdr.specs.declared.rows.Rows.{Rows}
use Rattle.dap_number.specs.Front.{widened_bytes}
use Rattle.dap_xdr.specs.Rows.{rows_in, ArePut, AreSentAs}
use Rattle.dap_xdr.specs.Stretch.{AreBytesOf}
use Rattle.dap_xdr.proofs.StoredLemmas.{all-same, widened-numbers}
use Rattle.dap_xdr.proofs.WidenLemmas.{length-widened}

-- one row more
rows-more : (row step count : ℕ) (bytes : List ℕ)
    → rows_in row step (suc count) bytes ≡ rows_in row step count bytes ++ take row (drop (count * step) bytes)
unfolding rows_in
rows-more row step zero bytes =
    let none : 0 ≡ zero * step = omega arith in
    append-nil (take row bytes) ∙ ap (λ (n : ℕ). take row (drop n bytes)) none
rows-more row step (suc count) bytes =
    let far : step + count * step ≡ suc count * step = grind arith in
    ap (λ (l : List ℕ). take row bytes ++ l) (rows-more row step count (drop step bytes))
    ∙ sym (append_assoc (take row bytes) (rows_in row step count (drop step bytes)) _)
    ∙ ap (λ (l : List ℕ). (take row bytes ++ rows_in row step count (drop step bytes)) ++ take row l)
    (drop-drop (count * step) step bytes ∙ ap (λ (n : ℕ). drop n bytes) far)

-- rows have at most their length
rows-most : (row step count : ℕ) (bytes : List ℕ) → length (rows_in row step count bytes) ≤ count * row
unfolding rows_in
rows-most row step zero bytes = omega arith
rows-most row step (suc count) bytes =
    let rest = rows-most row step count (drop step bytes) in
    let spread : suc count * row ≡ row + count * row = grind arith in
    omega (
      arith,
      rest,
      spread,
      length-append (take row bytes) (rows_in row step count (drop step bytes)),
      length-take row bytes,
    )

-- the first of some whole rows is whole, and so are the others
pub record AreWhole (row step count : ℕ) (bytes : List ℕ) : Type 0 where
  pub first : length (take row bytes) ≡ row
  pub others : length (rows_in row step count (drop step bytes)) ≡ count * row

pub are_whole : (row step count : ℕ) (bytes : List ℕ) → length (rows_in row step (suc count) bytes) ≡ suc count * row
    → AreWhole row step count bytes
unfolding rows_in
are_whole row step count bytes whole =
    let most = rows-most row step count (drop step bytes) in
    let spread : suc count * row ≡ row + count * row = grind arith in
    let both = length-append (take row bytes) (rows_in row step count (drop step bytes)) in
    let one = length-take row bytes in
    record {
      first = omega (arith, most, spread, both, one, whole);
      others = omega (arith, most, spread, both, one, whole);
    }

-- rows that are written so far, each by what it is sent as
pub record RowsSoFar (sent_as : List ℕ → List ℕ) (rows : Rows) (stored old : List ℕ) (done filled : ℕ)
    (rest now : List ℕ) : Type 0 where
  pub few : done ≤ rows.most
  pub whole : length (rows_in rows.row rows.step done stored) ≡ done * rows.row
  pub filled_is : filled ≡ length (sent_as (rows_in rows.row rows.step done stored))
  pub fits : filled ≤ length old
  pub rest_is : rest ≡ drop (done * rows.step) stored
  pub now_is : now ≡ sent_as (rows_in rows.row rows.step done stored) ++ drop filled old

pub rows-none : (sent_as : List ℕ → List ℕ) (rows : Rows) (stored old : List ℕ) → sent_as [] ≡ []
    → RowsSoFar sent_as rows stored old 0 0 stored old
unfolding rows_in
rows-none sent_as rows stored old none =
    let first : 0 ≡ 0 * rows.step = omega arith in
    record {
      few = omega arith;
      whole = omega arith;
      filled_is = sym (ap length none);
      fits = omega arith;
      rest_is = ap (λ (n : ℕ). drop n stored) first;
      now_is = ap (λ (l : List ℕ). l ++ old) (sym none);
    }

pub rows-long : (sent_as : List ℕ → List ℕ) (rows : Rows) (stored old : List ℕ) (done filled : ℕ)
    (rest now : List ℕ) → RowsSoFar sent_as rows stored old done filled rest now → length now ≡ length old
rows-long sent_as rows stored old done filled rest now so =
    ap length so.now_is
    ∙ length-append (sent_as (rows_in rows.row rows.step done stored)) (drop filled old)
    ∙ omega (arith, so.filled_is, so.fits, length-drop filled old)

-- one row more, of which `len` bytes are taken and `piece` is written
pub rows-next : (sent_as : List ℕ → List ℕ) (rows : Rows) (stored old : List ℕ)
    (done filled len passed : ℕ) (rest now row piece next later : List ℕ)
    → RowsSoFar sent_as rows stored old done filled rest now → done < rows.most → len ≡ rows.row → len ≤ length rest
    → row ≡ take len rest → filled + length piece ≤ length now
    → sent_as (rows_in rows.row rows.step done stored ++ row)
    ≡ sent_as (rows_in rows.row rows.step done stored) ++ piece
    → next ≡ take filled now ++ (piece ++ drop (filled + length piece) now)
    → passed ≡ min rows.step (length rest) → later ≡ drop passed rest
    → RowsSoFar sent_as rows stored old (done + 1) (filled + length piece) later next
rows-next sent_as rows stored old done filled len passed rest now row piece next later so more is there row_is room both
    written few left =
    let before = rows_in rows.row rows.step done stored in
    let front = sent_as before in
    let long = rows-long sent_as rows stored old done filled rest now so in
    let one : done + 1 ≡ suc done = omega arith in
    let same : row ≡ take rows.row (drop (done * rows.step) stored) = row_is ∙ ap₂ take is so.rest_is in
    let taken : length row ≡ len = ap length row_is ∙ length-take-le len rest there in
    let all : rows_in rows.row rows.step (done + 1) stored ≡ before ++ row =
    ap (λ (n : ℕ). rows_in rows.row rows.step n stored) one ∙ rows-more rows.row rows.step done stored
    ∙ ap (λ (l : List ℕ). before ++ l) (sym same) in
    let sent : sent_as (rows_in rows.row rows.step (done + 1) stored) ≡ front ++ piece = ap sent_as all ∙ both in
    let head : take filled now ≡ front =
    ap₂ take so.filled_is so.now_is ∙ take-append_seam front (drop filled old) in
    let tail : drop (filled + length piece) now ≡ drop (filled + length piece) old =
    ap₂ (λ (n : ℕ) (l : List ℕ). drop (n + length piece) l) so.filled_is so.now_is
    ∙ drop-append-add front (drop filled old) (length piece) ∙ drop-drop (length piece) filled old in
    let spread : (done + 1) * rows.row ≡ done * rows.row + rows.row = grind arith in
    record {
      few = omega (arith, more);
      whole = ap length all ∙ length-append before row ∙ omega (arith, so.whole, taken, is, spread);
      filled_is = omega (arith, ap length sent, length-append front piece, so.filled_is);
      fits = omega (arith, room, long);
      rest_is = left ∙ ap (λ (n : ℕ). drop n rest) few ∙ drop_min rows.step rest
          ∙ ap (drop rows.step) so.rest_is ∙ drop-drop rows.step (done * rows.step) stored
          ∙ ap (λ (n : ℕ). drop n stored) (grind arith);
      now_is = written ∙ ap₂ (λ (l r : List ℕ). l ++ (piece ++ r)) head tail
          ∙ sym (append_assoc front piece (drop (filled + length piece) old))
          ∙ ap (λ (l : List ℕ). l ++ drop (filled + length piece) old) (sym sent);
    }

-- what is written in the end
pub rows-written : (sent_as : List ℕ → List ℕ) (rows : Rows) (stored old : List ℕ) (done filled : ℕ)
    (rest now : List ℕ) → RowsSoFar sent_as rows stored old done filled rest now
    → AreSentAs sent_as rows stored old now filled
rows-written sent_as rows stored old done filled rest now so = record {
  count = done;
  few = so.few;
  whole = so.whole;
  filled_is = so.filled_is;
  fits = so.fits;
  new_is = so.now_is;
}

-- what rows are sent as is written
sent-put : (kind : DapKind) (sent_as : List ℕ → List ℕ) (rows : Rows) (stored old new : List ℕ) (filled : ℕ)
    → ((numbers bytes : List ℕ) → AreBytesOf kind numbers bytes → sent_as bytes ≡ flat_map (element_bytes kind) numbers)
    → AreSentAs sent_as rows stored old new filled → ArePut kind rows stored old new filled
sent-put kind sent_as rows stored old new filled each put = record {
  count = put.count;
  few = put.few;
  whole = put.whole;
  front = λ numbers are.
      let all = flat_map (element_bytes kind) numbers in
      let same : sent_as (rows_in rows.row rows.step put.count stored) ≡ all = each numbers _ are in
      let long : length all ≡ filled = ap length (sym same) ∙ sym put.filled_is in
      record {
        fits = put.fits;
        within = omega (arith, long);
        new_is = put.new_is
            ∙ ap (λ (l : List ℕ). l ++ drop filled old) (same ∙ sym (take_all filled all (omega (arith, long))));
      };
}

-- all but numbers of two bytes are sent as they stand
pub copied-put : (kind : DapKind) (rows : Rows) (stored old new : List ℕ) (filled : ℕ) → kind ≢ Int16
    → AreSentAs (λ bytes. bytes) rows stored old new filled → ArePut kind rows stored old new filled
copied-put kind rows stored old new filled other =
    sent-put kind (λ bytes. bytes) rows stored old new filled
    (λ numbers bytes are. are.bytes_are ∙ all-same kind numbers other)

-- numbers of two bytes are sent in four
pub widened-put : (rows : Rows) (stored old new : List ℕ) (filled : ℕ)
    → AreSentAs widened_bytes rows stored old new filled → ArePut Int16 rows stored old new filled
widened-put rows stored old new filled =
    sent-put Int16 widened_bytes rows stored old new filled
    (λ numbers bytes are. ap widened_bytes are.bytes_are ∙ widened-numbers numbers are.fit)

-- numbers of two bytes behind others
pub widened-append : (number : ℕ) (front back : List ℕ) → length front ≡ 2 * number
    → widened_bytes (front ++ back) ≡ widened_bytes front ++ widened_bytes back
unfolding widened_bytes
widened-append number [] back even = refl
widened-append number (high ∷ []) back even = absurd (omega (arith, even))
widened-append zero (high ∷ low ∷ front) back even = absurd (omega (arith, even))
widened-append (suc number) (high ∷ low ∷ front) back even =
    ap (λ (l : List ℕ). number_bytes Int16 (from_be_bytes w16 (high ∷ low ∷ [])) ++ l)
    (widened-append number front back (omega (arith, even)))
    ∙ sym (append_assoc _ (widened_bytes front) (widened_bytes back))

-- one row more of numbers of two bytes
pub widen-next : (rows : Rows) (stored old : List ℕ) (done filled len passed count : ℕ)
    (rest now row front back new later : List ℕ) → RowsSoFar widened_bytes rows stored old done filled rest now
    → done < rows.most → len ≡ rows.row → len % 2 ≡ 0 → len ≤ length rest → row ≡ take len rest
    → now ≡ front ++ back → length front ≡ filled → len * 2 ≤ length back
    → count ≡ 4 * min (length row / 2) (length back / 4)
    → new ≡ widened_bytes (take (count / 2) row) ++ drop count back
    → passed ≡ min rows.step (length rest) → later ≡ drop passed rest
    → RowsSoFar widened_bytes rows stored old (done + 1) (filled + count) later (front ++ new)
widen-next rows stored old done filled len passed count rest now row front back new later so more is even there row_is
    split long room many written few left =
    let before = rows_in rows.row rows.step done stored in
    let piece = widened_bytes row in
    let taken : length row ≡ len = ap length row_is ∙ length-take-le len rest there in
    let two : len ≡ 2 * (len / 2) = omega (arith, even) in
    let all : take len row ≡ row = take_all len row (omega (arith, taken)) in
    let wide : length piece ≡ 2 * len =
    ap (λ (l : List ℕ). length (widened_bytes l)) (sym all)
    ∙ length-widened (len / 2) len row two (omega (arith, taken)) in
    let count_is : count ≡ length piece = omega (arith, many, taken, two, room, wide) in
    let half : count / 2 ≡ len = omega (arith, count_is, wide) in
    let pairs : length before ≡ 2 * (done * (len / 2)) =
    so.whole ∙ ap (λ (n : ℕ). done * n) (sym is ∙ two) ∙ grind arith in
    let front_is : take filled now ≡ front = ap₂ take (sym long) split ∙ take-append_seam front back in
    let back_is : drop (filled + length piece) now ≡ drop (length piece) back =
    ap₂ (λ (n : ℕ) (l : List ℕ). drop (n + length piece) l) (sym long) split
    ∙ drop-append-add front back (length piece) in
    let new_is : new ≡ piece ++ drop (length piece) back =
    written ∙ ap₂ (λ (l : List ℕ) (n : ℕ). widened_bytes l ++ drop n back)
    (ap (λ (n : ℕ). take n row) half ∙ all) count_is in
    subst (λ (n : ℕ). RowsSoFar widened_bytes rows stored old (done + 1) (filled + n) later (front ++ new))
    (sym count_is)
    (rows-next widened_bytes rows stored old done filled len passed rest now row piece (front ++ new) later so more is
    there row_is
    (omega (arith, wide, room, long, ap length split, length-append front back))
    (widened-append (done * (len / 2)) before row pairs)
    (ap₂ (λ (l r : List ℕ). l ++ r) (sym front_is) (new_is ∙ ap (λ (l : List ℕ). piece ++ l) (sym back_is)))
    few left)

-- nothing is written of no rows
pub none-written : (sent_as : List ℕ → List ℕ) (rows : Rows) (stored old : List ℕ) → sent_as [] ≡ []
    → AreSentAs sent_as rows stored old old 0
none-written sent_as rows stored old none =
    rows-written sent_as rows stored old 0 0 stored old (rows-none sent_as rows stored old none)
