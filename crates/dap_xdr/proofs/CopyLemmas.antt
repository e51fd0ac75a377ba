-- Rows that are copied one after the other.
use Rattle.std.proofs.Common.{◌≡◌, ℕ, ◌+◌, ◌-◌, ◌*◌, ◌/◌, ◌<◌, ◌≤◌, List, ◌++◌, length, min, take, drop, refl, sym, ap, ap₂, subst, ◌∙◌, arith}
use Rattle.std.proofs.Math.Path.{subst₂}
use Rattle.std.proofs.lemmas.List.{length-take-le}
use Rattle.std.proofs.lemmas.Nat.{div-add-mod', mul-le}
use Rattle.dap_xdr.specs.declared.rows.Rows.{Rows}
use Rattle.dap_xdr.specs.Rows.{rows_in, AreSentAs}
use Rattle.dap_xdr.proofs.RowLemmas.{rows-next, rows-none, rows-written, RowsSoFar}

-- a row stands whole in `there` bytes, where no more stand before it than fit behind the first
pub row-there : (there len step k : ℕ) → len ≤ there → k ≤ (there - len) / step → k * step + len ≤ there
row-there there len step k first few =
    let split = div-add-mod' (there - len) step in
    let before = mul-le k step ((there - len) / step) step few (omega arith) in
    omega (arith, first, split, before)

-- no more rows than fit take no more than the room
pub rows-fit : (count len room : ℕ) → count ≤ room / len → count * len ≤ room
rows-fit count len room few =
    let split = div-add-mod' room len in
    let all = mul-le count len (room / len) len few (omega arith) in
    omega (arith, split, all)

-- each of the rows that fit
pub row-fits : (count len room done : ℕ) → count * len ≤ room → done < count → done * len + len ≤ room
row-fits count len room done all below =
    let spread : (done + 1) * len ≡ done * len + len = grind arith in
    omega (arith, all, spread, mul-le (done + 1) len count len (omega (arith, below)) (omega arith))

-- some rows are copied over the front of a buffer
abbrev pub RowsCopied : Rows → List ℕ → List ℕ → ℕ → List ℕ → Type 0
RowsCopied rows stored old done now =
    RowsSoFar (λ (bytes : List ℕ). bytes) rows stored old done (done * rows.row) (drop (done * rows.step) stored) now

pub none-copied : (rows : Rows) (stored old : List ℕ) → RowsCopied rows stored old 0 old
none-copied rows stored old =
    let no_bytes : 0 ≡ 0 * rows.row = omega arith in
    let first : 0 ≡ 0 * rows.step = omega arith in
    subst₂ (λ (filled : ℕ) (rest : List ℕ). RowsSoFar (λ (bytes : List ℕ). bytes) rows stored old 0 filled rest old)
    no_bytes (ap (λ (n : ℕ). drop n stored) first) (rows-none (λ (bytes : List ℕ). bytes) rows stored old refl)

-- one row more
pub one-copied : (rows : Rows) (stored old : List ℕ) (done len step : ℕ) (rest now row next : List ℕ)
    → RowsCopied rows stored old done now → done < rows.most → len ≡ rows.row → step ≡ rows.step
    → rest ≡ drop (done * step) stored → len ≤ length rest → row ≡ take len rest
    → done * len + length row ≤ length now
    → next ≡ take (done * len) now ++ (row ++ drop (done * len + length row) now)
    → RowsCopied rows stored old (done + 1) next
one-copied rows stored old done len step rest now row next so more is apart rest_is there row_is room written =
    let ends : done * len ≡ done * rows.row = ap (λ (n : ℕ). done * n) is in
    let left = drop (done * rows.step) stored in
    let same : rest ≡ left = rest_is ∙ ap (λ (n : ℕ). drop (done * n) stored) apart in
    let taken : length row ≡ rows.row = ap length row_is ∙ length-take-le len rest there ∙ is in
    let spread : (done + 1) * rows.row ≡ done * rows.row + rows.row = grind arith in
    let passed = min rows.step (length left) in
    let so_far = rows-next (λ (bytes : List ℕ). bytes) rows stored old done (done * rows.row) len passed left now row
    row next (drop passed left) so more is (omega (arith, there, ap length same)) (row_is ∙ ap (take len) same)
    (omega (arith, room, ends)) refl
    (written ∙ ap (λ (n : ℕ). take n now ++ (row ++ drop (n + length row) now)) ends) refl refl in
    record {
      few = so_far.few;
      whole = so_far.whole;
      filled_is = omega (arith, so_far.filled_is, taken, spread);
      fits = omega (arith, so_far.fits, taken, spread);
      rest_is = refl;
      now_is = so_far.now_is
          ∙ ap (λ (n : ℕ). rows_in rows.row rows.step (done + 1) stored ++ drop n old) (omega (arith, taken, spread));
    }

-- all rows
pub all-copied : (rows : Rows) (stored old : List ℕ) (done count len : ℕ) (now : List ℕ)
    → RowsCopied rows stored old done now → done ≡ count → len ≡ rows.row
    → AreSentAs (λ (bytes : List ℕ). bytes) rows stored old now (count * len)
all-copied rows stored old done count len now so end is =
    subst (AreSentAs (λ (bytes : List ℕ). bytes) rows stored old now) (ap₂ (λ (m n : ℕ). m * n) end (sym is))
    (rows-written (λ (bytes : List ℕ). bytes) rows stored old done (done * rows.row) (drop (done * rows.step) stored)
    now so)
