-- A message is read exactly, whatever stands behind it.
use Rattle.std.proofs.Common.{◌≡◌, ℕ, ◌^◌, ◌<◌, Bool, true, false, cond, ◌==◌, List, [], ◌∷◌, ◌++◌, length, Option, Some, refl, sym, ap, subst, ◌∙◌, arith}
use Rattle.std.proofs.lemmas.Bool.{ne_eqb}
use Rattle.std.specs.List.{AllByRecursion}
use Rattle.fm_base.proofs.Exact.{Then, Is}
use Rattle.nc_model.specs.declared.header.Dim.{Dim}
use Rattle.nc_model.specs.Layout.{product}
use Rattle.dap_model.specs.declared.declaration.Array.{Array}
use Rattle.dap_model.specs.declared.declaration.DapKind.{DapKind}
use Rattle.dap_model.specs.declared.declaration.DapKind.TheVariants.{Text}
use Rattle.dap_model.specs.Xdr.{xdr_of}
use Rattle.dap_client.specs.declared.message.Column.{Column}
use Rattle.dap_client.specs.declared.message.Column.TheVariants.{Numbers, Texts}
use Rattle.dap_client.specs.DataReading.{along_at, alone_at, column_after, column_along, column_at, columns_after, counted, is_text, number_alone_at, number_at, numbers_at, text_alone_at, text_at, texts_at}
use Rattle.dap_client.specs.Message.{FitsColumn, IsArray, IsDim, column_text, count_of}
use Rattle.dap_client.specs.Reading.{Reader}
use Rattle.dap_client.proofs.Columns.{ExactTo-text, IsColumn, IsWordOf, counted-of}
use Rattle.dap_client.proofs.ColumnsExact.{ExactTo-numbers, ExactTo-texts, FitsAlong, IsAlong, no_text, text_kind}
use Rattle.dap_client.proofs.Exactly.{ExactTo, ExactTo-as, ExactTo-pure, ExactTo-same}
use Rattle.dap_client.proofs.Joined.{ExactTo-made, then_so}
use Rattle.dap_client.proofs.Numbers.{ExactTo-number, IsNumber}
use Rattle.dap_client.proofs.Repeated.{EachMore, each_and, each_first, each_none, each_spelled}

abbrev made : List ℕ → DapKind → List Dim → Array
made name kind dims = record { name = name; kind = kind; dims = dims }

-- one text
text_alone : (n : ℕ) (name : List ℕ) → ExactTo n (IsColumn (made name Text [])) text_alone_at
unfolding column_text xdr_of product
text_alone n name =
    ExactTo-made n IsWordOf (IsColumn (made name Text [])) text_at (λ word. Texts (word ∷ []))
    (λ text word s. record { fits = (refl, refl, (s.is, tt)); text_is = s.text_is })
    (λ text column t. of_column text column t.fits t.text_is)
    (ExactTo-text n)
  where
    of_column : (text : List ℕ) (column : Column) → FitsColumn (made name Text []) column
        → text ≡ column_text (made name Text []) column
        → (word : List ℕ) × IsWordOf text word × (Texts (word ∷ []) ≡ column)
    of_column text (Numbers bits) fits is = absurd (fits.0 refl)
    of_column text (Texts []) fits is = absurd (let few = fits.1 in omega (arith, few))
    of_column text (Texts (word ∷ [])) fits is = (word, record { is = fits.2.0; text_is = is }, refl)
    of_column text (Texts (word ∷ next ∷ words)) fits is = absurd (let few = fits.1 in omega (arith, few))

-- one number
number_alone : (n : ℕ) (name : List ℕ) (kind : DapKind) → is_text kind ≡ false
    → ExactTo n (IsColumn (made name kind [])) (number_alone_at kind)
unfolding column_text xdr_of product
number_alone n name kind isnt =
    ExactTo-made n (IsNumber kind) (IsColumn (made name kind [])) (number_at kind) (λ bits. Numbers (bits ∷ []))
    (λ text bits s. record { fits = (no_text kind isnt, refl, (s.small, tt)); text_is = s.text_is })
    (λ text column t. of_column text column t.fits t.text_is)
    (ExactTo-number n kind isnt)
  where
    of_column : (text : List ℕ) (column : Column) → FitsColumn (made name kind []) column
        → text ≡ column_text (made name kind []) column
        → (bits : ℕ) × IsNumber kind text bits × (Numbers (bits ∷ []) ≡ column)
    of_column text (Texts words) fits is = absurd (no_text kind isnt fits.0)
    of_column text (Numbers []) fits is = absurd (let few = fits.1 in omega (arith, few))
    of_column text (Numbers (bits ∷ [])) fits is = (bits, record { small = fits.2.0; text_is = is }, refl)
    of_column text (Numbers (bits ∷ next ∷ more)) fits is = absurd (let few = fits.1 in omega (arith, few))

column_alone : (n : ℕ) (name : List ℕ) (kind : DapKind) → ExactTo n (IsColumn (made name kind [])) (alone_at kind)
unfolding alone_at
column_alone n name kind = by_test (is_text kind) refl
  where
    by_test : (b : Bool) → is_text kind ≡ b
        → ExactTo n (IsColumn (made name kind [])) (cond b text_alone_at (number_alone_at kind))
    by_test true is = subst (λ (k : DapKind). ExactTo n (IsColumn (made name k [])) text_alone_at)
        (sym (text_kind kind is)) (text_alone n name)
    by_test false isnt = number_alone n name kind isnt

column_many : (n : ℕ) (name : List ℕ) (kind : DapKind) (dim : Dim) (dims : List Dim)
    → ExactTo n (IsColumn (made name kind (dim ∷ dims))) (along_at kind (count_of (dim ∷ dims)))
unfolding along_at column_text
column_many n name kind dim dims = by_test (is_text kind) refl
  where
    fits_column : (column : Column) → FitsAlong kind (count_of (dim ∷ dims)) column
        → FitsColumn (made name kind (dim ∷ dims)) column
    fits_column (Numbers bits) fits = fits
    fits_column (Texts words) fits = fits

    column_fits : (column : Column) → FitsColumn (made name kind (dim ∷ dims)) column
        → FitsAlong kind (count_of (dim ∷ dims)) column
    column_fits (Numbers bits) fits = fits
    column_fits (Texts words) fits = fits

    as_column : (p : Reader Column) → ExactTo n (IsAlong kind (count_of (dim ∷ dims))) p
        → ExactTo n (IsColumn (made name kind (dim ∷ dims))) p
    as_column p ep =
        ExactTo-as n (IsAlong kind (count_of (dim ∷ dims))) (IsColumn (made name kind (dim ∷ dims))) p
        (λ text column s. record { fits = fits_column column s.fits; text_is = s.text_is })
        (λ text column t. record { fits = column_fits column t.fits; text_is = t.text_is })
        ep

    by_test : (b : Bool) → is_text kind ≡ b
        → ExactTo n (IsColumn (made name kind (dim ∷ dims)))
        (cond b (texts_at (count_of (dim ∷ dims))) (numbers_at kind (count_of (dim ∷ dims))))
    by_test true is = as_column (texts_at (count_of (dim ∷ dims)))
        (subst (λ (k : DapKind). ExactTo n (IsAlong k (count_of (dim ∷ dims))) (texts_at (count_of (dim ∷ dims))))
        (sym (text_kind kind is))
        (ExactTo-texts n (count_of (dim ∷ dims))))
    by_test false isnt = as_column (numbers_at kind (count_of (dim ∷ dims)))
        (ExactTo-numbers n kind isnt (count_of (dim ∷ dims)))

-- the column of an array
ExactTo-column : (n : ℕ) (array : Array) → IsArray array → ExactTo n (IsColumn array) (column_at array)
unfolding column_at column_along
ExactTo-column n array is = by_dims array.name array.kind array.dims is.dims is.few
  where
    by_dims : (name : List ℕ) (kind : DapKind) (dims : List Dim) → AllByRecursion IsDim dims → count_of dims < 2 ^ 32
        → ExactTo n (IsColumn (made name kind dims)) (column_at (made name kind dims))
    by_dims name kind [] all few = column_alone n name kind
    by_dims name kind (dim ∷ dims) all few =
        let there : counted (dim ∷ dims) ≡ Some (count_of (dim ∷ dims)) = counted-of (dim ∷ dims) all few in
        let some : (length (dim ∷ dims) == 0) ≡ false =
        ne_eqb (length (dim ∷ dims)) 0 (λ none. omega (arith, none)) in
        ExactTo-same n (IsColumn (made name kind (dim ∷ dims))) (along_at kind (count_of (dim ∷ dims)))
        (column_at (made name kind (dim ∷ dims)))
        (λ i. ap (λ b. cond b (alone_at kind) (column_along kind (counted (dim ∷ dims))) i) some
        ∙ ap (λ (o : Option ℕ). column_along kind o i) there)
        (column_many n name kind dim dims)

-- a column after others
record ColumnAfter (found : List Column) (array : Array) (text : List ℕ) (next : List Column) : Type 0 where
  column : Column
  is : IsColumn array text column
  next_is : found ++ column ∷ [] ≡ next

-- the columns of arrays, after others
pub ExactTo-arrays : (n : ℕ) (arrays : List Array) → AllByRecursion IsArray arrays → (found : List Column)
    → ExactTo n (EachMore IsColumn arrays found) (columns_after found arrays)
unfolding columns_after column_after
ExactTo-arrays n [] all found =
    ExactTo-as n (Is found) (EachMore IsColumn [] found) (columns_after found [])
    (each_spelled IsColumn found)
    (λ text columns s. each_none IsColumn found text columns s.more s.all_is s.spelled)
    (ExactTo-pure n found)
ExactTo-arrays n (array ∷ arrays) all found =
    ExactTo-as n (Then (ColumnAfter found array) (λ next. EachMore IsColumn arrays next))
    (EachMore IsColumn (array ∷ arrays) found)
    (columns_after found (array ∷ arrays))
    (λ text columns s. each_and IsColumn array arrays found text columns (to_then text columns s))
    (λ text columns t. from_then text columns
    (each_first IsColumn array arrays found text columns t.more t.all_is t.spelled))
    (then_so n (ColumnAfter found array) (λ next. EachMore IsColumn arrays next) (column_after found array)
    (λ next. columns_after next arrays)
    (ExactTo-made n (IsColumn array) (ColumnAfter found array) (column_at array) (λ column. found ++ column ∷ [])
    (λ text column s. record { column = column; is = s; next_is = refl })
    (λ text next t. (t.column, t.is, t.next_is))
    (ExactTo-column n array all.0))
    (λ next front s. ExactTo-arrays n arrays all.1 next))
  where
    to_then : (text : List ℕ) (columns : List Column)
        → Then (ColumnAfter found array) (λ next. EachMore IsColumn arrays next) text columns
        → Then (IsColumn array) (λ x. EachMore IsColumn arrays (found ++ x ∷ [])) text columns
    to_then text columns s = record {
      a = s.first.column;
      front = s.front;
      back = s.back;
      first = s.first.is;
      second = subst (λ (next : List Column). EachMore IsColumn arrays next s.back columns)
          (sym s.first.next_is) s.second;
      text_is = s.text_is;
    }

    from_then : (text : List ℕ) (columns : List Column)
        → Then (IsColumn array) (λ x. EachMore IsColumn arrays (found ++ x ∷ [])) text columns
        → Then (ColumnAfter found array) (λ next. EachMore IsColumn arrays next) text columns
    from_then text columns s = record {
      a = found ++ s.a ∷ [];
      front = s.front;
      back = s.back;
      first = record { column = s.a; is = s.first; next_is = refl };
      second = s.second;
      text_is = s.text_is;
    }
