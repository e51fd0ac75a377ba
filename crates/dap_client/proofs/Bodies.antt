-- The body of a reply is read exactly.
use Rattle.std.proofs.Common.{◌≡◌, ℕ, ◌*◌, ◌^◌, ◌<◌, ◌≤◌, List, [], ◌∷◌, ◌++◌, codes, refl, sym, ap, ap₂, subst, ◌∙◌, append_assoc, append-nil, arith}
use Rattle.std.proofs.Math.Nat.{le-mul_of_pos_right, mul_comm}
use Rattle.std.specs.List.{AllByRecursion}
use Rattle.fm_base.proofs.Exact.{Then, Is, onto}
use Rattle.nc_model.specs.declared.header.Dim.{Dim}
use Rattle.nc_model.specs.Layout.{product}
use Rattle.dap_model.specs.declared.declaration.Array.{Array}
use Rattle.dap_model.specs.declared.declaration.Decl.{Decl}
use Rattle.dap_model.specs.declared.declaration.Decl.TheVariants.{Plain, Grid, Structure}
use Rattle.dap_model.specs.Picking.{parts_of}
use Rattle.dap_model.specs.StructureText.{dds_of}
use Rattle.dap_client.specs.declared.message.Column.{Column}
use Rattle.dap_client.specs.declared.message.Message.{Message}
use Rattle.dap_client.specs.DataReading.{body_at, columns_after, columns_at}
use Rattle.dap_client.specs.Message.{AreColumnsOf, AreMapsOf, IsArray, IsDecl, IsDim, Spells, arrays_of, columns_text, column_text, count_of, map_of, message_text}
use Rattle.dap_client.specs.Reading.{fixed_at}
use Rattle.dap_client.specs.TextReading.{dataset_at}
use Rattle.dap_client.proofs.Columns.{IsColumn}
use Rattle.dap_client.proofs.Datasets.{ExactTo-dataset, IsDataset}
use Rattle.dap_client.proofs.Exactly.{ExactTo, ExactTo-as, ExactTo-pure}
use Rattle.dap_client.proofs.Joined.{then_so}
use Rattle.dap_client.proofs.Fixed.{IsFixed, ExactTo-fixed}
use Rattle.dap_client.proofs.Messages.{ExactTo-arrays}
use Rattle.dap_client.proofs.Repeated.{EachMore, SpelledEach}
use Rattle.dap_client.proofs.Rooms.{some_of_dims}

-- the maps of dimensions are arrays, where the values along all of them can be counted
map_arrays : (dims : List Dim) (maps : List Array) → AllByRecursion IsDim dims → count_of dims < 2 ^ 32
    → AreMapsOf dims maps → AllByRecursion IsArray maps
unfolding product
map_arrays [] [] all few are = tt
map_arrays [] (first ∷ maps) all few are = absurd are
map_arrays (dim ∷ dims) [] all few are = absurd are
map_arrays (dim ∷ dims) (first ∷ maps) all few are =
    let some = some_of_dims dims all.1 in
    let one = all.0.some in
    let least : dim.size ≤ dim.size * count_of dims = le-mul_of_pos_right dim.size (omega (arith, some)) in
    let rest : count_of dims ≤ count_of dims * dim.size = le-mul_of_pos_right (count_of dims) (omega (arith, one)) in
    let turned : dim.size * count_of dims ≡ count_of dims * dim.size = mul_comm dim.size (count_of dims) in
    let map : IsArray (map_of dim first.kind) = record {
      name = all.0.name;
      dims = (all.0, tt);
      few = omega (arith, least, few);
    } in
    (subst IsArray (sym are.0) map, map_arrays dims maps all.1 (omega (arith, rest, turned, few)) are.1)

-- the parts of a declaration are arrays
part_arrays : (decl : Decl) → IsDecl decl → AllByRecursion IsArray (parts_of decl)
part_arrays (Plain array) is = (is, tt)
part_arrays (Grid name array maps) is =
    (is.array_is, map_arrays array.dims maps is.array_is.dims is.array_is.few is.maps_are)
part_arrays (Structure name members) is = is.members_are

-- an item for each of some and then of others is one for each of all
each_join : {A B : Type 0} (S : A → List ℕ → B → Type 0) (xs ys : List A) (first second : List ℕ) (items more : List B)
    → SpelledEach S xs first items → SpelledEach S ys second more
    → SpelledEach S (xs ++ ys) (first ++ second) (items ++ more)
unfolding SpelledEach
each_join S [] ys first second [] more s t = subst (λ (l : List ℕ). SpelledEach S ys l more)
    (ap (λ (l : List ℕ). l ++ second) (sym s)) t
each_join S [] ys first second (item ∷ items) more s t = absurd s
each_join S (x ∷ xs) ys first second [] more s t = absurd s
each_join S (x ∷ xs) ys first second (item ∷ items) more s t = (
  s.0,
  s.1 ++ second,
  s.2,
  each_join S xs ys s.1 second items more s.3 t,
  ap (λ (l : List ℕ). l ++ second) s.4 ∙ append_assoc s.0 s.1 second,
)

-- the same taken apart
record EachApart {A B : Type 0} (S : A → List ℕ → B → Type 0) (xs ys : List A) (text : List ℕ)
    (all : List B) : Type 0 where
  front : List ℕ
  back : List ℕ
  items : List B
  more : List B
  first : SpelledEach S xs front items
  second : SpelledEach S ys back more
  text_is : text ≡ front ++ back
  all_is : all ≡ items ++ more

each_apart : {A B : Type 0} (S : A → List ℕ → B → Type 0) (xs ys : List A) (text : List ℕ) (all : List B)
    → SpelledEach S (xs ++ ys) text all → EachApart S xs ys text all
unfolding SpelledEach
each_apart S [] ys text all s = record {
  front = [];
  back = text;
  items = [];
  more = all;
  first = refl;
  second = s;
  text_is = refl;
  all_is = refl;
}
each_apart S (x ∷ xs) ys text [] s = absurd s
each_apart {A} {B} S (x ∷ xs) ys text (item ∷ all) s =
    let rest = each_apart S xs ys s.1 all s.3 in
    record {
      front = s.0 ++ rest.front;
      back = rest.back;
      items = item ∷ rest.items;
      more = rest.more;
      first = (s.0, rest.front, s.2, rest.first, refl);
      second = rest.second;
      text_is = s.4 ∙ onto s.0 rest.text_is ∙ sym (append_assoc s.0 rest.front rest.back);
      all_is = ap (λ (l : List B). item ∷ l) rest.all_is;
    }

-- the columns of declarations, after others
ExactTo-decl_columns : (n : ℕ) (decls : List Decl) → AllByRecursion IsDecl decls → (found : List Column)
    → ExactTo n (EachMore IsColumn (arrays_of decls) found) (columns_at decls found)
unfolding columns_at SpelledEach
ExactTo-decl_columns n [] all found =
    ExactTo-as n (Is found) (EachMore IsColumn [] found) (columns_at [] found)
    (λ text columns s. record {
      more = [];
      all_is = sym s.value ∙ sym (append-nil found);
      spelled = s.text_is;
    })
    (λ text columns s. none text columns s.more s.all_is s.spelled)
    (ExactTo-pure n found)
  where
    none : (text : List ℕ) (columns more : List Column) → columns ≡ found ++ more → SpelledEach IsColumn [] text more
        → Is found text columns
    none text columns [] is s = record { value = sym (is ∙ append-nil found); text_is = s }
    none text columns (x ∷ more) is s = absurd s
ExactTo-decl_columns n (decl ∷ decls) all found =
    let parts = parts_of decl in
    let others = arrays_of decls in
    ExactTo-as n (Then (EachMore IsColumn parts found) (λ next. EachMore IsColumn others next))
    (EachMore IsColumn (parts ++ others) found) (columns_at (decl ∷ decls) found)
    (λ text columns s. record {
      more = s.first.more ++ s.second.more;
      all_is = s.second.all_is ∙ ap (λ (l : List Column). l ++ s.second.more) s.first.all_is
          ∙ append_assoc found s.first.more s.second.more;
      spelled = subst (λ (l : List ℕ). SpelledEach IsColumn (parts ++ others) l (s.first.more ++ s.second.more))
          (sym s.text_is)
          (each_join IsColumn parts others s.front s.back s.first.more s.second.more s.first.spelled s.second.spelled);
    })
    (λ text columns s.
    let apart = each_apart IsColumn parts others text s.more s.spelled in
    record {
      a = found ++ apart.items;
      front = apart.front;
      back = apart.back;
      first = record { more = apart.items; all_is = refl; spelled = apart.first };
      second = record {
        more = apart.more;
        all_is = s.all_is ∙ ap (λ (l : List Column). found ++ l) apart.all_is
            ∙ sym (append_assoc found apart.items apart.more);
        spelled = apart.second;
      };
      text_is = apart.text_is;
    })
    (then_so n (EachMore IsColumn parts found) (λ next. EachMore IsColumn others next) (columns_after found parts)
    (λ next. columns_at decls next) (ExactTo-arrays n parts (part_arrays decl all.0) found)
    (λ next front s. ExactTo-decl_columns n decls all.1 next))

-- columns that are spelled fit their arrays
columns_fit : (arrays : List Array) (text : List ℕ) (columns : List Column) → SpelledEach IsColumn arrays text columns
    → AreColumnsOf arrays columns × (text ≡ columns_text arrays columns)
unfolding SpelledEach columns_text
columns_fit [] text [] s = (tt, s)
columns_fit [] text (column ∷ columns) s = absurd s
columns_fit (array ∷ arrays) text [] s = absurd s
columns_fit (array ∷ arrays) text (column ∷ columns) s =
    let rest = columns_fit arrays s.1 columns s.3 in
    ((s.2.fits, rest.0), s.4 ∙ ap₂ (λ (x y : List ℕ). x ++ y) s.2.text_is rest.1)

fit_columns : (arrays : List Array) (text : List ℕ) (columns : List Column) → AreColumnsOf arrays columns
    → text ≡ columns_text arrays columns → SpelledEach IsColumn arrays text columns
unfolding SpelledEach columns_text
fit_columns [] text [] are is = is
fit_columns [] text (column ∷ columns) are is = absurd are
fit_columns (array ∷ arrays) text [] are is = absurd are
fit_columns (array ∷ arrays) text (column ∷ columns) are is = (
  column_text array column,
  columns_text arrays columns,
  record { fits = are.0; text_is = refl },
  fit_columns arrays (columns_text arrays columns) columns are.1 refl,
  is,
)

-- a message of these parts
abbrev message_of : List ℕ × List Decl → List Column → Message
message_of dataset columns = record { label = dataset.0; decls = dataset.1; columns = columns }

abbrev BodyParts : List ℕ → Message → Type 0
BodyParts = Then IsDataset (λ dataset. Then (IsFixed (codes "Data:\n"))
    (λ line. Then (EachMore IsColumn (arrays_of dataset.1) []) (λ columns. Is (message_of dataset columns))))

body_joined : (text line data_text : List ℕ) → text ++ (line ++ (data_text ++ [])) ≡ text ++ line ++ data_text
body_joined text line data_text = simp (append_assoc, append-nil)

-- a body is read exactly
pub ExactTo-body : (n : ℕ) → ExactTo n Spells body_at
unfolding body_at message_text
ExactTo-body n =
    ExactTo-as n BodyParts Spells body_at
    (λ text message s.
    let line = s.second in
    let columns = line.second in
    let means = columns_fit (arrays_of s.a.1) columns.front columns.first.more columns.first.spelled in
    let is : columns.first.more ≡ columns.a = sym columns.first.all_is in
    let whole : text ≡ dds_of s.a.0 s.a.1
    ++ (codes "Data:\n" ++ (columns_text (arrays_of s.a.1) columns.first.more ++ [])) =
    s.text_is
    ∙ ap₂ (λ (x y : List ℕ). x ++ y) s.first.text_is (line.text_is
    ∙ ap₂ (λ (x y : List ℕ). x ++ y) line.first.text_is (columns.text_is
    ∙ ap₂ (λ (x y : List ℕ). x ++ y) means.1 columns.second.text_is)) in
    subst (Spells text) (ap (λ (l : List Column). message_of s.a l) is ∙ columns.second.value) (record {
      sound = record { label = s.first.label; decls = s.first.decls; columns = means.0 };
      text_is = whole
          ∙ body_joined (dds_of s.a.0 s.a.1) (codes "Data:\n") (columns_text (arrays_of s.a.1) columns.first.more);
    }))
    (λ text message t.
    let dataset : List ℕ × List Decl = (message.label, message.decls) in
    let values = columns_text (arrays_of message.decls) message.columns in
    record {
      a = dataset;
      front = dds_of message.label message.decls;
      back = codes "Data:\n" ++ (values ++ []);
      first = record { label = t.sound.label; decls = t.sound.decls; text_is = refl };
      second = record {
        a = tt;
        front = codes "Data:\n";
        back = values ++ [];
        first = record { text_is = refl };
        second = record {
          a = message.columns;
          front = values;
          back = [];
          first = record {
            more = message.columns;
            all_is = refl;
            spelled = fit_columns (arrays_of message.decls) values message.columns t.sound.columns refl;
          };
          second = record { value = refl; text_is = refl };
          text_is = refl;
        };
        text_is = refl;
      };
      text_is = t.text_is ∙ sym (body_joined (dds_of message.label message.decls) (codes "Data:\n") values);
    })
    (then_so n IsDataset _ dataset_at _ (ExactTo-dataset n)
    (λ dataset front s. then_so n (IsFixed (codes "Data:\n")) _ (fixed_at (codes "Data:\n")) _
    (ExactTo-fixed n (codes "Data:\n"))
    (λ line front t. then_so n (EachMore IsColumn (arrays_of dataset.1) []) (λ columns. Is (message_of dataset columns))
    (columns_at dataset.1 []) _ (ExactTo-decl_columns n dataset.1 s.decls [])
    (λ columns front t. ExactTo-pure n (message_of dataset columns)))))
