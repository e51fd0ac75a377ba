-- Dimensions are read exactly.
use Rattle.std.proofs.Common.{◌≡◌, ℕ, zero, suc, ◌/◌, ◌^◌, ◌<◌, ◌≤◌, Bool, true, false, List, [], ◌∷◌, ◌++◌, length, codes, decimal, refl, sym, ap, ap₂, subst, ◌∙◌, append_assoc, append-nil, drop, arith}
use Rattle.std.proofs.Math.Nat.{div-le_self}
use Rattle.std.specs.List.{AllByRecursion}
use Rattle.fm_base.proofs.Exact.{Then, Is, onto}
use Rattle.nc_model.specs.declared.header.Dim.{Dim}
use Rattle.dap_model.specs.StructureText.{dim_text, dims_text}
use Rattle.dap_client.specs.declared.shape.Shape.{Shape}
use Rattle.dap_client.specs.Message.{IsDim, count_of}
use Rattle.dap_client.specs.Reading.{items_at, mark_at}
use Rattle.dap_client.specs.TextReading.{MOST_VALUES, dim_at, dims_at, no_dims, some_dims_at, with_dim}
use Rattle.dap_client.proofs.Exactly.{ExactTo, ExactTo-as, ExactTo-pure}
use Rattle.dap_client.proofs.Joined.{then_so}
use Rattle.dap_client.proofs.Leaves.{IsMark, ExactTo-mark, mark_of, mark_text}
use Rattle.dap_client.proofs.Many.{AreMany, ExactTo-items, IsLoop, Many}
use Rattle.dap_client.proofs.OneDimension.{ExactTo-dim, IsDimMore}
use Rattle.dap_client.proofs.Rooms.{FitRoom, fit_means, fit_of_few, room_after, some_left}

-- the room for one more is some
abbrev HasRoom : Shape → Type 0
HasRoom shape = (1 ≤ shape.room) × (shape.room < 2 ^ 32)

dim_loop : IsLoop (IsMark 91 59) IsDimMore HasRoom
dim_loop = record {
  some = λ text more s. omega (arith, ap length s.text_is);
  end = 59 ∷ [];
  ends = mark_of 91 59 refl false;
  keeps = λ shape next text good s.
      let left = some_left shape.room s.dim.size s.is.some s.within in
      let room : next.room ≡ shape.room / s.dim.size = sym (ap (λ (x : Shape). x.room) s.next_is) in
      let less = div-le_self shape.room s.dim.size in
      let most = good.1 in
      (omega (arith, left, room), omega (arith, less, room, most));
}

-- a shape of these dimensions and this room
abbrev shape_of : List Dim → ℕ → Shape
shape_of dims room = record { dims = dims; room = room }

-- dimensions more, up to the semicolon
record AddsDims (shape : Shape) (text : List ℕ) (all : Shape) : Type 0 where
  more : List Dim
  fits : FitRoom shape.room more
  all_is : shape_of (shape.dims ++ more) (room_after shape.room more) ≡ all
  text_is : text ≡ dims_text more ++ codes ";"

adds_of_many : (n : ℕ) (shape : Shape) (text : List ℕ) (all : Shape) → Many (IsMark 91 59) IsDimMore n shape text all
    → AddsDims shape text all
unfolding Many FitRoom room_after dims_text
adds_of_many zero shape text all s = record {
  more = [];
  fits = tt;
  all_is = ap (λ (l : List Dim). shape_of l shape.room) (append-nil shape.dims) ∙ s.1;
  text_is = mark_text 91 59 text false s.0;
}
adds_of_many (suc n) shape text all s =
    let dim = s.5.dim in
    let next : s.3 ≡ with_dim shape dim.name dim.size = sym s.5.next_is in
    let others = adds_of_many n s.3 s.2 all s.6 in
    let room : s.3.room ≡ shape.room / dim.size = ap (λ (x : Shape). x.room) next in
    let dims : s.3.dims ≡ shape.dims ++ dim ∷ [] = ap (λ (x : Shape). x.dims) next in
    let mark : s.0 ≡ 91 ∷ [] = mark_text 91 59 s.0 true s.4 in
    record {
      more = dim ∷ others.more;
      fits = (s.5.is, s.5.within, subst (λ (r : ℕ). FitRoom r others.more) room others.fits);
      all_is = ap₂ shape_of
          (sym (append_assoc shape.dims (dim ∷ []) others.more)
          ∙ ap (λ (l : List Dim). l ++ others.more) (sym dims))
          (ap (λ (r : ℕ). room_after r others.more) (sym room))
          ∙ others.all_is;
      text_is = s.7
          ∙ ap₂ (λ (x y : List ℕ). x ++ (s.1 ++ y)) mark others.text_is
          ∙ ap (λ (l : List ℕ). l ++ (dims_text others.more ++ codes ";")) s.5.text_is
          ∙ sym (append_assoc (dim_text dim) (dims_text others.more) (codes ";"));
    }

-- a dimension without its bracket
pub dim_tail : (dim : Dim) → (tail : List ℕ) × (91 ∷ tail ≡ dim_text dim)
unfolding dim_text
dim_tail dim = (dim.name ++ codes " = " ++ decimal dim.size ++ codes "]", simp append_assoc)

many_of_adds : (shape : Shape) (text : List ℕ) (all : Shape) (more : List Dim) → FitRoom shape.room more
    → shape_of (shape.dims ++ more) (room_after shape.room more) ≡ all
    → text ≡ dims_text more ++ codes ";" → AreMany (IsMark 91 59) IsDimMore shape text all
unfolding Many FitRoom room_after dims_text
many_of_adds shape text all [] fits is text_is = record {
  count = 0;
  spelled = (
    subst (λ (l : List ℕ). IsMark 91 59 l false) (sym text_is) (mark_of 91 59 refl false),
    sym (ap (λ (l : List Dim). shape_of l shape.room) (append-nil shape.dims)) ∙ is,
  );
}
many_of_adds shape text all (dim ∷ more) fits is text_is =
    let next = with_dim shape dim.name dim.size in
    let tail = dim_tail dim in
    let others = many_of_adds next (dims_text more ++ codes ";") all more fits.2
    (ap (λ (l : List Dim). shape_of l (room_after next.room more))
    (append_assoc shape.dims (dim ∷ []) more) ∙ is) refl in
    record {
      count = suc others.count;
      spelled = (
        91 ∷ [],
        tail.0,
        dims_text more ++ codes ";",
        next,
        mark_of 91 59 refl true,
        record {
          dim = dim;
          is = fits.0;
          within = fits.1;
          next_is = refl;
          text_is = tail.1;
        },
        others.spelled,
        text_is ∙ append_assoc (dim_text dim) (dims_text more) (codes ";")
            ∙ ap (λ (l : List ℕ). l ++ (dims_text more ++ codes ";")) (sym tail.1),
      );
    }

-- the dimensions of an array can be counted
pub record AreDims (dims : List Dim) : Type 0 where
  pub each : AllByRecursion IsDim dims
  pub few : count_of dims < 2 ^ 32

-- a dimension or more, behind the first bracket
pub record AreSomeDims (text : List ℕ) (dims : List Dim) : Type 0 where
  pub are : AreDims dims
  pub some : 0 < length dims
  pub text_is : 91 ∷ text ≡ dims_text dims ++ codes ";"

abbrev SomeParts : List ℕ → List Dim → Type 0
SomeParts = Then (IsDimMore no_dims) (λ first. Then (AreMany (IsMark 91 59) IsDimMore first) (λ shape. Is shape.dims))

some_whole : (text : List ℕ) (dims : List Dim) → SomeParts text dims → AreSomeDims text dims
unfolding FitRoom dims_text
some_whole text dims s =
    let dim = s.first.dim in
    let rest = adds_of_many s.second.first.count s.a s.second.front s.second.a s.second.first.spelled in
    let all = dim ∷ rest.more in
    let next : s.a ≡ with_dim no_dims dim.name dim.size = sym s.first.next_is in
    let room : s.a.room ≡ MOST_VALUES / dim.size = ap (λ (x : Shape). x.room) next in
    let fits : FitRoom MOST_VALUES all =
    (s.first.is, s.first.within, subst (λ (r : ℕ). FitRoom r rest.more) room rest.fits) in
    let means = fit_means MOST_VALUES all (omega arith) fits in
    let few = means.1 in
    let is : all ≡ dims =
    ap (λ (x : Shape). x.dims ++ rest.more) (sym next) ∙ ap (λ (x : Shape). x.dims) rest.all_is
    ∙ s.second.second.value in
    let whole : 91 ∷ text ≡ dims_text all ++ codes ";" =
    ap (λ (l : List ℕ). 91 ∷ l) (s.text_is ∙ onto s.front (s.second.text_is
    ∙ ap₂ (λ (x y : List ℕ). x ++ y) rest.text_is s.second.second.text_is
    ∙ append-nil (dims_text rest.more ++ codes ";")))
    ∙ ap (λ (l : List ℕ). l ++ (dims_text rest.more ++ codes ";")) s.first.text_is
    ∙ sym (append_assoc (dim_text dim) (dims_text rest.more) (codes ";")) in
    subst (AreSomeDims text) is (record {
      are = record { each = means.0; few = omega (arith, few) };
      some = omega arith;
      text_is = whole;
    })

some_split : (text : List ℕ) (dims : List Dim) → AreSomeDims text dims → SomeParts text dims
unfolding FitRoom dims_text
some_split text [] t = absurd (let some = t.some in omega (arith, some))
some_split text (dim ∷ more) t =
    let few = t.are.few in
    let fits = fit_of_few MOST_VALUES (dim ∷ more) t.are.each (omega (arith, few)) in
    let first = with_dim no_dims dim.name dim.size in
    let tail = dim_tail dim in
    let rest = dims_text more ++ codes ";" in
    let whole : 91 ∷ text ≡ 91 ∷ (tail.0 ++ rest) =
    t.text_is ∙ append_assoc (dim_text dim) (dims_text more) (codes ";")
    ∙ ap (λ (l : List ℕ). l ++ rest) (sym tail.1) in
    let all = shape_of (first.dims ++ more) (room_after first.room more) in
    record {
      a = first;
      front = tail.0;
      back = rest;
      first = record { dim = dim; is = fits.0; within = fits.1; next_is = refl; text_is = tail.1 };
      second = record {
        a = all;
        front = rest;
        back = [];
        first = many_of_adds first rest all more fits.2 refl refl;
        second = record { value = refl; text_is = refl };
        text_is = sym (append-nil rest);
      };
      text_is = ap (λ (l : List ℕ). drop 1 l) whole;
    }

-- a dimension or more are read exactly
pub ExactTo-some_dims : (n : ℕ) → ExactTo n AreSomeDims some_dims_at
unfolding some_dims_at
ExactTo-some_dims n =
    ExactTo-as n SomeParts AreSomeDims some_dims_at some_whole some_split
    (then_so n (IsDimMore no_dims) _ (dim_at no_dims) _ (ExactTo-dim n no_dims (omega arith) (omega arith))
    (λ first front s.
    let good = dim_loop.keeps no_dims first front (omega arith, omega arith) s in
    then_so n (AreMany (IsMark 91 59) IsDimMore first) (λ shape. Is shape.dims)
    (items_at (mark_at 91 59) dim_at first) _
    (ExactTo-items n (IsMark 91 59) IsDimMore HasRoom (mark_at 91 59) dim_at dim_loop (λ m. ExactTo-mark m 91 59)
    (λ m shape good. ExactTo-dim m shape good.0 good.1) first good)
    (λ shape front s. ExactTo-pure n shape.dims)))

-- dimensions behind the byte after a name: the bracket of the first one, or the semicolon
unfoldable pub AreDimsBehind : Bool → List ℕ → List Dim → Type 0
AreDimsBehind true = AreSomeDims
AreDimsBehind false = Is []

pub ExactTo-dims : (n : ℕ) (more : Bool) → ExactTo n (AreDimsBehind more) (dims_at more)
unfolding dims_at AreDimsBehind
ExactTo-dims n true = ExactTo-some_dims n
ExactTo-dims n false = ExactTo-pure n []
