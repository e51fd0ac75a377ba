-- The room for the sizes of dimensions, which is divided by each of them, keeps their product within the limit.
use Rattle.std.proofs.Common.{◌≡◌, ℕ, ◌*◌, ◌/◌, ◌≤◌, List, [], ◌∷◌, arith}
use Rattle.std.proofs.Math.Nat.{div-mul-le_self, le-mul_of_pos_right, mul-le-mul_left, mul_comm, one-le-mul}
use Rattle.std.proofs.lemmas.Nat.{le-div}
use Rattle.std.specs.List.{AllByRecursion}
use Rattle.nc_model.specs.declared.header.Dim.{Dim}
use Rattle.nc_model.specs.Layout.{product}
use Rattle.dap_client.specs.Message.{IsDim, count_of}

-- each dimension is one, and its size fits the room that those before it leave
unfoldable pub FitRoom : ℕ → List Dim → Type 0
FitRoom room [] = Unit {0}
FitRoom room (dim ∷ dims) = IsDim dim × (dim.size ≤ room) × FitRoom (room / dim.size) dims

-- the room that dimensions leave
unfoldable pub room_after : ℕ → List Dim → ℕ
room_after room [] = room
room_after room (dim ∷ dims) = room_after (room / dim.size) dims

-- a size of 1 or more within the room leaves some
pub some_left : (room size : ℕ) → 1 ≤ size → size ≤ room → 1 ≤ room / size
some_left room size some within = le-div 1 room size (omega (arith, some)) (omega (arith, within))

dims_of_fit : (room : ℕ) (dims : List Dim) → FitRoom room dims → AllByRecursion IsDim dims
unfolding FitRoom
dims_of_fit room [] fit = tt
dims_of_fit room (dim ∷ dims) fit = (fit.0, dims_of_fit (room / dim.size) dims fit.2)

pub few_of_fit : (room : ℕ) (dims : List Dim) → 1 ≤ room → FitRoom room dims → count_of dims ≤ room
unfolding FitRoom product
few_of_fit room [] some fit = some
few_of_fit room (dim ∷ dims) some fit =
    let rest = few_of_fit (room / dim.size) dims (some_left room dim.size fit.0.some fit.1) fit.2 in
    let times : dim.size * count_of dims ≤ dim.size * (room / dim.size) = mul-le-mul_left dim.size rest in
    let turned : dim.size * (room / dim.size) ≡ room / dim.size * dim.size = mul_comm dim.size (room / dim.size) in
    let most = div-mul-le_self room dim.size in
    omega (arith, times, turned, most)

pub some_of_dims : (dims : List Dim) → AllByRecursion IsDim dims → 1 ≤ count_of dims
unfolding product
some_of_dims [] all = omega arith
some_of_dims (dim ∷ dims) all = one-le-mul all.0.some (some_of_dims dims all.1)

pub fit_of_few : (room : ℕ) (dims : List Dim) → AllByRecursion IsDim dims → count_of dims ≤ room → FitRoom room dims
unfolding FitRoom product
fit_of_few room [] all few = tt
fit_of_few room (dim ∷ dims) all few =
    let some = some_of_dims dims all.1 in
    let least : dim.size ≤ dim.size * count_of dims = le-mul_of_pos_right dim.size (omega (arith, some)) in
    let turned : dim.size * count_of dims ≡ count_of dims * dim.size = mul_comm dim.size (count_of dims) in
    let one = all.0.some in
    let rest : count_of dims ≤ room / dim.size =
    le-div (count_of dims) room dim.size (omega (arith, one)) (omega (arith, few, turned)) in
    (all.0, omega (arith, least, few), fit_of_few (room / dim.size) dims all.1 rest)

-- dimensions fit the room exactly where their product does
pub fit_means : (room : ℕ) (dims : List Dim) → 1 ≤ room → FitRoom room dims
    → AllByRecursion IsDim dims × (count_of dims ≤ room)
fit_means room dims some fit = (dims_of_fit room dims fit, few_of_fit room dims some fit)
