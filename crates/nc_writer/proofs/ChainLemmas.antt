-- A loop that ends at a fault: what its turn leaves of the whole.
use Rattle.std.proofs.Common.{◌≡◌, Result, Err, ap, ◌∙◌}
use Rattle.fm_base.specs.declared.fail.Fail.{Fail}
use Rattle.fm_base.specs.declared.fail.Fail.TheVariants as fails
use Rattle.fm_base.specs.Answer.{Answers}
use Rattle.fm_base.specs.Chain.{Check, ◌>>=◌, ◌>>◌}
use Rattle.nc_writer.specs.Facts.{Adds}

-- the fault of a step is that of the whole
pub adds-fault : (X Y : Type 0) {A E : Type 0} (step whole : Result A E) (next : A → Result A E) (fail : Fail E)
    (one new : A) → whole ≡ (step >>= next) → Adds {X = X} step (Err fail) one → Adds {X = Y} whole (Err fail) new
adds-fault X Y step whole next fails.NoMemory one new is turn = tt
adds-fault X Y step whole next (fails.Fault fault) one new is turn = is ∙ ap (λ s. s >>= next) turn

pub answers-fault : (X : Type 0) {A B E : Type 0} (step : Result A E) (whole : Result B E) (next : A → Result B E)
    (fail : Fail E) (one : A) → whole ≡ (step >>= next) → Adds {X = X} step (Err fail) one → Answers whole (Err fail)
answers-fault X step whole next fails.NoMemory one is turn = tt
answers-fault X step whole next (fails.Fault fault) one is turn = is ∙ ap (λ s. s >>= next) turn

-- and so is that of a check
pub answers-refused : {B E : Type 0} (check : Check E) (whole next : Result B E) (fail : Fail E)
    → whole ≡ (check >> next) → Answers check (Err fail) → Answers whole (Err fail)
answers-refused check whole next fails.NoMemory is turn = tt
answers-refused check whole next (fails.Fault fault) is turn = is ∙ ap (λ s. s >> next) turn
