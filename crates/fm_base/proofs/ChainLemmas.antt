-- Each step of a chain that has a value has one.
use Rattle.std.proofs.Common.{◌≡◌, Bool, true, false, Option, Some, None, Result, Ok, Err, refl}
use Rattle.std.specs.Option.{ok_or}
use Rattle.fm_base.specs.Chain.{Check, ◌>>=◌, ◌>>◌, refuse, refuse_if}

-- the value of a step that had no fault
pub step_ok : {A B E : Type 0} (r : Result A E) (next : A → Result B E) (b : B) → (r >>= next) ≡ Ok b → (a : A)
    × (r ≡ Ok a) × (next a ≡ Ok b)
step_ok (Ok a) next b e = (a, refl, e)
step_ok (Err fault) next b e = absurd cc

-- a check that had no fault
pub refuse_ok : {B E : Type 0} (o : Option E) (next : Result B E) (b : B) → (refuse o >> next) ≡ Ok b → (o ≡ None)
    × (next ≡ Ok b)
refuse_ok None next b e = (refl, e)
refuse_ok (Some fault) next b e = absurd cc

-- a refusal that was passed
pub refuse_if_ok : {B E : Type 0} (bad : Bool) (fault : E) (next : Result B E) (b : B)
    → (refuse_if bad fault >> next) ≡ Ok b → (bad ≡ false) × (next ≡ Ok b)
refuse_if_ok false fault next b e = (refl, e)
refuse_if_ok true fault next b e = absurd cc

-- a check that was passed
pub check_ok : {B E : Type 0} (check : Check E) (next : Result B E) (b : B) → (check >> next) ≡ Ok b → (check ≡ Ok tt)
    × (next ≡ Ok b)
check_ok (Ok tt) next b e = (refl, e)
check_ok (Err fault) next b e = absurd cc

-- a value that was there
pub ok_or_ok : {A E : Type 0} (o : Option A) (fault : E) (a : A) → ok_or o fault ≡ Ok a → o ≡ Some a
ok_or_ok None fault a e = absurd cc
ok_or_ok (Some x) fault a e = cc

-- two successes that are the same have the same value
pub same_Ok : {A E : Type 0} (a b : A) → ◌≡◌ {A = Result A E} (Ok a) (Ok b) → a ≡ b
same_Ok a b e = cc

-- a lone check that had no fault
pub passed_if : {E : Type 0} (bad : Bool) (fault : E) → refuse_if bad fault ≡ Ok tt → bad ≡ false
passed_if false fault e = refl
passed_if true fault e = absurd cc
