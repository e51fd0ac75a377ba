-- The collections of a run: their prototypes, and the devices for each.
use Rattle.std.proofs.Common.{◌≡◌, ◌⊎◌, inl, inr, ℕ, suc, ◌<◌, ◌≤◌, List, ◌∷◌, length, All, get_or, false, sym, ap, subst, ◌∙◌, arith}
use Rattle.fm_model.specs.declared.proto.Proto.{Proto}
use Rattle.dev_traits.specs.declared.world.Devices.{Devices}
use Rattle.dap_reply.specs.Collections.{Collections}
use Rattle.srv_many.specs.Choice.{choice_of}
use Rattle.srv_many.specs.Several.{nth}
use Rattle.srv_workers.specs.Both.{all_collections, all_protos}
use Rattle.srv_workers.specs.Desks.{first_of}
use Rattle.srv_workers.specs.Given.{each_of}
use Rattle.srv_workers.specs.Opened.{HasOneEach}
use Rattle.srv_workers.specs.Several.{collections_over}
use Rattle.srv_workers.proofs.EachLemmas.{length-never, length-once}
use Rattle.srv_workers.proofs.FirstLemmas.{length-first}

-- what holds of all holds of the one at an index
pub all-at : {A : Type 0} (P : A → Type 0) (xs : List A) (i : ℕ) (x : A) → All P xs → i < length xs
    → x ≡ get_or xs i x → P x
all-at P xs i x all below is = subst P (sym is) (all i x below)

-- the collections of a desk and of others are those over their prototypes
pub over-all : (protos : List Proto) (proto : Proto) (others : Collections)
    → protos ≡ proto ∷ first_of others.count others.proto → all_collections proto others ≡ collections_over protos
over-all protos proto others are =
    ap counted (sym (length-first others.count others.proto)) ∙ ap (λ (l : List Proto). collections_over l) (sym are)
  where
    counted : ℕ → Collections
    counted count = record {
      count = suc count;
      proto = nth proto (all_protos proto others);
      still = λ _. false;
      choice = choice_of (all_protos proto others);
    }

-- an inbox for each collection, and a clock for each or for none
pub HasOneEach-is : {D I C : Type 0} (count clocks all : ℕ) (devices : Devices D I C) → all ≡ count → 0 < count
    → (1 ≤ length devices.doors) × (length devices.doors ≤ 16) → length devices.inboxes ≡ all
    → (length devices.clocks ≡ 0) ⊎ (length devices.clocks ≡ all) → (length devices.clocks ≡ 0 → clocks ≡ 0)
    → (0 < length devices.clocks → clocks ≡ 1) → HasOneEach count clocks devices
HasOneEach-is count clocks all devices same some doors inboxes (inl none) empty full = record {
  some = doors.0;
  few = doors.1;
  inboxes_are = inboxes ∙ same;
  clocks_are = none ∙ sym (length-never count (λ (number : ℕ). number))
      ∙ ap (λ (k : ℕ). length (each_of k count (λ (number : ℕ). number))) (sym (empty none));
  at_most = omega (arith, empty none);
}
HasOneEach-is count clocks all devices same some doors inboxes (inr each) empty full = record {
  some = doors.0;
  few = doors.1;
  inboxes_are = inboxes ∙ same;
  clocks_are = each ∙ same ∙ sym (length-once count (λ (number : ℕ). number))
      ∙ ap (λ (k : ℕ). length (each_of k count (λ (number : ℕ). number)))
      (sym (full (omega (arith, some, same, each))));
  at_most = omega (arith, full (omega (arith, some, same, each)));
}
