-- Those who come and those who enter keep the rule: whatever a seat has seen is a beginning of the log that is shown.
use Rattle.std.proofs.Common.{◌≡◌, ◌≢◌, ℕ, List, [], ◌∷◌, ◌++◌, set, ap, sym, refl, subst, ⊎_elim}
use mathlib.Core.Option.{some}
use lib.ListN.{get_elem?}
use Rattle.atomic_table.proofs.Lists.{at_set, at_snoc}
use Rattle.logbook.specs.Pages.{Book}
use Rattle.fm_model.specs.declared.op.Op.{Op}
use Rattle.fm_model.specs.declared.proto.Proto.{Proto}
use Rattle.pub_look.specs.History.{Continues}
use Rattle.pub_look.proofs.HistoryLemmas.{continues_itself}
use Rattle.pub_pass.specs.declared.rule.Known.{Known}
use Rattle.pub_pass.specs.Copies.{AllBegin, Copy, Enters, IsShown}

-- one seat has seen another beginning
pub set_begins : (log : List Op) (views : List Known) (seat : ℕ) (view : Known) → AllBegin log views
    → Continues view.seen log → AllBegin log (set views seat view)
set_begins log views seat view all begins j other at = ⊎_elim
    (λ (here : (j ≡ seat) × (view ≡ other)). subst (λ (v : Known). Continues v.seen log) here.1 begins)
    (λ (there : (j ≢ seat) × (get_elem? views j ≡ some other)). all j other there.1)
    (at_set views seat j view other at)

-- a new seat, which has seen nothing
pub newcomer_begins : (log : List Op) (views : List Known) (view : Known) → AllBegin log views → view.seen ≡ []
    → AllBegin log (views ++ view ∷ [])
newcomer_begins log views view all none j other at = ⊎_elim (all j other)
    (λ (e : view ≡ other). subst (λ (v : Known). Continues v.seen log) e
    (log, ap (λ (l : List Op). l ++ log) (sym none)))
    (at_snoc views view other j at)

module _ (book : Book) (proto : Proto) where
  -- making a pass: a seat that has seen nothing comes to the copies
  pub comes : (shown : Copy) (views : List Known) → IsShown book proto shown views
      → IsShown book proto shown (views ++ record { seen = []; looks = [] } ∷ [])
  comes shown views is = record {
    same = is.same;
    over = is.over;
    begin = newcomer_begins shown.log views (record { seen = []; looks = [] }) is.begin refl;
  }

  -- entering: the seat has seen what is shown, with any looks
  pub enters : (shown : Copy) (views : List Known) (seat : ℕ) (before : Known) (looks : List ℕ)
      → IsShown book proto shown views → get_elem? views seat ≡ some before
      → IsShown book proto shown (set views seat (record { seen = shown.log; looks = looks }))
      × Enters book proto before shown (record { seen = shown.log; looks = looks })
  enters shown views seat before looks is at =
      let after : Known = record { seen = shown.log; looks = looks } in (
        record {
          same = is.same;
          over = is.over;
          begin = set_begins shown.log views seat after is.begin (continues_itself shown.log);
        },
        record {
          same = is.same;
          over = is.over;
          later = is.begin seat before at;
          seen = refl;
        },
      )
