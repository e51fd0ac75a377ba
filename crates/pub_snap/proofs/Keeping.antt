-- The writer keeps the rule: whatever a seat has seen is a beginning of the log that is shown.
use Rattle.std.proofs.Common.{◌≡◌, ℕ, List, [], ◌∷◌, ◌++◌, set, fold, ap, ◌∙◌, sym, refl, subst}
use Rattle.std.proofs.lemmas.List.Sums.{fold-append}
use mathlib.Core.Option.{some}
use lib.ListN.{get_elem?}
use Rattle.logbook.specs.Pages.{Book}
use Rattle.fm_model.specs.declared.op.Op.{Op}
use Rattle.fm_model.specs.declared.proto.Proto.{Proto}
use Rattle.pub_look.specs.History.{Continues}
use Rattle.pub_look.proofs.HistoryLemmas.{continues_on, continues_itself}
use Rattle.pub_pass.specs.declared.rule.Known.{Known}
use Rattle.pub_pass.specs.Copies.{AllBegin, Copy, IsShown}
use Rattle.pub_pass.proofs.Entering.{set_begins}
use Rattle.pub_snap.specs.Rule.{EndsWith, IsAtDesk, MayFollow}

-- the log has grown
grown_begins : (log more : List Op) (views : List Known) → AllBegin log views → Continues log more
    → AllBegin more views
grown_begins log more views all on j view at = continues_on view.seen log more (all j view at) on

module _ (book : Book) (proto : Proto) where
  -- showing the other copy, which stands for a log that goes on from the one shown: the writer has seen it
  pub shows : (shown next : Copy) (views : List Known) (seat : ℕ) (looks : List ℕ) → IsShown book proto shown views
      → next.book ≡ book → next.held.proto ≡ proto → Continues shown.log next.log
      → IsShown book proto next (set views seat (record { seen = next.log; looks = looks }))
  shows shown next views seat looks is same over on = record {
    same = same;
    over = over;
    begin = set_begins next.log views seat (record { seen = next.log; looks = looks })
        (grown_begins shown.log next.log views is.begin on) (continues_itself next.log);
  }

-- what readers see may be shown once more
again_follows : (book : Book) (proto : Proto) (copy : Copy) → MayFollow book proto copy copy
again_follows book proto copy same over =
    record { same = same; over = over; later = continues_itself copy.log }

-- what readers see, appended once more, is the last that waits, and may be shown
pub again_ends : (book : Book) (proto : Proto) (shown shown' next : Copy) (waiting waiting' : List Copy)
    → shown' ≡ shown → next ≡ shown → waiting' ≡ waiting ++ next ∷ []
    → EndsWith waiting' shown × MayFollow book proto shown' shown
again_ends book proto shown shown' next waiting waiting' same again more = (
  (waiting, more ∙ ap (λ (c : Copy). waiting ++ c ∷ []) again),
  subst (λ (c : Copy). MayFollow book proto c shown) (sym same) (again_follows book proto shown),
)

-- the desk's side of the rule stays where what readers see is shown once more
pub at_desk_again : (proto : Proto) (log : List Op) (shown shown' : Copy) (writer writer' : Known) (booked : ℕ)
    → shown' ≡ shown → writer'.seen ≡ shown.log → IsAtDesk proto log shown writer booked
    → IsAtDesk proto log shown' writer' booked
at_desk_again proto log shown shown' writer writer' booked same seen is = record {
  sound = is.sound;
  over = ap (λ (c : Copy). c.held.proto) same ∙ is.over;
  whole = ap (λ (c : Copy). c.log) same ∙ is.whole;
  seen = seen ∙ is.whole;
  counted = is.counted;
}

-- of several copies that replace each other the last stays
pub last_stays : {A : Type 0} (first : A) (copies before : List A) (last : A) → copies ≡ before ++ last ∷ []
    → fold (λ _ next. next) first copies ≡ last
last_stays {A} first copies before last is = ap (λ (l : List A). fold (λ _ next. next) first l) is
    ∙ fold-append (λ _ next. next) first before (last ∷ [])
