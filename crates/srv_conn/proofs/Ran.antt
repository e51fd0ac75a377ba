-- A served link, by the bytes written after the last reply and the looks without a reply.
use Rattle.std.proofs.Common.{◌≡◌, ◌≢◌, ◌⊎◌, inl, inr, ℕ, List, [], ◌∷◌, ◌++◌, length, take, Bool, true, refl, sym, ap, subst, ◌∙◌, append-nil}
use Rattle.fm_model.specs.declared.proto.Proto.{Proto}
use Rattle.web_frame.specs.Items.{Item}
use Rattle.web_session.specs.declared.action.End.TheVariants as ends
use Rattle.dap_reply.specs.declared.served.Mark.{Mark}
use Rattle.dap_reply.specs.declared.served.Stop.{Stop}
use Rattle.dap_reply.specs.declared.served.Stop.TheVariants as stops
use Rattle.dap_reply.specs.Collections.{Collections}
use Rattle.dap_reply.specs.Head.{no_memory_reply}
use Rattle.dap_reply.specs.Served.{wanted_revisions, HasFailed, RepeatsUnwanted, Rises, StopsBy}
use Rattle.dap_reply.specs.ServedMany.{all_items, call_in, items_for, marks_for, sent_for, ManyCall, SeesOf}
use Rattle.dev_traits.specs.Moved.{moved, AreNext, IsOver}
use Rattle.srv_conn.specs.Serves.{IsCalm, Moves}
use Rattle.srv_conn.specs.ServesMany.{many_call, Point, ServesMany}
use Rattle.srv_conn.specs.Sight.{IsBehind}
use Rattle.srv_conn.proofs.RouteLemmas.{count-for, items-append, marks-front}
use Rattle.srv_conn.proofs.ScriptLemmas.{repeats-front, sent-front, wanted-front}
use Rattle.srv_conn.proofs.ServedParts.{answers-part, whole-part, Answered}
use Rattle.srv_conn.specs.SoFar.{Begun}

-- the replies that were begun to some items for one collection, and looks for nothing
pub record RanOf (them : Collections) (start after : Point) (more : List ℕ) (done : List Item) (number : ℕ)
    : Type 0 where
  pub behind : IsBehind (them.still number) (start.views.seen number) (after.views.seen number)
  pub rises : Rises (length (start.views.seen number)) (marks_for them number after.trail done)
      (length (after.views.seen number))
  pub repeats : RepeatsUnwanted (them.proto number) (length (start.views.seen number))
      (marks_for them number after.trail done) (items_for them number done)
  pub looks_are : after.views.looks number ≡ start.views.looks number ++ wanted_revisions (them.proto number)
      (marks_for them number after.trail done) (items_for them number done) ++ more

-- the replies that were begun to some items, then the text that says that memory ran out, and looks for nothing
pub record Ran (them : Collections) (start after : Point) (taken written farewell : List ℕ) (more : ℕ → List ℕ)
    (done : List Item) : Type 0 where
  pub moved_is : after.link.held ≡ moved taken (written ++ farewell) start.link.held
  pub next : AreNext taken start.link.held
  pub ran_of : (number : ℕ) → RanOf them start after (more number) done number
  pub written_is : written ≡ sent_for them after.views.seen after.trail done start.session.before

-- no looks for nothing
abbrev pub no_more : ℕ → List ℕ
no_more number = []

-- without a text and a look
pub Ran-begun : (them : Collections) (start after : Point) (taken written : List ℕ) (done : List Item)
    → Begun them start after taken written done → Ran them start after taken written [] no_more done
Ran-begun them start after taken written done b = record {
  moved_is = b.moved_is ∙ ap (λ (l : List ℕ). moved taken l start.link.held) (sym (append-nil written));
  next = b.next;
  ran_of = λ number.
      let g = b.goes_of number in
      record {
        behind = g.behind;
        rises = g.rises;
        repeats = g.repeats;
        looks_are = g.looks_are ∙ sym (append-nil (start.views.looks number ++ wanted_revisions (them.proto number)
            (marks_for them number after.trail done) (items_for them number done)));
      };
  written_is = b.written_is;
}

-- the text and a look at one collection are there only where memory ran out
pub record IsFarewell (call : ManyCall) (farewell : List ℕ) (more : ℕ → List ℕ) : Type 0 where
  pub last : ℕ
  pub only_short : call.stop ≢ stops.Ended ends.NoMemory → (farewell ≡ []) × (more last ≡ [])
  pub front : farewell ≡ take (length farewell) no_memory_reply
  pub said : call.stop ≡ stops.Ended ends.NoMemory → (farewell ≡ no_memory_reply) ⊎ HasFailed (call_in call 0)
  pub at_most_one : (more last ≡ []) ⊎ (more last ≡ length (call.after.seen last) ∷ [])
  pub elsewhere : (number : ℕ) → number ≢ last → more number ≡ []

pub no-farewell : (call : ManyCall) → (call.stop ≡ stops.Ended ends.NoMemory → HasFailed (call_in call 0))
    → IsFarewell call [] no_more
no-farewell call said = record {
  last = 0;
  only_short = λ _. (refl, refl);
  front = refl;
  said = λ is. inr (said is);
  at_most_one = inl refl;
  elsewhere = λ number differs. refl;
}

-- what moved
abbrev pub moves_of : List ℕ → List ℕ → Bool → Moves
moves_of taken written over = record { taken = taken; written = written; over = over }

pub serves-so : (them : Collections) (start after : Point) (taken written farewell : List ℕ) (more : ℕ → List ℕ)
    (over : Bool) (most : ℕ) (stop : Stop) (done others : List Item)
    → Ran them start after taken written farewell more done
    → Answered (many_call them start after (moves_of taken (written ++ farewell) over) most stop) done others
    → IsFarewell (many_call them start after (moves_of taken (written ++ farewell) over) most stop) farewell more
    → StopsBy (call_in (many_call them start after (moves_of taken (written ++ farewell) over) most stop) 0) stop
    → (over ≡ true → IsOver after.link.held) → IsCalm start.link after.link stop
    → ServesMany them start after most stop
serves-so them start after taken written farewell more over most stop done others ran a f why is_over calm =
    record {
      moves = moves_of taken (written ++ farewell) over;
      served = record {
        sees = record {
          more = more;
          each = sees;
          last = f.last;
          at_most_one = f.at_most_one;
          elsewhere = f.elsewhere;
          only_short = λ ample. (f.only_short ample).1;
        };
        answers = answers-part call done others a;
        writes = record {
          farewell = farewell;
          written_is = ap (λ (l : List ℕ). l ++ farewell) (ran.written_is
              ∙ sym (sent-front them after.views.seen after.trail done others start.session.before a.count)
              ∙ ap (λ (l : List Item). sent_for them after.views.seen after.trail l start.session.before)
              (sym a.items_are));
          whole = whole-part call done others a;
          only_short = λ ample. (f.only_short ample).0;
          front = f.front;
          said = f.said;
        };
        stops = why;
      };
      moved_is = ran.moved_is;
      next = ran.next;
      over_is = is_over;
      calm = calm;
    }
  where
    call : ManyCall
    call = many_call them start after (moves_of taken (written ++ farewell) over) most stop

    -- of one collection, among all items that were read
    sees : (number : ℕ) → SeesOf call number (more number)
    sees number = record {
      grows = r.behind.grows;
      stays = r.behind.stays;
      rises = subst (λ (l : List Mark). Rises (length (start.views.seen number)) l (length (after.views.seen number)))
          marks r.rises;
      looks_are = r.looks_are ∙ ap (λ (l : List ℕ). start.views.looks number ++ l ++ more number)
          (sym (wanted-front proto front (items_for them number done) (items_for them number others) count)
          ∙ ap (wanted_revisions proto front) items
          ∙ ap (λ (l : List Mark). wanted_revisions proto l (items_for them number (all_items call))) marks);
      repeats = subst (λ (l : List Mark). RepeatsUnwanted proto (length (start.views.seen number)) l
          (items_for them number (all_items call))) marks
          (subst (RepeatsUnwanted proto (length (start.views.seen number)) front) items
          (repeats-front proto (length (start.views.seen number)) front (items_for them number done)
          (items_for them number others) count r.repeats));
    }
      where
        r : RanOf them start after (more number) done number
        r = ran.ran_of number

        proto : Proto
        proto = them.proto number

        front : List Mark
        front = marks_for them number after.trail done

        count : length front ≡ length (items_for them number done)
        count = count-for them number after.trail done a.count

        marks : front ≡ marks_for them number after.trail (all_items call)
        marks = sym (marks-front them number after.trail done others a.count)
            ∙ ap (marks_for them number after.trail) (sym a.items_are)

        items : items_for them number done ++ items_for them number others ≡ items_for them number (all_items call)
        items = sym (items-append them number done others) ∙ ap (items_for them number) (sym a.items_are)
