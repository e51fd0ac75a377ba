-- A connection over the steps of a run, where the requests that are asked for are there.
use Rattle.std.proofs.Common.{◌≡◌, ◌⊎◌, inl, inr, ℕ, ◌+◌, List, ◌++◌, length, take, drop, true, Some, refl, sym, ap, subst, ◌∙◌, arith, append_assoc, length-append}
use Rattle.std.proofs.lemmas.List.{length-take, take-append-drop}
use Rattle.fm_model.specs.declared.proto.Proto.{Proto}
use Rattle.dev_traits.specs.Link.{Wire}
use Rattle.dev_traits.specs.Shown.{LinkShown}
use Rattle.web_frame.specs.Items.{heads_of}
use Rattle.web_frame.proofs.ItemLemmas.{ReadsTo-feed}
use Rattle.web_session.specs.declared.action.End.TheVariants as ends
use Rattle.web_session.specs.State.{State}
use Rattle.dap_reply.specs.declared.served.Stop.{Stop}
use Rattle.dap_reply.specs.declared.served.Stop.TheVariants as stops
use Rattle.dap_reply.specs.Served.{held_bytes, items_of, HasEnough, LinkCall}
use Rattle.dev_traits.specs.Moved.{moved, AreNext, IsOver}
use Rattle.srv_conn.specs.Serves.{call_of, Moment, Moves, Serves}
use Rattle.srv_alone.specs.declared.end.End.{End}
use Rattle.srv_alone.specs.declared.end.End.TheVariants.{InputEnded}
use Rattle.srv_alone.specs.Steps.{AnswersAsk, Connection, end_of_stop, EndsAsk}
use Rattle.srv_laws.specs.WellFormed.{HasRequests}
use Rattle.srv_laws.proofs.AskedLemmas.{no-last, rests-goes_on, short-lacks, whole-goes, Finds, HasLast, IsOpen}
use Rattle.srv_laws.proofs.RequestLemmas.{items-next, ReadsTo-then}
use Rattle.srv_laws.proofs.TakenLemmas.{IsExcused}

-- the bytes that are left after some were taken
unfoldable pub left-after : Wire → List ℕ → List ℕ
left-after wire taken = drop (length taken) wire.left

-- the bytes that were taken are the next ones of the input
taken-next : {input : List ℕ} {before : ℕ} {link : LinkShown} {session : State} (taken : List ℕ)
    (o : IsOpen input before link session) → AreNext taken link.held
    → input ≡ o.so_far ++ (taken ++ left-after o.wire taken)
unfolding left-after
taken-next {input} {before} {link} {session} taken o next =
    let here : AreNext taken (Some o.wire) = subst (AreNext taken) o.wire_is next in
    o.input_is ∙ ap (λ (l : List ℕ). o.so_far ++ l)
    (sym (take-append-drop (length taken) o.wire.left)
    ∙ ap (λ (l : List ℕ). l ++ drop (length taken) o.wire.left) here)

-- the call that a served link was
abbrev pub call_by : (proto : Proto) (start end : Moment) (most : ℕ) (stop : Stop)
    → Serves proto true start end most stop → LinkCall
call_by proto start end most stop serves = call_of proto true start end serves.moves most stop

-- and what it found
pub finds-Serves : {input : List ℕ} {before : ℕ} (proto : Proto) (start end : Moment) (most : ℕ) (stop : Stop)
    (serves : Serves proto true start end most stop) → IsOpen input before start.link start.session
    → Finds input before (call_by proto start end most stop serves)
unfolding left-after
finds-Serves {input} {before} proto start end most stop serves o =
    let taken : List ℕ = serves.moves.taken in
    let wire_is : end.link.held ≡ moved taken serves.moves.written (Some o.wire) =
    serves.moved_is ∙ ap (moved taken serves.moves.written) o.wire_is in record {
      reads = record {
        done = o.done;
        count = o.count;
        later = left-after o.wire taken;
        items_are = ap (λ (l : List ℕ). (heads_of l).items) (taken-next taken o serves.next)
            ∙ items-next o.so_far (held_bytes start.session) taken (left-after o.wire taken) o.done o.reads;
      };
      over = λ is. subst IsOver wire_is (serves.over_is is);
      counted = o.counted;
      served = serves.served;
    }

-- a link after these bytes moved over it
abbrev pub wire_after : Wire → Moves → Wire
wire_after wire moves = record {
  taken = wire.taken ++ moves.taken;
  left = left-after wire moves.taken;
  put = wire.put ++ moves.written;
}

-- a connection that goes on
pub open-next : {input : List ℕ} {before : ℕ} (proto : Proto) (start end : Moment) (most : ℕ) (stop : Stop)
    (serves : Serves proto true start end most stop) → IsOpen input before start.link start.session
    → HasEnough (call_by proto start end most stop serves) → IsOpen input (before + most) end.link end.session
unfolding left-after
open-next {input} {before} proto start end most stop serves o enough =
    let taken : List ℕ = serves.moves.taken in
    let call : LinkCall = call_by proto start end most stop serves in record {
      so_far = o.so_far ++ taken;
      wire = wire_after o.wire serves.moves;
      wire_is = serves.moved_is ∙ ap (moved taken serves.moves.written) o.wire_is;
      input_is = taken-next taken o serves.next ∙ sym (append_assoc o.so_far taken (left-after o.wire taken));
      done = o.done ++ take most (items_of call);
      reads = ReadsTo-then (ReadsTo-feed taken o.reads) enough.left;
      count = omega (
        arith,
        length-append o.done (take most (items_of call)),
        length-take most (items_of call),
        o.count,
        enough.all,
        serves.served.answers.read,
      );
      counted = enough.counted ∙ ap (λ (n : ℕ). n + most) o.counted;
      rests = enough.rests;
    }

-- its link is as these bytes left it
pub open-next-wire : {input : List ℕ} {before : ℕ} (proto : Proto) (start end : Moment) (most : ℕ) (stop : Stop)
    (serves : Serves proto true start end most stop) (o : IsOpen input before start.link start.session)
    (enough : HasEnough (call_by proto start end most stop serves))
    → (open-next proto start end most stop serves o enough).wire ≡ wire_after o.wire serves.moves
unfolding open-next
open-next-wire proto start end most stop serves o enough = refl

-- ---- the steps that ask

-- a connection after this many replies: it goes on, or the last of them was its last
abbrev pub Stands : List ℕ → ℕ → Connection → Type 0
Stands input before at = IsOpen input before at.link at.session ⊎ HasLast input before

-- an end that is none of a link whose input has enough is excused
by-stop : (end : End) (stop : Stop) → end ≡ end_of_stop stop → (end ≡ InputEnded → ⊥) → IsExcused end
by-stop end (stops.Ended ends.LinkFault) is other = subst IsExcused (sym is) tt
by-stop end (stops.Ended ends.NoMemory) is other = subst IsExcused (sym is) tt
by-stop end stop is other = absurd (other is)

-- an ask whose requests are there ends no run, but for memory or the link
pub excused-ask : {input : List ℕ} {before : ℕ} (count : ℕ) (at after : Connection) (end : End) → Stands input before at
    → HasRequests input before count → EndsAsk count at after end → IsExcused end
excused-ask count at after end (inr last) has ends = absurd (no-last last has.reached)
excused-ask count at after end (inl o) has (inl short) =
    by-stop end short.stop short.end_is
    (λ is. short-lacks _ short.stop (finds-Serves _ _ _ count short.stop short.asks.serves o)
    short.asks.serves.served.stops (short.short is) has (sym short.end_is ∙ is))
excused-ask count at after end (inl o) has (inr over) = absurd (rests-goes_on at.session o.rests over.ended)

-- and after it the connection stands after its replies
pub stands-ask : {input : List ℕ} {before : ℕ} (count : ℕ) (at after : Connection) → Stands input before at
    → HasRequests input before count → AnswersAsk count at after → Stands input (before + count) after
stands-ask count at after (inr last) has answers = absurd (no-last last has.reached)
stands-ask {input} {before} count at after (inl o) has answers =
    elim (whole-goes _ answers.stop (finds-Serves _ _ _ count answers.stop answers.asks.serves o)
    answers.asks.serves.served.stops answers.all answers.calm) [
      | inl enough ↦ inl (open-next _ _ _ count answers.stop answers.asks.serves o enough)
      | inr last ↦ inr last
    ]
