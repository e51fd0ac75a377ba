-- What a step adds to what was published.
use Rattle.std.proofs.Common.{◌≡◌, ◌⊎◌, inl, inr, ℕ, List, [], ◌∷◌, ◌++◌, Bool, true, false, cond, Option, Some, None, Result, Ok, Err, refl, sym, ap, subst, ◌∙◌}
use Rattle.fm_base.specs.Chain.{◌>>=◌}
use Rattle.fm_base.proofs.ChainLemmas.{same_Ok}
use Rattle.fm_model.specs.declared.full.Full.{Full as TooMany}
use Rattle.fm_model.specs.declared.loaded.Loaded.{Loaded}
use Rattle.fm_model.specs.declared.op.Op.{Op}
use Rattle.fm_model.specs.declared.op.Op.TheVariants as ops
use Rattle.fm_model.specs.Collection.{coll, full_at, holds, holds_older}
use Rattle.pub_look.specs.History.{Continues, History, with_op}
use Rattle.pub_look.proofs.HistoryLemmas.{continues_itself, continues_on}
use Rattle.srv_words.specs.declared.job.Step.{Step}
use Rattle.srv_words.specs.declared.job.Step.TheVariants.{Put, Expire, Retract, Ask}
use Rattle.srv_alone.specs.declared.end.End.{End}
use Rattle.srv_alone.specs.Publishing.{expired, published_or_end, put_or_end, retracted}
use Rattle.srv_alone.specs.Reading.{loaded_or_end, unless_no_room}
use Rattle.srv_alone.specs.Steps.{Connection, EndsAt, IsDone, Progress}

-- the same prototype, and the same operations or more
pub record IsLater (before after : History) : Type 0 where
  pub proto_is : after.proto ≡ before.proto
  pub grows : Continues before.seen after.seen

pub same-later : (before after : History) → after ≡ before → IsLater before after
same-later before after is =
    subst (λ (h : History). IsLater before h) (sym is)
    (record { proto_is = refl; grows = continues_itself before.seen })

pub later-on : (first second third : History) → IsLater first second → IsLater second third → IsLater first third
later-on first second third one two = record {
  proto_is = two.proto_is ∙ one.proto_is;
  grows = continues_on first.seen second.seen third.seen one.grows two.grows;
}

op-later : (history : History) (op : Op) → IsLater history (with_op history op)
op-later history op = record { proto_is = refl; grows = (op ∷ [], refl) }

tested-later : (history : History) (op : Op) (test : Bool) → IsLater history (cond test (with_op history op) history)
tested-later history op true = op-later history op
tested-later history op false = same-later history history refl

room-later : (history next : History) (op : Op) (full : Option TooMany)
    → unless_no_room full (with_op history op) ≡ Ok next → IsLater history next
room-later history next op None is =
    subst (λ (h : History). IsLater history h) (same_Ok (with_op history op) next is) (op-later history op)
room-later history next op (Some full) is = absurd (apart full next is)
  where
    apart : (full : TooMany) (next : History) → unless_no_room (Some full) next ≡ Ok next → ⊥
    apart full next same = cc

published-later : (history next : History) (loaded : Result Loaded End)
    → (loaded >>= published_or_end history) ≡ Ok next → IsLater history next
unfolding published_or_end
published-later history next (Ok file) is =
    room-later history next (ops.Put file) (full_at (coll history.seen) (ops.Put file)) is
published-later history next (Err end) is = absurd cc

put-later : (history next : History) (path bytes : List ℕ) → put_or_end history path bytes ≡ Ok next
    → IsLater history next
unfolding put_or_end
put-later history next path bytes is =
    published-later history next (loaded_or_end history.proto path bytes) is

-- a step that is done
pub step-later : (step : Step) (before after : Progress) → IsDone step before after
    → IsLater before.at.history after.at.history
step-later (Put path) before after done =
    put-later before.at.history after.at.history path done.0.bytes done.0.put
step-later (Expire cutoff) before after done =
    let history : History = before.at.history in
    later-on history (expired cutoff history) after.at.history
    (tested-later history (ops.Expire cutoff) (holds_older (coll history.seen) cutoff))
    (same-later (expired cutoff history) after.at.history (ap (λ (now : Progress). now.at.history) done))
step-later (Retract name) before after done =
    let history : History = before.at.history in
    later-on history (retracted name history) after.at.history
    (tested-later history (ops.Retract name) (holds (coll history.seen) name))
    (same-later (retracted name history) after.at.history (ap (λ (now : Progress). now.at.history) done))
step-later (Ask count) before after done =
    record { proto_is = done.0.asks.proto_is; grows = done.0.asks.serves.served.sees.grows }

-- a step that isn't
pub end-later : (step : Step) (before after : Progress) (end : End) → EndsAt step before after end
    → IsLater before.at.history after.at.history
end-later (Put path) before after end ends = same-later before.at.history after.at.history ends.0.history_is
end-later (Expire cutoff) before after end ends =
    same-later before.at.history after.at.history (ap (λ (now : Progress). now.at.history) ends.0)
end-later (Retract name) before after end ends =
    same-later before.at.history after.at.history (ap (λ (now : Progress). now.at.history) ends.0)
end-later (Ask count) before after end (inl short, files) =
    record { proto_is = short.asks.proto_is; grows = short.asks.serves.served.sees.grows }
end-later (Ask count) before after end (inr over, files) =
    same-later before.at.history after.at.history (ap (λ (at : Connection). at.history) over.same)
