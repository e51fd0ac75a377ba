-- One event more fits.
use Rattle.std.proofs.Common.{◌≡◌, sym, subst, List, ◌++◌, ◌∷◌, [], Result, Ok, Err, OnOk, OnErr}
use Rattle.std.specs.List.{All}
use Rattle.std.proofs.lemmas.List.Elements.{All-push}
use Rattle.pub_core.specs.Outcome.{EventFits}
use Rattle.reply_rows.proofs.events.push.Goals as goal

-- What holds of each item holds of each after a push, also where there was no memory for it.
pushed : {A B E : Type 0} (P : A → Type 0) (result : Result B E) (before after : List A) (item : A)
    → OnOk result (after ≡ before ++ item ∷ []) → OnErr result (after ≡ before)
    → All P before → P item → All P after
pushed P (Ok _) before after item ok err all one = subst (All P) (sym ok) (All-push P before item all one)
pushed P (Err _) before after item ok err all one = subst (All P) (sym err) all

pub returns : goal.returns
returns c = pushed (EventFits c.args._proto.now) c.push.result c.args.events.now c.push.new.self c.args.event
    c.push.ensures.ok c.push.ensures.err c.requires.held c.requires.fits
