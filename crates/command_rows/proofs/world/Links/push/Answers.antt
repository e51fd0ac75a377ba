-- None of the links was used, and so it stays with one more.
use Rattle.std.proofs.Common.{◌≡◌, sym, subst, take, drop, All, List, ◌++◌, ◌∷◌, [], Some, Result, Ok, Err, OnOk, OnErr}
use Rattle.std.proofs.lemmas.List.Elements.{All-push}
use Rattle.dev_traits.specs.Door.{IsFresh}
use Rattle.dev_memory.specs.declared.paused_link.PausedLink.{PausedLink}
use Rattle.command_rows.proofs.world.Links.push.Goals as goal

-- What holds of each item holds of each after a push, also where there was no memory for it.
pushed : {A B E : Type 0} (P : A → Type 0) (result : Result B E) (before after : List A) (item : A)
    → OnOk result (after ≡ before ++ item ∷ []) → OnErr result (after ≡ before)
    → All P before → P item → All P after
pushed P (Ok _) before after item ok err all one = subst (All P) (sym ok) (All-push P before item all one)
pushed P (Err _) before after item ok err all one = subst (All P) (sym err) all

pub invariant_of-self : goal.invariant_of-self
invariant_of-self c = record {
  fresh = pushed (λ (paused : PausedLink). IsFresh (record {
    held = Some (record {
      taken = take paused.link.taken paused.link.input;
      left = drop paused.link.taken paused.link.input;
      put = paused.link.output.bytes.items;
    });
    faults = paused.link.calls.faults;
  })) c.push.result c.args.self.now.list c.push.new.self c.args.link c.push.ensures.ok c.push.ensures.err
      c.args.self.now.fresh c.requires;
}
