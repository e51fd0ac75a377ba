-- Histories that grow.
use Rattle.std.proofs.Common.{◌≡◌, ◌≤◌, List, [], ◌∷◌, ◌++◌, length, Option, Some, None, Ok, refl, sym, ap, subst, ◌∙◌, append_assoc, length-append, arith}
use Rattle.std.proofs.lemmas.List.{append-nil, nil_from_length}
use Rattle.fm_base.proofs.ChainLemmas.{same_Ok}
use Rattle.fm_model.specs.declared.full.Full.{Full as TooMany}
use Rattle.fm_model.specs.declared.op.Op.{Op}
use Rattle.fm_model.specs.Collection.{after_op, coll, full_at, tally, IsWithin}
use Rattle.fm_model.proofs.CollectionLemmas.{coll-none, coll-push}
use Rattle.fm_model.specs.declared.proto.Proto.{Proto}
use Rattle.fm_model.specs.Site.{IsPrototype}
use Rattle.fm_edition.specs.Held.{Held, held_after, next_or_full, unless_full, IsEdition, OpFits}
use Rattle.fm_edition.specs.Log.{held_of}
use Rattle.fm_edition.proofs.EditionLemmas.{IsEdition-from_log, IsLog-push}
use Rattle.pub_look.specs.History.{Continues, Keeps}

-- a history goes on from itself
pub continues_itself : (ops : List Op) → Continues ops ops
continues_itself ops = ([], sym (append-nil ops))

-- a history that goes on from another, and a third from that
pub continues_on : (first second third : List Op) → Continues first second → Continues second third
    → Continues first third
continues_on first second third one two =
    (one.0 ++ two.0, two.1 ∙ ap (λ (l : List Op). l ++ two.0) one.1 ∙ append_assoc first one.0 two.0)

-- a history that goes on from another is no shorter
pub continues_length : (earlier later : List Op) → Continues earlier later → length earlier ≤ length later
continues_length earlier later more =
    omega (arith, ap (λ (l : List Op). length l) more.1, length-append earlier more.0)

-- a history that goes on from one of its length is the same
pub same_length : (earlier later : List Op) → Continues earlier later → length later ≡ length earlier → later ≡ earlier
same_length earlier later more level =
    more.1 ∙ ap (λ (l : List Op). earlier ++ l)
    (nil_from_length more.0 (omega (
      arith,
      level,
      ap (λ (l : List Op). length l) more.1,
      length-append earlier more.0,
    ))) ∙ append-nil earlier

-- the empty edition stands for no operations
pub Keeps-none : (proto : Proto) → IsPrototype proto → Keeps (record { proto = proto; files = [] }) []
Keeps-none proto is = record { prototype = is; log = tt; stands = sym coll-none }

-- the edition after an operation stands for one more
pub Keeps-push : (held : Held) (ops : List Op) (op : Op) → Keeps held ops → OpFits held.proto op
    → full_at held.files op ≡ None
    → Keeps (held_after held op) (ops ++ op ∷ [])
Keeps-push held ops op keeps fits within = record {
  prototype = keeps.prototype;
  log = IsLog-push held.proto ops op keeps.log (record {
    fits = fits;
    within = sym
        (ap (λ files. full_at files op) keeps.stands) ∙ within;
  });
  stands = ap (λ files. after_op files op) keeps.stands ∙ sym (coll-push ops op);
}

-- what the operations leave is an edition
pub sound_edition : (held : Held) (ops : List Op) → Keeps held ops → IsEdition (held_of held.proto ops)
sound_edition held ops keeps = IsEdition-from_log held.proto ops keeps.prototype keeps.log

-- what an edition's next one stands for
pub Keeps-next : (held next : Held) (ops : List Op) (op : Op) → Keeps held ops → OpFits held.proto op
    → next_or_full held op ≡ Ok next
    → Keeps next (ops ++ op ∷ [])
Keeps-next held next ops op keeps fits e = by_full (full_at held.files op) refl e
  where
    by_full : (o : Option TooMany) → full_at held.files op ≡ o → unless_full o (held_after held op) ≡ Ok next
        → Keeps next (ops ++ op ∷ [])
    by_full None within e = subst (λ h. Keeps h (ops ++ op ∷ []))
        (same_Ok {E = TooMany} (held_after held op) next e) (Keeps-push held ops op keeps fits within)
    by_full (Some why) within e = absurd cc

-- the collection that an edition stands for is within the limits
pub within_limits : (held : Held) (ops : List Op) → Keeps held ops → IsWithin (tally (coll ops))
within_limits held ops keeps = (sound_edition held ops keeps).within
