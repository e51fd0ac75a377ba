-- What was seen of one collection, from reply to reply.
use Rattle.std.proofs.Common.{◌≡◌, ◌≢◌, ◌≤◌, ⊎_elim, ℕ, Bool, false, List, [], ◌∷◌, ◌++◌, length, refl, sym, ap, ap₂, subst, ◌∙◌, append_assoc, append-nil, arith}
use Rattle.std.specs.Prelude.{if◌then◌else◌}
use Rattle.std.proofs.lemmas.Bool.{cases_eq}
use Rattle.fm_model.specs.declared.op.Op.{Op}
use Rattle.fm_model.specs.declared.proto.Proto.{Proto}
use Rattle.pub_look.proofs.HistoryLemmas.{continues_length}
use Rattle.web_frame.specs.Items.{Item}
use Rattle.dap_reply.specs.declared.served.Mark.{Mark}
use Rattle.dap_reply.specs.Collections.{proto_for, Collections}
use Rattle.dap_reply.specs.Reply.{is_wanted}
use Rattle.dap_reply.specs.Served.{wanted_revisions, RepeatsUnwanted, Rises}
use Rattle.dap_reply.specs.ServedMany.{items_for, marks_for}
use Rattle.srv_conn.specs.ServesMany.{Point}
use Rattle.srv_conn.specs.Sight.{sight_in, IsBehind, Sight}
use Rattle.srv_conn.specs.SoFar.{last_revision, Goes, GoesOf}
use Rattle.srv_conn.specs.Turn.{Sees}
use Rattle.srv_conn.proofs.RouteLemmas.{count-for, items-other, items-own, marks-none, marks-other, marks-own}
use Rattle.srv_conn.proofs.ScriptLemmas.{last-append, repeats-append, repeats-none, repeats-one, rises-append, rises-none, rises-one, wanted-append, wanted-none, wanted-one}
use Rattle.srv_conn.proofs.ViewLemmas.{behind-one, behind-same}

-- no reply was begun
goes-none : (proto : Proto) (still : Bool) (start : Sight) → Goes proto still start start [] []
goes-none proto still start = record {
  behind = behind-same still start.seen start.seen refl;
  rises = rises-none (length start.seen) (length start.seen) (omega arith);
  repeats = repeats-none proto (length start.seen) [];
  looks_are = sym (ap (λ (l : List ℕ). start.looks ++ l) (wanted-none proto []) ∙ append-nil start.looks);
  last = refl;
}

pub goes-start : (them : Collections) (start : Point) → start.trail ≡ [] → (number : ℕ)
    → GoesOf them start start [] number
goes-start them start none number =
    subst (λ (l : List Mark). Goes (them.proto number) (them.still number) (sight_in start.views number)
    (sight_in start.views number) l []) (sym (ap (λ (l : List Mark). marks_for them number l []) none
    ∙ marks-none them number []))
    (goes-none (them.proto number) (them.still number) (sight_in start.views number))

-- one reply more is begun, from this collection
goes-more : (proto : Proto) (still : Bool) (start now after : Sight) (marks : List Mark) (items : List Item)
    (mark : Mark) (item : Item) → Goes proto still start now marks items → length marks ≡ length items
    → IsBehind still now.seen after.seen
    → after.looks ≡ now.looks ++ (if is_wanted proto.site item then length after.seen ∷ [] else [])
    → (is_wanted proto.site item ≡ false → after.seen ≡ now.seen) → mark.revision ≡ length after.seen
    → Goes proto still start after (marks ++ mark ∷ []) (items ++ item ∷ [])
goes-more proto still start now after marks items mark item g count behind looked unwanted revision_is = record {
  behind = behind-one still start.seen now.seen after.seen g.behind behind;
  rises = rises-append (length start.seen) (length now.seen) (length after.seen) marks (mark ∷ []) g.rises
      (rises-one (length now.seen) (length after.seen) mark (omega (arith, longer, revision_is))
      (omega (arith, revision_is)));
  repeats = repeats-append proto (length start.seen) marks (mark ∷ []) items (item ∷ []) count g.repeats
      (repeats-one proto (last_revision (length start.seen) marks) mark item []
      (λ no. revision_is ∙ ap length (unwanted no) ∙ sym g.last));
  looks_are = looked
      ∙ ap (λ (l : List ℕ). l ++ one_look (length after.seen)) g.looks_are
      ∙ append_assoc start.looks (wanted_revisions proto marks items) (one_look (length after.seen))
      ∙ ap (λ (n : ℕ). start.looks ++ (wanted_revisions proto marks items ++ one_look n)) (sym revision_is)
      ∙ ap (λ (l : List ℕ). start.looks ++ (wanted_revisions proto marks items ++ l))
      (sym (wanted-one proto mark item []))
      ∙ ap (λ (l : List ℕ). start.looks ++ l) (sym (wanted-append proto marks (mark ∷ []) items (item ∷ []) count));
  last = last-append (length start.seen) marks mark ∙ revision_is;
}
  where
    longer : length now.seen ≤ length after.seen
    longer = continues_length now.seen after.seen behind.grows

    one_look : ℕ → List ℕ
    one_look n = if is_wanted proto.site item then n ∷ [] else []

-- one reply more is begun, from one of the collections
pub goes-on : (them : Collections) (start now after : Point) (done : List Item) (item : Item) (mark : Mark)
    → ((number : ℕ) → GoesOf them start now done number) → length now.trail ≡ length done
    → Sees them now.views after.views item → after.trail ≡ now.trail ++ mark ∷ []
    → mark.revision ≡ length (after.views.seen (them.choice item))
    → (number : ℕ) → GoesOf them start after (done ++ item ∷ []) number
goes-on them start now after done item mark goes count sees trail revision_is number = ⊎_elim
    (λ same. subst (GoesOf them start after (done ++ item ∷ [])) same own) other (cases_eq (them.choice item) number)
  where
    of_lists : ℕ → Sight → List Mark → List Item → Type 0
    of_lists n sight marks items =
        Goes (them.proto n) (them.still n) (sight_in start.views n) sight marks items

    k : ℕ
    k = them.choice item

    own : GoesOf them start after (done ++ item ∷ []) k
    own = subst (λ (l : List Item). of_lists k (sight_in after.views k) (marks_for them k after.trail
        (done ++ item ∷ [])) l) (sym (items-own them done item))
        (subst (λ (l : List Mark). of_lists k (sight_in after.views k) l (items_for them k done ++ item ∷ []))
        (sym (ap (λ (l : List Mark). marks_for them k l (done ++ item ∷ [])) trail
        ∙ marks-own them now.trail mark done item count))
        (goes-more (them.proto k) (them.still k) (sight_in start.views k) (sight_in now.views k)
        (sight_in after.views k) (marks_for them k now.trail done) (items_for them k done) mark item (goes k)
        (count-for them k now.trail done count) sees.behind sees.looks_are sees.unwanted revision_is))

    other : k ≢ number → GoesOf them start after (done ++ item ∷ []) number
    other differs =
        subst (λ (l : List Item). of_lists number (sight_in after.views number) (marks_for them number after.trail
        (done ++ item ∷ [])) l) (sym (items-other them number done item differs))
        (subst (λ (l : List Mark). of_lists number (sight_in after.views number) l (items_for them number done))
        (sym (ap (λ (l : List Mark). marks_for them number l (done ++ item ∷ [])) trail
        ∙ marks-other them number now.trail mark done item count differs))
        (subst (λ (sight : Sight). of_lists number sight (marks_for them number now.trail done)
        (items_for them number done))
        (sym (ap₂ (λ (ops : List Op) (looks : List ℕ). record { seen = ops; looks = looks })
        (sees.others.seen_are number (λ same. differs (sym same)))
        (sees.others.looks_are number (λ same. differs (sym same))))) (goes number)))
