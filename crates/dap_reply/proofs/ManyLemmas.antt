-- A link of one collection, as one of several.
use Rattle.std.proofs.Common.{◌≡◌, ◌≢◌, ◌⊎◌, inl, ⊎_elim, ◌≤◌, ◌↔◌, ℕ, zero, suc, ◌+◌, List, [], ◌∷◌, ◌++◌, length, take, Bool, refl, sym, ap, subst, ◌∙◌, arith}
use Rattle.std.specs.Prelude.{if◌then◌else◌}
use Rattle.std.proofs.lemmas.Bool.{ne_eqb}
use Rattle.fm_model.specs.declared.op.Op.{Op}
use Rattle.fm_model.specs.declared.proto.Proto.{Proto}
use Rattle.pub_look.specs.History.{Continues}
use Rattle.pub_look.proofs.HistoryLemmas.{continues_itself}
use Rattle.web_frame.specs.Items.{Item}
use Rattle.web_session.specs.declared.action.End.TheVariants as ends
use Rattle.dap_reply.specs.declared.served.Mark.{Mark}
use Rattle.dap_reply.specs.declared.served.Stop.TheVariants as stops
use Rattle.dap_reply.specs.Collections.{alone, only}
use Rattle.dap_reply.specs.Served.{items_of, marked_reply, sent_by, wanted_revisions, LinkCall, LooksOnce, RepeatsUnwanted, Rises, SeesMore, Served, WritesReplies}
use Rattle.dap_reply.specs.ServedMany.{as_many, items_for, marks_for, sent_for, SeesEach, SeesOf, ServedMany, WritesEach}

-- ---- the requests for the only collection are all, and there is none for another

items-all : (proto : Proto) (still : Bool) (items : List Item) → items_for (alone proto still) 0 items ≡ items
items-all proto still [] = refl
items-all proto still (item ∷ items) = ap (λ (l : List Item). item ∷ l) (items-all proto still items)

marks-all : (proto : Proto) (still : Bool) (marks : List Mark) (items : List Item) → length marks ≤ length items
    → marks_for (alone proto still) 0 marks items ≡ marks
unfolding marks_for
marks-all proto still [] items few = refl
marks-all proto still (mark ∷ marks) [] few = absurd (omega (arith, few))
marks-all proto still (mark ∷ marks) (item ∷ items) few =
    ap (λ (l : List Mark). mark ∷ l) (marks-all proto still marks items (omega (arith, few)))

marks-none : (proto : Proto) (still : Bool) (number : ℕ) (marks : List Mark) (items : List Item)
    → marks_for (alone proto still) (suc number) marks items ≡ []
unfolding marks_for
marks-none proto still number [] items = refl
marks-none proto still number (mark ∷ marks) [] = refl
marks-none proto still number (mark ∷ marks) (item ∷ items) =
    let rest : List Mark = marks_for (alone proto still) (suc number) marks items in
    ap (λ (b : Bool). if b then mark ∷ rest else rest) (ne_eqb 0 (suc number) (λ same. cc))
    ∙ marks-none proto still number marks items

pub sent-same : (proto : Proto) (still : Bool) (ops : List Op) (marks : List Mark) (items : List Item) (before : ℕ)
    → sent_for (alone proto still) (only ops) marks items before ≡ sent_by proto ops marks items before
unfolding sent_for sent_by
sent-same proto still ops [] items before = refl
sent-same proto still ops (mark ∷ marks) [] before = refl
sent-same proto still ops (mark ∷ marks) (item ∷ items) before =
    ap (λ (l : List ℕ). take mark.sent (marked_reply proto ops mark item (before + 1)) ++ l)
    (sent-same proto still ops marks items (before + 1))

-- ---- what is seen

-- nothing is seen of a collection that isn't there
sees-none : (call : LinkCall) (number : ℕ) → SeesOf (as_many call) (suc number) []
unfolding Rises RepeatsUnwanted wanted_revisions
sees-none call number = record {
  grows = continues_itself [];
  stays = λ _. refl;
  rises = subst (λ (l : List Mark). Rises 0 l 0) (sym none) (omega arith);
  looks_are = sym (ap (λ (l : List Mark). wanted_revisions call.proto l items ++ []) none);
  repeats = subst (λ (l : List Mark). RepeatsUnwanted call.proto 0 l items) (sym none) tt;
}
  where
    items : List Item
    items = items_for (alone call.proto call.still) (suc number) (items_of call)

    none : marks_for (alone call.proto call.still) (suc number) call.trail (items_of call) ≡ []
    none = marks-none call.proto call.still number call.trail (items_of call)

sees-alone : (call : LinkCall) → Served call → SeesEach (as_many call)
sees-alone call served = record {
  more = only served.looks.more;
  each = each;
  last = 0;
  at_most_one = served.looks.at_most_one;
  elsewhere = elsewhere;
  only_short = served.looks.only_short;
}
  where
    marks : call.trail ≡ marks_for (alone call.proto call.still) 0 call.trail (items_of call)
    marks = sym (marks-all call.proto call.still call.trail (items_of call) served.answers.read)

    items : items_of call ≡ items_for (alone call.proto call.still) 0 (items_of call)
    items = sym (items-all call.proto call.still (items_of call))

    each : (number : ℕ) → SeesOf (as_many call) number (only served.looks.more number)
    each (suc number) = sees-none call number
    each zero = record {
      grows = served.sees.grows;
      stays = served.sees.stays;
      rises = subst (λ (l : List Mark). Rises (length call.seen) l (length call.seen_after)) marks served.sees.rises;
      looks_are = served.looks.looks_are
          ∙ ap (λ (l : List Mark). call.looks ++ wanted_revisions call.proto l (items_of call) ++ served.looks.more)
          marks
          ∙ ap (λ (l : List Item). call.looks ++ wanted_revisions call.proto (marks_for (alone call.proto call.still) 0
          call.trail (items_of call)) l ++ served.looks.more) items;
      repeats = subst (RepeatsUnwanted call.proto (length call.seen)
          (marks_for (alone call.proto call.still) 0 call.trail (items_of call))) items
          (subst (λ (l : List Mark). RepeatsUnwanted call.proto (length call.seen) l (items_of call)) marks
          served.looks.repeats);
    }

    elsewhere : (number : ℕ) → number ≢ 0 → only served.looks.more number ≡ []
    elsewhere zero differs = absurd (differs refl)
    elsewhere (suc number) differs = refl

alone-sees : (call : LinkCall) → ServedMany (as_many call) → SeesMore call
alone-sees call many =
    let one = many.sees.each 0 in
    record {
      grows = one.grows;
      stays = one.stays;
      rises = subst (λ (l : List Mark). Rises (length call.seen) l (length call.seen_after))
          (marks-all call.proto call.still call.trail (items_of call) many.answers.read) one.rises;
    }

alone-looks : (call : LinkCall) → ServedMany (as_many call) → LooksOnce call
alone-looks call many = record {
  more = sees.more 0;
  looks_are = one.looks_are
      ∙ ap (λ (l : List Mark). call.looks ++ wanted_revisions call.proto l
      (items_for (alone call.proto call.still) 0 (items_of call)) ++ sees.more 0) marks
      ∙ ap (λ (l : List Item). call.looks ++ wanted_revisions call.proto call.trail l ++ sees.more 0) items;
  at_most_one = by_last sees.last sees.at_most_one sees.elsewhere;
  only_short = λ ample. by_short sees.last (sees.only_short ample) sees.elsewhere;
  repeats = subst (RepeatsUnwanted call.proto (length call.seen) call.trail) items
      (subst (λ (l : List Mark). RepeatsUnwanted call.proto (length call.seen) l
      (items_for (alone call.proto call.still) 0 (items_of call))) marks one.repeats);
}
  where
    sees : SeesEach (as_many call)
    sees = many.sees

    one : SeesOf (as_many call) 0 (sees.more 0)
    one = sees.each 0

    marks : marks_for (alone call.proto call.still) 0 call.trail (items_of call) ≡ call.trail
    marks = marks-all call.proto call.still call.trail (items_of call) many.answers.read

    items : items_for (alone call.proto call.still) 0 (items_of call) ≡ items_of call
    items = items-all call.proto call.still (items_of call)

    by_last : (last : ℕ)
        → (sees.more last ≡ []) ⊎ (sees.more last ≡ length (only call.seen_after last) ∷ [])
        → ((number : ℕ) → number ≢ last → sees.more number ≡ [])
        → (sees.more 0 ≡ []) ⊎ (sees.more 0 ≡ length call.seen_after ∷ [])
    by_last zero one elsewhere = one
    by_last (suc last) one elsewhere = inl (elsewhere 0 (λ same. cc))

    by_short : (last : ℕ) → sees.more last ≡ [] → ((number : ℕ) → number ≢ last → sees.more number ≡ [])
        → sees.more 0 ≡ []
    by_short zero none elsewhere = none
    by_short (suc last) none elsewhere = elsewhere 0 (λ same. cc)

-- ---- both ways

many-alone : (call : LinkCall) → Served call → ServedMany (as_many call)
many-alone call served = record {
  sees = sees-alone call served;
  answers = served.answers;
  writes = record {
    farewell = served.writes.farewell;
    written_is = served.writes.written_is ∙ ap (λ (l : List ℕ). l ++ served.writes.farewell)
        (sym (sent-same call.proto call.still call.seen_after call.trail (items_of call) call.session.before));
    whole = served.writes.whole;
    only_short = served.writes.only_short;
    front = served.writes.front;
    said = served.writes.said;
  };
  stops = served.stops;
}

pub alone-many : (call : LinkCall) → ServedMany (as_many call) → Served call
alone-many call many = record {
  sees = alone-sees call many;
  answers = many.answers;
  writes = record {
    farewell = many.writes.farewell;
    written_is = many.writes.written_is ∙ ap (λ (l : List ℕ). l ++ many.writes.farewell)
        (sent-same call.proto call.still call.seen_after call.trail (items_of call) call.session.before);
    whole = many.writes.whole;
    only_short = many.writes.only_short;
    front = many.writes.front;
    said = many.writes.said;
  };
  looks = alone-looks call many;
  stops = many.stops;
}

pub one-of-many : (call : LinkCall) → Served call ↔ ServedMany (as_many call)
one-of-many call = (many-alone call, alone-many call)
