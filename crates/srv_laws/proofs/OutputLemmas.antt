-- Scripts of replies that steps ask for, one step after the other.
use Rattle.std.proofs.Common.{◌≡◌, ◌≤◌, ℕ, suc, ◌+◌, List, [], ◌∷◌, ◌++◌, length, take, drop, Some, refl, sym, ap, ap₂, ◌∙◌, arith, append_assoc, append-nil, length-append}
use Rattle.std.specs.Prelude.{replicate}
use Rattle.std.proofs.lemmas.List.{length-drop, length-replicate}
use Rattle.std.proofs.Math.Nat.{le_refl}
use Rattle.std.proofs.Math.Seq.{drop-append_seam, take-append-add}
use Rattle.fm_model.specs.declared.op.Op.{Op}
use Rattle.fm_model.specs.declared.proto.Proto.{Proto}
use Rattle.fm_model.specs.Collection.{coll}
use Rattle.dev_traits.specs.Link.{Wire}
use Rattle.dev_traits.specs.Shown.{LinkShown}
use Rattle.web_frame.specs.Items.{heads_of, Item}
use Rattle.web_frame.proofs.ItemLemmas.{items_first}
use Rattle.dap_reply.specs.Reply.{reply_of}
use Rattle.dap_reply.specs.Script.{script_of}
use Rattle.dap_reply.proofs.ScriptLemmas.{script-append}
use Rattle.srv_conn.proofs.HeadLemmas.{rest_of}
use Rattle.srv_alone.specs.declared.end.End.{End}
use Rattle.srv_alone.specs.declared.end.End.TheVariants.{Done}
use Rattle.srv_laws.specs.Output.{IsOneScript, WritesScript}
use Rattle.srv_laws.proofs.RequestLemmas.{Reads}

-- nothing is a script of no reply
none-script : (proto : Proto) (log : List Op) (revisions : List ℕ) (items : List Item) (before : ℕ) (end : End)
    → (end ≡ Done → revisions ≡ []) → IsOneScript proto log revisions items before end []
unfolding script_of
none-script proto log revisions items before end none = record {
  count = 0;
  few = omega arith;
  read = omega arith;
  all = λ done. ap length (sym (none done));
  script = [];
  script_is = refl;
  cut = 0;
  farewell = [];
  output_is = refl;
  whole = λ sound. le_refl 0;
  only_short = λ ample. refl;
  front = refl;
}

-- the replies of one step, and the script of those after it
then-script : (proto : Proto) (log : List Op) (count n : ℕ) (more : List ℕ) (items : List Item) (before : ℕ)
    (end : End) (first rest : List ℕ) → first ≡ script_of proto log (replicate count n) items before
    → count ≤ length items → IsOneScript proto log more (drop count items) (before + count) end rest
    → IsOneScript proto log (replicate count n ++ more) items before end (first ++ rest)
then-script proto log count n more items before end first rest is there then =
    let ones : List ℕ = replicate count n in
    let others : List ℕ = take then.count more in
    let long : length ones ≡ count = length-replicate count n in
    let taken : take (count + then.count) (ones ++ more) ≡ ones ++ others =
    ap (λ (m : ℕ). take (m + then.count) (ones ++ more)) (sym long) ∙ take-append-add ones more then.count in
    let rest_is : then.script
    ≡ script_of proto log others (drop (length ones) items) (before + length ones) =
    then.script_is
    ∙ ap (λ (m : ℕ). script_of proto log others (drop m items) (before + m)) (sym long) in record {
      count = count + then.count;
      few = omega (arith, length-append ones more, long, then.few);
      read = omega (arith, length-drop count items, there, then.read);
      all = λ done. omega (arith, length-append ones more, long, then.all done);
      script = first ++ then.script;
      script_is = ap₂ (λ (l r : List ℕ). l ++ r) is rest_is ∙ sym (script-append proto log ones others items before)
          ∙ ap (λ (l : List ℕ). script_of proto log l items before) (sym taken);
      cut = length first + then.cut;
      farewell = then.farewell;
      output_is = ap (λ (l : List ℕ). first ++ l) then.output_is
          ∙ sym (append_assoc first (take then.cut then.script) then.farewell)
          ∙ ap (λ (l : List ℕ). l ++ then.farewell) (sym (take-append-add first then.script then.cut));
      whole = λ sound. omega (arith, length-append first then.script, then.whole sound);
      only_short = then.only_short;
      front = then.front;
    }

-- a link on which nothing is put
pub writes-none : (proto : Proto) (log : List Op) (revisions : List ℕ) (items : List Item) (before : ℕ) (end : End)
    (wire : Wire) (link : LinkShown) → link.held ≡ Some wire → (end ≡ Done → revisions ≡ [])
    → WritesScript proto log revisions items before end wire link
writes-none proto log revisions items before end wire link is none = record {
  after = wire;
  after_is = is;
  output = [];
  put = sym (append-nil wire.put);
  script = none-script proto log revisions items before end none;
}

-- a link on which the replies of one step were put, and then a script
pub writes-then : (proto : Proto) (log : List Op) (count n : ℕ) (more : List ℕ) (items : List Item) (before : ℕ)
    (end : End) (wire next : Wire) (first : List ℕ) (link : LinkShown) → next.put ≡ wire.put ++ first
    → first ≡ script_of proto log (replicate count n) items before → count ≤ length items
    → WritesScript proto log more (drop count items) (before + count) end next link
    → WritesScript proto log (replicate count n ++ more) items before end wire link
writes-then proto log count n more items before end wire next first link put is there then = record {
  after = then.after;
  after_is = then.after_is;
  output = first ++ then.output;
  put = then.put ∙ ap (λ (l : List ℕ). l ++ then.output) put ∙ append_assoc wire.put first then.output;
  script = then-script proto log count n more items before end first then.output is there then.script;
}

-- ---- the items that a call reads

-- items that follow change no script of the first ones
pub script-front : (proto : Proto) (ops : List Op) (revisions : List ℕ) (items others : List Item) (before : ℕ)
    → length revisions ≤ length items
    → script_of proto ops revisions (items ++ others) before ≡ script_of proto ops revisions items before
unfolding script_of
script-front proto ops [] items others before few = refl
script-front proto ops (revision ∷ revisions) [] others before few =
    let none : suc (length revisions) ≤ 0 = few in
    absurd (omega (arith, none))
script-front proto ops (revision ∷ revisions) (item ∷ items) others before few =
    let fewer : suc (length revisions) ≤ suc (length items) = few in
    ap (λ (l : List ℕ). reply_of proto (coll (take revision ops)) revision item (before + 1) ++ l)
    (script-front proto ops revisions items others (before + 1) (omega (arith, fewer)))

-- the items that are read next stand first among those that were not read before
pub next-items : {input text : List ℕ} {before : ℕ} → Reads input before text
    → (others : List Item) × (drop before (heads_of input).items ≡ (heads_of text).items ++ others)
next-items {input} {text} {before} reads =
    let all : List Item = (heads_of input).items in
    let front : List Item = (heads_of text).items in
    let longer : List Item = (heads_of (text ++ reads.later)).items in (
      drop (length front) longer,
      ap (λ (n : ℕ). drop n all) (sym reads.count) ∙ ap (λ (l : List Item). drop (length reads.done) l) reads.items_are
          ∙ drop-append_seam reads.done longer ∙ rest_of front longer (items_first text reads.later),
    )
