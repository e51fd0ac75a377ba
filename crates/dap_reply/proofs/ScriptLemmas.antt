-- Scripts, one reply after the other.
use Rattle.std.proofs.Common.{◌≡◌, ℕ, suc, ◌+◌, ◌≤◌, List, [], ◌∷◌, ◌++◌, length, take, drop, refl, sym, ap, ap₂, ◌∙◌, arith}
use Rattle.std.specs.List.{All}
use Rattle.std.proofs.lemmas.List.{append_assoc, take-append-le}
use Rattle.std.proofs.lemmas.List.Elements.{All-tail}
use Rattle.fm_model.specs.declared.op.Op.{Op}
use Rattle.fm_model.specs.declared.proto.Proto.{Proto}
use Rattle.fm_model.specs.Collection.{coll}
use Rattle.web_frame.specs.Items.{Item}
use Rattle.dap_reply.specs.Reply.{reply_of}
use Rattle.dap_reply.specs.Script.{script_of}

-- without items there is no reply
script-none : (proto : Proto) (ops : List Op) (revisions : List ℕ) (before : ℕ)
    → script_of proto ops revisions [] before ≡ []
unfolding script_of
script-none proto ops [] before = refl
script-none proto ops (revision ∷ revisions) before = refl

-- the script of more replies is that of the first ones and the rest
pub script-append : (proto : Proto) (ops : List Op) (revisions more : List ℕ) (items : List Item) (before : ℕ)
    → script_of proto ops (revisions ++ more) items before
    ≡ script_of proto ops revisions items before
    ++ script_of proto ops more (drop (length revisions) items) (before + length revisions)
unfolding script_of
script-append proto ops [] more items before =
    let same : before ≡ before + 0 = omega arith in
    ap (script_of proto ops more items) same
script-append proto ops (revision ∷ revisions) more [] before =
    sym (script-none proto ops more (before + suc (length revisions)))
script-append proto ops (revision ∷ revisions) more (item ∷ items) before =
    let reply = reply_of proto (coll (take revision ops)) revision item (before + 1) in
    let same : before + 1 + length revisions ≡ before + suc (length revisions) = omega arith in
    ap (λ (l : List ℕ). reply ++ l) (script-append proto ops revisions more items (before + 1))
    ∙ ap (λ (n : ℕ). reply ++ (script_of proto ops revisions items (before + 1)
    ++ script_of proto ops more (drop (length revisions) items) n)) same
    ∙ sym (append_assoc reply (script_of proto ops revisions items (before + 1)) _)

-- later operations leave the script of replies that came before them
pub script-later : (proto : Proto) (ops later : List Op) (revisions : List ℕ) (items : List Item) (before : ℕ)
    → All (λ (revision : ℕ). revision ≤ length ops) revisions
    → script_of proto (ops ++ later) revisions items before ≡ script_of proto ops revisions items before
unfolding script_of
script-later proto ops later [] items before within = refl
script-later proto ops later (revision ∷ revisions) [] before within = refl
script-later proto ops later (revision ∷ revisions) (item ∷ items) before within =
    ap₂ (λ (l : List Op) (rest : List ℕ). reply_of proto (coll l) revision item (before + 1) ++ rest)
    (take-append-le revision ops later (within 0 revision (omega arith)))
    (script-later proto ops later revisions items (before + 1)
    (All-tail (λ (n : ℕ). n ≤ length ops) revision revisions within))

pub ruleset scripts = (script-append, script-later)
