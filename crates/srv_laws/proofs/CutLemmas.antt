-- The bytes of replies that were begun are a front of their script.
use Rattle.std.proofs.Common.{◌≡◌, ◌⊎◌, inl, inr, ◌≤◌, ℕ, suc, ◌+◌, List, [], ◌∷◌, ◌++◌, length, map, take, Some, refl, sym, ap, ap₂, subst, ◌∙◌, arith, append-nil, length-append}
use Rattle.std.specs.Prelude.{replicate, slice_get}
use Rattle.std.proofs.lemmas.List.{nil_from_length, take-append-le, take_all}
use Rattle.std.proofs.Math.Nat.{le_refl}
use Rattle.std.proofs.Math.Seq.{take-append-add}
use Rattle.fm_model.specs.declared.op.Op.{Op}
use Rattle.fm_model.specs.declared.proto.Proto.{Proto}
use Rattle.web_frame.specs.Items.{Item}
use Rattle.dap_reply.specs.declared.served.Mark.{Mark}
use Rattle.dap_reply.specs.Script.{script_of}
use Rattle.dap_reply.specs.Served.{marked_reply, Rises, sent_by}

-- the revisions of replies
abbrev pub revisions : List Mark → List ℕ
revisions marks = map (λ (mark : Mark). mark.revision) marks

-- each reply is whole, or it is the last one and the link failed
abbrev pub AreWholeOrCut : Type 0 → Proto → List Op → List Mark → List Item → ℕ → Type 0
AreWholeOrCut Failed proto ops marks items before = (index : ℕ) (mark : Mark) (item : Item)
    → slice_get marks index ≡ Some mark → slice_get items index ≡ Some item
    → (mark.sent ≡ length (marked_reply proto ops mark item (before + index + 1)))
    ⊎ (Failed × (index + 1 ≡ length marks)
    × (mark.sent ≤ length (marked_reply proto ops mark item (before + index + 1))))

-- these are the first bytes of a script, and all of them unless the link failed
pub record IsFront (Failed : Type 0) (script bytes : List ℕ) : Type 0 where
  pub cut : ℕ
  pub front : bytes ≡ take cut script
  pub whole : (Failed → ⊥) → length script ≤ cut

-- no byte of no reply
front-none : (Failed : Type 0) → IsFront Failed [] []
front-none Failed = record { cut = 0; front = refl; whole = λ sound. le_refl 0 }

-- a whole reply, and a front of the others
front-more : (Failed : Type 0) (reply script bytes : List ℕ) → IsFront Failed script bytes
    → IsFront Failed (reply ++ script) (reply ++ bytes)
front-more Failed reply script bytes is = record {
  cut = length reply + is.cut;
  front = ap (λ (l : List ℕ). reply ++ l) is.front ∙ sym (take-append-add reply script is.cut);
  whole = λ sound. omega (arith, length-append reply script, is.whole sound);
}

-- a front of the last reply
front-cut : (Failed : Type 0) (reply script : List ℕ) (count : ℕ) → Failed → count ≤ length reply
    → IsFront Failed (reply ++ script) (take count reply)
front-cut Failed reply script count failed within = record {
  cut = count;
  front = sym (take-append-le count reply script within);
  whole = λ sound. absurd (sound failed);
}

-- the replies after the first are whole or cut too
later-replies : (Failed : Type 0) (proto : Proto) (ops : List Op) (mark : Mark) (marks : List Mark) (item : Item)
    (items : List Item) (before : ℕ) → AreWholeOrCut Failed proto ops (mark ∷ marks) (item ∷ items) before
    → AreWholeOrCut Failed proto ops marks items (before + 1)
later-replies Failed proto ops mark marks item items before each index next found there is =
    let number : before + suc index + 1 ≡ before + 1 + index + 1 = omega arith in
    elim (each (suc index) next found there is) [
      | inl whole ↦ inl (subst (λ (n : ℕ). next.sent ≡ length (marked_reply proto ops next found n)) number whole)
      | inr cut ↦
          let last : suc index + 1 ≡ suc (length marks) = cut.1 in
          inr (
            cut.0,
            omega (arith, last),
            subst (λ (n : ℕ). next.sent ≤ length (marked_reply proto ops next found n)) number cut.2,
          )
    ]

-- the replies that were begun
pub sent-front : (Failed : Type 0) (proto : Proto) (ops : List Op) (marks : List Mark) (items : List Item)
    (before : ℕ) → AreWholeOrCut Failed proto ops marks items before
    → IsFront Failed (script_of proto ops (revisions marks) items before) (sent_by proto ops marks items before)
unfolding sent_by script_of
sent-front Failed proto ops [] items before each = front-none Failed
sent-front Failed proto ops (mark ∷ marks) [] before each = front-none Failed
sent-front Failed proto ops (mark ∷ marks) (item ∷ items) before each =
    let reply : List ℕ = marked_reply proto ops mark item (before + 1) in
    let script : List ℕ = script_of proto ops (revisions marks) items (before + 1) in
    let sent : List ℕ = sent_by proto ops marks items (before + 1) in
    let number : before + 0 + 1 ≡ before + 1 = omega arith in
    elim (each 0 mark item refl refl) [
      | inl whole ↦
          let all : take mark.sent reply ≡ reply =
          ap (λ (n : ℕ). take n reply)
          (whole ∙ ap (λ (n : ℕ). length (marked_reply proto ops mark item n)) number)
          ∙ take_all (length reply) reply (le_refl (length reply)) in
          subst (λ (l : List ℕ). IsFront Failed (reply ++ script) (l ++ sent)) (sym all)
          (front-more Failed reply script sent
          (sent-front Failed proto ops marks items (before + 1)
          (later-replies Failed proto ops mark marks item items before each)))
      | inr cut ↦
          let last : 0 + 1 ≡ suc (length marks) = cut.1 in
          let none : marks ≡ [] = nil_from_length marks (omega (arith, last)) in
          let alone : take mark.sent reply ++ sent ≡ take mark.sent reply =
          ap (λ (ms : List Mark). take mark.sent reply ++ sent_by proto ops ms items (before + 1)) none
          ∙ append-nil (take mark.sent reply) in
          subst (λ (l : List ℕ). IsFront Failed (reply ++ script) l) (sym alone)
          (front-cut Failed reply script mark.sent cut.0
          (subst (λ (n : ℕ). mark.sent ≤ length (marked_reply proto ops mark item n)) number cut.2))
    ]

-- ---- where a collection stands still

rises-up : (from : ℕ) (marks : List Mark) (to : ℕ) → Rises from marks to → from ≤ to
unfolding Rises
rises-up from [] to rises = rises
rises-up from (mark ∷ marks) to rises = omega (arith, rises.0, rises-up mark.revision marks to rises.1)

-- all replies have its revision
pub level : (n : ℕ) (marks : List Mark) → Rises n marks n → revisions marks ≡ replicate (length marks) n
unfolding Rises
level n [] rises = refl
level n (mark ∷ marks) rises =
    let same : mark.revision ≡ n = omega (arith, rises.0, rises-up mark.revision marks n rises.1) in
    ap₂ (λ (m : ℕ) (ms : List ℕ). m ∷ ms) same
    (level n marks (subst (λ (m : ℕ). Rises m marks n) same rises.1))
