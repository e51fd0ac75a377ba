-- Bytes are read as a message exactly where they spell it, and a fault stands where no message goes on.
use Rattle.std.proofs.Common.{◌≡◌, ℕ, ◌+◌, Bool, true, false, cond, List, [], ◌++◌, length, Result, Ok, Err, refl, sym, ap, subst, ◌∙◌, append-nil, arith}
use Rattle.std.proofs.lemmas.Bool.{eqb-true}
use Rattle.std.proofs.lemmas.List.{nil_from_length}
use Rattle.fm_base.specs.Input.{Input, whole}
use Rattle.fm_base.specs.Parser.{Outcome, and_then, ◌>>=◌, pure, value_of}
use Rattle.fm_base.proofs.ChainLemmas.{same_Ok}
use Rattle.fm_base.proofs.Exact.{input}
use Rattle.nc_model.specs.Format.{IsBytes}
use Rattle.nc_model.specs.UnitsReading.{end_at, has_ended}
use Rattle.dap_client.specs.declared.message.Message.{Message}
use Rattle.dap_client.specs.DataReading.{body_at, message_at, message_or_fault}
use Rattle.dap_client.specs.Message.{IsBadData, Spells}
use Rattle.dap_client.proofs.Bodies.{ExactTo-body}

-- a fault of a message
abbrev failed : ℕ → Result Message ℕ
failed at = Err at

-- two faults that are the same
same_fault : (x y : ℕ) → failed x ≡ failed y → x ≡ y
same_fault x y e = cc

-- what the end behind a body comes to
abbrev ended : Message → Input → Result Message ℕ
ended message i = cond (has_ended i) (Ok message) (Err i.at)

by_body : (bytes : List ℕ) (r : Outcome Message ℕ) → body_at (whole bytes) ≡ r
    → message_or_fault bytes ≡ value_of (and_then r (λ message. end_at >>= λ end. pure message))
unfolding message_or_fault message_at
by_body bytes r e = ap (λ (r : Outcome Message ℕ). value_of (and_then r (λ message. end_at >>= λ end. pure message))) e

by_end : (message : Message) (i : Input) → value_of ((end_at >>= λ end. pure message) i) ≡ ended message i
unfolding end_at
by_end message i = by_test (has_ended i)
  where
    by_test : (b : Bool)
        → value_of (and_then (cond b (Ok (tt {0}, i)) (Err i.at)) (λ end. pure message))
        ≡ cond b (Ok message) (Err i.at)
    by_test true = refl
    by_test false = refl

-- what is spelled is read
pub read_of_spelled : (bytes : List ℕ) (message : Message) → Spells bytes message → message_or_fault bytes ≡ Ok message
read_of_spelled bytes message s =
    let all : bytes ++ [] ≡ bytes = append-nil bytes in
    let again = (ExactTo-body (length (bytes ++ []))).again 0 bytes [] message (omega arith) s in
    let read = ap (λ (l : List ℕ). body_at (input 0 l)) (sym all) ∙ again in
    by_body bytes (Ok (message, input (0 + length bytes) [])) read ∙ by_end message (input (0 + length bytes) [])

-- bytes spell one message at most
pub spelled_once : (bytes : List ℕ) (one other : Message) → Spells bytes one → Spells bytes other → one ≡ other
spelled_once bytes one other s t =
    same_Ok {E = ℕ} one other (sym (read_of_spelled bytes one s) ∙ read_of_spelled bytes other t)

-- what is read is spelled
pub spelled_of_read : (bytes : List ℕ) (message : Message) → IsBytes bytes → message_or_fault bytes ≡ Ok message
    → Spells bytes message
spelled_of_read bytes message of e = by_outcome (body_at (whole bytes)) refl
  where
    by_test : (found : Message) (i : Input) → body_at (whole bytes) ≡ Ok (found, i) → (b : Bool) → has_ended i ≡ b
        → cond b (Ok found) (Err i.at) ≡ Ok message → Spells bytes message
    by_test found i read true end f =
        let took = ((ExactTo-body (length bytes)).takes (whole bytes) found i of (omega arith) read).took in
        let none : i.rest ≡ [] = nil_from_length i.rest (eqb-true (length i.rest) 0 end) in
        let text : took.text ≡ bytes =
        sym (took.split ∙ ap (λ (l : List ℕ). took.text ++ l) none ∙ append-nil took.text) in
        let same : found ≡ message = same_Ok {E = ℕ} found message f in
        subst (λ (m : Message). Spells bytes m) same (subst (λ (l : List ℕ). Spells l found) text took.spelled)
    by_test found i read false end f = absurd cc

    by_outcome : (r : Outcome Message ℕ) → body_at (whole bytes) ≡ r → Spells bytes message
    by_outcome (Ok x) read = by_test x.0 x.1 read (has_ended x.1) refl
        (sym (by_end x.0 x.1) ∙ sym (by_body bytes (Ok x) read) ∙ e)
    by_outcome (Err at) read = let isnt : Err at ≡ Ok message = sym (by_body bytes (Err at) read) ∙ e in absurd cc

-- a fault stands where no message goes on
pub bad_of_fault : (bytes : List ℕ) (at : ℕ) → IsBytes bytes → message_or_fault bytes ≡ Err at → IsBadData bytes at
bad_of_fault bytes at of e = by_outcome (body_at (whole bytes)) refl
  where
    no_message : (message : Message) → ¬ Spells bytes message
    no_message message s = let isnt = sym (read_of_spelled bytes message s) ∙ e in absurd cc

    by_test : (found : Message) (i : Input) → body_at (whole bytes) ≡ Ok (found, i) → (b : Bool)
        → cond b (Ok found) (Err i.at) ≡ Err at → IsBadData bytes at
    by_test found i read true f = absurd cc
    by_test found i read false f =
        let reads = (ExactTo-body (length bytes)).takes (whole bytes) found i of (omega arith) read in
        let took = reads.took in
        let same : i.at ≡ at = same_fault i.at at f in
        let here : at ≡ length took.text = omega (arith, same, took.offset) in
        record {
          no_message = no_message;
          front = took.text;
          rest = i.rest;
          split = took.split;
          offset = here;
          begun = record {
            more = [];
            message = found;
            spelled = subst (λ (l : List ℕ). Spells l found) (sym (append-nil took.text)) took.spelled;
          };
          greatest = λ longer others split begun.
              let short = reads.reach longer others begun.more begun.message split begun.spelled in
              omega (arith, short, here);
        }

    by_outcome : (r : Outcome Message ℕ) → body_at (whole bytes) ≡ r → IsBadData bytes at
    by_outcome (Ok x) read = by_test x.0 x.1 read (has_ended x.1)
        (sym (by_end x.0 x.1) ∙ sym (by_body bytes (Ok x) read) ∙ e)
    by_outcome (Err fault) read =
        let both : Err fault ≡ Err at = sym (by_body bytes (Err fault) read) ∙ e in
        let same : fault ≡ at = same_fault fault at both in
        let dead = (ExactTo-body (length bytes)).fails (whole bytes) fault of (omega arith) read in
        let here : at ≡ length dead.front = omega (arith, same, dead.offset) in
        record {
          no_message = no_message;
          front = dead.front;
          rest = dead.others;
          split = dead.split;
          offset = here;
          begun = record { more = dead.more; message = dead.a; spelled = dead.spelled };
          greatest = λ longer others split begun.
              let short = dead.reach longer others begun.more begun.message split begun.spelled in
              omega (arith, short, here);
        }
