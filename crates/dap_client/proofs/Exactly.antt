-- A reader that reads what is spelled and nothing else, and that fails at the greatest offset up to which some text
-- that is spelled begins so.
use Rattle.std.proofs.Common.{◌≡◌, ℕ, ◌+◌, ◌≤◌, List, [], ◌++◌, length, Ok, Err, refl, sym, ap, ◌∙◌, length-append, arith}
use Rattle.fm_base.specs.Input.{Input}
use Rattle.fm_base.specs.Parser.{pure}
use Rattle.nc_model.specs.Format.{IsBytes}
use Rattle.fm_base.proofs.Exact.{input, Took, Is, ok_pair, took_none, none_again}
use Rattle.fm_base.proofs.Parts.{Example, example_as}
use Rattle.dap_client.specs.Reading.{Reader}

-- what begins some text that is spelled so has at most n of these bytes
abbrev pub Reaches : {A : Type 0} → (List ℕ → A → Type 0) → List ℕ → ℕ → Type 0
Reaches {A} S rest n =
    (front others more : List ℕ) (a : A) → rest ≡ front ++ others → S (front ++ more) a → length front ≤ n

-- what was read is spelled so, and nothing that is begins with more
pub record ReadsTo {A : Type 0} (S : List ℕ → A → Type 0) (i : Input) (a : A) (j : Input) : Type 0 where
  pub took : Took S i a j
  pub reach : Reaches S i.rest (length took.text)

-- some text that is spelled so begins with what stands before the offset, and none with more
pub record Dies {A : Type 0} (S : List ℕ → A → Type 0) (i : Input) (at : ℕ) : Type 0 where
  pub front : List ℕ
  pub others : List ℕ
  pub more : List ℕ
  pub a : A
  pub split : i.rest ≡ front ++ others
  pub offset : at ≡ i.at + length front
  pub spelled : S (front ++ more) a
  pub reach : Reaches S i.rest (length front)

-- The reader is exact where at most n bytes are left.
pub record ExactTo {A : Type 0} (n : ℕ) (S : List ℕ → A → Type 0) (p : Reader A) : Type 0 where
  pub some : Example S
  pub takes : (i : Input) (a : A) (j : Input) → IsBytes i.rest → length i.rest ≤ n → p i ≡ Ok (a, j) → ReadsTo S i a j
  pub fails : (i : Input) (at : ℕ) → IsBytes i.rest → length i.rest ≤ n → p i ≡ Err at → Dies S i at
  pub again : (at : ℕ) (text rest : List ℕ) (a : A) → length (text ++ rest) ≤ n → S text a
      → p (input at (text ++ rest)) ≡ Ok (a, input (at + length text) rest)

-- the same in other words
pub ExactTo-as : {A : Type 0} (n : ℕ) (S T : List ℕ → A → Type 0) (p : Reader A)
    → ((text : List ℕ) (a : A) → S text a → T text a)
    → ((text : List ℕ) (a : A) → T text a → S text a) → ExactTo n S p → ExactTo n T p
ExactTo-as {A} n S T p to from ep = record {
  some = example_as to ep.some;
  takes = λ i a j of fits e.
      let read = ep.takes i a j of fits e in
      let took = read.took in
      record {
        took = record {
          text = took.text;
          spelled = to took.text a took.spelled;
          split = took.split;
          offset = took.offset;
        };
        reach = λ front others more b split s. read.reach front others more b split (from (front ++ more) b s);
      };
  fails = λ i at of fits e.
      let dead = ep.fails i at of fits e in
      record {
        front = dead.front;
        others = dead.others;
        more = dead.more;
        a = dead.a;
        split = dead.split;
        offset = dead.offset;
        spelled = to (dead.front ++ dead.more) dead.a dead.spelled;
        reach = λ front others more b split s. dead.reach front others more b split (from (front ++ more) b s);
      };
  again = λ at text rest a fits s. ep.again at text rest a fits (from text a s);
}

-- the same reader, written otherwise
pub ExactTo-same : {A : Type 0} (n : ℕ) (S : List ℕ → A → Type 0) (p q : Reader A) → ((i : Input) → q i ≡ p i)
    → ExactTo n S p → ExactTo n S q
ExactTo-same n S p q same ep = record {
  some = ep.some;
  takes = λ i a j of fits e. ep.takes i a j of fits (sym (same i) ∙ e);
  fails = λ i at of fits e. ep.fails i at of fits (sym (same i) ∙ e);
  again = λ at text rest a fits s. same (input at (text ++ rest)) ∙ ep.again at text rest a fits s;
}

-- a reader that depends on how many bytes are left
pub ExactTo-by_left : {A : Type 0} (n : ℕ) (S : List ℕ → A → Type 0) (p : ℕ → Reader A)
    → ((m : ℕ) → ExactTo m S (p m)) → ExactTo n S (λ i. p (length i.rest) i)
ExactTo-by_left n S p ep = record {
  some = (ep n).some;
  takes = λ i a j of fits e. (ep (length i.rest)).takes i a j of (omega arith) e;
  fails = λ i at of fits e. (ep (length i.rest)).fails i at of (omega arith) e;
  again = λ at text rest a fits s. (ep (length (text ++ rest))).again at text rest a (omega arith) s;
}

-- nothing is read
pub ExactTo-pure : {A : Type 0} (n : ℕ) (x : A) → ExactTo n (Is x) (pure x)
ExactTo-pure n x = record {
  some = record { text = []; a = x; spelled = record { value = refl; text_is = refl } };
  takes = λ i a j of fits e.
      let k = ok_pair {E = ℕ} x a i j e in
      record {
        took = took_none i a j (record { value = k.0; text_is = refl }) k.1;
        reach = λ front others more b split s.
            omega (arith, ap length s.text_is, length-append front more);
      };
  fails = λ i at of fits e. absurd cc;
  again = λ at text rest a fits s. none_again x a at text rest s.value s.text_is;
}
