-- What a pulled reply comes to.
use Rattle.std.proofs.Common.{◌≡◌, ℕ, ◌+◌, ◌-◌, ◌<◌, ◌≤◌, min, Bool, true, false, cond, nat_lt, List, [], ◌++◌, length, take, drop, Option, Some, None, IfSome, Result, Ok, Err, inl, inr, refl, sym, ap, subst, ◌∙◌, length-append, arith}
use Rattle.std.proofs.lemmas.Bool.{cases_lt, le-ltb, lt-ltb}
use Rattle.std.proofs.lemmas.List.{length-drop, length-take}
use Rattle.fm_base.specs.Chain.{fault_as, ◌>>=◌}
use Rattle.dev_traits.specs.Link.{Wire}
use Rattle.dev_traits.specs.Moved.{AreNext, IsOver, moved}
use Rattle.dev_traits.proofs.MovedLemmas.{moved-more, next-more}
use Rattle.dap_client.specs.declared.fault.ClientFault.{ClientFault}
use Rattle.dap_client.specs.declared.fault.ClientFault.TheVariants.{BadData, BadHead, ReplyEnded}
use Rattle.dap_client.specs.declared.fault.PullEnd.{PullEnd}
use Rattle.dap_client.specs.declared.fault.PullEnd.TheVariants as ends
use Rattle.dap_client.specs.declared.head.HeadEnd.TheVariants as heads
use Rattle.dap_client.specs.declared.message.Message.{Message}
use Rattle.dap_client.specs.DataReading.{message_or_fault}
use Rattle.dap_client.specs.Length.{IsLenAfter}
use Rattle.dap_client.specs.Pull.{Gathers, IfPulled, IsHeadOf, IsOfLink, IsReadBehind, Pulls, said_of}
use Rattle.dap_client.specs.Reply.{IsHeadIn, Says, body_taken, len_after, said_behind, said_by}
use Rattle.dap_client.proofs.HeadLemmas.{front_of}

-- an end of the link is no outcome
pub unpulled : (end : PullEnd) (P : Result Message ClientFault → Type 0) → IsOfLink end → IfPulled (Err end) P
unpulled ends.NoMemory P is = tt
unpulled ends.LinkFault P is = tt
unpulled (ends.Fault fault) P is = absurd is

-- what is said of an outcome in other words
pub pulled_as : (r : Result Message PullEnd) (P Q : Result Message ClientFault → Type 0)
    → ((outcome : Result Message ClientFault) → P outcome → Q outcome) → IfPulled r P → IfPulled r Q
pulled_as (Ok message) P Q to said = to (Ok message) said
pulled_as (Err ends.NoMemory) P Q to said = tt
pulled_as (Err ends.LinkFault) P Q to said = tt
pulled_as (Err (ends.Fault fault)) P Q to said = to (Err fault) said

-- what was taken for a head says the outcome
pub pulls-head : (held now : Option Wire) (head : List ℕ) (outcome : Result Message ClientFault)
    → Gathers held now [] head → IfSome held (λ wire. Says wire.left (length head) outcome) → Pulls [] held now outcome
pulls-head held now head outcome taken says =
    let own : taken.bytes ≡ head = sym taken.grown in
    record {
      taken = head;
      next = subst (λ (l : List ℕ). AreNext l held) own taken.taken.next;
      now_is = taken.taken.now_is ∙ ap (λ (l : List ℕ). moved l [] held) own;
      says = says;
    }

-- the input ends before its head does
pub says-early : (held : Option Wire) (head : List ℕ) (count : ℕ) → count ≡ length head
    → IfSome held (λ wire. IsHeadOf head heads.Early wire.left)
    → IfSome held (λ wire. Says wire.left (length head) (Err (ReplyEnded count)))
says-early None head count is early = tt
says-early (Some w) head count is early = inl (record {
  short = early.2;
  no_end = early.1;
  all = early.0;
  outcome_is = ap (λ (n : ℕ). Err (ReplyEnded n)) (is ∙ early.0);
})

-- the head is too long
pub says-long : (held now : Option Wire) (head : List ℕ) → Gathers held now [] head
    → IfSome held (λ wire. IsHeadOf head heads.Long wire.left)
    → IfSome held (λ wire. Says wire.left (length head) (Err BadHead))
says-long None now head taken long = tt
says-long (Some w) now head taken long = inr (inl (record {
  long = omega (arith, long.0, ap length (front_of w now head taken), length-take (length head) w.left);
  no_end = long.1;
  most = long.0;
  outcome_is = refl;
}))

-- the head is whole, and says no length
pub says-refused : (held now : Option Wire) (head : List ℕ) (fault : ClientFault) → Gathers held now [] head
    → IfSome held (λ wire. IsHeadOf head heads.Whole wire.left) → IsLenAfter head (Err fault)
    → IfSome held (λ wire. Says wire.left (length head) (Err fault))
says-refused None now head fault taken ends after = tt
says-refused (Some w) now head fault taken ends after =
    let left = length w.left - length head in
    let none : 0 ≡ body_taken left (len_after after.head) = ap (body_taken left) after.len_is in
    inr (inr (record {
      n = length head;
      few = ends.1;
      ends = ends.0;
      head = after.head;
      head_is = subst (λ (l : List ℕ). IsHeadIn l after.head) (sym (front_of w now head taken)) after.head_is;
      count_is = omega (arith, none);
      outcome_is = ap (λ (r : Result ℕ ClientFault). r >>= said_by (length w.left) (drop (length head) w.left))
          after.len_is;
    }))

-- as much of a body as there is, and what it says
record IsBodyIn (rest : List ℕ) (n len : ℕ) (body : List ℕ) (outcome : Result Message ClientFault) : Type 0 where
  count : length body ≡ min len (length rest)
  says : outcome ≡ said_by (n + length rest) rest len

body_in : (rest : List ℕ) (n len : ℕ) (body : List ℕ) (outcome : Result Message ClientFault)
    → take (length body) rest ≡ body → length body ≤ len
    → (length body < len → drop (length body) rest ≡ []) → outcome ≡ said_of n len body
    → IsBodyIn rest n len body outcome
unfolding said_by
body_in rest n len body outcome front most short said =
    let front_len = ap length front in
    let taken = length-take (length body) rest in
    elim (cases_lt (length body) len) [
      | inl below ↦
          let none = ap length (short below) in
          let same : length rest ≡ length body =
          omega (arith, none, length-drop (length body) rest, front_len, taken) in
          let early : nat_lt (length rest) len ≡ true = lt-ltb (length rest) len (omega (arith, same, below)) in
          let first : outcome ≡ Err (ReplyEnded (n + length body)) =
          said ∙ ap (λ (b : Bool). cond b (Err (ReplyEnded (n + length body)))
          (fault_as BadData (message_or_fault body))) (lt-ltb (length body) len below) in
          let last : Err (ReplyEnded (n + length rest)) ≡ said_by (n + length rest) rest len =
          sym (ap (λ (b : Bool). cond b (Err (ReplyEnded (n + length rest)))
          (fault_as BadData (message_or_fault (take len rest)))) early) in
          record {
            count = omega (arith, same, below);
            says = first ∙ ap (λ (k : ℕ). Err (ReplyEnded (n + k))) (sym same) ∙ last;
          }
      | inr all ↦
          let same : length body ≡ len = omega (arith, all, most) in
          let enough : nat_lt (length rest) len ≡ false =
          le-ltb (length rest) len (omega (arith, same, front_len, taken)) in
          let first : outcome ≡ fault_as BadData (message_or_fault body) =
          said ∙ ap (λ (b : Bool). cond b (Err (ReplyEnded (n + length body)))
          (fault_as BadData (message_or_fault body))) (le-ltb (length body) len all) in
          let whole : body ≡ take len rest = sym front ∙ ap (λ (k : ℕ). take k rest) same in
          let last : fault_as BadData (message_or_fault (take len rest)) ≡ said_by (n + length rest) rest len =
          sym (ap (λ (b : Bool). cond b (Err (ReplyEnded (n + length rest)))
          (fault_as BadData (message_or_fault (take len rest)))) enough) in
          record {
            count = omega (arith, same, front_len, taken);
            says = first ∙ ap (λ (l : List ℕ). fault_as BadData (message_or_fault l)) whole ∙ last;
          }
    ]

-- what the input says behind a whole head
says-behind : (w : Wire) (head : List ℕ) (len : ℕ) (body : List ℕ) (outcome : Result Message ClientFault)
    → take (length head) w.left ≡ head → IsHeadOf head heads.Whole w.left → IsLenAfter head (Ok len)
    → IsBodyIn (drop (length head) w.left) (length head) len body outcome
    → Says w.left (length (head ++ body)) outcome
says-behind w head len body outcome front ends after in_body =
    let n = length head in
    let rest = drop n w.left in
    let whole : n + length rest ≡ length w.left = omega (arith, ends.0.within, length-drop n w.left) in
    let left : length rest ≡ length w.left - n = length-drop n w.left in
    let taken : body_taken (length w.left - n) (Ok len) ≡ body_taken (length w.left - n) (len_after after.head) =
    ap (body_taken (length w.left - n)) after.len_is in
    let said : said_by (length w.left) rest len ≡ said_behind w.left n after.head =
    ap (λ (r : Result ℕ ClientFault). r >>= said_by (length w.left) rest) after.len_is in
    inr (inr (record {
      n = n;
      few = ends.1;
      ends = ends.0;
      head = after.head;
      head_is = subst (λ (l : List ℕ). IsHeadIn l after.head) (sym front) after.head_is;
      count_is = length-append head body ∙ ap (λ (k : ℕ). n + k)
          (in_body.count ∙ ap (λ (k : ℕ). min len k) left ∙ taken);
      outcome_is = in_body.says ∙ ap (λ (k : ℕ). said_by k rest len) whole ∙ said;
    }))

-- a whole head was taken, and then a body as far as there is one
pub pulls-behind : (held mid now : Option Wire) (head : List ℕ) (count len : ℕ) → count ≡ length head
    → Gathers held mid [] head → IfSome held (λ wire. IsHeadOf head heads.Whole wire.left) → IsLenAfter head (Ok len)
    → (outcome : Result Message ClientFault) → IsReadBehind count len mid now outcome → Pulls [] held now outcome
pulls-behind held mid now head count len count_is taken ends after outcome read =
    let own : taken.bytes ≡ head = sym taken.grown in
    let next : AreNext head held = subst (λ (l : List ℕ). AreNext l held) own taken.taken.next in
    let mid_is : mid ≡ moved head [] held =
    taken.taken.now_is ∙ ap (λ (l : List ℕ). moved l [] held) own in
    let body_next : AreNext read.body (moved head [] held) = subst (AreNext read.body) mid_is read.taken.next in
    let now_is : now ≡ moved read.body [] (moved head [] held) =
    read.taken.now_is ∙ ap (moved read.body []) mid_is in
    record {
      taken = head ++ read.body;
      next = next-more head read.body [] held next body_next;
      now_is = now_is ∙ moved-more head read.body [] held;
      says = by_held held next body_next ends (λ below. subst IsOver now_is (read.short below));
    }
  where
    by_held : (held : Option Wire) → AreNext head held → AreNext read.body (moved head [] held)
        → IfSome held (λ wire. IsHeadOf head heads.Whole wire.left)
        → (length read.body < len → IsOver (moved read.body [] (moved head [] held)))
        → IfSome held (λ wire. Says wire.left (length (head ++ read.body)) outcome)
    by_held None next body_next ends short = tt
    by_held (Some w) next body_next ends short =
        says-behind w head len read.body outcome next ends after
        (body_in (drop (length head) w.left) (length head) len read.body outcome body_next read.most short
        (read.outcome_is ∙ ap (λ (k : ℕ). said_of k len read.body) count_is))
