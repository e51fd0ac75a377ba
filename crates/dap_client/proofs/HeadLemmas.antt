-- What was taken for a head, by how that ended.
use Rattle.std.proofs.Common.{◌≡◌, ℕ, ◌+◌, ◌<◌, ◌≤◌, true, false, List, [], length, take, Option, Some, None, IfSome, sym, ap, subst, ◌∙◌, arith}
use Rattle.std.proofs.lemmas.List.{length-drop, length-take}
use Rattle.dev_traits.specs.Link.{Wire}
use Rattle.dev_traits.specs.Moved.{IsOver}
use Rattle.dap_client.specs.declared.head.HeadEnd.TheVariants as heads
use Rattle.dap_client.specs.Pull.{Gathers, IsHeadOf}
use Rattle.dap_client.specs.Reply.{HasNoEnd, ends_head}
use Rattle.dap_client.proofs.PullLemmas.{no_end-more, no_end-none}
use Rattle.web_frame.specs.Limit.{MAX_HEAD}

-- no head ends before the first byte of a link
pub none-begun : (held : Option Wire) → IfSome held (λ wire. HasNoEnd wire.left 0)
none-begun None = tt
none-begun (Some w) = no_end-none w.left

-- what was taken is the front of the input
pub front_of : (w : Wire) (now : Option Wire) (bytes : List ℕ) → Gathers (Some w) now [] bytes
    → take (length bytes) w.left ≡ bytes
front_of w now bytes taken = subst (λ (l : List ℕ). take (length l) w.left ≡ l) (sym taken.grown) taken.taken.next

-- one byte more, with which no head ends
pub none-more : (held now : Option Wire) (bytes : List ℕ) (n : ℕ) → Gathers held now [] bytes → length bytes ≡ n + 1
    → IfSome held (λ wire. HasNoEnd wire.left n) → ends_head bytes ≡ false
    → IfSome held (λ wire. HasNoEnd wire.left (n + 1))
none-more None now bytes n taken count none e = tt
none-more (Some w) now bytes n taken count none e =
    no_end-more w.left n none
    (ap (λ (k : ℕ). ends_head (take k w.left)) (sym count) ∙ ap ends_head (front_of w now bytes taken) ∙ e)

-- the input ends first
pub head-early : (held now : Option Wire) (bytes : List ℕ) (n : ℕ) → Gathers held now [] bytes → length bytes ≡ n
    → IsOver now → IfSome held (λ wire. HasNoEnd wire.left n) → n < MAX_HEAD
    → IfSome held (λ wire. IsHeadOf bytes heads.Early wire.left)
head-early None now bytes n taken count over none few = tt
head-early (Some w) now bytes n taken count over none few =
    let there = subst IsOver taken.taken.now_is over in
    let left : length w.left ≤ length taken.bytes =
    omega (arith, ap length there, length-drop (length taken.bytes) w.left) in
    let front = ap length (front_of w now bytes taken) in
    let same : length bytes ≡ length w.left =
    omega (arith, left, front, ap length taken.grown, length-take (length bytes) w.left) in (
      same,
      subst (λ (k : ℕ). HasNoEnd w.left k) (sym count ∙ same) none,
      omega (arith, same, count, few),
    )

-- a head ends
pub head-whole : (held now : Option Wire) (bytes : List ℕ) (n : ℕ) → Gathers held now [] bytes → length bytes ≡ n + 1
    → IfSome held (λ wire. HasNoEnd wire.left n) → ends_head bytes ≡ true → n < MAX_HEAD
    → IfSome held (λ wire. IsHeadOf bytes heads.Whole wire.left)
head-whole None now bytes n taken count none e few = tt
head-whole (Some w) now bytes n taken count none e few =
    let front = front_of w now bytes taken in
    let within : length bytes ≤ length w.left =
    omega (arith, ap length front, length-take (length bytes) w.left) in (
      record {
        within = within;
        ends = ap ends_head front ∙ e;
        first = λ m below. none m (omega (arith, below, count));
      },
      omega (arith, count, few),
    )
