-- The text that says that memory ran out, as it is sent.
use Rattle.std.proofs.Common.{◌≡◌, ◌≤◌, ℕ, ◌+◌, List, length, take, drop, Option, ap, ◌∙◌, arith}
use Rattle.std.proofs.lemmas.List.{length-drop}
use Rattle.dev_traits.specs.Link.{after_put, Wire}
use Rattle.dap_reply.specs.Head.{head_line, no_memory_reply}

-- where nothing is left all was said
pub said-all : (said : ℕ) (rest : List ℕ) → said ≤ length no_memory_reply → rest ≡ drop said no_memory_reply
    → length rest ≡ 0 → said ≡ length no_memory_reply
said-all said rest within is none = omega (arith, within, none, ap length is, length-drop said no_memory_reply)

-- the bytes that were put are the next of the text
pub text-put : (count said : ℕ) (rest : List ℕ) (old new : Option Wire) → rest ≡ drop said no_memory_reply
    → new ≡ after_put (take count rest) old → new ≡ after_put (take count (drop said no_memory_reply)) old
text-put count said rest old new is put = put ∙ ap (λ (l : List ℕ). after_put (take count l) old) is

-- and are no more than are left
pub text-within : (count said : ℕ) (rest : List ℕ) → said ≤ length no_memory_reply
    → rest ≡ drop said no_memory_reply → count ≤ length rest → said + count ≤ length no_memory_reply
text-within count said rest within is fits =
    omega (arith, within, fits, ap length is, length-drop said no_memory_reply)

-- it is short
pub text-short : length no_memory_reply ≤ 100
unfolding no_memory_reply head_line
text-short = omega arith
