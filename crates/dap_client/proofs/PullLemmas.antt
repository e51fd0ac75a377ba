-- Bytes that are taken of a link one after the other, and what they come to.
use Rattle.std.proofs.Common.{◌≡◌, ℕ, ◌+◌, ◌≤◌, false, List, [], ◌++◌, length, take, Option, Some, None, IfSome, refl, sym, ap, subst, ◌∙◌, append_assoc, append-nil, arith, inl, inr}
use Rattle.std.proofs.lemmas.Bool.{cases_lt}
use Rattle.dev_traits.specs.declared.link.Taken.TheVariants as takes
use Rattle.dev_traits.specs.Link.{Wire, GivesNext, after_take}
use Rattle.dev_traits.specs.Moved.{AreNext, moved}
use Rattle.dev_traits.proofs.MovedLemmas.{moved-given, moved-more, moved-none, next-given, next-more, next-none, same-given}
use Rattle.dap_client.specs.Pull.{Gathers, put_of}
use Rattle.dap_client.specs.Reply.{HasNoEnd, ends_head}

-- nothing was taken yet
pub Gathers-none : (held : Option Wire) (bytes : List ℕ) → Gathers held held bytes bytes
Gathers-none held bytes = record {
  bytes = [];
  grown = sym (append-nil bytes);
  taken = record { next = next-none held; now_is = sym (moved-none held) };
}

-- a take gave nothing
pub Gathers-end : (held now : Option Wire) (bytes : List ℕ) → now ≡ after_take 0 held → Gathers held now bytes bytes
Gathers-end held now bytes is = record {
  bytes = [];
  grown = sym (append-nil bytes);
  taken = record { next = next-none held; now_is = same-given held now is ∙ sym (moved-none held) };
}

-- a take gave bytes
pub Gathers-given : (held now : Option Wire) (buf old new : List ℕ) (count : ℕ)
    → IfSome held (λ wire. GivesNext wire buf (takes.Bytes count)) → count ≤ length buf → now ≡ after_take count held
    → new ≡ old ++ take count buf → Gathers held now old new
Gathers-given held now buf old new count given within is grown = record {
  bytes = take count buf;
  grown = grown;
  taken = record {
    next = next-given held buf count given within;
    now_is = is ∙ moved-given held buf count given within;
  };
}

-- first these, and then those
pub Gathers-then : {held between now : Option Wire} {old more new : List ℕ} → Gathers held between old more
    → Gathers between now more new → Gathers held now old new
Gathers-then {held} {between} {now} {old} {more} {new} first then = record {
  bytes = first.bytes ++ then.bytes;
  grown = then.grown ∙ ap (λ (l : List ℕ). l ++ then.bytes) first.grown ∙ append_assoc old first.bytes then.bytes;
  taken = record {
    next = next-more first.bytes then.bytes [] held first.taken.next
        (subst (AreNext then.bytes) first.taken.now_is then.taken.next);
    now_is = then.taken.now_is ∙ ap (moved then.bytes []) first.taken.now_is
        ∙ moved-more first.bytes then.bytes [] held;
  };
}

-- a take puts nothing
pub put-taken : (count : ℕ) (held : Option Wire) → put_of (after_take count held) ≡ put_of held
put-taken count None = refl
put-taken count (Some w) = refl

-- no head ends before the first byte
pub no_end-none : (input : List ℕ) → HasNoEnd input 0
unfolding ends_head
no_end-none input = λ m below.
    let none : 0 ≡ m = omega (arith, below) in subst (λ (k : ℕ). ends_head (take k input) ≡ false) none refl

-- one byte more
pub no_end-more : (input : List ℕ) (n : ℕ) → HasNoEnd input n → ends_head (take (n + 1) input) ≡ false
    → HasNoEnd input (n + 1)
no_end-more input n none e = λ m below. elim (cases_lt n m) [
  | inl more ↦
      let last : n + 1 ≡ m = omega (arith, more, below) in
      subst (λ (k : ℕ). ends_head (take k input) ≡ false) last e
  | inr few ↦ none m few
]
