-- Times of which each is later than the one before it rise.
use Rattle.std.proofs.Common.{◌≡◌, true, List, [], ◌∷◌, ℤ, ◌<ℤ◌, arith}
use Rattle.std.specs.Prelude.{int_lt}
use Rattle.std.proofs.lemmas.Bool.{and_parts}
use Rattle.std.proofs.lemmas.Int.{ints}
use Rattle.fm_model.specs.Rising.{Rises}
use Rattle.fm_model.proofs.Members.{Each, Each-weaker, EachPair, AllPairs-from_each}
use Rattle.fm_model.proofs.RisingLemmas.{Above}
use Rattle.fm_list.specs.Times.{rise_from}

lt_from : (a b : ℤ) → int_lt a b ≡ true → a <ℤ b
lt_from a b is = grind (arith, ints)

through : (a b c : ℤ) → a <ℤ b → b <ℤ c → a <ℤ c
through a b c ab bc = omega (arith, ints)

later : (last : ℤ) (times : List ℤ) → rise_from last times ≡ true → Each (Above last) times
later last [] rise = tt
later last (time ∷ times) rise =
    let both = and_parts (int_lt last time) (rise_from time times) rise in
    let first = lt_from last time both.0 in (
      first,
      Each-weaker (Above time) (Above last) (λ t lt. through last time t first lt) times
          (later time times both.1),
    )

each_pair : (last : ℤ) (times : List ℤ) → rise_from last times ≡ true → EachPair Above times
each_pair last [] rise = tt
each_pair last (time ∷ times) rise =
    let rest = (and_parts (int_lt last time) (rise_from time times) rise).1 in
    (later time times rest, each_pair time times rest)

pub rise-rises : (last : ℤ) (times : List ℤ) → rise_from last times ≡ true → Rises times
rise-rises last times rise = AllPairs-from_each Above times (each_pair last times rise)
