-- The last desk is named, and the one before it gets its name.
use Rattle.std.proofs.Common.{◌∙◌, ◌-◌, ◌≡◌, ℕ, ap, arith, drop, length, refl, subst}
use Rattle.srv_workers.proofs.BlankLemmas.{protos-from}
use Rattle.srv_workers.proofs.several.run_before.Goals as goal

-- two desks
pub run_with-requires-clause-blanks : goal.run_with-requires-clause-blanks
run_with-requires-clause-blanks g c _ _ = c.requires.blanks

pub run_with-requires-clause-first : goal.run_with-requires-clause-first
run_with-requires-clause-first g c _ _ =
    record { book_is = refl; ledger_is = refl; proto_is = refl; parts_are = refl }

pub run_with-requires-clause-others : goal.run_with-requires-clause-others
run_with-requires-clause-others g c _ _ =
    let last : length c.args.protos.now - 1 ≡ 1 = omega (arith, c.requires.few.0, c.requires.few.1) in
    let doors = length c.args.devices.now.doors in
    subst (λ (n : ℕ). g.X.Behind.are_blank doors c.args.clocks (drop n c.args.blanks)) last c.requires.last

pub run_with-requires-clause-protos : goal.run_with-requires-clause-protos
run_with-requires-clause-protos g c _ _ =
    let last : 1 ≡ length c.args.protos.now - 1 = omega (arith, c.requires.few.0, c.requires.few.1) in
    protos-from (length c.args.devices.now.doors) c.args.clocks 0 c.args.protos.now c.args.blanks _ _
    c.requires.blanks (omega (arith, c.requires.few.0, c.requires.few.1)) refl
    (ap (λ (n : ℕ). drop n c.args.protos.now) last ∙ c.requires.protos)

pub run_with-requires-clause-few : goal.run_with-requires-clause-few
run_with-requires-clause-few g c _ _ = (omega (arith, c.requires.few.0), omega (arith, c.requires.few.1))

pub run_with-requires-clause-devices : goal.run_with-requires-clause-devices
run_with-requires-clause-devices g c _ _ = c.requires.devices

-- three desks
pub run_with_one-requires-clause-blanks : goal.run_with_one-requires-clause-blanks
run_with_one-requires-clause-blanks g c _ _ = c.requires.blanks

pub run_with_one-requires-clause-first : goal.run_with_one-requires-clause-first
run_with_one-requires-clause-first g c _ _ =
    record { book_is = refl; ledger_is = refl; proto_is = refl; parts_are = refl }

pub run_with_one-requires-clause-others : goal.run_with_one-requires-clause-others
run_with_one-requires-clause-others g c _ _ =
    let last : length c.args.protos.now - 1 ≡ 2 = omega (arith, c.requires.few.0, c.requires.few.1) in
    let doors = length c.args.devices.now.doors in
    subst (λ (n : ℕ). g.X.Behind.are_blank doors c.args.clocks (drop n c.args.blanks)) last c.requires.last

pub run_with_one-requires-clause-protos : goal.run_with_one-requires-clause-protos
run_with_one-requires-clause-protos g c _ _ =
    let last : 2 ≡ length c.args.protos.now - 1 = omega (arith, c.requires.few.0, c.requires.few.1) in
    protos-from (length c.args.devices.now.doors) c.args.clocks 1 c.args.protos.now c.args.blanks _ _
    c.requires.blanks (omega (arith, c.requires.few.0, c.requires.few.1)) refl
    (ap (λ (n : ℕ). drop n c.args.protos.now) last ∙ c.requires.protos)

pub run_with_one-requires-clause-few : goal.run_with_one-requires-clause-few
run_with_one-requires-clause-few g c _ _ = (omega (arith, c.requires.few.0), omega (arith, c.requires.few.1))

pub run_with_one-requires-clause-devices : goal.run_with_one-requires-clause-devices
run_with_one-requires-clause-devices g c _ _ = c.requires.devices

-- four desks
pub run_with_two-requires-clause-blanks : goal.run_with_two-requires-clause-blanks
run_with_two-requires-clause-blanks g c _ _ = c.requires.blanks

pub run_with_two-requires-clause-first : goal.run_with_two-requires-clause-first
run_with_two-requires-clause-first g c _ _ =
    record { book_is = refl; ledger_is = refl; proto_is = refl; parts_are = refl }

pub run_with_two-requires-clause-others : goal.run_with_two-requires-clause-others
run_with_two-requires-clause-others g c _ _ =
    let last : length c.args.protos.now - 1 ≡ 3 = omega (arith, c.requires.few.0, c.requires.few.1) in
    let doors = length c.args.devices.now.doors in
    subst (λ (n : ℕ). g.X.Behind.are_blank doors c.args.clocks (drop n c.args.blanks)) last c.requires.last

pub run_with_two-requires-clause-protos : goal.run_with_two-requires-clause-protos
run_with_two-requires-clause-protos g c _ _ =
    let last : 3 ≡ length c.args.protos.now - 1 = omega (arith, c.requires.few.0, c.requires.few.1) in
    protos-from (length c.args.devices.now.doors) c.args.clocks 2 c.args.protos.now c.args.blanks _ _
    c.requires.blanks (omega (arith, c.requires.few.0, c.requires.few.1)) refl
    (ap (λ (n : ℕ). drop n c.args.protos.now) last ∙ c.requires.protos)

pub run_with_two-requires-clause-few : goal.run_with_two-requires-clause-few
run_with_two-requires-clause-few g c _ _ = (omega (arith, c.requires.few.0), omega (arith, c.requires.few.1))

pub run_with_two-requires-clause-devices : goal.run_with_two-requires-clause-devices
run_with_two-requires-clause-devices g c _ _ = c.requires.devices
