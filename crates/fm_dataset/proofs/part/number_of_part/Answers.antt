use Rattle.std.proofs.Common.{◌-◌, length, ap, sym, arith}
use Rattle.fm_dataset.proofs.PartLemmas.{dim_there, found_dim, no_decl, no_dim}
use Rattle.fm_dataset.proofs.part.number_of_part.Goals as goal

pub bounds-coordinates-id : goal.bounds-coordinates-id
bounds-coordinates-id c =
    let var = rw c.as_slice-vars.ensures at c.in-Some.ensures in
    let id = rw c.array_dims.ensures at c.in-Some-dim_of.ensures in
    let below = dim_there c.args.decl (c.args.part - 1) c.requires.sound var (sym id) in
    rw c.requires.coordinates.count below

pub returns-in-None : goal.returns-in-None
returns-in-None c =
    let none = rw c.as_slice-vars.ensures at c.in-None.ensures in
    no_decl _ _ _ _ none c.if-part-eq0.false (omega (arith, ap length c.as_slice-vars.ensures))

pub returns-in-None-dim_of : goal.returns-in-None-dim_of
returns-in-None-dim_of c =
    let var = rw c.as_slice-vars.ensures at c.in-Some.ensures in
    let none = rw c.array_dims.ensures at c.in-None-dim_of.ensures in
    no_dim _ _ _ _ var c.if-part-eq0.false (sym none) (omega (arith, ap length c.as_slice-vars.ensures))

pub returns-in-Some-dim_of : goal.returns-in-Some-dim_of
returns-in-Some-dim_of c =
    let var = rw c.as_slice-vars.ensures at c.in-Some.ensures in
    let id = rw c.array_dims.ensures at c.in-Some-dim_of.ensures in
    let below = dim_there c.args.decl (c.args.part - 1) c.requires.sound var (sym id) in
    found_dim _ _ _ _ var c.if-part-eq0.false (sym id) (c.requires.coordinates.each _ below)
