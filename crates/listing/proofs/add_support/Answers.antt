-- `listing::add_support` meets its contract. Assumes nothing.
use mathlib.Core.Path.{refl}
use native.Mathlib.Omega.{arith}
use Rattle.arcs.proofs.KillLaws.{black_high}
use Rattle.listing.proofs.RaiseLaws.{word_first, word_second, word_inner, word_raised}
use Rattle.listing.proofs.add_support.Goals as goal

pub raise_support-requires : goal.raise_support-requires
raise_support-requires c = word_first c.args.a c.requires _ _ c.first_of.ensures refl

pub overflow_add-a : goal.overflow_add-a
overflow_add-a c = omega (arith, c.args.a.lane.black, black_high c.args.a.lane.number)

pub raise_support-requires-2 : goal.raise_support-requires-2
raise_support-requires-2 c =
    word_second c.args.a c.requires _ _ c.first_of.ensures c.second_of.ensures c.raise_support.ensures

pub add_inner-requires : goal.add_inner-requires
add_inner-requires c =
    word_inner c.args.a c.requires _ _ c.first_of.ensures c.second_of.ensures c.raise_support.ensures c.raise_support-2.ensures

pub returns : goal.returns
returns c =
    let w = c.requires in
    let e = c.add_inner.ensures in
    word_raised c.args.a w _ _ c.first_of.ensures c.second_of.ensures c.raise_support.ensures c.raise_support-2.ensures e
