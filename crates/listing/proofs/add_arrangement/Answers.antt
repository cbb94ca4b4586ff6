-- `listing::add_arrangement` meets its contract. Assumes nothing.
use Rattle.listing.proofs.AddLaws.{add_shaped, add_ask, add_done}
use Rattle.listing.proofs.add_arrangement.Goals as goal

pub invariant_of-add_support : goal.invariant_of-add_support
invariant_of-add_support c =
    let a = c.requires in
    record { fits = c.args.arranged.fits; shaped = rw (c.word-word.ensures a.1) (add_shaped c.args.arranged.fits _ a.0 a.1 _ c.from-k.ensures) }

pub add_support-requires : goal.add_support-requires
add_support-requires c = let a = c.requires in rw (c.word-word.ensures a.1) (add_ask c.args.arranged.fits _ a.0 a.1 _ c.from-k.ensures)

pub returns : goal.returns
returns c =
    let a = c.requires in
    add_done c.args.arranged.fits _ a.0 a.1 _ c.from-k.ensures (rw (c.word-word.ensures a.1) at c.add_support.ensures)
