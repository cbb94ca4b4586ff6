-- `words::inner_places` meets its contract. Assumes nothing.
use borrow.Author.Rules.{Fits-under}
use Rattle.words.proofs.CodeLaws.{run_enough, line_positive, inner_fits, inner_code}
use Rattle.words.proofs.inner_places.Goals as goal

pub overflow_sub-run : goal.overflow_sub-run
overflow_sub-run c = run_enough _ _ _ c.args.size.fits c.requires.0 c.requires.1

pub nonzero_rem-result : goal.nonzero_rem-result
nonzero_rem-result c = line_positive _ _ _ c.args.size.fits c.requires.0 c.requires.1

pub overflow_add-result : goal.overflow_add-result
overflow_add-result c = Fits-under _ _ 512 (inner_fits _ _ _ c.args.size.fits c.requires.0 c.requires.1) tt

pub returns : goal.returns
returns c =
    let s = c.args.size.fits in
    record { are = inner_code _ _ _ s c.requires.0 c.requires.1; small = inner_fits _ _ _ s c.requires.0 c.requires.1 }
