-- `backtrack::search` meets its contract. Assumes nothing.
use mathlib.Core.Path.{◌≡◌, sym, ◌∙◌}
use mathlib.Core.Bool.{Bool, true, ◌&&◌}
use mathlib.Core.List.{List}
use lib.Dec.{eqb}
use lib.ListN.{length}
use Prim.Native.Nat.{ℕ, ◌*◌}
use Rattle.tally.proofs.TallyLaws.{and_left}
use Rattle.backtrack.specs.Search.{SearchAsk}
use Rattle.backtrack.proofs.SearchLaws.{Turn, turn_start, turn_capped, turn_one, turn_ask, turn_searchable, turn_fewer, turn_less, turn_again}
use Rattle.backtrack.proofs.+search.Goals as goal

-- the cells have room if the next grid is the first that is wanted
first_fits : {n : ℕ} {l₀ l : List ℕ} {max found : ℕ} {wanted first : Bool} {cells₀ cells : List ℕ} → Turn n l₀ max wanted cells₀ l found cells →
    SearchAsk n l₀ wanted (length cells₀) → first ≡ (wanted && eqb found 0) → first ≡ true → length cells ≡ n * n
first_fits t s f e = t.room ∙ s.fits (and_left _ _ (sym f ∙ e))

pub loop-found-init : goal.loop-found-init
loop-found-init t c = turn_start c.args.max c.requires

pub returns : goal.returns
returns t c = turn_capped c.loop-found.invariant c.loop-found-test.false

pub returns-in-Settled : goal.returns-in-Settled
returns-in-Settled t c = turn_one c.loop-found.invariant c.loop-found-test.true c.in-Settled.ensures c.is_first-first.ensures c.settle.ensures

pub set_cell-requires : goal.set_cell-requires
set_cell-requires t c =
    turn_ask c.loop-found.invariant c.requires.fits c.loop-found-test.true c.in-Branch.ensures (search c.copy.ensures)

pub search-found-requires : goal.search-found-requires
search-found-requires t c =
    let u = c.loop-found.invariant in
    let f = c.requires.fits in
    let h = c.loop-found-test.true in
    let a = c.in-Branch.ensures in
    let e = c.copy.ensures in
    (rw (← c.decreases) (search (turn_fewer, u, f, h, a, e)), search (turn_searchable, u, f, h, a, e))

pub loop-found-smaller : goal.loop-found-smaller
loop-found-smaller t c =
    let u = c.loop-found.invariant in
    let f = c.requires.fits in
    let h = c.loop-found-test.true in
    let a = c.in-Branch.ensures in
    let e = c.copy.ensures in
    let d = c.set_cell.ensures in
    let i = c.is_first-first.ensures in
    let r = c.search-found.ensures in
    let g = rw c.cell.ensures at c.clear_value.ensures in
    turn_less u f h a e d i r c.search-found.auto.cells g

pub loop-found-preserved : goal.loop-found-preserved
loop-found-preserved t c =
    let u = c.loop-found.invariant in
    let f = c.requires.fits in
    let h = c.loop-found-test.true in
    let a = c.in-Branch.ensures in
    let e = c.copy.ensures in
    let d = c.set_cell.ensures in
    let i = c.is_first-first.ensures in
    let r = c.search-found.ensures in
    let g = rw c.cell.ensures at c.clear_value.ensures in
    turn_again u f h a e d i r c.search-found.auto.cells g
