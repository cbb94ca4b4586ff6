-- `target_sums::past_black` meets its contract: no black stands in front of cell j. Assumes nothing.
use mathlib.Core.Path.{◌≡◌, sym, ◌∙◌}
use native.Mathlib.Omega.{arith}
use borrow.Author.Rules.{rules}
use Rattle.target_sums.proofs.BetweenLaws.{inside_found, inside_skip, inside_end}
use Rattle.target_sums.proofs.past_black.Goals as goal

pub returns-then-byte : goal.returns-then-byte
returns-then-byte c =
    record { in_line = search rules; between = c.loop-j.invariant ∙ inside_found _ _ _ _ c.loop-j.j (search rules) (sym c.byte.ensures ∙ c.if-byte.true) }

pub loop-j-preserved : goal.loop-j-preserved
loop-j-preserved c = c.loop-j.invariant ∙ inside_skip _ _ _ _ c.loop-j.j (search rules) (λ e. c.if-byte.false (c.byte.ensures ∙ e))

pub returns : goal.returns
returns c =
    let e : c.loop-j.j ≡ c.args.line.len = omega arith in
    record { in_line = search rules; between = rw e at (c.loop-j.invariant ∙ inside_end _ _ _ _ c.loop-j.j (search rules)) }
