-- `fresh::fill_line` meets its contract. Assumes nothing.
use native.Mathlib.Omega.{arith}
use mathlib.Core.Path.{◌≡◌, refl}
use Prim.Native.Nat.{◌-◌, ◌*◌, ◌%◌, ◌^◌}
use borrow.Author.Rules.{rules}
use Rattle.bits.proofs.BitLaws.{shl_one}
use Rattle.queue_state.specs.Layout.{line_mask_place}
use Rattle.fresh.proofs.FillLaws.{Filled, filled}
use Rattle.fresh.proofs.LineMasks.{line_full}
use Rattle.fresh.proofs.fill_line.Goals as goal

pub returns : goal.returns
returns c =
    let n = c.args.size.n in
    let full : 1 * 2 ^ n % 65536 - 1 ≡ 2 ^ n - 1 = rw (shl_one n (omega (arith, c.args.size.fits.high))) refl in
    let digits : Filled c.args.st.now _ (line_mask_place c.args.line 1) (line_mask_place c.args.line (n - 1)) (1 * 2 ^ n % 65536 - 1) =
    filled _ c.fill.new.self _ _ _ (omega (arith, c.args.size.fits.low)) (omega (arith, c.requires.size, c.requires.line, c.args.size.fits.high)) (c.fill.ensures.after (search rules)) in
    line_full c.args.size.fits c.requires full digits
    (filled _ _ (line_mask_place c.args.line 8) (line_mask_place c.args.line 12) _ (omega arith) (omega (arith, digits.size, c.requires.size, c.requires.line))
    (c.fill-2.ensures.after (search rules)))
