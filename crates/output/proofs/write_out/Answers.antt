use Rattle.std.proofs.Common.{◌-◌, ◌++◌, length, take, drop, sym, ap, subst, ◌∙◌, arith, length-take, take-append-drop}
use lib.Seq.{take-add, take-take}
use Rattle.std.specs.Io.KnownBytes.{Appends}
use Rattle.std.proofs.KnownBytes.{Appends-trans, Appends-kept}
use Rattle.output.proofs.ErrLaws.{on_err}
use Rattle.output.proofs.write_out.Goals as goal

pub returns-in_err-done-clause-cut : goal.returns-in_err-done-clause-cut
returns-in_err-done-clause-cut g c =
    let done = c.loop.done in
    let xs = c.args.bytes.now in
    on_err c.from_residual.result (record {
      text = take done xs;
      cut = drop done xs;
      whole = sym (take-append-drop done xs);
      writes = Appends-kept _ _ _ _ c.loop.invariant.1 c.in_err-done.ensures.bytes;
    })

pub loop-preserved : goal.loop-preserved
loop-preserved g c =
    let done = c.loop.done in
    let n = c.in_ok-done.field-0 in
    let xs = c.args.bytes.now in
    let before = c.loop.invariant in
    let fits = c.in_ok-done.ensures.within in
    let most = length-take (length xs - done) (drop done xs) in
    let joined = ap (λ l. take done xs ++ l) (take-take n (length xs - done) (drop done xs) (omega arith)) ∙ sym (take-add done n xs) in
    (omega arith, subst (Appends _ _) joined (Appends-trans _ _ _ _ _ before.1 c.in_ok-done.ensures.bytes))

pub returns-clause-cut : goal.returns-clause-cut
returns-clause-cut g c =
    let done = c.loop.done in
    let xs = c.args.bytes.now in
    record { text = take done xs; cut = drop done xs; whole = sym (take-append-drop done xs); writes = c.loop.invariant.1 }
