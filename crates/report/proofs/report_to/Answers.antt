-- `report_to` meets its contract: the text, and behind it what was there. Assumes nothing.
use Prim.Native.Nat.{ℕ, ◌≤◌}
use mathlib.Core.Path.{sym, ap, ◌∙◌}
use mathlib.Core.List.{List, ◌++◌}
use native.Mathlib.Omega.{arith}
use lib.ListN.{length, drop}
use lib.Seq.{length-take-le}
use Rattle.report.proofs.report_to.Goals as goal

pub returns : goal.returns
returns c =
    let out = c.args.out.now in
    let r = c.copy_to.result in
    let fits : r ≤ length c.copy_to.new.out = omega (arith, c.copy_to.ensures.fits, c.copy_to.array_long) in
    record {
      long = c.copy_to.ensures.long ∙ ap length c.report.ensures;
      written = c.copy_to.ensures.written ∙ ap (λ (t : List ℕ). t ++ drop r out) c.report.ensures;
      fits = fits;
      first = sym (length-take-le r c.copy_to.new.out fits);
    }
