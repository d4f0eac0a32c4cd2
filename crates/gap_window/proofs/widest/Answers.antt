use Rattle.std.proofs.Common.{◌∙◌, refl, sym, ap, take, reverse, arith}
use Rattle.std.proofs.lemmas.Iterator.Adapters.{YieldsList-from_rev_slice}
use Rattle.std.proofs.lemmas.Iterator.Consumers.{YieldsList-end}
use Rattle.std.proofs.lemmas.List.{length_push, reverse-reverse}
use Rattle.calls.specs.Window.{widest_of}
use Rattle.gap_window.proofs.Scanned.{widest_more, scanned_done}
use Rattle.gap_window.proofs.widest.Goals as goal

pub loop-newer-init : goal.loop-newer-init
unfolding widest_of
loop-newer-init c = record { young = omega arith; widest = refl }

pub loop-newer-preserved-then-less : goal.loop-newer-preserved-then-less
loop-newer-preserved-then-less c =
    let v = c.loop-newer.invariant in
    record {
      young = omega (arith, length_push c.loop-newer.yielded c.in-Some.newer);
      widest = sym (rw (sym c.less.ensures ∙ c.if-less.true) at (widest_more c.loop-newer.yielded c.in-Some.newer c.loop-newer.widest v.widest));
    }

pub loop-newer-preserved : goal.loop-newer-preserved
loop-newer-preserved c =
    let v = c.loop-newer.invariant in
    record {
      young = omega arith;
      widest = sym (rw (sym c.less.ensures ∙ c.if-less.false) at (widest_more c.loop-newer.yielded c.in-Some.newer c.loop-newer.widest v.widest));
    }

pub returns : goal.returns
returns c =
    let w = c.args.window in
    let all = YieldsList-from_rev_slice (take w.count w.gaps) (cc) in
    let t = YieldsList-end all c.loop-newer.yielded _ c.loop-newer.yielded_by _ _ c.in-None.is c.next.ensures.steps in
    c.loop-newer.invariant.widest ∙ ap widest_of (ap reverse t.0 ∙ reverse-reverse (take w.count w.gaps) ∙ scanned_done w c.requires (omega arith))
