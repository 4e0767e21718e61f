use Rattle.std.proofs.Common.{rules, ◌≡◌, ◌≢◌, ℕ, ◌+◌, ◌-◌, length, take, drop, refl, sym, ◌∙◌, subst, arith}
use Rattle.tidy.specs.Tidies.{feeds}
use borrow.Author.Tests.{tests}
use Rattle.std.proofs.lemmas.Iterator.{IsFirst-from_position, YieldsList-from_slice}
use Rattle.tidy.proofs.Feeds.{end_found, Bare, feed_here, no_feed, bare_none, bare_more, behind_here}
use Rattle.tidy.proofs.place_of.Goals as goal
use Rattle.tidy.proofs.place_of.Goals.{then-text-i-eq10, else-text-i-eq10}

pub loop-i-preserved : goal.loop-i-preserved
loop-i-preserved c =
    let (_, _, _, behind, bare) = c.loop-i.invariant in
    elim c.if-text-i-eq10.branch [
      | then-text-i-eq10 w ↦ (let f = feed_here c.args.text.now c.loop-i.i (omega arith) w.if-text-i-eq10.true in (omega (arith, w.begin-is), omega (arith, w.line-is), omega (arith, w.line-is), λ k q. behind_here c.args.text.now c.loop-i.i w.if-text-i-eq10.true k (q ∙ w.begin-is), bare_none c.args.text.now c.if-text-i-eq10.begin (c.loop-i.i + 1) (omega (arith, w.begin-is))))
      | else-text-i-eq10 w ↦ (let f = no_feed c.args.text.now c.loop-i.i (omega arith) w.if-text-i-eq10.false in (omega (arith, w.begin-is), omega (arith, w.line-is), omega (arith, w.line-is), λ k q. behind k (q ∙ w.begin-is), subst (λ z. Bare c.args.text.now z (c.loop-i.i + 1)) (sym w.begin-is) (bare_more c.args.text.now c.loop-i.begin c.loop-i.i bare w.if-text-i-eq10.false)))
    ]

pub returns : goal.returns
returns c =
    let (inside, line, _, behind, bare) = c.loop-i.invariant in
    let found =
    IsFirst-from_position _ _ _ (λ b. b ≡ 10) (λ b. b ≢ 10) c.position-rest.ensures.ran
    (YieldsList-from_slice (take (length c.args.text.now - c.min-here.result) (drop c.min-here.result c.args.text.now)) cc) (λ x q k. search (rules, tests)) (λ x q k. search (rules, tests)) in
    let e = end_found c.args.text.now c.min-here.result c.position-rest.result c.unwrap_or.result (omega arith) found c.unwrap_or.ensures in
    let same : c.loop-i.i ≡ c.min-here.result = omega arith in
    rw (sym c.min-here.ensures) (record {
      line = subst (λ (k : ℕ). c.loop-i.line ≡ 1 + feeds (take k c.args.text.now)) same line;
      column = refl;
      begins = omega (arith, inside, same);
      behind = behind;
      from = λ k p q. bare k p (omega (arith, q, same));
      ends = e.ends;
      before = e.before;
      to = e.to;
    })
