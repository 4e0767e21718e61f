use Rattle.std.proofs.Common.{◌≡◌, [], length, ap, ◌∙◌, arith}
use Rattle.std.proofs.lemmas.List.{length-map}
use Rattle.lines.specs.Walks.{lasts_in, counts_in, pushed_in, settle, settling, lost_sees}
use Rattle.lines.proofs.Settles.{settle_counts_length}
use Rattle.lines.proofs.Caches.{same_len, fail_fails}
use Rattle.lines.proofs.cached.Cached.fail.Goals as goal

pub invariant_of-self : goal.invariant_of-self
invariant_of-self c =
    let s = c.args.self.now in
    let p = c.choose_pushed.new.lines in
    let t = c.settle_all.new in
    let u = c.lose_all.new in
    let words = same_len (λ w. w.sees) t.words s.words (ap length c.settle_all.ensures.sees) in
    let words' = same_len (λ w. w.lasts) u.words t.words (ap length c.lose_all.ensures.lasts) in
    let lines = same_len (λ x. x.count) p s.lines (ap length c.choose_pushed.ensures.counts) in
    let lines' = same_len (λ x. x.count) t.lines p (ap (λ z. length z.counts) c.settle_all.ensures.walk ∙ settle_counts_length s.journal.items _) in
    let lines'' = same_len (λ x. x.pushed) u.lines t.lines (ap length c.lose_all.ensures.pushed) in
    record { eight = omega (arith, s.eight, words, words', lines, lines', lines'') }

pub returns-clause-left : goal.returns-clause-left
returns-clause-left c =
    let s = c.args.self.now in
    let p = c.choose_pushed.new.lines in
    let t = c.settle_all.new in
    let counts = c.choose_pushed.ensures.counts in
    let lines = same_len (λ x. x.count) p s.lines (ap length counts) in
    let long : length (pushed_in p.items) ≡ length (pushed_in s.lines.items) =
    omega (arith, lines, p.ok.0, s.lines.ok.0, length-map p.items (λ x. x.pushed), length-map s.lines.items (λ x. x.pushed)) in
    let walk = c.settle_all.ensures.walk ∙ ap (λ cs. settle s.journal.items (settling (lasts_in s.words.items) cs (pushed_in p.items) [])) counts in
    let sees = c.lose_all.ensures.sees ∙ ap (lost_sees t.journal.items (lasts_in t.words.items)) c.settle_all.ensures.sees in
    (fail_fails s _ (pushed_in p.items) (lasts_in t.words.items) (counts_in t.lines.items) (pushed_in t.lines.items) t.journal.items long c.choose_pushed.ensures.within
    walk c.lose_all.ensures.lasts sees c.lose_all.ensures.journal c.lose_all.ensures.counts c.lose_all.ensures.pushed).0
