use Rattle.std.proofs.Common.{◌≡◌, ℕ, ◌+◌, List, ◌++◌, take, drop, set, sym, ap, ◌∙◌, add-zero, arith, take-append-drop}
use Rattle.std.proofs.lemmas.List.{take_all}
use Rattle.plans.specs.Flat.{padded}
use Rattle.plans.proofs.Drafts.{padded_length}
use Rattle.reading.proofs.Tasked.{name_turn}
use Rattle.reading.proofs.tasks.write_name.Goals as goal

pub loop-i-init : goal.loop-i-init
loop-i-init c = sym (ap (λ (k : ℕ). take c.args.at c.args.out.now ++ drop k c.args.out.now) (add-zero c.args.at) ∙ take-append-drop c.args.at c.args.out.now)

pub loop-i-preserved : goal.loop-i-preserved
loop-i-preserved c =
    let p = padded_length c.args.name.now in
    ap (λ (l : List ℕ). set l (c.args.at + c.loop-i.i) c.letter.result) c.loop-i.invariant ∙ name_turn c.args.out.now (padded c.args.name.now) c.args.at c.loop-i.i c.letter.result (omega arith) (omega arith) c.letter.ensures

pub returns : goal.returns
returns c =
    let p = padded_length c.args.name.now in
    let e : c.loop-i.i ≡ 64 = omega arith in
    c.loop-i.invariant ∙ (ap (λ (k : ℕ). take c.args.at c.args.out.now ++ (take k (padded c.args.name.now) ++ drop (c.args.at + k) c.args.out.now)) e ∙ ap (λ (l : List ℕ). take c.args.at c.args.out.now ++ (l ++ drop (c.args.at + 64) c.args.out.now)) (take_all 64 (padded c.args.name.now) (omega arith)))
