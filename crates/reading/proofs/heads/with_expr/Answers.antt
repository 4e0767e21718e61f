use Rattle.std.proofs.Common.{◌≡◌, ℕ, List, ◌++◌, take, sym, subst, arith}
use Rattle.std.proofs.lemmas.Result.{err_from_is_err_and}
use Rattle.plans.specs.Flat.{draft_stmt}
use Rattle.text.specs.Token.{got}
use Rattle.reading.specs.Statements.{whole_expr}
use Rattle.reading.proofs.Steps.{step_took, end_took, with_words, with_bar}
use Rattle.reading.proofs.heads.with_expr.Goals as goal

pub returns-in_err-c : goal.returns-in_err-c
returns-in_err-c c =
    let q = err_from_is_err_and c.from_residual.result c.from_residual.ensures.1 in
    rw q.1 (record { forth = tt; read = λ f d s. with_bar c.args.out.now c.headed.new.out c.args.at.len f _ s c.requires.room c.headed.auto.out c.in_err-c.ensures.read })

pub returns : goal.returns
returns c =
    let f = c.in_ok-c.ensures.forth in
    let r = c.in_ok-c.ensures.read in
    record {
      forth = (omega arith, f.1, omega arith, f.3);
      read = λ g d s. record { item = g r.tree; took = step_took whole_expr (λ e n i us. got (g e) us) r.tree (g r.tree) r.took (end_took (g r.tree) _); words = subst (λ (l : List ℕ). take c.in_ok-c.c.len l ≡ take c.args.at.len c.args.out.now ++ draft_stmt (g r.tree)) (sym c.head.ensures) (with_words c.args.out.now c.headed.new.out c.args.at.len c.in_ok-c.c.len c.args.kind c.args.second c.units.result g r.tree (d r.tree) r.words f.2 f.3 c.headed.auto.out c.units.ensures) };
    }
