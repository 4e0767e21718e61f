use Rattle.std.proofs.Common.{refl, arith}
use Rattle.std.proofs.lemmas.Result.{err_from_is_err_and}
use Rattle.plans.specs.Flat.{way_of, way_word}
use Rattle.plans.proofs.Drafts.{lay_stmt_length}
use Rattle.plans.proofs.Simple.{simple_good, simple_linked, written_short, size_at_least}
use Rattle.plans.proofs.link.Draft.link_simple.Goals as goal

pub returns-then-kind-gt-FAIL : goal.returns-then-kind-gt-FAIL
returns-then-kind-gt-FAIL g c = λ s rest h d. let x = simple_good c.args.self.now.words.now c.args.at s rest c.args.self.now.small d in omega (arith, c.then-kind-gt-FAIL.either)

pub returns-in_err-put_all : goal.returns-in_err-put_all
returns-in_err-put_all g c = λ s rest h d.
    let p = err_from_is_err_and c.from_residual.result c.from_residual.ensures.1 in
    let l = lay_stmt_length s c.args.at c.args.go.next (way_of c.args.go.way) c.args.go.under c.args.deep in
    let m = size_at_least s in
    rw (p.1, p.2) (written_short g.S.Sheet.wrote _ _ _ _ _ _ _ (omega arith) c.in_err-put_all.ensures)

pub returns : goal.returns
returns g c = λ s rest h d.
    simple_linked g.S.Sheet.wrote g.S.Sheet.room c.args.self.now.words.now c.args.at s (way_of c.args.go.way) rest c.args.go.next (way_word (way_of c.args.go.way)) c.args.go.under c.args.deep c.next_word.result c.last_word.result _ _ _ c.copy.result
    h d refl c.next_word.ensures c.last_word.ensures c.in_ok-put_all.ensures c.copy.ensures
