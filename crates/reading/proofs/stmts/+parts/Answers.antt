use Rattle.std.proofs.Common.{rules, ◌≡◌, ℕ, ◌+◌, ◌-◌, List, ◌++◌, length, take, drop, sym, refl, ◌∙◌, subst, le_refl, arith, length-take-le}
use Rattle.std.proofs.lemmas.Result.{err_from_is_err_and}
use Rattle.plans.specs.Plan.{Sleep, Return, If, While, Guard, expr_size, size_of}
use Rattle.plans.specs.Flat.{code_of, draft_stmt, draft_of}
use Rattle.plans.proofs.Drafts.{code_length, draft_length}
use Rattle.text.specs.Token.{SET, SLEEP, IF, WHILE, GUARD, RETURN, FAIL, BEGIN, ELSE}
use Rattle.text.specs.Ahead.{ahead}
use Rattle.reading.specs.Tokens.{one_key}
use Rattle.reading.specs.Statements.{expr_then, set_at, closed_at, opened_at, if_at, while_at, guard_at}
use Rattle.reading.proofs.Taking.{stop_end}
use Rattle.reading.proofs.Steps.{step_refused, onwards_more}
use Rattle.reading.specs.declared.stmts.Beginning.TheVariants as begin
use Rattle.reading.proofs.Stated.{opened_bar, opened_open, opened_took, other_read, if_bar_condition, if_bar_first, if_bar_other, while_bar_condition, while_bar_body, guard_bar_first, guard_bar_other, if_took, while_took, guard_took, if_words, while_words, guard_words, no_room_part, long, by_key_lem, by_variable, no_statement, begins_is, at_token, set_is, sleep_is, if_is, while_is, guard_is, return_is, fail_is, part_end, going, part_bar_first, sleep_draft, sleep_size, return_draft, return_size, fail_at, failure_onwards, failure_read, end_read, part_read, not_stop}
use Rattle.reading.proofs.stmts.+parts.Goals as goal

pub opened-returns-in_err-first : goal.opened-returns-in_err-first
opened-returns-in_err-first ring c =
    let q = err_from_is_err_and c.from_residual.result c.from_residual.ensures.1 in
    rw q.1 (record { forth = tt; read = step_refused (one_key BEGIN) (λ z. closed_at) _ c.in_err-first.ensures })

pub opened-returns-in_err-c : goal.opened-returns-in_err-c
opened-returns-in_err-c ring c =
    let q = err_from_is_err_and c.from_residual-in_err-c.result c.from_residual-in_err-c.ensures.1 in
    rw q.1 (record { forth = tt; read = opened_bar _ c.in_ok-first.ensures.0 c.in_err-c.ensures.read })

pub opened-returns-in_err-pos : goal.opened-returns-in_err-pos
opened-returns-in_err-pos ring c =
    let q = err_from_is_err_and c.from_residual-in_err-pos.result c.from_residual-in_err-pos.ensures.1 in
    rw q.1 (record { forth = tt; read = opened_open c.in_ok-c.ensures.read.item _ c.in_ok-first.ensures.0 c.in_ok-c.ensures.read.took c.in_err-pos.ensures })

pub opened-returns : goal.opened-returns
opened-returns ring c =
    let f = c.in_ok-c.ensures.forth in
    let r = c.in_ok-c.ensures.read in
    let a = c.in_ok-first.ensures in
    let k = c.in_ok-pos.ensures in
    record {
      forth = (omega (arith, a.1, k.1, f.0), k.1.1, f.2, f.3);
      read = record { item = r.item; took = opened_took r.item a.0 r.took k.0; words = r.words };
    }

pub other-returns-in_err-pos : goal.other-returns-in_err-pos
other-returns-in_err-pos ring c =
    let q = err_from_is_err_and c.from_residual.result c.from_residual.ensures.1 in
    rw q.1 (record { forth = tt; read = step_refused (one_key ELSE) (λ z. opened_at) _ c.in_err-pos.ensures })

pub other-returns : goal.other-returns
other-returns ring c =
    let a = c.in_ok-pos.ensures in
    record {
      forth = onwards_more c.opened.result _ _ c.args.at.pos c.args.at.len _ _ (omega (arith, a.1)) (le_refl _) c.opened.ensures.forth;
      read = other_read c.opened.result _ _ c.args.text.now (take c.args.at.len c.args.out.now) c.opened.new.out a.0 c.opened.ensures.read;
    }

pub fork-returns-in_err-c : goal.fork-returns-in_err-c
fork-returns-in_err-c ring c =
    let q = err_from_is_err_and c.from_residual.result c.from_residual.ensures.1 in
    rw q.1 (record { forth = tt; read = if_bar_condition c.args.out.now c.args.at.len (length c.headed.new.out) _ c.requires.room c.in_err-c.ensures.read })

pub turning-returns-in_err-c : goal.turning-returns-in_err-c
turning-returns-in_err-c ring c =
    let q = err_from_is_err_and c.from_residual.result c.from_residual.ensures.1 in
    rw q.1 (record { forth = tt; read = while_bar_condition c.args.out.now c.args.at.len (length c.headed.new.out) _ c.requires.room c.in_err-c.ensures.read })

pub fork-returns-in_err-first : goal.fork-returns-in_err-first
fork-returns-in_err-first ring c =
    let q = err_from_is_err_and c.from_residual-in_err-first.result c.from_residual-in_err-first.ensures.1 in
    let f = c.in_ok-c.ensures.forth in
    let r = c.in_ok-c.ensures.read in
    let t0 = length-take-le (c.args.at.len + 4) c.args.out.now (omega (arith, f.2, f.3)) in
    let k1 = long code_of expr_size code_length c.headed.new.out (take (c.args.at.len + 4) c.args.out.now) r.tree c.in_ok-c.c.len r.words (omega (arith, f.3, c.headed.auto.out)) in
    let t1 = length-take-le c.in_ok-c.c.len c.headed.new.out (omega (arith, f.3, c.headed.auto.out)) in
    rw q.1 (record { forth = tt; read = if_bar_first c.args.out.now c.args.at.len (length c.opened.new.out) _ c.requires.room r.tree (length (take c.in_ok-c.c.len c.headed.new.out)) (omega arith) r.took c.in_err-first.ensures.read })

pub turning-returns-in_err-last : goal.turning-returns-in_err-last
turning-returns-in_err-last ring c =
    let q = err_from_is_err_and c.from_residual-in_err-last.result c.from_residual-in_err-last.ensures.1 in
    let f = c.in_ok-c.ensures.forth in
    let r = c.in_ok-c.ensures.read in
    let t0 = length-take-le (c.args.at.len + 4) c.args.out.now (omega (arith, f.2, f.3)) in
    let k1 = long code_of expr_size code_length c.headed.new.out (take (c.args.at.len + 4) c.args.out.now) r.tree c.in_ok-c.c.len r.words (omega (arith, f.3, c.headed.auto.out)) in
    let t1 = length-take-le c.in_ok-c.c.len c.headed.new.out (omega (arith, f.3, c.headed.auto.out)) in
    rw q.1 (record { forth = tt; read = while_bar_body c.args.out.now c.args.at.len (length c.opened.new.out) _ c.requires.room r.tree (length (take c.in_ok-c.c.len c.headed.new.out)) (omega arith) r.took c.in_err-last.ensures.read })

pub fork-returns-in_err-last : goal.fork-returns-in_err-last
fork-returns-in_err-last ring c =
    let q = err_from_is_err_and c.from_residual-in_err-last.result c.from_residual-in_err-last.ensures.1 in
    let f = c.in_ok-c.ensures.forth in
    let r = c.in_ok-c.ensures.read in
    let t0 = length-take-le (c.args.at.len + 4) c.args.out.now (omega (arith, f.2, f.3)) in
    let k1 = long code_of expr_size code_length c.headed.new.out (take (c.args.at.len + 4) c.args.out.now) r.tree c.in_ok-c.c.len r.words (omega (arith, f.3, c.headed.auto.out)) in
    let t1 = length-take-le c.in_ok-c.c.len c.headed.new.out (omega (arith, f.3, c.headed.auto.out)) in
    let fa = c.in_ok-first.ensures.forth in
    let ra = c.in_ok-first.ensures.read in
    let k2 = long draft_of size_of draft_length c.opened.new.out (take c.in_ok-c.c.len c.headed.new.out) ra.item c.in_ok-first.first.len ra.words (omega (arith, fa.3, c.opened.auto.out)) in
    let t2 = length-take-le c.in_ok-first.first.len c.opened.new.out (omega (arith, fa.3, c.opened.auto.out)) in
    rw q.1 (record { forth = tt; read = if_bar_other c.args.out.now c.args.at.len (length c.other.new.out) _ c.requires.room r.tree ra.item (length (take c.in_ok-first.first.len c.opened.new.out)) (omega arith) r.took ra.took c.in_err-last.ensures.read })

pub fork-returns : goal.fork-returns
fork-returns ring c =
    let f = c.in_ok-c.ensures.forth in
    let r = c.in_ok-c.ensures.read in
    let fa = c.in_ok-first.ensures.forth in
    let ra = c.in_ok-first.ensures.read in
    let fb = c.in_ok-last.ensures.forth in
    let rb = c.in_ok-last.ensures.read in
    let s1 : length c.headed.new.out ≡ length c.args.out.now = c.headed.auto.out in
    let s2 : length c.opened.new.out ≡ length c.args.out.now = c.opened.auto.out ∙ s1 in
    let s3 : length c.other.new.out ≡ length c.args.out.now = c.other.auto.out ∙ s2 in
    record {
      forth = (omega arith, fb.1, omega arith, omega (arith, fb.3));
      read = record {
        item = If r.tree ra.item rb.item;
        took = if_took r.tree ra.item rb.item r.took ra.took rb.took;
        words = subst (λ (y : List ℕ). take c.in_ok-last.last.len y ≡ take c.args.at.len c.args.out.now ++ draft_stmt (If r.tree ra.item rb.item)) (sym c.head.ensures)
            (if_words c.args.out.now c.headed.new.out c.opened.new.out c.other.new.out c.args.at.len c.in_ok-c.c.len c.in_ok-first.first.len c.in_ok-last.last.len _ _ _ r.tree ra.item rb.item r.words ra.words rb.words (omega arith) (omega arith) (omega arith) (omega (arith, fb.3)) s1 s2 s3 c.units.ensures c.units-2.ensures c.units-3.ensures);
      };
    }

pub turning-returns : goal.turning-returns
turning-returns ring c =
    let f = c.in_ok-c.ensures.forth in
    let r = c.in_ok-c.ensures.read in
    let fa = c.in_ok-last.ensures.forth in
    let ra = c.in_ok-last.ensures.read in
    let s1 : length c.headed.new.out ≡ length c.args.out.now = c.headed.auto.out in
    let s2 : length c.opened.new.out ≡ length c.args.out.now = c.opened.auto.out ∙ s1 in
    record {
      forth = (omega arith, fa.1, omega arith, omega (arith, fa.3));
      read = record {
        item = While r.tree ra.item;
        took = while_took r.tree ra.item r.took ra.took;
        words = subst (λ (y : List ℕ). take c.in_ok-last.last.len y ≡ take c.args.at.len c.args.out.now ++ draft_stmt (While r.tree ra.item)) (sym c.head.ensures)
            (while_words c.args.out.now c.headed.new.out c.opened.new.out c.args.at.len c.in_ok-c.c.len c.in_ok-last.last.len _ _ r.tree ra.item r.words ra.words (omega arith) (omega arith) (omega (arith, fa.3)) s1 s2 c.units.ensures c.units-2.ensures);
      };
    }

pub guarded-returns-in_err-room : goal.guarded-returns-in_err-room
guarded-returns-in_err-room ring c =
    let q = err_from_is_err_and c.from_residual.result c.from_residual.ensures.1 in
    rw q.1 (record { forth = tt; read = guard_bar_first c.args.out.now c.args.at.len (length c.args.out.now) _ c.requires.room (c.args.at.len + 4) refl (no_room_part opened_at _ _ _ (omega (arith, c.in_err-room.ensures))) })

pub guarded-returns-in_err-first : goal.guarded-returns-in_err-first
guarded-returns-in_err-first ring c =
    let q = err_from_is_err_and c.from_residual-in_err-first.result c.from_residual-in_err-first.ensures.1 in
    let t0 = length-take-le (c.args.at.len + 4) c.args.out.now (omega arith) in
    rw q.1 (record { forth = tt; read = guard_bar_first c.args.out.now c.args.at.len (length c.opened.new.out) _ c.requires.room (length (take (c.args.at.len + 4) c.args.out.now)) t0 c.in_err-first.ensures.read })

pub guarded-returns-in_err-last : goal.guarded-returns-in_err-last
guarded-returns-in_err-last ring c =
    let q = err_from_is_err_and c.from_residual-in_err-last.result c.from_residual-in_err-last.ensures.1 in
    let fa = c.in_ok-first.ensures.forth in
    let ra = c.in_ok-first.ensures.read in
    let t0 = length-take-le (c.args.at.len + 4) c.args.out.now (omega arith) in
    let k2 = long draft_of size_of draft_length c.opened.new.out (take (c.args.at.len + 4) c.args.out.now) ra.item c.in_ok-first.first.len ra.words (omega (arith, fa.3, c.opened.auto.out)) in
    let t2 = length-take-le c.in_ok-first.first.len c.opened.new.out (omega (arith, fa.3, c.opened.auto.out)) in
    rw q.1 (record { forth = tt; read = guard_bar_other c.args.out.now c.args.at.len (length c.other.new.out) _ c.requires.room ra.item (length (take c.in_ok-first.first.len c.opened.new.out)) (omega arith) ra.took c.in_err-last.ensures.read })

pub guarded-returns : goal.guarded-returns
guarded-returns ring c =
    let fa = c.in_ok-first.ensures.forth in
    let ra = c.in_ok-first.ensures.read in
    let fb = c.in_ok-last.ensures.forth in
    let rb = c.in_ok-last.ensures.read in
    let s2 : length c.opened.new.out ≡ length c.args.out.now = c.opened.auto.out in
    let s3 : length c.other.new.out ≡ length c.args.out.now = c.other.auto.out ∙ s2 in
    record {
      forth = (omega arith, fb.1, omega arith, omega (arith, fb.3));
      read = record {
        item = Guard ra.item rb.item;
        took = guard_took ra.item rb.item ra.took rb.took;
        words = subst (λ (y : List ℕ). take c.in_ok-last.last.len y ≡ take c.args.at.len c.args.out.now ++ draft_stmt (Guard ra.item rb.item)) (sym c.head.ensures)
            (guard_words c.args.out.now c.opened.new.out c.other.new.out c.args.at.len c.in_ok-first.first.len c.in_ok-last.last.len _ _ ra.item rb.item ra.words rb.words (omega arith) (omega arith) (omega (arith, fb.3)) s2 s3 c.units.ensures c.units-2.ensures);
      };
    }

pub statement-returns-in-Some-Set : goal.statement-returns-in-Some-Set
statement-returns-in-Some-Set ring c = record {
  forth = c.assignment.ensures.forth;
  read = λ l h s. by_key_lem SET set_at set_is c.assignment.result l (ahead c.args.text.now c.args.found.next) c.args.text.now (take c.args.len c.args.out.now) c.assignment.new.out (at_token c.args.found.token _ (take (c.args.found.next - c.args.found.start) (drop c.args.found.start c.args.text.now)) l _ h (begins_is c.args.found.token begin.Set (search rules))) c.assignment.ensures.read;
}

pub statement-returns-in-Some-Sleep : goal.statement-returns-in-Some-Sleep
statement-returns-in-Some-Sleep ring c = record {
  forth = c.with_expr.ensures.forth;
  read = λ l h s. by_key_lem SLEEP (expr_then Sleep) sleep_is c.with_expr.result l (ahead c.args.text.now c.args.found.next) c.args.text.now (take c.args.len c.args.out.now) c.with_expr.new.out (at_token c.args.found.token _ (take (c.args.found.next - c.args.found.start) (drop c.args.found.start c.args.text.now)) l _ h (begins_is c.args.found.token begin.Sleep (search rules))) (c.with_expr.ensures.read Sleep sleep_draft sleep_size);
}

pub statement-returns-in-Some-If : goal.statement-returns-in-Some-If
statement-returns-in-Some-If ring c = record {
  forth = c.fork.ensures.forth;
  read = λ l h s. by_key_lem IF if_at if_is c.fork.result l (ahead c.args.text.now c.args.found.next) c.args.text.now (take c.args.len c.args.out.now) c.fork.new.out (at_token c.args.found.token _ (take (c.args.found.next - c.args.found.start) (drop c.args.found.start c.args.text.now)) l _ h (begins_is c.args.found.token begin.If (search rules))) c.fork.ensures.read;
}

pub statement-returns-in-Some-While : goal.statement-returns-in-Some-While
statement-returns-in-Some-While ring c = record {
  forth = c.turning.ensures.forth;
  read = λ l h s. by_key_lem WHILE while_at while_is c.turning.result l (ahead c.args.text.now c.args.found.next) c.args.text.now (take c.args.len c.args.out.now) c.turning.new.out (at_token c.args.found.token _ (take (c.args.found.next - c.args.found.start) (drop c.args.found.start c.args.text.now)) l _ h (begins_is c.args.found.token begin.While (search rules))) c.turning.ensures.read;
}

pub statement-returns-in-Some-Guard : goal.statement-returns-in-Some-Guard
statement-returns-in-Some-Guard ring c = record {
  forth = c.guarded.ensures.forth;
  read = λ l h s. by_key_lem GUARD guard_at guard_is c.guarded.result l (ahead c.args.text.now c.args.found.next) c.args.text.now (take c.args.len c.args.out.now) c.guarded.new.out (at_token c.args.found.token _ (take (c.args.found.next - c.args.found.start) (drop c.args.found.start c.args.text.now)) l _ h (begins_is c.args.found.token begin.Guard (search rules))) c.guarded.ensures.read;
}

pub statement-returns-in-Some-Return : goal.statement-returns-in-Some-Return
statement-returns-in-Some-Return ring c = record {
  forth = c.with_expr-in-Some-Return.ensures.forth;
  read = λ l h s. by_key_lem RETURN (expr_then Return) return_is c.with_expr-in-Some-Return.result l (ahead c.args.text.now c.args.found.next) c.args.text.now (take c.args.len c.args.out.now) c.with_expr-in-Some-Return.new.out (at_token c.args.found.token _ (take (c.args.found.next - c.args.found.start) (drop c.args.found.start c.args.text.now)) l _ h (begins_is c.args.found.token begin.Return (search rules))) (c.with_expr-in-Some-Return.ensures.read Return return_draft return_size);
}

pub statement-returns-in-Some-Fail : goal.statement-returns-in-Some-Fail
statement-returns-in-Some-Fail ring c = record {
  forth = failure_onwards c.failure.result _ c.args.len _ c.args.out.now c.failure.new.out c.requires.within c.failure.ensures;
  read = λ l h s. by_key_lem FAIL fail_at fail_is c.failure.result l (ahead c.args.text.now c.args.found.next) c.args.text.now (take c.args.len c.args.out.now) c.failure.new.out (at_token c.args.found.token _ (take (c.args.found.next - c.args.found.start) (drop c.args.found.start c.args.text.now)) l _ h (begins_is c.args.found.token begin.Fail (search rules))) (failure_read c.failure.result c.args.text.now c.args.found.next c.args.len c.args.out.now c.failure.new.out c.requires.room c.failure.auto.out c.failure.ensures);
}

pub statement-returns-in-Some-Variable : goal.statement-returns-in-Some-Variable
statement-returns-in-Some-Variable ring c = record {
  forth = c.behind_variable.ensures.forth;
  read = λ l h s. by_variable c.in-Some-Variable.v c.behind_variable.result l (ahead c.args.text.now c.args.found.next) c.args.text.now (take c.args.len c.args.out.now) c.behind_variable.new.out (at_token c.args.found.token _ (take (c.args.found.next - c.args.found.start) (drop c.args.found.start c.args.text.now)) l _ h (begins_is c.args.found.token (begin.Variable c.in-Some-Variable.v) (search rules))) c.behind_variable.ensures.read;
}

pub statement-returns-in-None : goal.statement-returns-in-None
statement-returns-in-None ring c = record { forth = tt; read = λ l h s. no_statement _ c.args.found.token (take (c.args.found.next - c.args.found.start) (drop c.args.found.start c.args.text.now)) l _ h s (sym c.begins.ensures ∙ c.in-None.is) }

pub part-returns-then-ends : goal.part-returns-then-ends
part-returns-then-ends ring c =
    let f = c.token_at-found.ensures.forth in
    end_read c.args.text.now c.args.at c.token_at-found.result.start c.args.out.now c.leaf.new.out c.leaf.result f.after (omega (arith, f.order, f.within c.requires.within)) c.token_at-found.ensures.start c.requires.room c.leaf.auto.out (part_end c.token_at-found.result.token _ _ _ c.token_at-found.ensures.ahead (stop_end c.args.text.now c.args.at.pos c.token_at-found.result c.token_at-found.ensures.forth) (sym c.ends.ensures ∙ c.if-ends.true)) c.leaf.ensures

pub part-returns-in_err-c : goal.part-returns-in_err-c
part-returns-in_err-c ring c =
    let q = err_from_is_err_and c.from_residual.result c.from_residual.ensures.1 in
    rw q.1 (record { forth = tt; read = part_bar_first (length c.statement.new.out) (length (take c.args.at.len c.args.out.now)) (going c.token_at-found.result.token (take (c.token_at-found.result.next - c.token_at-found.result.start) (drop c.token_at-found.result.start c.args.text.now)) (ahead c.args.text.now c.args.at.pos) (ahead c.args.text.now c.token_at-found.result.next) c.token_at-found.ensures.ahead (sym c.ends.ensures ∙ c.if-ends.false)) (c.in_err-c.ensures.read _ c.token_at-found.ensures.ahead (stop_end c.args.text.now c.args.at.pos c.token_at-found.result c.token_at-found.ensures.forth)) })

pub part-returns : goal.part-returns
part-returns ring c =
    let f = c.in_ok-c.ensures.forth in
    let ft = c.token_at-found.ensures.forth in
    let r = c.in_ok-c.ensures.read _ c.token_at-found.ensures.ahead (stop_end c.args.text.now c.args.at.pos c.token_at-found.result c.token_at-found.ensures.forth) in
    part_read c.part.result c.args.text.now c.args.at c.in_ok-c.c c.args.out.now c.statement.new.out c.part.new.out r.item (going c.token_at-found.result.token (take (c.token_at-found.result.next - c.token_at-found.result.start) (drop c.token_at-found.result.start c.args.text.now)) (ahead c.args.text.now c.args.at.pos) (ahead c.args.text.now c.token_at-found.result.next) c.token_at-found.ensures.ahead (sym c.ends.ensures ∙ c.if-ends.false)) c.requires.room (omega (arith, ft.after, ft.order, f.0)) f.2 f.3 c.statement.auto.out c.part.auto.out r.took r.words c.part.ensures.forth c.part.ensures.read

pub part-statement-requires : goal.part-statement-requires
part-statement-requires ring c =
    let f = c.token_at-found.ensures.forth in
    let m = f.moves (not_stop c.token_at-found.result.token (sym c.ends.ensures ∙ c.if-ends.false)) in
    let w = f.within c.requires.within in
    let a = f.after in
    (omega arith, (w, c.requires.room))

pub part-part-requires : goal.part-part-requires
part-part-requires ring c =
    let f = c.token_at-found.ensures.forth in
    let m = f.moves (not_stop c.token_at-found.result.token (sym c.ends.ensures ∙ c.if-ends.false)) in
    let a = f.after in
    let g = c.in_ok-c.ensures.forth in
    (omega arith, (g.1, omega (arith, g.3, c.statement.auto.out)))
