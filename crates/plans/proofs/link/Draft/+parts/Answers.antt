use Rattle.std.proofs.Common.{◌≡◌, ◌+◌, ◌*◌, [], ◌∷◌, ◌++◌, get_or, drop, Err, sym, ap, ◌∙◌, arith}
use Rattle.std.proofs.lemmas.Result.{err_from_is_err_and}
use Rattle.plans.specs.Plan.{Stmt, Block, size_of}
use Rattle.plans.specs.Flat.{To, way_of, draft_stmt, draft_of, lay_stmt, lay}
use Rattle.plans.specs.Sheet.{nothing, Written, WrittenTo}
use Rattle.plans.proofs.Parts.{first_piece, second_piece, third_piece, fourth_piece, all_pieces, to_written, to_whole, if_parts, if_pieces, while_parts, while_pieces, guard_parts, guard_pieces, part_big, behind_is, steps, part_linked, part_refused, is_if, is_while, is_guard, is_simple_lem, end_linked, not_damaged, by_statement, some_size}
use Rattle.plans.proofs.Drafts.{lay_length}
use Rattle.plans.proofs.Simple.{head_at, written_short}
use Rattle.plans.proofs.link.Draft.+parts.Goals as goal

pub link_guard-returns-then-to_other-eq0 : goal.link_guard-returns-then-to_other-eq0
link_guard-returns-then-to_other-eq0 g t c = λ x y rest d. let p = guard_parts c.args.self.now.words.now c.args.at x y rest c.args.self.now.small d in omega (arith, p.some, p.few, c.then-to_other-eq0.either)

pub link_guard-returns-in_err-put_all : goal.link_guard-returns-in_err-put_all
link_guard-returns-in_err-put_all g t c = λ x y rest d.
    let p = guard_parts c.args.self.now.words.now c.args.at x y rest c.args.self.now.small d in
    let q = err_from_is_err_and c.from_residual.result c.from_residual.ensures.1 in
    rw (q.1, q.2) (first_piece g.S.Sheet.wrote g.S.Sheet.room (guard_pieces c.args.self.now.words.now c.args.at x y rest c.args.go.next (way_of c.args.go.way) c.args.go.under c.args.deep p) c.args.sheet.now c.put_all.new.sheet c.put_all.new.sheet c.in_err-put_all.field-0.0 c.in_err-put_all.ensures)

pub link_guard-returns-in_err-link_part : goal.link_guard-returns-in_err-link_part
link_guard-returns-in_err-link_part g t c = λ x y rest d.
    let p = guard_parts c.args.self.now.words.now c.args.at x y rest c.args.self.now.small d in
    let q = err_from_is_err_and c.from_residual-in_err-link_part.result c.from_residual-in_err-link_part.ensures.1 in
    rw (q.1, q.2) (third_piece g.S.Sheet.wrote g.S.Sheet.room (guard_pieces c.args.self.now.words.now c.args.at x y rest c.args.go.next (way_of c.args.go.way) c.args.go.under c.args.deep p) c.args.sheet.now c.put_all.new.sheet c.put_all.new.sheet c.link_part.new.sheet c.link_part.new.sheet c.in_err-link_part.field-0.0 c.in_ok-put_all.ensures nothing (to_written g.S.Sheet.wrote g.S.Sheet.room (lay (c.args.at + 4) x (c.args.at + 1) (To (c.args.at + 4 * get_or c.args.self.now.words.now (c.args.at + 1) 0)) (c.args.go.under + 1)) _ c.put_all.new.sheet c.link_part.new.sheet c.in_err-link_part.field-0.0 (c.in_err-link_part.ensures x _ p.first)))

pub link_guard-returns-in_err-link_part-2 : goal.link_guard-returns-in_err-link_part-2
link_guard-returns-in_err-link_part-2 g t c = λ x y rest d.
    let p = guard_parts c.args.self.now.words.now c.args.at x y rest c.args.self.now.small d in
    let q = err_from_is_err_and c.from_residual-in_err-link_part-2.result c.from_residual-in_err-link_part-2.ensures.1 in
    rw (q.1, q.2) (fourth_piece g.S.Sheet.wrote g.S.Sheet.room (guard_pieces c.args.self.now.words.now c.args.at x y rest c.args.go.next (way_of c.args.go.way) c.args.go.under c.args.deep p) c.args.sheet.now c.put_all.new.sheet c.put_all.new.sheet c.link_part.new.sheet c.link_part-2.new.sheet c.link_part-2.new.sheet c.in_err-link_part-2.field-0.0 c.in_ok-put_all.ensures nothing (c.in_ok-link_part.ensures x _ p.first).1 (to_written g.S.Sheet.wrote g.S.Sheet.room (lay (c.args.at + 4 * get_or c.args.self.now.words.now (c.args.at + 1) 0) y c.args.go.next (way_of c.args.go.way) c.args.go.under) _ c.link_part.new.sheet c.link_part-2.new.sheet c.in_err-link_part-2.field-0.0 (c.in_err-link_part-2.ensures y _ p.other)))

pub link_guard-returns : goal.link_guard-returns
link_guard-returns g t c = λ x y rest d.
    let p = guard_parts c.args.self.now.words.now c.args.at x y rest c.args.self.now.small d in
    all_pieces g.S.Sheet.wrote g.S.Sheet.room (guard_pieces c.args.self.now.words.now c.args.at x y rest c.args.go.next (way_of c.args.go.way) c.args.go.under c.args.deep p) c.args.sheet.now c.put_all.new.sheet c.put_all.new.sheet c.link_part.new.sheet c.link_part-2.new.sheet c.in_ok-put_all.ensures nothing (c.in_ok-link_part.ensures x _ p.first).1 (c.in_ok-link_part-2.ensures y _ p.other).1

pub link_if-returns-then-to_else-eq0 : goal.link_if-returns-then-to_else-eq0
link_if-returns-then-to_else-eq0 g t c = λ e x y rest d. let p = if_parts c.args.self.now.words.now c.args.at e x y rest c.args.self.now.small d in omega (arith, p.some, p.few, p.short, c.then-to_else-eq0.either)

pub link_if-returns-in_err-put_all : goal.link_if-returns-in_err-put_all
link_if-returns-in_err-put_all g t c = λ e x y rest d.
    let p = if_parts c.args.self.now.words.now c.args.at e x y rest c.args.self.now.small d in
    let q = err_from_is_err_and c.from_residual.result c.from_residual.ensures.1 in
    rw (q.1, q.2) (first_piece g.S.Sheet.wrote g.S.Sheet.room (if_pieces c.args.self.now.words.now c.args.at e x y rest c.args.go.next (way_of c.args.go.way) c.args.go.under c.args.deep p) c.args.sheet.now c.put_all.new.sheet c.put_all.new.sheet c.in_err-put_all.field-0.0 c.in_err-put_all.ensures)

pub link_if-returns-in_err-copy : goal.link_if-returns-in_err-copy
link_if-returns-in_err-copy g t c = λ e x y rest d.
    let p = if_parts c.args.self.now.words.now c.args.at e x y rest c.args.self.now.small d in
    let q = err_from_is_err_and c.from_residual-in_err-copy.result c.from_residual-in_err-copy.ensures.1 in
    rw (q.1, q.2) (second_piece g.S.Sheet.wrote g.S.Sheet.room (if_pieces c.args.self.now.words.now c.args.at e x y rest c.args.go.next (way_of c.args.go.way) c.args.go.under c.args.deep p) c.args.sheet.now c.put_all.new.sheet c.copy.new.sheet c.copy.new.sheet c.in_err-copy.field-0.0 c.in_ok-put_all.ensures (c.in_err-copy.ensures p.fits))

pub link_if-returns-in_err-link_part : goal.link_if-returns-in_err-link_part
link_if-returns-in_err-link_part g t c = λ e x y rest d.
    let p = if_parts c.args.self.now.words.now c.args.at e x y rest c.args.self.now.small d in
    let q = err_from_is_err_and c.from_residual-in_err-link_part.result c.from_residual-in_err-link_part.ensures.1 in
    rw (q.1, q.2) (third_piece g.S.Sheet.wrote g.S.Sheet.room (if_pieces c.args.self.now.words.now c.args.at e x y rest c.args.go.next (way_of c.args.go.way) c.args.go.under c.args.deep p) c.args.sheet.now c.put_all.new.sheet c.copy.new.sheet c.link_part.new.sheet c.link_part.new.sheet c.in_err-link_part.field-0.0 c.in_ok-put_all.ensures (c.in_ok-copy.ensures p.fits) (to_written g.S.Sheet.wrote g.S.Sheet.room (lay (c.args.at + 4 + 4 * get_or c.args.self.now.words.now (c.args.at + 3) 0) x c.args.go.next (way_of c.args.go.way) c.args.go.under) _ c.copy.new.sheet c.link_part.new.sheet c.in_err-link_part.field-0.0 (c.in_err-link_part.ensures x _ p.first)))

pub link_if-returns-in_err-link_part-2 : goal.link_if-returns-in_err-link_part-2
link_if-returns-in_err-link_part-2 g t c = λ e x y rest d.
    let p = if_parts c.args.self.now.words.now c.args.at e x y rest c.args.self.now.small d in
    let q = err_from_is_err_and c.from_residual-in_err-link_part-2.result c.from_residual-in_err-link_part-2.ensures.1 in
    rw (q.1, q.2) (fourth_piece g.S.Sheet.wrote g.S.Sheet.room (if_pieces c.args.self.now.words.now c.args.at e x y rest c.args.go.next (way_of c.args.go.way) c.args.go.under c.args.deep p) c.args.sheet.now c.put_all.new.sheet c.copy.new.sheet c.link_part.new.sheet c.link_part-2.new.sheet c.link_part-2.new.sheet c.in_err-link_part-2.field-0.0 c.in_ok-put_all.ensures (c.in_ok-copy.ensures p.fits) (c.in_ok-link_part.ensures x _ p.first).1 (to_written g.S.Sheet.wrote g.S.Sheet.room (lay (c.args.at + 4 * get_or c.args.self.now.words.now (c.args.at + 1) 0) y c.args.go.next (way_of c.args.go.way) c.args.go.under) _ c.link_part.new.sheet c.link_part-2.new.sheet c.in_err-link_part-2.field-0.0 (c.in_err-link_part-2.ensures y _ p.other)))

pub link_if-returns : goal.link_if-returns
link_if-returns g t c = λ e x y rest d.
    let p = if_parts c.args.self.now.words.now c.args.at e x y rest c.args.self.now.small d in
    all_pieces g.S.Sheet.wrote g.S.Sheet.room (if_pieces c.args.self.now.words.now c.args.at e x y rest c.args.go.next (way_of c.args.go.way) c.args.go.under c.args.deep p) c.args.sheet.now c.put_all.new.sheet c.copy.new.sheet c.link_part.new.sheet c.link_part-2.new.sheet c.in_ok-put_all.ensures (c.in_ok-copy.ensures p.fits) (c.in_ok-link_part.ensures x _ p.first).1 (c.in_ok-link_part-2.ensures y _ p.other).1

pub link_part-returns-then-at-self : goal.link_part-returns-then-at-self
link_part-returns-then-at-self g t c = λ b rest d. let h = part_big b c.args.self.now.words.now c.args.at rest d in omega arith

pub link_part-returns-in_err-put_all : goal.link_part-returns-in_err-put_all
link_part-returns-in_err-put_all g t c = λ b rest d.
    let q = err_from_is_err_and c.from_residual.result c.from_residual.ensures.1 in
    let l = lay_length b c.args.at c.args.go.next (way_of c.args.go.way) c.args.go.under in
    let m = some_size b in
    rw (q.1, q.2) (to_whole g.S.Sheet.wrote g.S.Sheet.room _ _ c.args.sheet.now c.put_all.new.sheet c.put_all.new.sheet c.in_err-put_all.field-0.0 (written_short g.S.Sheet.wrote g.S.Sheet.room ((12 + 32 * (c.args.go.under + 1)) ∷ 13 ∷ c.args.go.next ∷ 0 ∷ []) (lay c.args.at b c.args.go.next (way_of c.args.go.way) c.args.go.under) c.args.sheet.now c.put_all.new.sheet c.put_all.new.sheet c.in_err-put_all.field-0.0 (omega arith) c.in_err-put_all.ensures))

pub link_part-returns-then-self-at-eq-PART : goal.link_part-returns-then-self-at-eq-PART
link_part-returns-then-self-at-eq-PART g t c = λ b rest d.
    end_linked g.S.Sheet.wrote g.S.Sheet.room c.args.self.now.words.now c.args.at b rest c.args.go.next c.args.go.under (way_of c.args.go.way) c.args.sheet.now c.put_all.new.sheet c.if-self-at-eq-PART.true d c.in_ok-put_all.ensures

pub link_part-returns-then-size-eq0 : goal.link_part-returns-then-size-eq0
link_part-returns-then-size-eq0 g t c = λ b rest d. not_damaged c.args.self.now.words.now c.args.at b rest c.args.self.now.small c.if-self-at-eq-PART.false d (λ x y z. omega (arith, c.then-size-eq0.either))

pub link_part-returns-then-end-self : goal.link_part-returns-then-end-self
link_part-returns-then-end-self g t c = λ b rest d. not_damaged c.args.self.now.words.now c.args.at b rest c.args.self.now.small c.if-self-at-eq-PART.false d (λ x y z. omega (arith, c.if-end-self.true))

pub link_part-returns-in_err-link_statement : goal.link_part-returns-in_err-link_statement
link_part-returns-in_err-link_statement g t c = λ b rest d.
    let q = err_from_is_err_and c.from_residual-in_err-link_statement.result c.from_residual-in_err-link_statement.ensures.1 in
    rw (q.1, q.2) (by_statement c.args.self.now.words.now c.args.at rest (λ (z : Block). WrittenTo g.S.Sheet.wrote g.S.Sheet.room (Err c.in_err-link_statement.field-0.0) c.args.sheet.now (lay c.args.at z c.args.go.next (way_of c.args.go.way) c.args.go.under) (c.args.at + 4 * size_of z) c.link_statement.new.sheet) b c.if-self-at-eq-PART.false d (λ s x i.
    part_refused g.S.Sheet.wrote g.S.Sheet.room c.args.self.now.words.now c.args.at s x rest c.args.go.next c.args.go.under _ _ (way_of c.args.go.way) _ c.args.sheet.now c.link_statement.new.sheet c.link_statement.new.sheet c.in_err-link_statement.field-0.0 (c.in_err-link_statement.ensures s (draft_of x ++ rest) i)))

pub link_part-returns : goal.link_part-returns
link_part-returns g t c = λ b rest d.
    by_statement c.args.self.now.words.now c.args.at rest (λ (z : Block). WrittenTo g.S.Sheet.wrote g.S.Sheet.room c.link_part.result c.args.sheet.now (lay c.args.at z c.args.go.next (way_of c.args.go.way) c.args.go.under) (c.args.at + 4 * size_of z) c.link_part.new.sheet) b c.if-self-at-eq-PART.false d (λ s x i.
    let p = steps c.args.self.now.words.now c.args.at s x rest c.args.self.now.small i in
    let n = behind_is x c.args.self.now.words.now (c.args.at + 4 * get_or c.args.self.now.words.now (c.args.at + 2) 0) rest c.args.go.next c.args.go.under p.after in
    part_linked g.S.Sheet.wrote g.S.Sheet.room c.args.self.now.words.now c.args.at s x rest c.args.go.next c.args.go.under c.behind-after.result.next c.behind-after.result.under (way_of c.args.go.way) (way_of c.behind-after.result.way) c.args.sheet.now c.link_statement.new.sheet c.link_part.new.sheet c.link_part.result p (c.behind-after.ensures.next ∙ n.0) (ap way_of c.behind-after.ensures.way) (c.behind-after.ensures.under ∙ n.1) (c.in_ok-link_statement.ensures s (draft_of x ++ rest) i) (c.link_part.ensures x rest p.after))

pub link_while-returns-then-units-gt4096 : goal.link_while-returns-then-units-gt4096
link_while-returns-then-units-gt4096 g t c = λ e x rest d. let p = while_parts c.args.self.now.words.now c.args.at e x rest c.args.self.now.small d in omega (arith, p.short)

pub link_while-returns-in_err-put_all : goal.link_while-returns-in_err-put_all
link_while-returns-in_err-put_all g t c = λ e x rest d.
    let p = while_parts c.args.self.now.words.now c.args.at e x rest c.args.self.now.small d in
    let q = err_from_is_err_and c.from_residual.result c.from_residual.ensures.1 in
    rw (q.1, q.2) (first_piece g.S.Sheet.wrote g.S.Sheet.room (while_pieces c.args.self.now.words.now c.args.at e x rest c.args.go.next (way_of c.args.go.way) c.args.go.under c.args.deep p) c.args.sheet.now c.put_all.new.sheet c.put_all.new.sheet c.in_err-put_all.field-0.0 c.in_err-put_all.ensures)

pub link_while-returns-in_err-copy : goal.link_while-returns-in_err-copy
link_while-returns-in_err-copy g t c = λ e x rest d.
    let p = while_parts c.args.self.now.words.now c.args.at e x rest c.args.self.now.small d in
    let q = err_from_is_err_and c.from_residual-in_err-copy.result c.from_residual-in_err-copy.ensures.1 in
    rw (q.1, q.2) (third_piece g.S.Sheet.wrote g.S.Sheet.room (while_pieces c.args.self.now.words.now c.args.at e x rest c.args.go.next (way_of c.args.go.way) c.args.go.under c.args.deep p) c.args.sheet.now c.put_all.new.sheet c.put_all.new.sheet c.copy.new.sheet c.copy.new.sheet c.in_err-copy.field-0.0 c.in_ok-put_all.ensures nothing (c.in_err-copy.ensures p.fits))

pub link_while-returns-in_err-link_part : goal.link_while-returns-in_err-link_part
link_while-returns-in_err-link_part g t c = λ e x rest d.
    let p = while_parts c.args.self.now.words.now c.args.at e x rest c.args.self.now.small d in
    let q = err_from_is_err_and c.from_residual-in_err-link_part.result c.from_residual-in_err-link_part.ensures.1 in
    rw (q.1, q.2) (fourth_piece g.S.Sheet.wrote g.S.Sheet.room (while_pieces c.args.self.now.words.now c.args.at e x rest c.args.go.next (way_of c.args.go.way) c.args.go.under c.args.deep p) c.args.sheet.now c.put_all.new.sheet c.put_all.new.sheet c.copy.new.sheet c.link_part.new.sheet c.link_part.new.sheet c.in_err-link_part.field-0.0 c.in_ok-put_all.ensures nothing (c.in_ok-copy.ensures p.fits) (to_written g.S.Sheet.wrote g.S.Sheet.room (lay (c.args.at + 4 + 4 * get_or c.args.self.now.words.now (c.args.at + 3) 0) x (c.args.at + 1) (way_of c.args.go.way) (c.args.go.under + 1)) _ c.copy.new.sheet c.link_part.new.sheet c.in_err-link_part.field-0.0 (c.in_err-link_part.ensures x _ p.body)))

pub link_while-returns : goal.link_while-returns
link_while-returns g t c = λ e x rest d.
    let p = while_parts c.args.self.now.words.now c.args.at e x rest c.args.self.now.small d in
    all_pieces g.S.Sheet.wrote g.S.Sheet.room (while_pieces c.args.self.now.words.now c.args.at e x rest c.args.go.next (way_of c.args.go.way) c.args.go.under c.args.deep p) c.args.sheet.now c.put_all.new.sheet c.put_all.new.sheet c.copy.new.sheet c.link_part.new.sheet c.in_ok-put_all.ensures nothing (c.in_ok-copy.ensures p.fits) (c.in_ok-link_part.ensures x _ p.body).1

pub link_statement-returns-in-5 : goal.link_statement-returns-in-5
link_statement-returns-in-5 g t c = λ s rest d. is_if (λ (z : Stmt). drop c.args.at c.args.self.now.words.now ≡ draft_stmt z ++ rest → Written g.S.Sheet.wrote g.S.Sheet.room c.link_if.result c.args.sheet.now (lay_stmt c.args.at z c.args.go.next (way_of c.args.go.way) c.args.go.under c.args.deep) c.link_if.new.sheet) s (sym (head_at c.args.self.now.words.now c.args.at s rest d).first ∙ c.in-5.is) (λ e x y i. c.link_if.ensures e x y rest i) d

pub link_statement-returns-in-6 : goal.link_statement-returns-in-6
link_statement-returns-in-6 g t c = λ s rest d. is_while (λ (z : Stmt). drop c.args.at c.args.self.now.words.now ≡ draft_stmt z ++ rest → Written g.S.Sheet.wrote g.S.Sheet.room c.link_while.result c.args.sheet.now (lay_stmt c.args.at z c.args.go.next (way_of c.args.go.way) c.args.go.under c.args.deep) c.link_while.new.sheet) s (sym (head_at c.args.self.now.words.now c.args.at s rest d).first ∙ c.in-6.is) (λ e x i. c.link_while.ensures e x rest i) d

pub link_statement-returns-in-8 : goal.link_statement-returns-in-8
link_statement-returns-in-8 g t c = λ s rest d. is_guard (λ (z : Stmt). drop c.args.at c.args.self.now.words.now ≡ draft_stmt z ++ rest → Written g.S.Sheet.wrote g.S.Sheet.room c.link_guard.result c.args.sheet.now (lay_stmt c.args.at z c.args.go.next (way_of c.args.go.way) c.args.go.under c.args.deep) c.link_guard.new.sheet) s (sym (head_at c.args.self.now.words.now c.args.at s rest d).first ∙ c.in-8.is) (λ x y i. c.link_guard.ensures x y rest i) d

pub link_statement-returns-in_default : goal.link_statement-returns-in_default
link_statement-returns-in_default g t c = λ s rest d. let h = head_at c.args.self.now.words.now c.args.at s rest d in c.link_simple.ensures s rest (is_simple_lem s (λ i. let e : get_or c.args.self.now.words.now c.args.at 0 ≡ 5 = h.first ∙ i in omega (arith, e)) (λ i. let e : get_or c.args.self.now.words.now c.args.at 0 ≡ 6 = h.first ∙ i in omega (arith, e)) (λ i. let e : get_or c.args.self.now.words.now c.args.at 0 ≡ 8 = h.first ∙ i in omega (arith, e))) d
