use Rattle.std.proofs.Common.{◌≡◌, ℕ, ◌+◌, List, ◌++◌, length, take, Ok, Err, sym, ap, ◌∙◌, subst, arith}
use Rattle.std.proofs.lemmas.Result.{err_from_is_err_and}
use Rattle.plans.specs.Plan.{Hear}
use Rattle.plans.specs.Flat.{draft_stmt}
use Rattle.reading.specs.Statements.{put4}
use Rattle.reading.specs.Tasks.{heard_of}
use Rattle.reading.proofs.Steps.{whole_read}
use Rattle.reading.proofs.Tasked.{hear_bar_front, hear_bar_room, hear_bar_expr, hear_took, hear_words}
use Rattle.reading.proofs.tasks.hear.Goals as goal

pub returns-in_err-front : goal.returns-in_err-front
returns-in_err-front c =
    let q = err_from_is_err_and c.from_residual.result c.from_residual.ensures.1 in
    rw q.1 (record { forth = tt; read = hear_bar_front c.args.v c.args.out.now c.args.at.len _ c.requires.room c.in_err-front.ensures })

pub returns-in_err-room : goal.returns-in_err-room
returns-in_err-room c =
    let q = err_from_is_err_and c.from_residual-in_err-room.result c.from_residual-in_err-room.ensures.1 in
    rw q.1 (record { forth = tt; read = hear_bar_room c.args.v c.args.out.now c.args.at.len (length c.args.out.now) c.requires.room _ (omega (arith, c.in_err-room.ensures)) })

pub returns-in_err-c : goal.returns-in_err-c
returns-in_err-c c =
    let q = err_from_is_err_and c.from_residual-in_err-c.result c.from_residual-in_err-c.ensures.1 in
    rw q.1 (record { forth = tt; read = hear_bar_expr c.args.v c.args.out.now c.args.at.len (length c.chain.new.out) c.requires.room (heard_of c.args.text.now c.in_ok-front.front) c.in_ok-front.ensures.0 (whole_read (Err c.in_err-c.field-0.0) c.args.text.now c.in_ok-front.front.next (take (c.args.at.len + 68) c.args.out.now) c.chain.new.out c.in_err-c.ensures.read) })

pub returns : goal.returns
returns c =
    let fr = c.in_ok-front.ensures in
    let f = c.in_ok-c.ensures.forth in
    let w = whole_read (Ok c.in_ok-c.c) c.args.text.now c.in_ok-front.front.next (take (c.args.at.len + 68) c.args.out.now) c.chain.new.out c.in_ok-c.ensures.read in
    let h = heard_of c.args.text.now c.in_ok-front.front in
    record {
      forth = (omega (arith, fr.2, f.0), f.1, omega (arith, f.2), omega (arith, f.3));
      read = record {
        item = Hear c.args.v h.other h.name w.tree;
        took = hear_took c.args.v h w.tree fr.1 fr.0 w.took;
        words = subst (λ (y : List ℕ). take c.in_ok-c.c.len y ≡ take c.args.at.len c.args.out.now ++ draft_stmt (Hear c.args.v h.other h.name w.tree))
            (sym (c.head.ensures ∙ ap (λ (y : List ℕ). put4 y c.args.at.len 4 c.args.v c.units.result c.in_ok-front.front.other) c.write_name.ensures))
            (hear_words c.args.out.now c.chain.new.out c.args.at.len c.in_ok-c.c.len c.args.v h.other c.units.result h.name w.tree w.words f.2 f.3 c.chain.auto.out c.units.ensures);
      };
    }
