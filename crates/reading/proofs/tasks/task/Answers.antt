use Rattle.std.proofs.Common.{◌≡◌, ℕ, ◌+◌, ◌≤◌, List, ◌++◌, length, take, sym, ap, ◌∙◌, subst, arith}
use Rattle.std.proofs.lemmas.Result.{err_from_is_err_and}
use Rattle.plans.specs.Plan.{Do}
use Rattle.plans.specs.Flat.{draft_stmt}
use Rattle.reading.specs.Statements.{put4}
use Rattle.reading.proofs.Tasked.{task_bar_front, task_bar_room, task_bar_args, task_bar_back, task_took, task_words_lem}
use Rattle.reading.proofs.tasks.task.Goals as goal

pub returns-in_err-front : goal.returns-in_err-front
returns-in_err-front c =
    let q = err_from_is_err_and c.from_residual.result c.from_residual.ensures.1 in
    rw q.1 (record { forth = tt; read = task_bar_front c.args.v c.args.out.now c.args.at.len _ c.requires.room c.in_err-front.ensures })

pub returns-in_err-room : goal.returns-in_err-room
returns-in_err-room c =
    let q = err_from_is_err_and c.from_residual-in_err-room.result c.from_residual-in_err-room.ensures.1 in
    rw q.1 (record { forth = tt; read = task_bar_room c.args.v c.args.out.now c.args.at.len (length c.args.out.now) c.requires.room _ (omega (arith, c.in_err-room.ensures)) })

pub returns-in_err-args : goal.returns-in_err-args
returns-in_err-args c =
    let q = err_from_is_err_and c.from_residual-in_err-args.result c.from_residual-in_err-args.ensures.1 in
    rw q.1 (record { forth = tt; read = task_bar_args c.args.v c.args.out.now c.args.at.len (length c.arguments.new.out) c.requires.room c.in_ok-front.front.value c.in_ok-front.ensures.0 c.in_err-args.ensures.read })

pub returns-in_err-back : goal.returns-in_err-back
returns-in_err-back c =
    let q = err_from_is_err_and c.from_residual-in_err-back.result c.from_residual-in_err-back.ensures.1 in
    rw q.1 (record { forth = tt; read = task_bar_back c.args.v c.args.out.now c.args.at.len (length c.arguments.new.out) c.requires.room c.in_ok-front.front.value c.in_ok-args.ensures.read.items c.in_ok-front.ensures.0 c.in_ok-args.ensures.read.took c.in_err-back.ensures })

pub returns : goal.returns
returns c =
    let fr = c.in_ok-front.ensures in
    let f = c.in_ok-args.ensures.forth in
    let r = c.in_ok-args.ensures.read in
    let b = c.in_ok-back.ensures in
    let bk = c.in_ok-back.back in
    let few : length r.items ≤ 16 = omega (arith, r.few, r.counted) in
    record {
      forth = (omega (arith, fr.2, f.0, b.2), b.2.1, omega (arith, f.2), omega (arith, f.3));
      read = record {
        item = Do c.args.v c.in_ok-front.front.value r.items bk.tries bk.pause;
        took = task_took c.args.v c.in_ok-front.front.value r.items bk.tries bk.pause fr.1 few b.1 fr.0 r.took b.0;
        words = subst (λ (y : List ℕ). take c.in_ok-args.args.at.len y ≡ take c.args.at.len c.args.out.now ++ draft_stmt (Do c.args.v c.in_ok-front.front.value r.items bk.tries bk.pause))
            (sym (c.head-4.ensures ∙ ap (λ (y : List ℕ). put4 y c.args.at.len 2 c.args.v c.units.result 0) (c.head-3.ensures ∙ ap (λ (y : List ℕ). put4 y (c.args.at.len + 4) c.in_ok-front.front.value bk.tries bk.pause c.in_ok-args.args.count) (c.head-2.ensures ∙ ap (λ (y : List ℕ). put4 y (c.args.at.len + 8) 0 0 0 0) c.head.ensures))))
            (task_words_lem c.args.out.now c.arguments.new.out c.args.at.len c.in_ok-args.args.at.len c.args.v c.in_ok-front.front.value bk.tries bk.pause c.units.result r.items r.words f.2 f.3 c.arguments.auto.out c.units.ensures c.in_ok-args.args.count (r.counted ∙ omega arith));
      };
    }
