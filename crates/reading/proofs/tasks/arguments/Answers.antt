use Rattle.std.proofs.Common.{rules, ◌≡◌, ◌-◌, [], length, take, drop, Ok, Err, refl, ap, ◌∙◌, le_refl, arith}
use Rattle.std.proofs.lemmas.Result.{err_from_is_err_and}
use Rattle.text.specs.Lexer.{both}
use Rattle.text.specs.Ahead.{ahead, means, taken}
use Rattle.text.specs.declared.Token.{Token}
use Rattle.text.specs.declared.Token.TheVariants as is
use Rattle.text.specs.declared.Key.TheVariants as word
use Rattle.reading.specs.Statements.{args_at, list_at}
use Rattle.reading.proofs.Taking.{stop_end, onward}
use Rattle.reading.proofs.Steps.{whole_read}
use Rattle.reading.proofs.Tasked.{list_close, still_open, list_took, list_bar_expr, list_bar_rest, no_args_words, args_read, args_on}
use Rattle.reading.proofs.tasks.arguments.Goals as goal

pub returns-then-eq : goal.returns-then-eq
returns-then-eq c =
    let t : c.token_at-found.result.token ≡ is.Key word.Close = search rules in
    let a = c.token_at-found.ensures.ahead ∙ ap (λ (x : Token). both (means x (take (c.token_at-found.result.next - c.token_at-found.result.start) (drop c.token_at-found.result.start c.args.text.now))) (ahead c.args.text.now c.token_at-found.result.next)) t in
    let o = onward c.args.at.pos c.token_at-found.result (length c.args.text.now) c.token_at-found.ensures.forth c.requires.within (ap taken t) in
    record {
      forth = (o.0, o.1, le_refl _, c.requires.room);
      read = record { items = []; took = list_close _ _ a; words = no_args_words c.args.out.now c.args.at.len; counted = refl; few = omega arith };
    }

pub returns-in_err-c : goal.returns-in_err-c
returns-in_err-c c =
    let q = err_from_is_err_and c.from_residual.result c.from_residual.ensures.1 in
    rw q.1 (record { forth = tt; read = list_bar_expr (length c.chain.new.out) (length (take c.args.at.len c.args.out.now)) (still_open c.token_at-found.result.token (take (c.token_at-found.result.next - c.token_at-found.result.start) (drop c.token_at-found.result.start c.args.text.now)) (ahead c.args.text.now c.args.at.pos) (ahead c.args.text.now c.token_at-found.result.next) c.token_at-found.ensures.ahead (stop_end c.args.text.now c.args.at.pos c.token_at-found.result c.token_at-found.ensures.forth) (λ e. search rules)) (whole_read (Err c.in_err-c.field-0.0) c.args.text.now c.args.at.pos (take c.args.at.len c.args.out.now) c.chain.new.out c.in_err-c.ensures.read) })

pub returns : goal.returns
returns c =
    let f = c.in_ok-c.ensures.forth in
    let w = whole_read (Ok c.in_ok-c.c) c.args.text.now c.args.at.pos (take c.args.at.len c.args.out.now) c.chain.new.out c.in_ok-c.ensures.read in
    record {
      forth = args_on c.more_arguments.result _ _ c.args.at.pos c.args.at.len _ _ (length c.args.out.now) (omega (arith, f.0)) f.2 c.chain.auto.out c.more_arguments.ensures.forth;
      read = args_read c.more_arguments.result args_at list_at w.tree _ _ c.args.text.now c.args.out.now c.chain.new.out c.more_arguments.new.out c.args.at.len c.in_ok-c.c.len 0 c.requires.room (omega (arith, f.3, c.chain.auto.out)) c.chain.auto.out c.more_arguments.auto.out w.words
          (λ es k y. list_took w.tree es (still_open c.token_at-found.result.token (take (c.token_at-found.result.next - c.token_at-found.result.start) (drop c.token_at-found.result.start c.args.text.now)) (ahead c.args.text.now c.args.at.pos) (ahead c.args.text.now c.token_at-found.result.next) c.token_at-found.ensures.ahead (stop_end c.args.text.now c.args.at.pos c.token_at-found.result c.token_at-found.ensures.forth) (λ e. search rules)) w.took y) (λ at is y. list_bar_rest (length c.more_arguments.new.out) (length (take c.args.at.len c.args.out.now)) at w.tree (still_open c.token_at-found.result.token (take (c.token_at-found.result.next - c.token_at-found.result.start) (drop c.token_at-found.result.start c.args.text.now)) (ahead c.args.text.now c.args.at.pos) (ahead c.args.text.now c.token_at-found.result.next) c.token_at-found.ensures.ahead (stop_end c.args.text.now c.args.at.pos c.token_at-found.result c.token_at-found.ensures.forth) (λ e. search rules)) is w.took y) c.more_arguments.ensures.read;
    }
