use Rattle.std.proofs.Common.{rules, ◌≡◌, ℕ, ◌+◌, ◌-◌, ◌*◌, ◌/◌, [], ◌∷◌, ◌++◌, length, take, drop, sym, ap, ◌∙◌, subst, arith, length-append, length-take-le}
use Rattle.std.proofs.lemmas.Result.{err_from_is_err_and}
use Rattle.plans.specs.Plan.{Lit, Var, Not, expr_size}
use Rattle.plans.specs.Flat.{code_of}
use Rattle.plans.proofs.Drafts.{code_length}
use Rattle.text.specs.Lexer.{Lexed, both}
use Rattle.text.specs.Ahead.{ahead, means, taken}
use Rattle.text.specs.declared.Token.{Token}
use Rattle.reading.specs.declared.exprs.Level.{Level}
use Rattle.reading.specs.declared.exprs.Level.TheVariants.{Unary}
use Rattle.reading.specs.Took.{Took, Bars}
use Rattle.text.specs.Kinds.{kind_of}
use Rattle.reading.specs.Levels.{expr_at, more_at, NoRoom, build}
use Rattle.reading.proofs.Taking.{stop_end, onward}
use Rattle.reading.proofs.Leveled.{more_none, joined, more_bar_right, more_bar_here, build_size, number_took, variable_took, not_took, not_bar, not_bar_here, bracket_took, bracket_bar_inside, bracket_bar_close, bracket_bar_deep, nothing_bar, words_long, lit_code, var_code, not_words, pair_words, chain_bar_first, suc_pred, further_on, chain_read, none_of, op_ahead, more_read, units_are, not_size, opens_n, opens_v, leaf_read}
use Rattle.reading.proofs.exprs.+levels.Goals as goal

pub bracket-returns-then-deep-eq0 : goal.bracket-returns-then-deep-eq0
bracket-returns-then-deep-eq0 ring c = record { forth = tt; read = λ l h. subst (λ (d : ℕ). Bars (expr_at Unary d) (NoRoom (length c.args.out.now) (length (take c.args.at.len c.args.out.now))) l) (sym c.if-deep-eq0.true) (bracket_bar_deep _ l _ h) }

pub bracket-returns-in_err-c : goal.bracket-returns-in_err-c
bracket-returns-in_err-c ring c =
    let q = err_from_is_err_and c.from_residual.result c.from_residual.ensures.1 in
    rw q.1 (record { forth = tt; read = λ l h. subst (λ (d : ℕ). Bars (expr_at Unary d) (NoRoom (length c.chain.new.out) (length (take c.args.at.len c.args.out.now))) l) (suc_pred c.args.deep c.if-deep-eq0.false) (bracket_bar_inside (c.args.deep - 1) _ h c.in_err-c.ensures.read) })

pub bracket-returns-in_err-pos : goal.bracket-returns-in_err-pos
bracket-returns-in_err-pos ring c =
    let q = err_from_is_err_and c.from_residual-in_err-pos.result c.from_residual-in_err-pos.ensures.1 in
    let r = c.in_ok-c.ensures.read in
    rw q.1 (record { forth = tt; read = λ l h. subst (λ (d : ℕ). Bars (expr_at Unary d) (NoRoom (length c.chain.new.out) (length (take c.args.at.len c.args.out.now))) l) (suc_pred c.args.deep c.if-deep-eq0.false) (bracket_bar_close (c.args.deep - 1) r.tree _ h r.took c.in_err-pos.ensures) })

pub bracket-returns : goal.bracket-returns
bracket-returns ring c =
    let f = c.in_ok-c.ensures.forth in
    let r = c.in_ok-c.ensures.read in
    let k = c.in_ok-pos.ensures in
    record {
      forth = (omega arith, omega (arith, k.1), omega arith, omega arith);
      read = λ l h. record { tree = r.tree; took = subst (λ (d : ℕ). Took (expr_at Unary d) r.tree l (ahead c.args.text.now c.in_ok-pos.pos)) (suc_pred c.args.deep c.if-deep-eq0.false) (bracket_took (c.args.deep - 1) r.tree h r.took k.0); words = r.words };
    }

pub chain-returns-in_err-c : goal.chain-returns-in_err-c
chain-returns-in_err-c ring c =
    let q = err_from_is_err_and c.from_residual.result c.from_residual.ensures.1 in
    rw q.1 (record { forth = tt; read = chain_bar_first c.args.level c.args.deep (length c.chain.new.out) (length (take c.args.at.len c.args.out.now)) (λ e. search rules) (subst (λ (v : Level). Bars (expr_at v c.args.deep) (NoRoom (length c.chain.new.out) (length (take c.args.at.len c.args.out.now))) (ahead c.args.text.now c.args.at.pos)) c.below.ensures c.in_err-c.ensures.read) })

pub chain-returns : goal.chain-returns
chain-returns ring c =
    let f = c.in_ok-c.ensures.forth in
    let r = c.in_ok-c.ensures.read in
    let t = subst (λ (v : Level). Took (expr_at v c.args.deep) r.tree (ahead c.args.text.now c.args.at.pos) (ahead c.args.text.now c.in_ok-c.c.pos)) c.below.ensures r.took in
    record {
      forth = further_on c.more.result 1 c.args.at c.in_ok-c.c _ _ (length c.args.out.now) c.chain.auto.out c.more.ensures.forth f.0 f.2;
      read = chain_read c.args.level c.args.deep r.tree c.args.text.now c.args.at.pos (take c.args.at.len c.args.out.now) c.in_ok-c.c c.more.new.out c.more.result (λ e. search rules) t (c.more.ensures.read (take c.args.at.len c.args.out.now) r.tree r.words);
    }

pub more-returns-in_default : goal.more-returns-in_default
more-returns-in_default ring c =
    let f = c.token_at-found.ensures.forth in
    record {
      forth = (omega (arith, f.after), omega (arith, f.order, f.within c.requires.within), omega arith, c.requires.room);
      read = λ pre e h. record { tree = e; took = subst (λ (x : Lexed). Took (more_at c.args.level c.args.deep e) e (ahead c.args.text.now c.args.at.pos) x) (sym c.token_at-found.ensures.start) (more_none c.args.level c.args.deep e c.token_at-found.result.token _ _ _ c.token_at-found.ensures.ahead (stop_end c.args.text.now c.args.at.pos c.token_at-found.result f) (sym c.joins.ensures ∙ none_of c.joins.result c.in_default.not-Some)); words = h };
    }

pub more-returns-in_err-c : goal.more-returns-in_err-c
more-returns-in_err-c ring c =
    let q = err_from_is_err_and c.from_residual.result c.from_residual.ensures.1 in
    let j = joined c.args.level c.token_at-found.result.token c.in-Some.operator (sym c.joins.ensures ∙ c.in-Some.is) in
    let a = op_ahead c.args.text.now c.args.at.pos c.token_at-found.result c.in-Some.operator c.token_at-found.ensures.ahead j.token_is in
    rw q.1 (record { forth = tt; read = λ pre e h. more_bar_right c.args.level c.args.deep (length c.chain.new.out) (length pre) (length (take c.args.at.len c.args.out.now)) c.in-Some.operator e j.joins_by a (ap length h ∙ (length-append pre (code_of e) ∙ ap (λ (x : ℕ). length pre + x) (code_length e))) (subst (λ (v : Level). Bars (expr_at v c.args.deep) (NoRoom (length c.chain.new.out) (length (take c.args.at.len c.args.out.now))) (ahead c.args.text.now c.token_at-found.result.next)) c.below.ensures c.in_err-c.ensures.read) })

pub more-returns-in_err-room : goal.more-returns-in_err-room
more-returns-in_err-room ring c =
    let j = joined c.args.level c.token_at-found.result.token c.in-Some.operator (sym c.joins.ensures ∙ c.in-Some.is) in
    let a = op_ahead c.args.text.now c.args.at.pos c.token_at-found.result c.in-Some.operator c.token_at-found.ensures.ahead j.token_is in
    let f = c.in_ok-c.ensures.forth in
    let r = c.in_ok-c.ensures.read in
    let t = subst (λ (v : Level). Took (expr_at v c.args.deep) r.tree (ahead c.args.text.now c.token_at-found.result.next) (ahead c.args.text.now c.in_ok-c.c.pos)) c.below.ensures r.took in
    let q = err_from_is_err_and c.from_residual-in_err-room.result c.from_residual-in_err-room.ensures.1 in
    rw q.1 (record {
      forth = tt;
      read = λ pre e h.
          let la = words_long c.args.out.now pre e c.args.at.len h c.requires.room in
          let lb = words_long c.chain.new.out (take c.args.at.len c.args.out.now) r.tree c.in_ok-c.c.len r.words (omega (arith, f.3, c.chain.auto.out)) in
          let lt = length-take-le c.args.at.len c.args.out.now c.requires.room in
          let bs = build_size c.in-Some.operator e r.tree in
          more_bar_here c.args.level c.args.deep (length c.chain.new.out) (length pre) c.in-Some.operator e r.tree j.joins_by a t (omega (arith, c.in_err-room.ensures));
    })

pub more-returns : goal.more-returns
more-returns ring c =
    let j = joined c.args.level c.token_at-found.result.token c.in-Some.operator (sym c.joins.ensures ∙ c.in-Some.is) in
    let a = op_ahead c.args.text.now c.args.at.pos c.token_at-found.result c.in-Some.operator c.token_at-found.ensures.ahead j.token_is in
    let f = c.in_ok-c.ensures.forth in
    let r = c.in_ok-c.ensures.read in
    let t = subst (λ (v : Level). Took (expr_at v c.args.deep) r.tree (ahead c.args.text.now c.token_at-found.result.next) (ahead c.args.text.now c.in_ok-c.c.pos)) c.below.ensures r.took in
    let fm = c.more.ensures.forth in
    let ft = c.token_at-found.ensures.forth in
    record {
      forth = further_on c.more.result 0 c.args.at _ _ _ (length c.args.out.now) (c.unit.auto.out ∙ c.chain.auto.out) c.more.ensures.forth (omega (arith, ft.after, ft.order, f.0)) (omega (arith, f.2));
      read = λ pre e h.
          let lb = words_long c.chain.new.out (take c.args.at.len c.args.out.now) r.tree c.in_ok-c.c.len r.words (omega (arith, f.3, c.chain.auto.out)) in
          let lt = length-take-le c.args.at.len c.args.out.now c.requires.room in
          let k : c.from.result ≡ kind_of c.in-Some.operator = c.from.ensures in
          let u : (c.in_ok-c.c.len - c.args.at.len) / 4 ≡ expr_size r.tree = units_are c.in_ok-c.c.len c.args.at.len (expr_size r.tree) (lb ∙ ap (λ (x : ℕ). x + 4 * expr_size r.tree) lt) in
          let w : take (c.in_ok-c.c.len + 4) c.unit.new.out ≡ pre ++ code_of (build c.in-Some.operator e r.tree) =
          pair_words c.unit.new.out c.chain.new.out c.args.out.now pre c.in-Some.operator e r.tree c.args.at.len c.in_ok-c.c.len _ h r.words (subst (λ (x : ℕ). take (c.in_ok-c.c.len + 4) c.unit.new.out ≡ take c.in_ok-c.c.len c.chain.new.out ++ (x ∷ ((c.in_ok-c.c.len - c.args.at.len) / 4) ∷ 0 ∷ 0 ∷ [])) k c.unit.ensures) u in
          more_read c.args.level c.args.deep c.in-Some.operator e r.tree c.args.text.now c.args.at.pos c.token_at-found.result.next pre c.in_ok-c.c.pos c.more.new.out c.more.result j.joins_by a t (c.more.ensures.read pre (build c.in-Some.operator e r.tree) w);
    }

pub negation-returns-in_err-c : goal.negation-returns-in_err-c
negation-returns-in_err-c ring c =
    let q = err_from_is_err_and c.from_residual.result c.from_residual.ensures.1 in
    rw q.1 (record { forth = tt; read = λ l h. not_bar c.args.deep (length c.unary.new.out) (length (take c.args.at.len c.args.out.now)) h c.in_err-c.ensures.read })

pub negation-returns-in_err-room : goal.negation-returns-in_err-room
negation-returns-in_err-room ring c =
    let f = c.in_ok-c.ensures.forth in
    let r = c.in_ok-c.ensures.read in
    let q = err_from_is_err_and c.from_residual-in_err-room.result c.from_residual-in_err-room.ensures.1 in
    rw q.1 (record {
      forth = tt;
      read = λ l h.
          let lb = words_long c.unary.new.out (take c.args.at.len c.args.out.now) r.tree c.in_ok-c.c.len r.words (omega (arith, f.3, c.unary.auto.out)) in
          let bs = not_size r.tree in
          not_bar_here c.args.deep (length c.unary.new.out) (length (take c.args.at.len c.args.out.now)) r.tree h r.took (omega (arith, c.in_err-room.ensures));
    })

pub negation-returns : goal.negation-returns
negation-returns ring c =
    let f = c.in_ok-c.ensures.forth in
    let r = c.in_ok-c.ensures.read in
    record {
      forth = (omega arith, omega arith, omega arith, omega (arith, f.3, c.unary.auto.out));
      read = λ l h. record { tree = Not r.tree; took = not_took c.args.deep r.tree h r.took; words = not_words c.unit.new.out c.unary.new.out (take c.args.at.len c.args.out.now) r.tree c.in_ok-c.c.len r.words c.unit.ensures };
    }

pub unary-returns-in-Some-Number : goal.unary-returns-in-Some-Number
unary-returns-in-Some-Number ring c =
    let ft = c.token_at-token.ensures.forth in
    let t = opens_n c.token_at-token.result.token c.in-Some-Number.n (search rules) in
    let a = c.token_at-token.ensures.ahead ∙ ap (λ (x : Token). both (means x (take (c.token_at-token.result.next - c.token_at-token.result.start) (drop c.token_at-token.result.start c.args.text.now))) (ahead c.args.text.now c.token_at-token.result.next)) t in
    let o = onward c.args.at.pos c.token_at-token.result (length c.args.text.now) ft c.requires.within (ap taken t) in
    leaf_read (expr_at Unary c.args.deep) (Lit c.in-Some-Number.n) _ c.in-Some-Number.n c.args.text.now c.args.at c.token_at-token.result.next c.args.out.now c.leaf.new.out c.leaf.result c.leaf.auto.out (number_took c.args.deep c.in-Some-Number.n _ _ a) (lit_code c.in-Some-Number.n) c.requires.room o.0 o.1 c.leaf.ensures

pub unary-returns-in-Some-Variable : goal.unary-returns-in-Some-Variable
unary-returns-in-Some-Variable ring c =
    let ft = c.token_at-token.ensures.forth in
    let t = opens_v c.token_at-token.result.token c.in-Some-Variable.v (search rules) in
    let a = c.token_at-token.ensures.ahead ∙ ap (λ (x : Token). both (means x (take (c.token_at-token.result.next - c.token_at-token.result.start) (drop c.token_at-token.result.start c.args.text.now))) (ahead c.args.text.now c.token_at-token.result.next)) t in
    let o = onward c.args.at.pos c.token_at-token.result (length c.args.text.now) ft c.requires.within (ap taken t) in
    leaf_read (expr_at Unary c.args.deep) (Var c.in-Some-Variable.v) _ c.in-Some-Variable.v c.args.text.now c.args.at c.token_at-token.result.next c.args.out.now c.leaf-in-Some-Variable.new.out c.leaf-in-Some-Variable.result c.leaf-in-Some-Variable.auto.out (variable_took c.args.deep c.in-Some-Variable.v _ _ a) (var_code c.in-Some-Variable.v) c.requires.room o.0 o.1 c.leaf-in-Some-Variable.ensures

pub unary-returns-in-None : goal.unary-returns-in-None
unary-returns-in-None ring c = record { forth = tt; read = nothing_bar c.args.deep _ c.token_at-token.result.token _ _ _ c.token_at-token.ensures.ahead (stop_end c.args.text.now c.args.at.pos c.token_at-token.result c.token_at-token.ensures.forth) (sym c.opens.ensures ∙ c.in-None.is) }
