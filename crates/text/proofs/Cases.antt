-- Examples, by computing. Assumes nothing.
use Rattle.std.proofs.Common.{◌≡◌, ℕ, Bool, true, List, [], ◌∷◌, ◌++◌, codes, refl}
use Rattle.plans.specs.Plan.{Lit, Var, Plus, Minus, Times, Less, Same, Not, Set, Do, Sleep, Hear, If, While, Guard, Return, FailNow, done, then}
use Rattle.text.specs.Parser.{and_then, on_join, product_op, sum_op, compare_op, more_s, chain_s, code_of, after, after_same, with_number, with_variable, with_name, if_ok, levels, in_bracket, by_word, unary_s, expr_s, closes, args_s, list_s, do_s, hear_s, assign_s, part_s, key_s, stmt_s, ended, block_s, plan_s}
use Rattle.std.specs.Fmt.{digits}
use Rattle.plans.specs.Plan.{every, same_name, size_of, stmt_size, expr_size, sizes}
use Rattle.text.specs.Printer.{wrap, put, put_more, put_args, put_stmt, put_part, bracketed, between, expr_text, more_text, args_text, indent, line_stmt, lines_of, text_of}
use Rattle.text.specs.Lexer.{spell, spell_op, both, or_else, value_from, number_of, key_in, key_of, name_of, variable_of, word_token, ended as endedWord, sign_at, goes, gives, lex, spelled}
use Rattle.text.specs.Text.{nothing, plan, sized, whole, parsed, read_text}

unfoldable pub runs : Bool
unfolding read_text parsed whole sized size_of stmt_size expr_size sizes every same_name spell spell_op both or_else value_from number_of key_in key_of name_of variable_of word_token endedWord sign_at goes gives lex and_then on_join product_op sum_op compare_op more_s chain_s code_of after after_same with_number with_variable with_name if_ok levels in_bracket by_word unary_s expr_s closes args_s list_s do_s hear_s assign_s part_s key_s stmt_s ended block_s plan_s wrap put put_more put_args put_stmt put_part spelled bracketed between expr_text more_text args_text indent line_stmt lines_of digits
runs = true

one_set : read_text 65536 (codes "set v0 = 1 + 2 * v3 - 4 # a remark") ≡ plan (then (Set 0 (Minus (Plus (Lit 1) (Times (Lit 2) (Var 3))) (Lit 4))) done)
unfolding runs
one_set = refl

many : read_text 65536 (codes "v1=do 007(v0,(1<2)*3)tries 3 pause 50 if not v1=0{fail}else{v2,v3=hear go for 100 return v2}")
    ≡ plan (then (Do 1 7 (Var 0 ∷ Times (Less (Lit 1) (Lit 2)) (Lit 3) ∷ []) 3 50) (then (If (Same (Not (Var 1)) (Lit 0)) (then FailNow done) (then (Hear 2 3 (codes "go") (Lit 100)) (then (Return (Var 2)) done))) done))
unfolding runs
many = refl

empty : read_text 65536 (codes " # nothing") ≡ plan done
unfolding runs
empty = refl

no1 : read_text 65536 (codes "set v64 = 1") ≡ nothing
unfolding runs
no1 = refl

no2 : read_text 65536 (codes "set v01 = 1") ≡ nothing
unfolding runs
no2 = refl

no3 : read_text 65536 (codes "v1, v1 = hear go for 1") ≡ nothing
unfolding runs
no3 = refl

no4 : read_text 65536 (codes "v1, v2 = hear for for 1") ≡ nothing
unfolding runs
no4 = refl

no5 : read_text 65536 (codes "set v0 = 18446744073709551616") ≡ nothing
unfolding runs
no5 = refl

rest : read_text 65536 (codes "guard { while v1 { sleep 5 } } else { set v63 = (((v2))) - (1 - 2) }") ≡
    plan (then (Guard (then (While (Var 1) (then (Sleep (Lit 5)) done)) done) (then (Set 63 (Minus (Var 2) (Minus (Lit 1) (Lit 2)))) done)) done)
unfolding runs
rest = refl

-- printed texts
line : List ℕ → List ℕ → List ℕ
line a b = a ++ (10 ∷ b)

lines : text_of (then (Set 0 (Minus (Lit 1) (Minus (Lit 2) (Lit 3)))) (then (While (Less (Var 0) (Times (Plus (Lit 2) (Lit 3)) (Var 2))) (then (Set 1 (Not (Same (Var 1) (Lit 2)))) (then FailNow done))) done)) ≡
    line (codes "set v0 = 1 - (2 - 3)") (line (codes "while v0 < (2 + 3) * v2 {") (line (codes "    set v1 = not (v1 = 2)") (line (codes "    fail") (line (codes "}") []))))
unfolding runs line
lines = refl

tasks : text_of (then (Do 1 7 (Var 0 ∷ Lit 3 ∷ []) 2 10) (then (Do 1 7 [] 1 0) (then (Hear 1 2 (codes "go") (Lit 5)) (then (Guard (then (Sleep (Lit 5)) done) (then (Return (Var 1)) done)) done)))) ≡
    line (codes "v1 = do 7 (v0, 3) tries 2 pause 10") (line (codes "v1 = do 7 () tries 1 pause 0") (line (codes "v1, v2 = hear go for 5")
    (line (codes "guard {") (line (codes "    sleep 5") (line (codes "} else {") (line (codes "    return v1") (line (codes "}") [])))))))
unfolding runs line
tasks = refl

choice : text_of (then (If (Var 0) (then (If (Lit 1) done (then FailNow done)) done) done) done) ≡
    line (codes "if v0 {") (line (codes "    if 1 {") (line (codes "    } else {") (line (codes "        fail") (line (codes "    }") (line (codes "} else {") (line (codes "}") []))))))
unfolding runs line
choice = refl
