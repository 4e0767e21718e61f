-- The machine on the flat form does what the meaning does, move for move.
use Rattle.std.proofs.Common.{◌≡◌, ℕ, zero, suc, Bool, true, false, cond, ◌&&◌, eqb, List, [], ◌∷◌, length, sym, refl, ap, ◌∙◌, subst, arith}
use Rattle.plans.specs.Plan.{Name, Stmt, Set, Do, Sleep, Hear, If, While, Guard, Return, FailNow, Block, done, then, Frame, Rest, Catch, Phase, Busy, Tasked, Asleep, Listens, Ended, Failed, Word, Wish, Moved, goes_on, ends, still, broken, take_word, listens, value, does, rest_of, step, is_busy, none, further, moves}
use Rattle.plans.specs.Flat.{Way, To, under}
use Rattle.runs.specs.Machine.{Act, Wrong, Op, op, Code, FlatFlow, FlatMoved, fgoes, fends, fstill, fbroken, flistens, fdoes, spent, ffurther, fmoves, after_do, way_of, is_do, FlatStmt, Flat, FlatRest, Stack, Somewhere, Control, as_tree, Follows}

stmt_deep_lem : (code : Code) (a : ℕ) (s : Stmt) (next : ℕ) (way : Way) (u d : ℕ) → FlatStmt code a s next way u d → (code a).deep ≡ d
unfolding FlatStmt
stmt_deep_lem code a (Set v e) next way u d k = ap (λ (o : Op). o.deep) k
stmt_deep_lem code a (Do v kd es t p) next way u d k = ap (λ (o : Op). o.deep) k
stmt_deep_lem code a (Sleep e) next way u d k = ap (λ (o : Op). o.deep) k
stmt_deep_lem code a (Hear v w n e) next way u d k = ap (λ (o : Op). o.deep) k
stmt_deep_lem code a (If e x y) next way u d k = ap (λ (o : Op). o.deep) k.2
stmt_deep_lem code a (While e x) next way u d k = ap (λ (o : Op). o.deep) k.2
stmt_deep_lem code a (Guard x y) next way u d k = ap (λ (o : Op). o.deep) k.3
stmt_deep_lem code a (Return e) next way u d k = ap (λ (o : Op). o.deep) k
stmt_deep_lem code a FailNow next way u d k = ap (λ (o : Op). o.deep) k

pub stack_deep : (code : Code) (a : ℕ) (fs : List Frame) (way : Way) → Stack code a fs way → (code a).deep ≡ length fs
unfolding Stack Flat
stack_deep code a [] way k = ap (λ (o : Op). o.deep) k.0
stack_deep code a (Rest done ∷ fs) way k = ap (λ (o : Op). o.deep) k.1
stack_deep code a (Rest (then s b) ∷ fs) way k = stmt_deep_lem code a s k.1.0 way (under b (length fs)) (suc (length fs)) k.1.1
stack_deep code a (Catch b ∷ fs) way k = ap (λ (o : Op). o.deep) k.3

-- no unit of a plan is Wrong
wrong_not : (o : Op) (d : ℕ) (a : Act) → o ≡ op d a → (a ≡ Wrong → ⊥) → o.act ≡ Wrong → ⊥
wrong_not o d a e n w = n (sym (ap (λ (p : Op). p.act) e) ∙ w)

stmt_right : (code : Code) (a : ℕ) (s : Stmt) (next : ℕ) (way : Way) (u d : ℕ) → FlatStmt code a s next way u d → (code a).act ≡ Wrong → ⊥
unfolding FlatStmt
stmt_right code a (Set v e) next way u d k = wrong_not (code a) d _ k (λ q. let z : ◌≡◌ {A = ℕ} 0 1 = cc in omega arith)
stmt_right code a (Do v kd es t p) next way u d k = wrong_not (code a) d _ k (λ q. let z : ◌≡◌ {A = ℕ} 0 1 = cc in omega arith)
stmt_right code a (Sleep e) next way u d k = wrong_not (code a) d _ k (λ q. let z : ◌≡◌ {A = ℕ} 0 1 = cc in omega arith)
stmt_right code a (Hear v w n e) next way u d k = wrong_not (code a) d _ k (λ q. let z : ◌≡◌ {A = ℕ} 0 1 = cc in omega arith)
stmt_right code a (If e x y) next way u d k = wrong_not (code a) d _ k.2 (λ q. let z : ◌≡◌ {A = ℕ} 0 1 = cc in omega arith)
stmt_right code a (While e x) next way u d k = wrong_not (code a) d _ k.2 (λ q. let z : ◌≡◌ {A = ℕ} 0 1 = cc in omega arith)
stmt_right code a (Guard x y) next way u d k = wrong_not (code a) d _ k.3 (λ q. let z : ◌≡◌ {A = ℕ} 0 1 = cc in omega arith)
stmt_right code a (Return e) next way u d k = wrong_not (code a) d _ k (λ q. let z : ◌≡◌ {A = ℕ} 0 1 = cc in omega arith)
stmt_right code a FailNow next way u d k = wrong_not (code a) d _ k (λ q. let z : ◌≡◌ {A = ℕ} 0 1 = cc in omega arith)

pub stack_right : (code : Code) (a : ℕ) (fs : List Frame) (way : Way) → Stack code a fs way → (code a).act ≡ Wrong → ⊥
unfolding Stack Flat
stack_right code a [] way k = wrong_not (code a) 0 _ k.0 (λ q. let z : ◌≡◌ {A = ℕ} 0 1 = cc in omega arith)
stack_right code a (Rest done ∷ fs) way k = wrong_not (code a) (suc (length fs)) _ k.1 (λ q. let z : ◌≡◌ {A = ℕ} 0 1 = cc in omega arith)
stack_right code a (Rest (then s b) ∷ fs) way k = stmt_right code a s k.1.0 way (under b (length fs)) (suc (length fs)) k.1.1
stack_right code a (Catch b ∷ fs) way k = wrong_not (code a) (suc (length fs)) _ k.3 (λ q. let z : ◌≡◌ {A = ℕ} 0 1 = cc in omega arith)

by : (code : Code) (now : ℕ) (x : FlatFlow) (m : Moved) (o : Op) → code x.here ≡ o → Follows code (fdoes now o.act x) m → Follows code (fdoes now (code x.here).act x) m
by code now x m o e r = subst (λ (p : Op). Follows code (fdoes now p.act x) m) (sym e) r

pub stack_place : (code : Code) (a : ℕ) (fs : List Frame) (way : Way) → Stack code a fs way → Somewhere code a
stack_place code a fs way st = record { frames = fs; way = way; stands = st }

pub goes_follows : (code : Code) (a : ℕ) (fs : List Frame) (f : ℕ → ℕ) (x : FlatFlow) (gs : List Frame) (way : Way) → Stack code a fs way → Follows code (fstill (fgoes a f x)) (still (goes_on fs f (as_tree gs x)))
unfolding Control
goes_follows code a fs f x gs way st = record { flow = record { same = refl; control = (way, st); place = stack_place code a fs way st }; wish = refl }

pub broken_follows : (code : Code) (a : ℕ) (fs : List Frame) (x : FlatFlow) (gs : List Frame) (way : Way) → Stack code a fs way → Somewhere code x.here → Follows code (fstill (fbroken way x)) (still (broken fs (as_tree gs x)))
unfolding Stack broken fbroken Control
broken_follows code a [] x gs way k pl = subst (λ (w : Way). Follows code (fstill (fbroken w x)) (still (ends Failed (as_tree gs x)))) (sym k.1) (record { flow = record { same = refl; control = refl; place = pl }; wish = refl })
broken_follows code a (Rest b ∷ fs) x gs way k pl = broken_follows code k.0 fs x gs way k.2 pl
broken_follows code a (Catch b ∷ fs) x gs way k pl = subst (λ (w : Way). Follows code (fstill (fbroken w x)) (still (goes_on (Rest b ∷ fs) x.vars (as_tree gs x)))) (sym k.4) (goes_follows code k.1 (Rest b ∷ fs) x.vars x gs k.2 (k.0, k.5, k.6))

listens_follows : (code : Code) (v w : ℕ) (n : Name) (u : ℕ) (ws : List Word) (next : ℕ) (fs : List Frame) (x : FlatFlow) (gs : List Frame) (way : Way) → Stack code next fs way → Follows code (fstill (flistens v w n u ws next x)) (still (listens v w n u ws fs (as_tree gs x)))
unfolding listens flistens Control
listens_follows code v w n u [] next fs x gs way st = record { flow = record { same = refl; control = (way, st); place = stack_place code next fs way st }; wish = refl }
listens_follows code v w n u (y ∷ ys) next fs x gs way st = record { flow = record { same = refl; control = (way, st); place = stack_place code next fs way st }; wish = refl }

if_follows : (code : Code) (c : Bool) (y0 n0 : ℕ) (fs : List Frame) (p q : Block) (x : FlatFlow) (gs : List Frame) (way : Way) → Stack code y0 (Rest p ∷ fs) way → Stack code n0 (Rest q ∷ fs) way → Follows code (fstill (fgoes (cond c n0 y0) x.vars x)) (still (goes_on (cond c (Rest q) (Rest p) ∷ fs) x.vars (as_tree gs x)))
if_follows code true y0 n0 fs p q x gs way st su = goes_follows code n0 (Rest q ∷ fs) x.vars x gs way su
if_follows code false y0 n0 fs p q x gs way st su = goes_follows code y0 (Rest p ∷ fs) x.vars x gs way st

while_follows : (code : Code) (c : Bool) (next body : ℕ) (fs hs : List Frame) (x : FlatFlow) (gs : List Frame) (way : Way) → Stack code next fs way → Stack code body hs way → Follows code (fstill (fgoes (cond c next body) x.vars x)) (still (cond c (goes_on fs x.vars (as_tree gs x)) (goes_on hs x.vars (as_tree gs x))))
while_follows code true next body fs hs x gs way st su = goes_follows code next fs x.vars x gs way st
while_follows code false next body fs hs x gs way st su = goes_follows code body hs x.vars x gs way su

does_follows : (code : Code) (now : ℕ) (s : Stmt) (fs : List Frame) (x : FlatFlow) (gs : List Frame) (next : ℕ) (way : Way) (d : ℕ) → Somewhere code x.here → FlatStmt code x.here s next way (length fs) d → Stack code next fs way → Follows code (fdoes now (code x.here).act x) (does now s fs (as_tree gs x))
unfolding does fdoes FlatStmt Flat FlatRest Stack Control under after_do way_of is_do
does_follows code now (Set v e) fs x gs next way d pl k st = by code now x _ _ k (goes_follows code next fs _ x gs way st)
does_follows code now (Do v kd es t p) fs x gs next way d pl k st = by code now x _ _ k (record { flow = record { same = refl; control = (ap (λ (o : Op). is_do o.act) k, subst (λ (o : Op). Stack code (after_do o.act) fs (way_of o.act)) (sym k) st); place = pl }; wish = refl })
does_follows code now (Sleep e) fs x gs next way d pl k st = by code now x _ _ k (record { flow = record { same = refl; control = (way, st); place = stack_place code next fs way st }; wish = refl })
does_follows code now (Hear v w n e) fs x gs next way d pl k st = by code now x _ _ k (listens_follows code v w n _ (take_word n x.box) next fs x gs way st)
does_follows code now (If e p q) fs x gs next way d pl k st = by code now x _ _ k.2 (if_follows code (eqb (value e x.vars) 0) k.0 k.1 fs p q x gs way (next, k.3, st) (next, k.4, st))
does_follows code now (While e p) fs x gs next way d pl k st = by code now x _ _ k.2 (while_follows code (eqb (value e x.vars) 0) next k.0 fs (Rest p ∷ Rest (then (While e p) done) ∷ fs) x gs way st (k.1, k.4, (next, (next, (k.0, k.1, k.3, k.3, k.4), refl), st)))
does_follows code now (Guard p q) fs x gs next way d pl k st = by code now x _ _ k.3 (goes_follows code k.0 (Rest p ∷ Catch q ∷ fs) _ x gs (To k.2) (k.1, k.5, (next, k.2, way, k.4, refl, k.6, st)))
does_follows code now (Return e) fs x gs next way d pl k st = by code now x _ _ k (record { flow = record { same = refl; control = refl; place = pl }; wish = refl })
does_follows code now FailNow fs x gs next way d pl k st = by code now x _ _ k (broken_follows code next fs x gs way st pl)

pub step_follows : (code : Code) (now : ℕ) (fs : List Frame) (x : FlatFlow) (gs : List Frame) (way : Way) → Stack code x.here fs way → Somewhere code x.here → Follows code (fdoes now (code x.here).act x) (step now fs (as_tree gs x))
unfolding step rest_of Stack Flat FlatRest fdoes Control under
step_follows code now [] x gs way k pl = by code now x _ _ k.0 (record { flow = record { same = refl; control = refl; place = pl }; wish = refl })
step_follows code now (Rest done ∷ fs) x gs way k pl = by code now x _ _ k.1 (goes_follows code k.0 fs _ x gs way k.2)
step_follows code now (Rest (then s done) ∷ fs) x gs way k pl = does_follows code now s fs x gs k.1.0 way (suc (length fs)) pl k.1.1 (subst (λ (a : ℕ). Stack code a fs way) (sym k.1.2) k.2)
step_follows code now (Rest (then s (then r b)) ∷ fs) x gs way k pl = does_follows code now s (Rest (then r b) ∷ fs) x gs k.1.0 way (suc (length fs)) pl k.1.1 (k.0, k.1.2, k.2)
step_follows code now (Catch b ∷ fs) x gs way k pl = by code now x _ _ k.3 (goes_follows code k.0 fs _ x gs k.2 k.6)

-- a busy flow stands at its frames
busy_stack : (code : Code) (p : Phase) (a : ℕ) (fs : List Frame) (b : Bool) → is_busy p && b ≡ true → Control code p a fs → (way : Way) × Stack code a fs way
unfolding Control is_busy
busy_stack code Busy a fs b e k = k
busy_stack code (Tasked s) a fs b e k = let z : ◌≡◌ {A = ℕ} 0 1 = cc in absurd (omega arith)
busy_stack code (Asleep u) a fs b e k = k
busy_stack code (Listens v w n u) a fs b e k = k
busy_stack code (Ended v) a fs b e k = let z : ◌≡◌ {A = ℕ} 0 1 = cc in absurd (omega arith)
busy_stack code Failed a fs b e k = let z : ◌≡◌ {A = ℕ} 0 1 = cc in absurd (omega arith)

frame_further : (code : Code) (now : ℕ) (f : FlatFlow) (ws : List Wish) (fs : List Frame) → Control code f.phase f.here fs → Somewhere code f.here → Follows code (ffurther code now (record { flow = f; wish = ws })) (further now (record { flow = as_tree fs f; wish = ws }))
unfolding Control
frame_further code now f ws fs k pl = go (is_busy f.phase && none ws) refl
  where
    at_last : (c : Bool) (way : Way) → Stack code f.here fs way → Follows code (cond c (fstill (fends Failed f)) (fdoes now (code f.here).act f)) (cond c (still (ends Failed (as_tree fs f))) (step now fs (as_tree fs f)))
    at_last true way st = record { flow = record { same = refl; control = refl; place = pl }; wish = refl }
    at_last false way st = step_follows code now fs f fs way st pl

    deeper : (way : Way) → Stack code f.here fs way → Follows code (cond (spent (code f.here).deep f.steps) (fstill (fends Failed f)) (fdoes now (code f.here).act f)) (cond (spent (length fs) f.steps) (still (ends Failed (as_tree fs f))) (step now fs (as_tree fs f)))
    deeper way st = subst (λ (n : ℕ). Follows code (cond (spent n f.steps) (fstill (fends Failed f)) (fdoes now (code f.here).act f)) (cond (spent (length fs) f.steps) (still (ends Failed (as_tree fs f))) (step now fs (as_tree fs f)))) (sym (stack_deep code f.here fs way st)) (at_last (spent (length fs) f.steps) way st)

    go : (b : Bool) → is_busy f.phase && none ws ≡ b → Follows code (cond b (cond (spent (code f.here).deep f.steps) (fstill (fends Failed f)) (fdoes now (code f.here).act f)) (record { flow = f; wish = ws })) (cond b (cond (spent (length fs) f.steps) (still (ends Failed (as_tree fs f))) (step now fs (as_tree fs f))) (record { flow = as_tree fs f; wish = ws }))
    go true e = let q : (way : Way) × Stack code f.here fs way = busy_stack code f.phase f.here fs (none ws) e k in deeper q.0 q.1
    go false e = record { flow = record { same = refl; control = k; place = pl }; wish = refl }

pub further_follows : (code : Code) (now : ℕ) (g : FlatMoved) (m : Moved) → Follows code g m → Follows code (ffurther code now g) (further now m)
further_follows code now g m k = subst (λ (n : Moved). Follows code (ffurther code now g) (further now n)) (sym e) (frame_further code now g.flow g.wish m.flow.frames k.flow.control k.flow.place)
  where
    e : m ≡ record { flow = as_tree m.flow.frames g.flow; wish = g.wish }
    e = λ i. record { flow = k.flow.same i; wish = k.wish i }

pub moves_follows : (code : Code) (n now : ℕ) (g : FlatMoved) (m : Moved) → Follows code g m → Follows code (fmoves code n now g) (moves n now m)
unfolding moves fmoves
moves_follows code zero now g m k = k
moves_follows code (suc n) now g m k = moves_follows code n now (ffurther code now g) (further now m) (further_follows code now g m k)
