-- Readers one after the other.
use Rattle.std.proofs.Common.{◌≡◌, ℕ, zero, suc, ◌≤◌, List, [], ◌∷◌, length, sym, ap, subst, arith}
use Rattle.text.specs.Token.{Token, Got, fails, got}
use Rattle.text.specs.Lexer.{Lexed, wrong, tokens, both}
use Rattle.text.specs.Parser.{and_then}
use Rattle.reading.specs.Took.{Family, Took, found, Only, Bars, bars}
use Rattle.reading.specs.Took as took

-- a reader answers so on these tokens, whenever it may call itself often enough
abbrev pub Gives : {A : Type 0} → Family A → List Token → Got A → Type 0
Gives p ts g = (n i : ℕ) → length ts ≤ n → length ts ≤ i → p n i ts ≡ g

abbrev pub Leaves : {A : Type 0} → Family A → (A → Type 0) → List Token → Type 0
Leaves p Big ts = (n i : ℕ) → length ts ≤ n → length ts ≤ i → Only Big (p n i ts)

-- behind one token
pub prefix : {A B : Type 0} (q : Family A) (p : Family B) (t : Token) (a : A) (b : B) {l m k : Lexed} → l ≡ both (tokens (t ∷ [])) m → Took q a m k →
    ((us vs : List Token) → length vs ≤ length us → Gives q us (got a vs) → (n i : ℕ) → length us ≤ n → length us ≤ i → p (suc n) (suc i) (t ∷ us) ≡ got b vs) → Took p b l k
unfolding both
prefix q p t a b h took.Took.lost f = subst (λ (x : Lexed). Took p b x wrong) (sym h) took.Took.lost
prefix q p t a b h (found {ts = us} {us = vs} le g) f = subst (λ (x : Lexed). Took p b x (tokens vs)) (sym h) (found (omega arith) enough)
  where
    enough : (n i : ℕ) → length (t ∷ us) ≤ n → length (t ∷ us) ≤ i → p n i (t ∷ us) ≡ got b vs
    enough zero i j k = absurd (omega arith)
    enough (suc n) zero j k = absurd (omega arith)
    enough (suc n) (suc i) j k = f us vs le g n i (omega arith) (omega arith)

pub prefix_bar : {A B : Type 0} (q : Family A) (p : Family B) (t : Token) (Small : A → Type 0) (Big : B → Type 0) {l m : Lexed} → l ≡ both (tokens (t ∷ [])) m → Bars q Small m →
    ((us : List Token) → Leaves q Small us → (n i : ℕ) → length us ≤ n → length us ≤ i → Only Big (p (suc n) (suc i) (t ∷ us))) → Bars p Big l
unfolding both
prefix_bar q p t Small Big h took.Bars.lost f = subst (λ (x : Lexed). Bars p Big x) (sym h) took.Bars.lost
prefix_bar q p t Small Big h (bars {ts = us} g) f = subst (λ (x : Lexed). Bars p Big x) (sym h) (bars enough)
  where
    enough : (n i : ℕ) → length (t ∷ us) ≤ n → length (t ∷ us) ≤ i → Only Big (p n i (t ∷ us))
    enough zero i j k = absurd (omega arith)
    enough (suc n) zero j k = absurd (omega arith)
    enough (suc n) (suc i) j k = f us g n i (omega arith) (omega arith)

-- behind what another took
pub bind : {A B C : Type 0} (q : Family A) (r : Family B) (p : Family C) (a : A) (b : B) (c : C) {l m k : Lexed} → Took q a l m → Took r b m k →
    ((ts us vs : List Token) → length us ≤ length ts → Gives q ts (got a us) → Gives r us (got b vs) → Gives p ts (got c vs)) → Took p c l k
bind q r p a b c took.Took.lost took.Took.lost f = took.Took.lost
bind q r p a b c (found {ts} {us} le g) (found {us = vs} le2 h) f = found (omega arith) (f ts us vs le g h)

pub bind_bar : {A B C : Type 0} (q : Family A) (r : Family B) (p : Family C) (a : A) (Small : B → Type 0) (Big : C → Type 0) {l m : Lexed} → Took q a l m → Bars r Small m →
    ((ts us : List Token) → length us ≤ length ts → Gives q ts (got a us) → Leaves r Small us → Leaves p Big ts) → Bars p Big l
bind_bar q r p a Small Big took.Took.lost took.Bars.lost f = took.Bars.lost
bind_bar q r p a Small Big (found {ts} {us} le g) (bars h) f = bars (f ts us le g h)

-- the same reader by another name
pub rename : {A B : Type 0} (q : Family A) (p : Family B) (a : A) (b : B) {l m : Lexed} → Took q a l m → ((ts us : List Token) → Gives q ts (got a us) → Gives p ts (got b us)) → Took p b l m
rename q p a b took.Took.lost f = took.Took.lost
rename q p a b (found {ts} {us} le g) f = found le (f ts us g)

pub rename_bar : {A B : Type 0} (q : Family A) (p : Family B) (Small : A → Type 0) (Big : B → Type 0) {l : Lexed} → Bars q Small l → ((ts : List Token) → Leaves q Small ts → Leaves p Big ts) → Bars p Big l
rename_bar q p Small Big took.Bars.lost f = took.Bars.lost
rename_bar q p Small Big (bars {ts} g) f = bars (f ts g)

-- what is taken is taken, and is too large
pub took_bar : {A B : Type 0} (q : Family A) (p : Family B) (a : A) (Big : B → Type 0) {l m : Lexed} → Took q a l m → ((ts us : List Token) → length us ≤ length ts → Gives q ts (got a us) → Leaves p Big ts) → Bars p Big l
took_bar q p a Big took.Took.lost f = took.Bars.lost
took_bar q p a Big (found {ts} {us} le g) f = bars (f ts us le g)

-- from the first reader's answer to that of both
pub only_then : {A B : Type 0} (Small : A → Type 0) (Big : B → Type 0) (g : Got A) (f : A → List Token → Got B) → Only Small g → ((a : A) (us : List Token) → Small a → Only Big (f a us)) → Only Big (and_then g f)
unfolding and_then
only_then Small Big fails f h k = tt
only_then Small Big (got a us) f h k = k a us h

pub only_at_lem : {A : Type 0} (Big : A → Type 0) (g h : Got A) → g ≡ h → Only Big h → Only Big g
only_at_lem {A} Big g h e k = subst (λ (x : Got A). Only Big x) (sym e) k

pub and_at : {A B : Type 0} (g : Got A) (a : A) (us : List Token) (f : A → List Token → Got B) → g ≡ got a us → and_then g f ≡ f a us
unfolding and_then
and_at {A} {B} g a us f h = ap (λ (x : Got A). and_then x f) h
