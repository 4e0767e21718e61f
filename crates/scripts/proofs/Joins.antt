-- Bytes put behind others.
use Rattle.std.proofs.Common.{◌≡◌, ℕ, ◌+◌, ◌<◌, List, [], ◌∷◌, ◌++◌, length, get_or, take, sym, ap, ◌∙◌, append_assoc, append-nil}
use Rattle.std.proofs.lemmas.List.{take_more}
use Rattle.calls.specs.Bytes.{all_of}
use Rattle.calls.proofs.Puts.{all_append, all_one, all_none}

pub joins : (a p q : List ℕ) {b c : List ℕ} → b ≡ a ++ p → c ≡ b ++ q → c ≡ a ++ (p ++ q)
joins a p q e f = f ∙ (ap (λ x. x ++ q) e ∙ append_assoc a p q)

pub first : {a c q : List ℕ} → a ≡ [] → c ≡ a ++ q → c ≡ q
first {q = q} e f = f ∙ ap (λ x. x ++ q) e

pub none_more : {A : Type 0} (f : A → List ℕ) (a : List ℕ) → a ≡ a ++ all_of f []
none_more f a = sym (ap (λ r. a ++ r) (all_none f) ∙ append-nil a)

pub one_more : {A : Type 0} (f : A → List ℕ) (a b c : List ℕ) (ws : List A) (i : ℕ) (d : A) → i < length ws → b ≡ a ++ all_of f (take i ws) → c ≡ b ++ f (get_or ws i d) → c ≡ a ++ all_of f (take (i + 1) ws)
one_more f a b c ws i d h e g =
    joins a (all_of f (take i ws)) (f (get_or ws i d)) e g ∙ ap (λ r. a ++ r) (sym (ap (all_of f) (take_more ws i d h) ∙ (all_append f (take i ws) (get_or ws i d ∷ []) ∙ ap (λ r. all_of f (take i ws) ++ r) (all_one f (get_or ws i d)))))
