-- What was written is read, and is words. Assumes nothing.
use Rattle.std.proofs.Common.{◌≡◌, ℕ, zero, suc, ◌<◌, true, cond, ◌&&◌, eqb, ltb, List, [], ◌∷◌, ◌++◌, length, take, drop, Some, None, Ok, Option, Result, sym, refl, ap, ◌∙◌, arith, length-append, take_at, drop_at}
use Rattle.std.proofs.lemmas.Bool.{and_from, le-leb, lt-ltb, cond-true}
use Rattle.plans.specs.declared.eval.Damaged.{Damaged}
use Rattle.runs.specs.declared.step.Phase.{Phase}
use Rattle.runs.specs.declared.step.Phase.TheVariants.{Busy, Tasked, Asleep, Listens, Ended, Failed}
use Rattle.pages.specs.declared.flow.Standing.{Standing}
use Rattle.pages.specs.declared.flow.Standing.TheVariants.{Due, Out}
use Rattle.pages.specs.declared.flow.Task.{Task}
use Rattle.pages.specs.declared.flow.Flow.{Flow}
use Rattle.runs.specs.Steps.{fill}
use Rattle.pages.specs.Page.{damaged, fair, agree, task_as, task_in, with_task, with_phase, decode_of, zeros, place_words, tag_of, since_of, task_words, encode_of}
use Rattle.pages.specs.Sound.{TaskOk, PhaseOk, Agree, DecodesEncoded, EncodesPage, Small, PhaseFits, StandingFits, FitsTask, EncodesSmall}

pub fair_ok : (t : Task) → TaskOk t → fair t ≡ true
fair_ok t k = and_from _ _ (le-leb _ _ k.count) (and_from _ _ (le-leb _ _ k.first) (and_from _ _ (le-leb _ _ k.attempt) (and_from _ _ (le-leb _ _ k.tries) (and_from _ _ (le-leb _ _ k.pause) (lt-ltb _ _ k.kind)))))

pub agree_ok : (p : Phase) (t : Option Task) → Agree p t → agree p t ≡ true
agree_ok Busy None k = refl
agree_ok Busy (Some t) k = absurd k
agree_ok (Tasked s) None k = absurd k
agree_ok (Tasked s) (Some t) k = refl
agree_ok (Asleep u) None k = refl
agree_ok (Asleep u) (Some t) k = absurd k
agree_ok (Listens v w n u) None k = refl
agree_ok (Listens v w n u) (Some t) k = absurd k
agree_ok (Ended v) None k = refl
agree_ok (Ended v) (Some t) k = absurd k
agree_ok Failed None k = refl
agree_ok Failed (Some t) k = absurd k

pub agreed_task : (p : Phase) (t : Task) → Agree p (Some t) → TaskOk t
agreed_task Busy t k = absurd k
agreed_task (Tasked s) t k = k
agreed_task (Asleep u) t k = absurd k
agreed_task (Listens v w n u) t k = absurd k
agreed_task (Ended v) t k = absurd k
agreed_task Failed t k = absurd k

-- behind a head of eight words
abbrev page : (a b c d e h s i : ℕ) → Option Task → List ℕ → List ℕ
page a b c d e h s i t vars = a ∷ b ∷ c ∷ d ∷ e ∷ h ∷ s ∷ i ∷ (task_words t ++ (vars ++ zeros 32))

abbrev whole : Phase → (h s i : ℕ) → Option Task → List ℕ → Flow
whole p h s i t vars = record { place = record { phase = p; here = h; steps = s; into = i }; vars = vars; task = t }

with_args : Task → List ℕ → Task
with_args t a = record { kind = t.kind; args = a; count = t.count; attempt = t.attempt; tries = t.tries; pause = t.pause; standing = t.standing }

tested : Task → Result (Option Task) Damaged
tested t = cond (fair t) (Ok (Some t)) damaged

task_as_lem : (a b c d e h s i : ℕ) (t : Task) (vars : List ℕ) → TaskOk t → task_as (page a b c d e h s i (Some t) vars) t.standing ≡ Ok (Some t)
unfolding task_words task_as with_args tested
task_as_lem a b c d e h s i t vars k =
    let first : take 16 (t.args ++ (vars ++ zeros 32)) ≡ t.args = take_at t.args (vars ++ zeros 32) 16 k.full in
    let same : fill (take t.count (take 16 (t.args ++ (vars ++ zeros 32)))) ≡ t.args = ap (λ (l : List ℕ). fill (take t.count l)) first ∙ sym k.args in
    ap (λ (l : List ℕ). tested (with_args t l)) same ∙ cond-true (fair t) _ _ (fair_ok t k)

by_tag : (ws : List ℕ) (q : Standing) (r : Result (Option Task) Damaged) → task_as ws q ≡ r → cond (eqb (tag_of q) 0) (Ok None) (cond (eqb (tag_of q) 1) (task_as ws (Due (since_of q))) (cond (eqb (tag_of q) 2) (task_as ws (Out (since_of q))) damaged)) ≡ r
by_tag ws (Due x) r k = k
by_tag ws (Out x) r k = k

task_in_lem : (a b c d e h s i : ℕ) (p : Phase) (t : Option Task) (vars : List ℕ) → Agree p t → task_in (page a b c d e h s i t vars) ≡ Ok t
unfolding task_words
task_in_lem a b c d e h s i p None vars k = refl
task_in_lem a b c d e h s i p (Some t) vars k = by_tag (page a b c d e h s i (Some t) vars) t.standing (Ok (Some t)) (task_as_lem a b c d e h s i t vars (agreed_task p t k))

vars_in : (a b c d e h s i : ℕ) (p : Phase) (t : Option Task) (vars : List ℕ) → length vars ≡ 64 → Agree p t → take 64 (drop 32 (page a b c d e h s i t vars)) ≡ vars
unfolding task_words
vars_in a b c d e h s i p None vars n k = take_at vars (zeros 32) 64 n
vars_in a b c d e h s i p (Some t) vars n k = ap (take 64) (drop_at t.args (vars ++ zeros 32) 16 (agreed_task p t k).full) ∙ take_at vars (zeros 32) 64 n

rest : (a b c d e h s i : ℕ) (p : Phase) (t : Option Task) (vars : List ℕ) → length vars ≡ 64 → i < 64 → Agree p t → with_phase (page a b c d e h s i t vars) (Ok p) ≡ Ok (whole p h s i t vars)
unfolding with_phase with_task
rest a b c d e h s i p t vars n l k =
    ap (with_task (page a b c d e h s i t vars) p) (task_in_lem a b c d e h s i p t vars k)
    ∙ cond-true _ _ _ (and_from (ltb i 64) _ (lt-ltb _ _ l) (agree_ok p t k))
    ∙ ap (λ (v : List ℕ). Ok (whole p h s i t v)) (vars_in a b c d e h s i p t vars n k)

pub decodes_encoded : DecodesEncoded
unfolding decode_of encode_of
decodes_encoded f k = go f.place.phase f.task k.phase k.task
  where
    h : ℕ
    h = f.place.here

    s : ℕ
    s = f.place.steps

    i : ℕ
    i = f.place.into

    go : (p : Phase) (t : Option Task) → PhaseOk p → Agree p t → decode_of (place_words p h s i ++ (task_words t ++ (f.vars ++ zeros 32))) ≡ Ok (whole p h s i t f.vars)
    go Busy t o a = rest 0 0 0 0 0 h s i Busy t f.vars k.vars k.into a
    go (Tasked x) t o a = rest 1 x 0 0 0 h s i (Tasked x) t f.vars k.vars k.into a
    go (Asleep x) t o a = rest 2 x 0 0 0 h s i (Asleep x) t f.vars k.vars k.into a
    go (Listens v w n u) t o a = ap (with_phase (page 3 v w n u h s i t f.vars)) (cond-true (ltb v 64 && ltb w 64) (Ok (Listens v w n u)) damaged (and_from _ _ (lt-ltb _ _ o.0) (lt-ltb _ _ o.1))) ∙ rest 3 v w n u h s i (Listens v w n u) t f.vars k.vars k.into a
    go (Ended x) t o a = rest 4 x 0 0 0 h s i (Ended x) t f.vars k.vars k.into a
    go Failed t o a = rest 5 0 0 0 0 h s i Failed t f.vars k.vars k.into a

-- how long a page is
place_long : (p : Phase) (h s i : ℕ) → length (place_words p h s i) ≡ 8
place_long Busy h s i = refl
place_long (Tasked k) h s i = refl
place_long (Asleep u) h s i = refl
place_long (Listens v w n u) h s i = refl
place_long (Ended v) h s i = refl
place_long Failed h s i = refl

task_long : (p : Phase) (t : Option Task) → Agree p t → length (task_words t) ≡ 24
unfolding task_words
task_long p None k = refl
task_long p (Some t) k = let n : length t.args ≡ 16 = (agreed_task p t k).full in omega arith

pub encodes_page : EncodesPage
unfolding encode_of
encodes_page f k =
    let p : List ℕ = place_words f.place.phase f.place.here f.place.steps f.place.into in
    let t : List ℕ = task_words f.task in
    let v : List ℕ = f.vars ++ zeros 32 in
    omega (arith, length-append p (t ++ v), length-append t v, length-append f.vars (zeros 32), place_long f.place.phase f.place.here f.place.steps f.place.into, task_long f.place.phase f.task k.task, k.vars)

-- words of 64 bits
pub small_append : (xs ys : List ℕ) → Small xs → Small ys → Small (xs ++ ys)
small_append [] ys a b = b
small_append (x ∷ xs) ys a b = (a.0, small_append xs ys a.1 b)

pub small_zeros : (n : ℕ) → Small (zeros n)
small_zeros zero = tt
small_zeros (suc n) = (omega arith, small_zeros n)

place_small : (p : Phase) (h s i : ℕ) → PhaseFits p → h < 18446744073709551616 → s < 18446744073709551616 → i < 18446744073709551616 → Small (place_words p h s i)
place_small Busy h s i k a b c = (omega arith, (omega arith, (omega arith, (omega arith, (omega arith, (a, (b, (c, tt))))))))
place_small (Tasked x) h s i k a b c = (omega arith, (k, (omega arith, (omega arith, (omega arith, (a, (b, (c, tt))))))))
place_small (Asleep x) h s i k a b c = (omega arith, (k, (omega arith, (omega arith, (omega arith, (a, (b, (c, tt))))))))
place_small (Listens v w n u) h s i k a b c = (omega arith, (k.0, (k.1, (k.2, (k.3, (a, (b, (c, tt))))))))
place_small (Ended x) h s i k a b c = (omega arith, (k, (omega arith, (omega arith, (omega arith, (a, (b, (c, tt))))))))
place_small Failed h s i k a b c = (omega arith, (omega arith, (omega arith, (omega arith, (omega arith, (a, (b, (c, tt))))))))

tag_small : (s : Standing) → tag_of s < 18446744073709551616
tag_small (Due a) = omega arith
tag_small (Out u) = omega arith

since_small : (s : Standing) → StandingFits s → since_of s < 18446744073709551616
since_small (Due a) k = k
since_small (Out u) k = k

task_small : (t : Option Task) → FitsTask t → Small (task_words t)
unfolding task_words
task_small None k = small_zeros 24
task_small (Some t) k = (tag_small t.standing, (since_small t.standing k.standing, (k.kind, (k.count, (k.attempt, (k.tries, (k.pause, (omega arith, k.args))))))))

pub encodes_small : EncodesSmall
unfolding encode_of
encodes_small f k = small_append _ _ (place_small f.place.phase f.place.here f.place.steps f.place.into k.phase k.here k.steps k.into) (small_append _ _ (task_small f.task k.task) (small_append f.vars (zeros 32) k.vars (small_zeros 32)))
