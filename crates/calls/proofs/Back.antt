-- What was written is read back.
use Rattle.std.proofs.Common.{◌≡◌, ℕ, ◌+◌, ◌*◌, ◌/◌, ◌%◌, ◌<◌, Bool, true, false, List, [], ◌∷◌, ◌++◌, length, drop, Some, None, sym, refl, ap, ◌∙◌, append-nil, arith, length-append}
use native.Mathlib.Nat.{div-div-eq-div-mul}
use lib.Seq.{take-append_seam, drop-append_seam}
use Rattle.calls.specs.Bytes.{two_at, four_at, eight_at, numbers, eights, fours, words_in, kinds_in, two_bytes, four_bytes, eight_bytes, all_of, all_eight, all_four}
use Rattle.calls.specs.Parts.{front, cut_in, short_in, long_in, many_in}
use Rattle.calls.specs.Raw.{Raw, Start', Tell', Cancel', Take', Longer', Report', Show', Forget', Time', raw_bytes, raw_in, kind_in, bit, only_key, keyed, start_key, start_plan, start_words, tell_key, tell_name, take_kinds}
use Rattle.calls.specs.Stands.{Below, StartIn, TellIn, TakeIn, TryIn, ReadsBack}
use Rattle.calls.proofs.Cuts.{at_least}
use Rattle.calls.proofs.Puts.{length_all_eight}

pub two_back : (n : ℕ) (r : List ℕ) → n < 65536 → two_at (two_bytes n ++ r) 0 ≡ n
two_back n r h = omega arith

pub four_back : (n : ℕ) (r : List ℕ) → n < 4294967296 → four_at (four_bytes n ++ r) 0 ≡ n
four_back n r h =
    let p : n / 256 / 256 ≡ n / 65536 = div-div-eq-div-mul n 256 256 in
    let q : n / 256 / 256 / 256 ≡ n / 16777216 = div-div-eq-div-mul (n / 256) 256 256 ∙ div-div-eq-div-mul n 256 65536 in
    let a : n ≡ 256 * (n / 256) + n % 256 = omega arith in
    let b : n / 256 ≡ 256 * (n / 65536) + n / 256 % 256 = omega arith in
    let c : n / 65536 ≡ 256 * (n / 16777216) + n / 65536 % 256 = omega arith in
    let d : n / 16777216 % 256 ≡ n / 16777216 = omega arith in
    omega (arith, a, b, c, d)

pub eight_back : (n : ℕ) (r : List ℕ) → n < 18446744073709551616 → eight_at (eight_bytes n ++ r) 0 ≡ n
eight_back n r h =
    let a : n / 4294967296 < 4294967296 = omega arith in
    let b : n % 4294967296 < 4294967296 = omega arith in
    let e = four_back (n / 4294967296) [] a in
    let g = four_back (n % 4294967296) [] b in
    ap (λ x. x * 4294967296 + four_at (four_bytes (n % 4294967296) ++ []) 0) e ∙ (ap (λ x. n / 4294967296 * 4294967296 + x) g ∙ (let q : n / 4294967296 * 4294967296 + n % 4294967296 ≡ n = omega arith in q))

pub cut_back : (k r : List ℕ) → cut_in (length k) (k ++ r) ≡ Some (record { part = k; rest = r })
cut_back k r =
    let l = length-append k r in
    at_least (length k) (k ++ r) (Some (front (length k) (k ++ r))) None (omega arith)
    ∙ (ap (λ p. Some (record { part = p; rest = drop (length k) (k ++ r) })) (take-append_seam k r) ∙ ap (λ q. Some (record { part = k; rest = q })) (drop-append_seam k r))

pub short_back : (k r : List ℕ) → short_in (length k ∷ (k ++ r)) ≡ Some (record { part = k; rest = r })
short_back k r = at_least 1 (length k ∷ (k ++ r)) (cut_in (length k) (k ++ r)) None (omega arith) ∙ cut_back k r

pub long_back : (t r : List ℕ) → length t < 4294967296 → long_in (four_bytes (length t) ++ (t ++ r)) ≡ Some (record { part = t; rest = r })
long_back t r h =
    at_least 4 (four_bytes (length t) ++ (t ++ r)) (cut_in (four_at (four_bytes (length t) ++ (t ++ r)) 0) (t ++ r)) None (omega arith)
    ∙ (ap (λ n. cut_in n (t ++ r)) (four_back (length t) (t ++ r) h) ∙ cut_back t r)

pub many_back : (size n : ℕ) (b r : List ℕ) → length b ≡ size * n → many_in size (n ∷ (b ++ r)) ≡ Some (record { part = b; rest = r })
many_back size n b r e =
    at_least 1 (n ∷ (b ++ r)) (cut_in (size * n) (b ++ r)) None (omega arith)
    ∙ (ap (λ m. cut_in m (b ++ r)) (sym e) ∙ cut_back b r)

-- words, one behind the other
pub eights_back : (ws : List ℕ) → Below 18446744073709551616 ws → eights (length ws) (all_eight ws) ≡ ws
unfolding numbers all_of Below
eights_back [] h = refl
eights_back (x ∷ xs) h = ap (λ y. y ∷ eights (length xs) (all_eight xs)) (eight_back x (all_eight xs) h.0) ∙ ap (λ ys. x ∷ ys) (eights_back xs h.1)

pub fours_back : (ws : List ℕ) → Below 4294967296 ws → fours (length ws) (all_four ws) ≡ ws
unfolding numbers all_of Below
fours_back [] h = refl
fours_back (x ∷ xs) h = ap (λ y. y ∷ fours (length xs) (all_four xs)) (four_back x (all_four xs) h.0) ∙ ap (λ ys. x ∷ ys) (fours_back xs h.1)

pub length_all_four : (xs : List ℕ) → length (all_four xs) ≡ 4 * length xs
unfolding all_of
length_all_four [] = refl
length_all_four (x ∷ xs) = let h = length_all_four xs in omega arith

words_back : (ws : List ℕ) → Below 18446744073709551616 ws → words_in (all_eight ws) ≡ ws
words_back ws h =
    let l = length_all_eight ws in
    let e : length (all_eight ws) / 8 ≡ length ws = omega arith in
    ap (λ n. eights n (all_eight ws)) e ∙ eights_back ws h

kinds_back : (ws : List ℕ) → Below 4294967296 ws → kinds_in (all_four ws) ≡ ws
kinds_back ws h =
    let l = length_all_four ws in
    let e : length (all_four ws) / 4 ≡ length ws = omega arith in
    ap (λ n. fours n (all_four ws)) e ∙ fours_back ws h

at_kind : (n : ℕ) (f : List ℕ) → raw_in (n ∷ f) ≡ kind_in n f
at_kind n f = at_least 1 (n ∷ f) (kind_in n f) None (omega arith)

alone : (k : List ℕ) → only_key (short_in (length k ∷ k)) ≡ Some k
alone k = ap (λ x. only_key (short_in (length k ∷ x))) (sym (append-nil k)) ∙ ap only_key (short_back k [])

start_back : (k t ws : List ℕ) → StartIn k t ws → kind_in 1 (length k ∷ (k ++ (four_bytes (length t) ++ (t ++ (length ws ∷ all_eight ws))))) ≡ Some (Start' k t ws)
unfolding kind_in
start_back k t ws h =
    ap start_key (short_back k (four_bytes (length t) ++ (t ++ (length ws ∷ all_eight ws))))
    ∙ (ap (start_plan k) (long_back t (length ws ∷ all_eight ws) h.few)
    ∙ (ap (λ x. start_words k t (many_in 8 (length ws ∷ x))) (sym (append-nil (all_eight ws)))
    ∙ (ap (start_words k t) (many_back 8 (length ws) (all_eight ws) [] (length_all_eight ws))
    ∙ ap (λ x. Some (Start' k t x)) (words_back ws h.words))))

tell_back : (k n : List ℕ) (v : ℕ) → TellIn k n v → kind_in 2 (length k ∷ (k ++ (length n ∷ (n ++ eight_bytes v)))) ≡ Some (Tell' k n v)
unfolding kind_in
tell_back k n v h =
    ap tell_key (short_back k (length n ∷ (n ++ eight_bytes v)))
    ∙ (ap (tell_name k) (short_back n (eight_bytes v))
    ∙ ap (λ x. Some (Tell' k n x)) (eight_back v [] h.value))

take_back : (ks : List ℕ) (ms : ℕ) → TakeIn ks ms → kind_in 4 (length ks ∷ (all_four ks ++ four_bytes ms)) ≡ Some (Take' ks ms)
unfolding kind_in
take_back ks ms h =
    ap take_kinds (many_back 4 (length ks) (all_four ks) (four_bytes ms) (length_all_four ks))
    ∙ (ap (λ x. Some (Take' x (four_at (four_bytes ms) 0))) (kinds_back ks h.kinds)
    ∙ ap (λ x. Some (Take' ks x)) (four_back ms [] h.ms))

longer_back : (f s a ms : ℕ) → TryIn f s a → ms < 4294967296 → kind_in 5 (eight_bytes f ++ (eight_bytes s ++ (two_bytes a ++ four_bytes ms))) ≡ Some (Longer' f s a ms)
unfolding kind_in
longer_back f s a ms h m =
    ap (λ x. Some (Longer' x (eight_at (eight_bytes s ++ []) 0) (two_at (two_bytes a ++ []) 0) (four_at (four_bytes ms ++ []) 0))) (eight_back f [] h.flow)
    ∙ (ap (λ x. Some (Longer' f x (two_at (two_bytes a ++ []) 0) (four_at (four_bytes ms ++ []) 0))) (eight_back s [] h.step)
    ∙ (ap (λ x. Some (Longer' f s x (four_at (four_bytes ms ++ []) 0))) (two_back a [] h.attempt)
    ∙ ap (λ x. Some (Longer' f s a x)) (four_back ms [] m)))

report_back : (f s a : ℕ) (w : Bool) (v : ℕ) → TryIn f s a → v < 18446744073709551616 → kind_in 6 (eight_bytes f ++ (eight_bytes s ++ (two_bytes a ++ (bit w ∷ eight_bytes v)))) ≡ Some (Report' f s a w v)
unfolding kind_in
report_back f s a true v h m =
    ap (λ x. Some (Report' x (eight_at (eight_bytes s ++ []) 0) (two_at (two_bytes a ++ []) 0) true (eight_at (eight_bytes v ++ []) 0))) (eight_back f [] h.flow)
    ∙ (ap (λ x. Some (Report' f x (two_at (two_bytes a ++ []) 0) true (eight_at (eight_bytes v ++ []) 0))) (eight_back s [] h.step)
    ∙ (ap (λ x. Some (Report' f s x true (eight_at (eight_bytes v ++ []) 0))) (two_back a [] h.attempt)
    ∙ ap (λ x. Some (Report' f s a true x)) (eight_back v [] m)))
report_back f s a false v h m =
    ap (λ x. Some (Report' x (eight_at (eight_bytes s ++ []) 0) (two_at (two_bytes a ++ []) 0) false (eight_at (eight_bytes v ++ []) 0))) (eight_back f [] h.flow)
    ∙ (ap (λ x. Some (Report' f x (two_at (two_bytes a ++ []) 0) false (eight_at (eight_bytes v ++ []) 0))) (eight_back s [] h.step)
    ∙ (ap (λ x. Some (Report' f s x false (eight_at (eight_bytes v ++ []) 0))) (two_back a [] h.attempt)
    ∙ ap (λ x. Some (Report' f s a false x)) (eight_back v [] m)))

key_back : (c : List ℕ → Raw) (k : List ℕ) → keyed c (only_key (short_in (length k ∷ k))) ≡ Some (c k)
key_back c k = ap (keyed c) (alone k)

cancel_back : (k : List ℕ) → kind_in 3 (length k ∷ k) ≡ Some (Cancel' k)
unfolding kind_in
cancel_back k = key_back Cancel' k

show_back : (k : List ℕ) → kind_in 7 (length k ∷ k) ≡ Some (Show' k)
unfolding kind_in
show_back k = key_back Show' k

forget_back : (k : List ℕ) → kind_in 8 (length k ∷ k) ≡ Some (Forget' k)
unfolding kind_in
forget_back k = key_back Forget' k

time_back : (t : ℕ) → t < 18446744073709551616 → kind_in 9 (eight_bytes t) ≡ Some (Time' t)
unfolding kind_in
time_back t h = ap (λ x. Some (Time' x)) (eight_back t [] h)

pub reads_back : ReadsBack
unfolding raw_bytes
reads_back (Start' k t ws) h = at_kind 1 _ ∙ start_back k t ws h
reads_back (Tell' k n v) h = at_kind 2 _ ∙ tell_back k n v h
reads_back (Cancel' k) h = at_kind 3 _ ∙ cancel_back k
reads_back (Take' ks ms) h = at_kind 4 _ ∙ take_back ks ms h
reads_back (Longer' f s a ms) h = at_kind 5 _ ∙ longer_back f s a ms h.0 h.1
reads_back (Report' f s a w v) h = at_kind 6 _ ∙ report_back f s a w v h.0 h.1
reads_back (Show' k) h = at_kind 7 _ ∙ show_back k
reads_back (Forget' k) h = at_kind 8 _ ∙ forget_back k
reads_back (Time' t) h = at_kind 9 _ ∙ time_back t h
