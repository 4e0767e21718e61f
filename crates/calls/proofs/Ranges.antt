-- What is read is in range.
use Rattle.std.proofs.Common.{◌≡◌, ℕ, zero, suc, ◌+◌, ◌*◌, ◌/◌, ◌<◌, Bool, true, ◌&&◌, eqb, ltb, leb, List, [], ◌∷◌, ◌++◌, length, get_or, drop, Some, None, Option, sym, refl, ◌∙◌, subst, arith, lt-ltb}
use Rattle.std.proofs.lemmas.Bool.{and_from}
use Rattle.plans.specs.Plan.{every}
use Rattle.text.specs.Text.{Reading, nothing, plan, read_text}
use Rattle.flows.specs.House.{bytes_ok, carried}
use Rattle.calls.specs.Bytes.{two_at, four_at, eight_at, numbers, eights, fours, words_in, kinds_in, four_bytes}
use Rattle.calls.specs.Parts.{Front, cut_in, short_in, long_in, many_in}
use Rattle.calls.specs.Raw.{Raw, Start', Tell', Cancel', Take', Longer', Report', Show', Forget', Time', raw_in, kind_in, only_key, keyed, start_key, start_plan, start_words, tell_key, tell_name, take_kinds, longer_in, report_in, time_in}
use Rattle.calls.specs.Called.{started}
use Rattle.calls.specs.Stands.{Below, Short, StartIn, TryIn, InRange, InRangeOf, AllCarried, CallsCarried}
use Rattle.calls.proofs.Many.{length_numbers}
use Rattle.calls.proofs.Forth.{no_some, opened, byte, below_drop, below_left, below_right, below_tail, four_bound, cut_forth, Many, many_forth, short_forth, long_forth, short_rest, long_rest, keyed_forth, either}

pub below_typed : (f : List ℕ) → ((i : ℕ) → get_or f i 0 < 256) → Below 256 f
unfolding Below
below_typed [] t = tt
below_typed (x ∷ xs) t = (t 0, below_typed xs (λ i. t (suc i)))

below_head : (x : ℕ) (f : List ℕ) → Below 256 (x ∷ f) → x < 256
unfolding Below
below_head x f h = h.0

two_bound : (f : List ℕ) (i : ℕ) → Below 256 f → two_at f i < 65536
two_bound f i h =
    let a = byte f i h in
    let b = byte f (i + 1) h in
    omega arith

big : (x y : ℕ) → x < 4294967296 → y < 4294967296 → x * 4294967296 + y < 18446744073709551616
big x y p q = omega arith

eight_bound : (f : List ℕ) (i : ℕ) → Below 256 f → eight_at f i < 18446744073709551616
eight_bound f i h = big (four_at f i) (four_at f (i + 4)) (four_bound f i h) (four_bound f (i + 4) h)

eights_below : (n : ℕ) (f : List ℕ) → Below 256 f → Below 18446744073709551616 (eights n f)
unfolding Below numbers
eights_below zero f h = tt
eights_below (suc n) f h = (eight_bound f 0 h, eights_below n (drop 8 f) (below_drop 8 f h))

fours_below : (n : ℕ) (f : List ℕ) → Below 256 f → Below 4294967296 (fours n f)
unfolding Below numbers
fours_below zero f h = tt
fours_below (suc n) f h = (four_bound f 0 h, fours_below n (drop 4 f) (below_drop 4 f h))

short_in_lem : (f : List ℕ) (p : Front) → Below 256 f → short_in f ≡ Some p → Short p.part
short_in_lem f p h i =
    let b = subst (Below 256) (sym (short_forth f p i)) h in
    record { few = below_head _ _ b; bytes = below_left p.part p.rest (below_tail _ _ b) }

long_bytes_lem : (f : List ℕ) (p : Front) → Below 256 f → long_in f ≡ Some p → Below 256 p.part
long_bytes_lem f p h i = below_left p.part p.rest (below_right (four_bytes (length p.part)) (p.part ++ p.rest) (subst (Below 256) (sym (long_forth f p h i)) h))

long_few : (f : List ℕ) (p : Front) → Below 256 f → long_in f ≡ Some p → length p.part < 4294967296
long_few f p h i =
    let o = opened (leb 4 (length f)) (cut_in (four_at f 0) (drop 4 f)) p i in
    let c = cut_forth (four_at f 0) (drop 4 f) p o.1 in
    let b = four_bound f 0 h in
    let e = c.0 in
    subst (λ n. n < 4294967296) (sym e) b

many_bytes : (size : ℕ) (f : List ℕ) (p : Front) (m : Many size f p) → Below 256 f → Below 256 (m.n ∷ (p.part ++ p.rest))
many_bytes size f p m h = subst (Below 256) (sym m.is) h

words_range : (k t g : List ℕ) (c : Raw) (o : Option Front) → Short k → length t < 4294967296 → Below 256 t → Below 256 g → many_in 8 g ≡ o → start_words k t o ≡ Some c → InRange c
words_range k t g c None sk lt bt h i e = no_some e
words_range k t g c (Some p) sk lt bt h i e =
    let o = opened (eqb (length p.rest) 0) (Some (Start' k t (words_in p.part))) c e in
    let s = o.1 in
    let q : Start' k t (words_in p.part) ≡ c = cc in
    let m = many_forth 8 g p i in
    let b = many_bytes 8 g p m h in
    let n = below_head m.n (p.part ++ p.rest) b in
    let l = m.len in
    let ll = length_numbers 8 eight_at (length p.part / 8) p.part in
    let d : length p.part / 8 ≡ m.n = omega arith in
    let few : length (words_in p.part) < 256 = subst (λ x. x < 256) (sym (ll ∙ d)) n in
    subst InRange q (record { key = sk; few = lt; bytes = bt; count = few; words = eights_below (length p.part / 8) p.part (below_left p.part p.rest (below_tail _ _ b)) })

plan_range : (k g : List ℕ) (c : Raw) (o : Option Front) → Short k → Below 256 g → long_in g ≡ o → start_plan k o ≡ Some c → InRange c
plan_range k g c None sk h i e = no_some e
plan_range k g c (Some p) sk h i e = words_range k p.part p.rest c (many_in 8 p.rest) sk (long_few g p h i) (long_bytes_lem g p h i) (long_rest g p h i) refl e

start_range : (f : List ℕ) (c : Raw) (o : Option Front) → Below 256 f → short_in f ≡ o → start_key o ≡ Some c → InRange c
start_range f c None h i e = no_some e
start_range f c (Some p) h i e = plan_range p.part p.rest c (long_in p.rest) (short_in_lem f p h i) (short_rest f p h i) refl e

name_range : (k g : List ℕ) (c : Raw) (o : Option Front) → Short k → Below 256 g → short_in g ≡ o → tell_name k o ≡ Some c → InRange c
name_range k g c None sk h i e = no_some e
name_range k g c (Some p) sk h i e =
    let o = opened (eqb (length p.rest) 8) (Some (Tell' k p.part (eight_at p.rest 0))) c e in
    let s = o.1 in
    let q : Tell' k p.part (eight_at p.rest 0) ≡ c = cc in
    subst InRange q (record { key = sk; name = short_in_lem g p h i; value = eight_bound p.rest 0 (short_rest g p h i) })

tell_range : (f : List ℕ) (c : Raw) (o : Option Front) → Below 256 f → short_in f ≡ o → tell_key o ≡ Some c → InRange c
tell_range f c None h i e = no_some e
tell_range f c (Some p) h i e = name_range p.part p.rest c (short_in p.rest) (short_in_lem f p h i) (short_rest f p h i) refl e

take_range : (f : List ℕ) (c : Raw) (o : Option Front) → Below 256 f → many_in 4 f ≡ o → take_kinds o ≡ Some c → InRange c
take_range f c None h i e = no_some e
take_range f c (Some p) h i e =
    let o = opened (eqb (length p.rest) 4) (Some (Take' (kinds_in p.part) (four_at p.rest 0))) c e in
    let s = o.1 in
    let q : Take' (kinds_in p.part) (four_at p.rest 0) ≡ c = cc in
    let m = many_forth 4 f p i in
    let b = many_bytes 4 f p m h in
    let n = below_head m.n (p.part ++ p.rest) b in
    let l = m.len in
    let ll = length_numbers 4 four_at (length p.part / 4) p.part in
    let d : length p.part / 4 ≡ m.n = omega arith in
    let few : length (kinds_in p.part) < 256 = subst (λ x. x < 256) (sym (ll ∙ d)) n in
    let both = below_tail _ _ b in
    subst InRange q (record { count = few; kinds = fours_below (length p.part / 4) p.part (below_left p.part p.rest both); ms = four_bound p.rest 0 (below_right p.part p.rest both) })

try_range : (f : List ℕ) → Below 256 f → TryIn (eight_at f 0) (eight_at f 8) (two_at f 16)
try_range f h = record { flow = eight_bound f 0 h; step = eight_bound f 8 h; attempt = two_bound f 16 h }

longer_range : (f : List ℕ) (c : Raw) → Below 256 f → longer_in f ≡ Some c → InRange c
longer_range f c h e =
    let o = opened (eqb (length f) 22) (Some (Longer' (eight_at f 0) (eight_at f 8) (two_at f 16) (four_at f 18))) c e in
    let s = o.1 in
    let q : Longer' (eight_at f 0) (eight_at f 8) (two_at f 16) (four_at f 18) ≡ c = cc in
    subst InRange q (try_range f h, four_bound f 18 h)

report_range : (f : List ℕ) (c : Raw) → Below 256 f → report_in f ≡ Some c → InRange c
report_range f c h e =
    let o = opened (eqb (length f) 27 && leb (get_or f 18 0) 1) (Some (Report' (eight_at f 0) (eight_at f 8) (two_at f 16) (eqb (get_or f 18 0) 1) (eight_at f 19))) c e in
    let s = o.1 in
    let q : Report' (eight_at f 0) (eight_at f 8) (two_at f 16) (eqb (get_or f 18 0) 1) (eight_at f 19) ≡ c = cc in
    subst InRange q (try_range f h, eight_bound f 19 h)

time_range : (f : List ℕ) (c : Raw) → Below 256 f → time_in f ≡ Some c → InRange c
time_range f c h e =
    let o = opened (eqb (length f) 8) (Some (Time' (eight_at f 0))) c e in
    let s = o.1 in
    let q : Time' (eight_at f 0) ≡ c = cc in
    subst InRange q (eight_bound f 0 h)

-- one key
key_range : (m : List ℕ → Raw) (f : List ℕ) (c : Raw) → ((k : List ℕ) → Short k → InRange (m k)) → Below 256 f → keyed m (only_key (short_in f)) ≡ Some c → InRange c
key_range m f c r h e =
    let k = keyed_forth m f c (only_key (short_in f)) refl e in
    let b = subst (Below 256) (sym k.2) h in
    subst InRange (sym k.1) (r k.0 (record { few = below_head _ _ b; bytes = below_tail _ _ b }))

kind_range : (n : ℕ) (f : List ℕ) (c : Raw) → Below 256 f → kind_in n f ≡ Some c → InRange c
unfolding kind_in
kind_range n f c h e =
    either n 1 _ _ _ e (λ i s. start_range f c (short_in f) h refl s)
    (λ e2. either n 2 _ _ _ e2 (λ i s. tell_range f c (short_in f) h refl s)
    (λ e3. either n 3 _ _ _ e3 (λ i s. key_range Cancel' f c (λ k r. r) h s)
    (λ e4. either n 4 _ _ _ e4 (λ i s. take_range f c (many_in 4 f) h refl s)
    (λ e5. either n 5 _ _ _ e5 (λ i s. longer_range f c h s)
    (λ e6. either n 6 _ _ _ e6 (λ i s. report_range f c h s)
    (λ e7. either n 7 _ _ _ e7 (λ i s. key_range Show' f c (λ k r. r) h s)
    (λ e8. either n 8 _ _ _ e8 (λ i s. key_range Forget' f c (λ k r. r) h s)
    (λ e9. either n 9 _ _ _ e9 (λ i s. time_range f c h s) no_some))))))))

raw_range : (f : List ℕ) (c : Raw) → Below 256 f → raw_in f ≡ Some c → InRange c
raw_range [] c h e = no_some e
raw_range (n ∷ f) c h e =
    let o = opened (leb 1 (suc (length f))) (kind_in n f) c e in
    kind_range n f c (below_tail n f h) o.1

pub ranged : (f : List ℕ) (o : Option Raw) → Below 256 f → o ≡ raw_in f → InRangeOf o
ranged f None h e = tt
ranged f (Some c) h e = raw_range f c h (sym e)

-- the meaning's calls ---------------------------------------------------------

every_below : (m : ℕ) (f : List ℕ) → Below m f → every (λ (x : ℕ). ltb x m) f ≡ true
unfolding Below every
every_below m [] h = refl
every_below m (x ∷ xs) h = and_from _ _ (lt-ltb x m h.0) (every_below m xs h.1)

short_ok : (k : List ℕ) → Short k → bytes_ok k ≡ true
short_ok k s = and_from _ _ (lt-ltb (length k) 256 s.few) (every_below 256 k s.bytes)

and3 : (x y z : Bool) → x ≡ true → y ≡ true → z ≡ true → (x && y && z) ≡ true
and3 x y z p q r = and_from (x && y) z (and_from x y p q) r

and4 : (x y z w : Bool) → x ≡ true → y ≡ true → z ≡ true → w ≡ true → (x && y && z && w) ≡ true
and4 x y z w p q r s = and_from (x && y && z) w (and3 x y z p q r) s

started_carried : (k t ws : List ℕ) (r : Reading) → StartIn k t ws → AllCarried (started k ws r)
unfolding carried
started_carried k t ws nothing h = tt
started_carried k t ws (plan b) h = (and3 _ _ _ (short_ok k h.key) (lt-ltb (length ws) 256 h.count) (every_below 18446744073709551616 ws h.words), tt)

pub calls_carried : CallsCarried
unfolding carried
calls_carried (Start' k t ws) h = started_carried k t ws (read_text 65536 t) h
calls_carried (Tell' k n v) h = (and3 _ _ _ (short_ok k h.key) (short_ok n h.name) (lt-ltb v 18446744073709551616 h.value), tt)
calls_carried (Cancel' k) h = (short_ok k h, tt)
calls_carried (Take' ks ms) h = (and3 _ _ _ (lt-ltb (length ks) 256 h.count) (every_below 4294967296 ks h.kinds) (lt-ltb ms 4294967296 h.ms), tt)
calls_carried (Longer' f s a ms) h = (and4 _ _ _ _ (lt-ltb f 18446744073709551616 h.0.flow) (lt-ltb s 18446744073709551616 h.0.step) (lt-ltb a 65536 h.0.attempt) (lt-ltb ms 4294967296 h.1), tt)
calls_carried (Report' f s a w v) h = (and4 _ _ _ _ (lt-ltb f 18446744073709551616 h.0.flow) (lt-ltb s 18446744073709551616 h.0.step) (lt-ltb a 65536 h.0.attempt) (lt-ltb v 18446744073709551616 h.1), tt)
calls_carried (Show' k) h = (short_ok k h, tt)
calls_carried (Forget' k) h = (short_ok k h, tt)
calls_carried (Time' t) h = (lt-ltb t 18446744073709551616 h, tt)
