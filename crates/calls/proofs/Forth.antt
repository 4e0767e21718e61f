-- What is read was written so.
use Rattle.std.proofs.Common.{◌≡◌, ℕ, zero, suc, ◌+◌, ◌*◌, ◌/◌, ◌%◌, ◌<◌, ◌≤◌, Bool, true, false, cond, ◌&&◌, eqb, leb, List, [], ◌∷◌, ◌++◌, length, get_or, drop, Some, None, Option, sym, refl, ap, ◌∙◌, subst, append-nil, arith, length-drop, take-append-drop, length-take-le, drop-cons, drop-drop, eqb-true, leb-true}
use Rattle.std.proofs.lemmas.Bool.{and_parts}
use Rattle.calls.specs.Bytes.{two_at, four_at, eight_at, numbers, eights, fours, words_in, kinds_in, two_bytes, four_bytes, eight_bytes, all_of, all_eight, all_four}
use Rattle.calls.specs.Parts.{Front, front, cut_in, short_in, long_in, many_in}
use Rattle.calls.specs.Raw.{Raw, Start', Tell', Cancel', Take', Longer', Report', Show', Forget', Time', raw_bytes, kind_in, bit, only_key, keyed, start_key, start_plan, start_words, tell_key, tell_name, take_kinds, longer_in, report_in, time_in}
use Rattle.calls.specs.Stands.{Below, ReadsOnly}
use Rattle.calls.specs.BytesLemmas.{two_past, four_past, eight_past}
use Rattle.calls.proofs.Many.{length_numbers}

-- tests -----------------------------------------------------------------------

pub no_some : {A X : Type 0} {x : A} → ◌≡◌ {A = Option A} None (Some x) → X
no_some e = let z : ◌≡◌ {A = ℕ} 0 1 = cc in absurd (let n : ⊥ = omega arith in n)

pub opened : {A : Type 0} (b : Bool) (o : Option A) (p : A) → cond b o None ≡ Some p → (b ≡ true) × (o ≡ Some p)
opened true o p e = (refl, e)
opened false o p e = no_some e

-- bytes -----------------------------------------------------------------------

pub byte : (f : List ℕ) (i : ℕ) → Below 256 f → get_or f i 0 < 256
unfolding Below
byte [] i h = omega arith
byte (x ∷ xs) zero h = h.0
byte (x ∷ xs) (suc i) h = byte xs i h.1

pub below_drop : (n : ℕ) (f : List ℕ) → Below 256 f → Below 256 (drop n f)
unfolding Below
below_drop zero f h = h
below_drop (suc n) [] h = h
below_drop (suc n) (x ∷ xs) h = below_drop n xs h.1

pub below_left : (a b : List ℕ) → Below 256 (a ++ b) → Below 256 a
unfolding Below
below_left [] b h = tt
below_left (x ∷ a) b h = (h.0, below_left a b h.1)

pub below_right : (a b : List ℕ) → Below 256 (a ++ b) → Below 256 b
unfolding Below
below_right [] b h = h
below_right (x ∷ a) b h = below_right a b h.1

pub below_tail : (x : ℕ) (f : List ℕ) → Below 256 (x ∷ f) → Below 256 f
unfolding Below
below_tail x f h = h.1

pub none_left : (f : List ℕ) → length f ≡ 0 → f ≡ []
none_left [] e = refl
none_left (x ∷ xs) e = absurd (let n : ⊥ = omega arith in n)

-- numbers ---------------------------------------------------------------------

pub two_forth : (a b : ℕ) → a < 256 → b < 256 → two_bytes (a * 256 + b) ≡ a ∷ b ∷ []
two_forth a b p q =
    let e0 : (a * 256 + b) % 256 ≡ b = omega arith in
    let d1 : (a * 256 + b) / 256 ≡ a = omega arith in
    let m1 : a % 256 ≡ a = omega arith in
    cc

pub four_forth : (a b c d : ℕ) → a < 256 → b < 256 → c < 256 → d < 256 → four_bytes (a * 16777216 + (b * 65536 + (c * 256 + d))) ≡ a ∷ b ∷ c ∷ d ∷ []
four_forth a b c d p q r s =
    let e0 : (a * 16777216 + (b * 65536 + (c * 256 + d))) % 256 ≡ d = omega arith in
    let d1 : (a * 16777216 + (b * 65536 + (c * 256 + d))) / 256 ≡ a * 65536 + (b * 256 + c) = omega arith in
    let d2 : (a * 16777216 + (b * 65536 + (c * 256 + d))) / 65536 ≡ a * 256 + b = omega arith in
    let d3 : (a * 16777216 + (b * 65536 + (c * 256 + d))) / 16777216 ≡ a = omega arith in
    let m1 : (a * 65536 + (b * 256 + c)) % 256 ≡ c = omega arith in
    let m2 : (a * 256 + b) % 256 ≡ b = omega arith in
    let m3 : a % 256 ≡ a = omega arith in
    cc

pub split_big : (x y : ℕ) → y < 4294967296 → eight_bytes (x * 4294967296 + y) ≡ four_bytes x ++ four_bytes y
split_big x y h =
    let d : (x * 4294967296 + y) / 4294967296 ≡ x = omega arith in
    let m : (x * 4294967296 + y) % 4294967296 ≡ y = omega arith in
    ap (λ k. four_bytes k ++ four_bytes ((x * 4294967296 + y) % 4294967296)) d ∙ ap (λ k. four_bytes x ++ four_bytes k) m

pub four_bound : (f : List ℕ) (i : ℕ) → Below 256 f → four_at f i < 4294967296
four_bound f i h =
    let a = byte f i h in
    let b = byte f (i + 1) h in
    let c = byte f (i + 2) h in
    let d = byte f (i + 3) h in
    omega arith

pub two_front : (f : List ℕ) → 2 ≤ length f → Below 256 f → two_bytes (two_at f 0) ++ drop 2 f ≡ f
two_front [] l h = absurd (let n : ⊥ = omega arith in n)
two_front (a ∷ []) l h = absurd (let n : ⊥ = omega arith in n)
two_front (a ∷ b ∷ r) l h = ap (λ x. x ++ r) (two_forth a b (byte (a ∷ b ∷ r) 0 h) (byte (a ∷ b ∷ r) 1 h))

pub four_front : (f : List ℕ) → 4 ≤ length f → Below 256 f → four_bytes (four_at f 0) ++ drop 4 f ≡ f
four_front [] l h = absurd (let n : ⊥ = omega arith in n)
four_front (a ∷ []) l h = absurd (let n : ⊥ = omega arith in n)
four_front (a ∷ b ∷ []) l h = absurd (let n : ⊥ = omega arith in n)
four_front (a ∷ b ∷ c ∷ []) l h = absurd (let n : ⊥ = omega arith in n)
four_front (a ∷ b ∷ c ∷ d ∷ r) l h =
    let f : List ℕ = a ∷ b ∷ c ∷ d ∷ r in
    ap (λ x. x ++ r) (four_forth a b c d (byte f 0 h) (byte f 1 h) (byte f 2 h) (byte f 3 h))

pub eight_front : (f : List ℕ) → 8 ≤ length f → Below 256 f → eight_bytes (eight_at f 0) ++ drop 8 f ≡ f
eight_front f l h =
    let past : four_at f 4 ≡ four_at (drop 4 f) 0 = sym (four_past f 4 0 4 refl) in
    let ld = length-drop 4 f in
    let l4 : 4 ≤ length (drop 4 f) = omega arith in
    ap (λ x. x ++ drop 8 f) (split_big (four_at f 0) (four_at f 4) (four_bound f 4 h))
    ∙ (ap (λ y. four_bytes (four_at f 0) ++ (four_bytes y ++ drop 8 f)) past
    ∙ (ap (λ r. four_bytes (four_at f 0) ++ (four_bytes (four_at (drop 4 f) 0) ++ r)) (sym (drop-drop 4 4 f))
    ∙ (ap (λ r. four_bytes (four_at f 0) ++ r) (four_front (drop 4 f) l4 (below_drop 4 f h))
    ∙ four_front f (omega arith) h)))

pub eights_forth : (n : ℕ) (f : List ℕ) → length f ≡ 8 * n → Below 256 f → all_eight (eights n f) ≡ f
unfolding numbers all_of
eights_forth zero f e h = sym (none_left f (omega arith))
eights_forth (suc n) f e h =
    let ld = length-drop 8 f in
    ap (λ r. eight_bytes (eight_at f 0) ++ r) (eights_forth n (drop 8 f) (omega arith) (below_drop 8 f h)) ∙ eight_front f (omega arith) h

pub fours_forth : (n : ℕ) (f : List ℕ) → length f ≡ 4 * n → Below 256 f → all_four (fours n f) ≡ f
unfolding numbers all_of
fours_forth zero f e h = sym (none_left f (omega arith))
fours_forth (suc n) f e h =
    let ld = length-drop 4 f in
    ap (λ r. four_bytes (four_at f 0) ++ r) (fours_forth n (drop 4 f) (omega arith) (below_drop 4 f h)) ∙ four_front f (omega arith) h

pub words_forth : (n : ℕ) (f r : List ℕ) → length f ≡ 8 * n → Below 256 f → length (words_in f) ∷ (all_eight (words_in f) ++ r) ≡ n ∷ (f ++ r)
words_forth n f r e h =
    let q : length f / 8 ≡ n = omega arith in
    ap (λ m. m ∷ (all_eight (words_in f) ++ r)) (length_numbers 8 eight_at (length f / 8) f ∙ q)
    ∙ ap (λ b. n ∷ (b ++ r)) (ap (λ m. all_eight (eights m f)) q ∙ eights_forth n f e h)

pub kinds_forth : (n : ℕ) (f r : List ℕ) → length f ≡ 4 * n → Below 256 f → length (kinds_in f) ∷ (all_four (kinds_in f) ++ r) ≡ n ∷ (f ++ r)
kinds_forth n f r e h =
    let q : length f / 4 ≡ n = omega arith in
    ap (λ m. m ∷ (all_four (kinds_in f) ++ r)) (length_numbers 4 four_at (length f / 4) f ∙ q)
    ∙ ap (λ b. n ∷ (b ++ r)) (ap (λ m. all_four (fours m f)) q ∙ fours_forth n f e h)

-- parts -----------------------------------------------------------------------

pub cut_forth : (n : ℕ) (f : List ℕ) (p : Front) → cut_in n f ≡ Some p → (length p.part ≡ n) × (p.part ++ p.rest ≡ f)
cut_forth n f p e =
    let o = opened (leb n (length f)) (Some (front n f)) p e in
    let l = leb-true n (length f) o.0 in
    let s = o.1 in
    let q : front n f ≡ p = cc in
    (ap (λ x. length x.part) (sym q) ∙ length-take-le n f l, ap (λ x. x.part ++ x.rest) (sym q) ∙ take-append-drop n f)

pub record Many (size : ℕ) (f : List ℕ) (p : Front) : Type 0 where
  pub n : ℕ
  pub len : length p.part ≡ size * n
  pub is : n ∷ (p.part ++ p.rest) ≡ f

pub many_forth : (size : ℕ) (f : List ℕ) (p : Front) → many_in size f ≡ Some p → Many size f p
many_forth size [] p e = no_some e
many_forth size (n ∷ g) p e =
    let o = opened (leb 1 (suc (length g))) (cut_in (size * n) g) p e in
    let c = cut_forth (size * n) g p o.1 in
    record { n = n; len = c.0; is = ap (λ x. n ∷ x) c.1 }

pub short_forth : (f : List ℕ) (p : Front) → short_in f ≡ Some p → length p.part ∷ (p.part ++ p.rest) ≡ f
short_forth [] p e = no_some e
short_forth (n ∷ g) p e =
    let o = opened (leb 1 (suc (length g))) (cut_in n g) p e in
    let c = cut_forth n g p o.1 in
    ap (λ m. m ∷ (p.part ++ p.rest)) c.0 ∙ ap (λ x. n ∷ x) c.1

pub long_forth : (f : List ℕ) (p : Front) → Below 256 f → long_in f ≡ Some p → four_bytes (length p.part) ++ (p.part ++ p.rest) ≡ f
long_forth f p h e =
    let o = opened (leb 4 (length f)) (cut_in (four_at f 0) (drop 4 f)) p e in
    let l = leb-true 4 (length f) o.0 in
    let c = cut_forth (four_at f 0) (drop 4 f) p o.1 in
    ap (λ m. four_bytes m ++ (p.part ++ p.rest)) c.0 ∙ (ap (λ x. four_bytes (four_at f 0) ++ x) c.1 ∙ four_front f l h)

pub short_rest : (f : List ℕ) (p : Front) → Below 256 f → short_in f ≡ Some p → Below 256 p.rest
short_rest f p h e = below_right p.part p.rest (below_tail _ _ (subst (Below 256) (sym (short_forth f p e)) h))

pub long_rest : (f : List ℕ) (p : Front) → Below 256 f → long_in f ≡ Some p → Below 256 p.rest
long_rest f p h e = below_right p.part p.rest (below_right (four_bytes (length p.part)) (p.part ++ p.rest) (subst (Below 256) (sym (long_forth f p h e)) h))

-- calls -----------------------------------------------------------------------

pub whole_four : (g : List ℕ) → length g ≡ 4 → Below 256 g → four_bytes (four_at g 0) ≡ g
whole_four g l h =
    let ld = length-drop 4 g in
    let z : length (drop 4 g) ≡ 0 = omega arith in
    ap (λ r. four_bytes (four_at g 0) ++ r) (sym (none_left (drop 4 g) z)) ∙ four_front g (omega arith) h

pub whole_eight : (g : List ℕ) → length g ≡ 8 → Below 256 g → eight_bytes (eight_at g 0) ≡ g
whole_eight g l h =
    let ld = length-drop 8 g in
    let z : length (drop 8 g) ≡ 0 = omega arith in
    ap (λ r. eight_bytes (eight_at g 0) ++ r) (sym (none_left (drop 8 g) z)) ∙ eight_front g (omega arith) h

-- a flow, a step and a try
pub try_forth : (f g : List ℕ) → 18 ≤ length f → Below 256 f → g ≡ drop 18 f → eight_bytes (eight_at f 0) ++ (eight_bytes (eight_at f 8) ++ (two_bytes (two_at f 16) ++ g)) ≡ f
try_forth f g l h e =
    let l8 = length-drop 8 f in
    let l16 = length-drop 16 f in
    let m8 : 8 ≤ length (drop 8 f) = omega arith in
    let m16 : 2 ≤ length (drop 16 f) = omega arith in
    let t1 : two_bytes (two_at f 16) ++ g ≡ drop 16 f =
    ap (λ x. two_bytes (two_at f 16) ++ x) (e ∙ sym (drop-drop 2 16 f)) ∙ (ap (λ y. two_bytes y ++ drop 2 (drop 16 f)) (sym (two_past f 16 0 16 refl)) ∙ two_front (drop 16 f) m16 (below_drop 16 f h)) in
    let t2 : eight_bytes (eight_at f 8) ++ drop 16 f ≡ drop 8 f =
    ap (λ x. eight_bytes (eight_at f 8) ++ x) (sym (drop-drop 8 8 f)) ∙ (ap (λ y. eight_bytes y ++ drop 8 (drop 8 f)) (sym (eight_past f 8 0 8 refl)) ∙ eight_front (drop 8 f) m8 (below_drop 8 f h)) in
    ap (λ x. eight_bytes (eight_at f 0) ++ (eight_bytes (eight_at f 8) ++ x)) t1 ∙ (ap (λ x. eight_bytes (eight_at f 0) ++ x) t2 ∙ eight_front f (omega arith) h)

pub longer_forth : (f : List ℕ) (c : Raw) → Below 256 f → longer_in f ≡ Some c → raw_bytes c ≡ 5 ∷ f
unfolding raw_bytes
longer_forth f c h e =
    let o = opened (eqb (length f) 22) (Some (Longer' (eight_at f 0) (eight_at f 8) (two_at f 16) (four_at f 18))) c e in
    let l = eqb-true (length f) 22 o.0 in
    let s = o.1 in
    let q : c ≡ Longer' (eight_at f 0) (eight_at f 8) (two_at f 16) (four_at f 18) = cc in
    let ld = length-drop 18 f in
    let m : length (drop 18 f) ≡ 4 = omega arith in
    let g : four_bytes (four_at f 18) ≡ drop 18 f = ap four_bytes (sym (four_past f 18 0 18 refl)) ∙ whole_four (drop 18 f) m (below_drop 18 f h) in
    ap raw_bytes q ∙ ap (λ x. 5 ∷ x) (try_forth f (four_bytes (four_at f 18)) (omega arith) h g)

pub bit_forth : (x : ℕ) → x ≤ 1 → bit (eqb x 1) ≡ x
bit_forth zero h = refl
bit_forth (suc zero) h = refl
bit_forth (suc (suc x)) h = absurd (let n : ⊥ = omega arith in n)

pub report_forth : (f : List ℕ) (c : Raw) → Below 256 f → report_in f ≡ Some c → raw_bytes c ≡ 6 ∷ f
unfolding raw_bytes
report_forth f c h e =
    let o = opened (eqb (length f) 27 && leb (get_or f 18 0) 1) (Some (Report' (eight_at f 0) (eight_at f 8) (two_at f 16) (eqb (get_or f 18 0) 1) (eight_at f 19))) c e in
    let a = and_parts (eqb (length f) 27) (leb (get_or f 18 0) 1) o.0 in
    let l = eqb-true (length f) 27 a.0 in
    let w = leb-true (get_or f 18 0) 1 a.1 in
    let s = o.1 in
    let q : c ≡ Report' (eight_at f 0) (eight_at f 8) (two_at f 16) (eqb (get_or f 18 0) 1) (eight_at f 19) = cc in
    let ld = length-drop 19 f in
    let m : length (drop 19 f) ≡ 8 = omega arith in
    let v : eight_bytes (eight_at f 19) ≡ drop 19 f = ap eight_bytes (sym (eight_past f 19 0 19 refl)) ∙ whole_eight (drop 19 f) m (below_drop 19 f h) in
    let g : bit (eqb (get_or f 18 0) 1) ∷ eight_bytes (eight_at f 19) ≡ drop 18 f =
    ap (λ x. x ∷ eight_bytes (eight_at f 19)) (bit_forth (get_or f 18 0) w) ∙ (ap (λ x. get_or f 18 0 ∷ x) v ∙ sym (drop-cons f 18 0 (omega arith))) in
    ap raw_bytes q ∙ ap (λ x. 6 ∷ x) (try_forth f (bit (eqb (get_or f 18 0) 1) ∷ eight_bytes (eight_at f 19)) (omega arith) h g)

pub time_forth : (f : List ℕ) (c : Raw) → Below 256 f → time_in f ≡ Some c → raw_bytes c ≡ 9 ∷ f
unfolding raw_bytes
time_forth f c h e =
    let o = opened (eqb (length f) 8) (Some (Time' (eight_at f 0))) c e in
    let l = eqb-true (length f) 8 o.0 in
    let s = o.1 in
    let q : c ≡ Time' (eight_at f 0) = cc in
    ap raw_bytes q ∙ ap (λ x. 9 ∷ x) (whole_eight f l h)

pub alone_forth : (f k : List ℕ) (o : Option Front) → short_in f ≡ o → only_key o ≡ Some k → length k ∷ k ≡ f
alone_forth f k None i e = no_some e
alone_forth f k (Some p) i e =
    let o = opened (eqb (length p.rest) 0) (Some p.part) k e in
    let z = none_left p.rest (eqb-true (length p.rest) 0 o.0) in
    let s = o.1 in
    let q : k ≡ p.part = cc in
    ap (λ x. length x ∷ x) q ∙ (ap (λ x. length p.part ∷ x) (sym (append-nil p.part) ∙ ap (λ r. p.part ++ r) (sym z)) ∙ short_forth f p i)

pub keyed_forth : (m : List ℕ → Raw) (f : List ℕ) (c : Raw) (o : Option (List ℕ)) → only_key (short_in f) ≡ o → keyed m o ≡ Some c → (k : List ℕ) × (c ≡ m k) × (length k ∷ k ≡ f)
keyed_forth m f c None i e = no_some e
keyed_forth m f c (Some k) i e = let q : c ≡ m k = cc in (k, q, alone_forth f k (short_in f) refl i)

pub cancel_forth : (f : List ℕ) (c : Raw) → keyed Cancel' (only_key (short_in f)) ≡ Some c → raw_bytes c ≡ 3 ∷ f
unfolding raw_bytes
cancel_forth f c e = let k = keyed_forth Cancel' f c _ refl e in ap raw_bytes k.1 ∙ ap (λ x. 3 ∷ x) k.2

pub show_forth : (f : List ℕ) (c : Raw) → keyed Show' (only_key (short_in f)) ≡ Some c → raw_bytes c ≡ 7 ∷ f
unfolding raw_bytes
show_forth f c e = let k = keyed_forth Show' f c _ refl e in ap raw_bytes k.1 ∙ ap (λ x. 7 ∷ x) k.2

pub forget_forth : (f : List ℕ) (c : Raw) → keyed Forget' (only_key (short_in f)) ≡ Some c → raw_bytes c ≡ 8 ∷ f
unfolding raw_bytes
forget_forth f c e = let k = keyed_forth Forget' f c _ refl e in ap raw_bytes k.1 ∙ ap (λ x. 8 ∷ x) k.2

pub take_forth : (f : List ℕ) (c : Raw) (o : Option Front) → Below 256 f → many_in 4 f ≡ o → take_kinds o ≡ Some c → raw_bytes c ≡ 4 ∷ f
unfolding raw_bytes
take_forth f c None h i e = no_some e
take_forth f c (Some p) h i e =
    let o = opened (eqb (length p.rest) 4) (Some (Take' (kinds_in p.part) (four_at p.rest 0))) c e in
    let l = eqb-true (length p.rest) 4 o.0 in
    let s = o.1 in
    let q : c ≡ Take' (kinds_in p.part) (four_at p.rest 0) = cc in
    let m = many_forth 4 f p i in
    let b = below_tail m.n (p.part ++ p.rest) (subst (Below 256) (sym m.is) h) in
    let r = whole_four p.rest l (below_right p.part p.rest b) in
    ap raw_bytes q
    ∙ (ap (λ x. 4 ∷ (length (kinds_in p.part) ∷ (all_four (kinds_in p.part) ++ x))) r
    ∙ ap (λ x. 4 ∷ x) (kinds_forth m.n p.part p.rest m.len (below_left p.part p.rest b) ∙ m.is))

pub tell_name_lem : (k g : List ℕ) (c : Raw) (o : Option Front) → Below 256 g → short_in g ≡ o → tell_name k o ≡ Some c → raw_bytes c ≡ 2 ∷ (length k ∷ (k ++ g))
unfolding raw_bytes
tell_name_lem k g c None h i e = no_some e
tell_name_lem k g c (Some p) h i e =
    let o = opened (eqb (length p.rest) 8) (Some (Tell' k p.part (eight_at p.rest 0))) c e in
    let l = eqb-true (length p.rest) 8 o.0 in
    let s = o.1 in
    let q : c ≡ Tell' k p.part (eight_at p.rest 0) = cc in
    ap raw_bytes q
    ∙ (ap (λ x. 2 ∷ (length k ∷ (k ++ (length p.part ∷ (p.part ++ x))))) (whole_eight p.rest l (short_rest g p h i))
    ∙ ap (λ x. 2 ∷ (length k ∷ (k ++ x))) (short_forth g p i))

pub tell_forth : (f : List ℕ) (c : Raw) (o : Option Front) → Below 256 f → short_in f ≡ o → tell_key o ≡ Some c → raw_bytes c ≡ 2 ∷ f
tell_forth f c None h i e = no_some e
tell_forth f c (Some p) h i e = tell_name_lem p.part p.rest c (short_in p.rest) (short_rest f p h i) refl e ∙ ap (λ x. 2 ∷ x) (short_forth f p i)

pub start_words_lem : (k t g : List ℕ) (c : Raw) (o : Option Front) → Below 256 g → many_in 8 g ≡ o → start_words k t o ≡ Some c → raw_bytes c ≡ 1 ∷ (length k ∷ (k ++ (four_bytes (length t) ++ (t ++ g))))
unfolding raw_bytes
start_words_lem k t g c None h i e = no_some e
start_words_lem k t g c (Some p) h i e =
    let o = opened (eqb (length p.rest) 0) (Some (Start' k t (words_in p.part))) c e in
    let z = none_left p.rest (eqb-true (length p.rest) 0 o.0) in
    let s = o.1 in
    let q : c ≡ Start' k t (words_in p.part) = cc in
    let m = many_forth 8 g p i in
    let b = below_tail m.n (p.part ++ p.rest) (subst (Below 256) (sym m.is) h) in
    let w : length (words_in p.part) ∷ all_eight (words_in p.part) ≡ g =
    ap (λ x. length (words_in p.part) ∷ x) (sym (append-nil (all_eight (words_in p.part))) ∙ ap (λ r. all_eight (words_in p.part) ++ r) (sym z))
    ∙ (words_forth m.n p.part p.rest m.len (below_left p.part p.rest b) ∙ m.is) in
    ap raw_bytes q ∙ ap (λ x. 1 ∷ (length k ∷ (k ++ (four_bytes (length t) ++ (t ++ x))))) w

pub start_plan_lem : (k g : List ℕ) (c : Raw) (o : Option Front) → Below 256 g → long_in g ≡ o → start_plan k o ≡ Some c → raw_bytes c ≡ 1 ∷ (length k ∷ (k ++ g))
start_plan_lem k g c None h i e = no_some e
start_plan_lem k g c (Some p) h i e = start_words_lem k p.part p.rest c (many_in 8 p.rest) (long_rest g p h i) refl e ∙ ap (λ x. 1 ∷ (length k ∷ (k ++ x))) (long_forth g p h i)

pub start_forth : (f : List ℕ) (c : Raw) (o : Option Front) → Below 256 f → short_in f ≡ o → start_key o ≡ Some c → raw_bytes c ≡ 1 ∷ f
start_forth f c None h i e = no_some e
start_forth f c (Some p) h i e = start_plan_lem p.part p.rest c (long_in p.rest) (short_rest f p h i) refl e ∙ ap (λ x. 1 ∷ x) (short_forth f p i)

-- one of the kinds
pub either : {A X : Type 0} (n k : ℕ) (x y z : A) → cond (eqb n k) x y ≡ z → (k ≡ n → x ≡ z → X) → (y ≡ z → X) → X
either {X = X} n k x y z e p q = by (eqb n k) refl e
  where
    by : (b : Bool) → eqb n k ≡ b → cond b x y ≡ z → X
    by true t e = p (sym (eqb-true n k t)) e
    by false t e = q e

pub kind_forth : (n : ℕ) (f : List ℕ) (c : Raw) → Below 256 f → kind_in n f ≡ Some c → raw_bytes c ≡ n ∷ f
unfolding kind_in
kind_forth n f c h e =
    either n 1 _ _ _ e (λ i s. start_forth f c (short_in f) h refl s ∙ ap (λ m. m ∷ f) i)
    (λ e2. either n 2 _ _ _ e2 (λ i s. tell_forth f c (short_in f) h refl s ∙ ap (λ m. m ∷ f) i)
    (λ e3. either n 3 _ _ _ e3 (λ i s. cancel_forth f c s ∙ ap (λ m. m ∷ f) i)
    (λ e4. either n 4 _ _ _ e4 (λ i s. take_forth f c (many_in 4 f) h refl s ∙ ap (λ m. m ∷ f) i)
    (λ e5. either n 5 _ _ _ e5 (λ i s. longer_forth f c h s ∙ ap (λ m. m ∷ f) i)
    (λ e6. either n 6 _ _ _ e6 (λ i s. report_forth f c h s ∙ ap (λ m. m ∷ f) i)
    (λ e7. either n 7 _ _ _ e7 (λ i s. show_forth f c s ∙ ap (λ m. m ∷ f) i)
    (λ e8. either n 8 _ _ _ e8 (λ i s. forget_forth f c s ∙ ap (λ m. m ∷ f) i)
    (λ e9. either n 9 _ _ _ e9 (λ i s. time_forth f c h s ∙ ap (λ m. m ∷ f) i) no_some))))))))

pub reads_only : ReadsOnly
reads_only [] c h e = no_some e
reads_only (n ∷ f) c h e =
    let o = opened (leb 1 (suc (length f))) (kind_in n f) c e in
    kind_forth n f c (below_tail n f h) o.1
