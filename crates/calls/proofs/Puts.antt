-- Writes, one behind the other.
use Rattle.std.proofs.Common.{◌≡◌, ℕ, suc, ◌+◌, ◌*◌, ◌/◌, ◌%◌, ◌<◌, ◌≤◌, true, false, List, [], ◌∷◌, ◌++◌, length, get_or, take, drop, set, Some, None, sym, refl, ap, ◌∙◌, append_assoc, append-nil, add-zero, zero-add, add-one, arith, length-take-le, take-suc, le-leb}
use Rattle.std.proofs.lemmas.List.{drop-drop}
use lib.Seq.{sets, sets-eq}
use borrow.Rule.Slice.PartMut.{put_mid}
use Rattle.std.specs.Int.{to_be_bytes}
use mir.Syntax.{w32, w64}
use borrow.Author.Tests.{lt-leb}
use Rattle.std.proofs.lemmas.Bool.{cond-true, cond-false}
use Rattle.calls.specs.Bytes.{two_bytes, four_bytes, eight_bytes, all_of, all_eight}
use Rattle.calls.specs.Replies.{words_of, bytes_by, fitting, Wrote}
use Rattle.calls.specs.Lines.{framed}
use Rattle.calls.specs.declared.types.Job.{Job as JobHeld}
use Rattle.calls.specs.declared.types.Response.{Response}
use Rattle.calls.specs.declared.types.Response.TheVariants.{Job}

-- a part of a slice that is written over
pub put_is : (out bytes : List ℕ) (at k : ℕ) → k ≡ length bytes → at + length bytes ≤ length out → put_mid at k out bytes ≡ sets out at bytes
put_is out bytes at k e h = ap (λ (l : List ℕ). take at out ++ (bytes ++ l)) (drop-drop k at out ∙ ap (λ (j : ℕ). drop j out) (let z : at + k ≡ at + length bytes = omega arith in z)) ∙ sym (append_assoc (take at out) bytes (drop (at + length bytes) out)) ∙ sym (sets-eq bytes out at h)

-- a number's bytes
pub eight_is : (n : ℕ) → to_be_bytes w64 n ≡ eight_bytes n
eight_is n =
    let a : n / 72057594037927936 % 256 ≡ n / 4294967296 / 16777216 % 256 = omega arith in
    let b : n / 281474976710656 % 256 ≡ n / 4294967296 / 65536 % 256 = omega arith in
    let c : n / 1099511627776 % 256 ≡ n / 4294967296 / 256 % 256 = omega arith in
    let d : n / 16777216 % 256 ≡ n % 4294967296 / 16777216 % 256 = omega arith in
    let e : n / 65536 % 256 ≡ n % 4294967296 / 65536 % 256 = omega arith in
    let f : n / 256 % 256 ≡ n % 4294967296 / 256 % 256 = omega arith in
    let g : n % 256 ≡ n % 4294967296 % 256 = omega arith in
    λ i. a i ∷ b i ∷ c i ∷ n / 4294967296 % 256 ∷ d i ∷ e i ∷ f i ∷ g i ∷ []

pub four_is : (n : ℕ) → to_be_bytes w32 n ≡ four_bytes n
four_is n = refl

pub sets_append : (a b l : List ℕ) (i : ℕ) → sets (sets l i a) (i + length a) b ≡ sets l i (a ++ b)
sets_append [] b l i = ap (λ k. sets l k b) (add-zero i)
sets_append (x ∷ a) b l i =
    let e : i + suc (length a) ≡ suc i + length a = omega arith in
    ap (λ k. sets (sets (set l i x) (suc i) a) k b) e ∙ sets_append a b (set l i x) (suc i)

-- a write, and one right behind it
pub behind : (a b l m n : List ℕ) (i j : ℕ) → m ≡ sets l i a → j ≡ i + length a → n ≡ sets m j b → n ≡ sets l i (a ++ b)
behind a b l m n i j p q r = r ∙ (ap (λ x. sets x j b) p ∙ (ap (λ k. sets (sets l i a) k b) q ∙ sets_append a b l i))

pub all_append : {A : Type 0} (f : A → List ℕ) (xs ys : List A) → all_of f (xs ++ ys) ≡ all_of f xs ++ all_of f ys
unfolding all_of
all_append f [] ys = refl
all_append f (x ∷ xs) ys = ap (λ r. f x ++ r) (all_append f xs ys) ∙ sym (append_assoc (f x) (all_of f xs) (all_of f ys))

pub length_all_eight : (xs : List ℕ) → length (all_eight xs) ≡ 8 * length xs
unfolding all_of
length_all_eight [] = refl
length_all_eight (x ∷ xs) = let h = length_all_eight xs in omega arith

pub all_one : {A : Type 0} (f : A → List ℕ) (x : A) → all_of f (x ∷ []) ≡ f x
unfolding all_of
all_one f x = append-nil (f x)

pub all_none : {A : Type 0} (f : A → List ℕ) → all_of f [] ≡ []
unfolding all_of
all_none f = refl

pub word_more : (old mid new ws : List ℕ) (at i : ℕ) → i < length ws → mid ≡ sets old at (all_eight (take i ws)) → new ≡ sets mid (at + 8 * i) (eight_bytes (get_or ws i 0)) → new ≡ sets old at (all_eight (take (i + 1) ws))
word_more old mid new ws at i h p q =
    let e : take (i + 1) ws ≡ take i ws ++ (get_or ws i 0 ∷ []) = ap (λ k. take k ws) (add-one i) ∙ take-suc ws i 0 h in
    let n : length (take i ws) ≡ i = length-take-le i ws (omega arith) in
    let len = length_all_eight (take i ws) in
    let w : all_eight (take (i + 1) ws) ≡ all_eight (take i ws) ++ eight_bytes (get_or ws i 0) = ap all_eight e ∙ (all_append eight_bytes (take i ws) (get_or ws i 0 ∷ []) ∙ ap (λ r. all_eight (take i ws) ++ r) (all_one eight_bytes (get_or ws i 0))) in
    let j : at + 8 * i ≡ at + length (all_eight (take i ws)) = omega arith in
    behind (all_eight (take i ws)) (eight_bytes (get_or ws i 0)) old mid new at (at + 8 * i) p j q ∙ ap (sets old at) (sym w)

-- a job's parts, one behind the other
pub job_put :
    (o o1 o2 o3 o4 o5 o6 o7 xs : List ℕ) (at f s a k : ℕ)
    → o1 ≡ set o at 3 → o2 ≡ sets o1 (at + 1) (eight_bytes f) → o3 ≡ sets o2 (at + 9) (eight_bytes s) → o4 ≡ sets o3 (at + 17) (two_bytes a)
    → o5 ≡ sets o4 (at + 19) (four_bytes k) → o6 ≡ set o5 (at + 23) (length xs) → o7 ≡ sets o6 (at + 24) (all_eight xs)
    → o7 ≡ sets o at (3 ∷ eight_bytes f ++ (eight_bytes s ++ (two_bytes a ++ (four_bytes k ++ (length xs ∷ all_eight xs)))))
job_put o o1 o2 o3 o4 o5 o6 o7 xs at f s a k p1 p2 p3 p4 p5 p6 p7 =
    let b1 : List ℕ = 3 ∷ [] in
    let q2 = behind b1 (eight_bytes f) o o1 o2 at (at + 1) p1 refl p2 in
    let b2 : List ℕ = b1 ++ eight_bytes f in
    let q3 = behind b2 (eight_bytes s) o o2 o3 at (at + 9) q2 refl p3 in
    let b3 : List ℕ = b2 ++ eight_bytes s in
    let q4 = behind b3 (two_bytes a) o o3 o4 at (at + 17) q3 refl p4 in
    let b4 : List ℕ = b3 ++ two_bytes a in
    let q5 = behind b4 (four_bytes k) o o4 o5 at (at + 19) q4 refl p5 in
    let b5 : List ℕ = b4 ++ four_bytes k in
    let q6 = behind b5 (length xs ∷ []) o o5 o6 at (at + 23) q5 refl p6 in
    let b6 : List ℕ = b5 ++ (length xs ∷ []) in
    behind b6 (all_eight xs) o o6 o7 at (at + 24) q6 refl p7

pub job_size : {N : Type 0} (number : N → ℕ) (r : Response N) (j : JobHeld) → r ≡ Job j → length (bytes_by number r) ≡ 24 + 8 * length (words_of j)
job_size number r j e =
    let l = length_all_eight (words_of j) in
    let m : length (bytes_by number (Job j)) ≡ 24 + 8 * length (words_of j) = omega arith in
    ap (λ x. length (bytes_by number x)) e ∙ m

pub wrote_short : (bs old : List ℕ) → length old < length bs → Wrote bs old old None
wrote_short bs old h =
    let f : fitting bs old ≡ false = lt-leb (length bs) (length old) h in
    record { count = sym (cond-false _ (Some (length bs)) None f); bytes = sym (cond-false _ (bs ++ drop (length bs) old) old f) }

pub wrote_some : (bs old new : List ℕ) (n : ℕ) → length bs ≤ length old → new ≡ sets old 0 bs → n ≡ length bs → Wrote bs old new (Some n)
wrote_some bs old new n h w c =
    let f : fitting bs old ≡ true = le-leb (length bs) (length old) h in
    let z : 0 + length bs ≤ length old = omega arith in
    let s : sets old 0 bs ≡ bs ++ drop (length bs) old = sets-eq bs old 0 z ∙ ap (λ k. bs ++ drop k old) (zero-add (length bs)) in
    record { count = ap Some c ∙ sym (cond-true _ (Some (length bs)) None f); bytes = w ∙ (s ∙ sym (cond-true _ (bs ++ drop (length bs) old) old f)) }

-- a line's parts, one behind the other
pub line_put : (o o1 o2 o3 bs : List ℕ) (n tag : ℕ) → n ≡ length bs → o1 ≡ sets o 0 (four_bytes (n + 4)) → o2 ≡ sets o1 4 (four_bytes tag) → o3 ≡ sets o2 8 bs → o3 ≡ sets o 0 (framed tag bs)
line_put o o1 o2 o3 bs n tag e p q r =
    let b1 : List ℕ = four_bytes (n + 4) in
    let q2 = behind b1 (four_bytes tag) o o1 o2 0 4 p refl q in
    let b2 : List ℕ = b1 ++ four_bytes tag in
    behind b2 bs o o2 o3 0 8 q2 refl r ∙ ap (λ m. sets o 0 (four_bytes (m + 4) ++ (four_bytes tag ++ bs))) e

pub line_size : (tag : ℕ) (bs : List ℕ) → length (framed tag bs) ≡ length bs + 8
line_size tag bs = omega arith
