-- Turns of the loops that mark and choose blocks. Assumes nothing.
use Rattle.std.proofs.Common.{◌≡◌, ℕ, suc, ◌+◌, ◌-◌, ◌<◌, ◌≤◌, min, cond, List, [], ◌∷◌, ◌++◌, length, get_or, take, drop, set, replicate, Some, None, sym, ap, ◌∙◌, subst, append-nil, add-one, arith, length-set, take-append-drop, length-take, length-take-le, drop-cons, take-suc-set, eq-eqb, ne_eqb, le-leb}
use Rattle.std.proofs.Math.Seq.{take-nil}
use Rattle.std.proofs.lemmas.List.{drop_all, drop-set-lt}
use lib.Seq.{append_snoc}
use borrow.Author.Tests.{lt-leb}
use Rattle.store.specs.Layout.{block_at}
use Rattle.store.specs.Room.{mark_blocks, mark_slot, mark_slots, zeros_from, chosen}

pub blocks_turn : (d : List ℕ) (i k n : ℕ) (ms : List ℕ) → k < n → mark_blocks d i (k + 1) (n - (k + 1)) (set ms (block_at d i k) 1) ≡ mark_blocks d i k (n - k) ms
unfolding mark_blocks
blocks_turn d i k n ms h = let e : n - k ≡ suc (n - (k + 1)) = omega arith in sym (ap (λ c. mark_blocks d i k c ms) e)

pub blocks_end : (d : List ℕ) (i k n : ℕ) (ms : List ℕ) → n ≤ k → mark_blocks d i k (n - k) ms ≡ ms
unfolding mark_blocks
blocks_end d i k n ms h = let e : n - k ≡ 0 = omega arith in ap (λ c. mark_blocks d i k c ms) e

pub slots_turn : (q d : List ℕ) (i n : ℕ) (ms : List ℕ) → i < n → mark_slots q d (i + 1) (n - (i + 1)) (mark_slot q d i ms) ≡ mark_slots q d i (n - i) ms
unfolding mark_slots
slots_turn q d i n ms h = let e : n - i ≡ suc (n - (i + 1)) = omega arith in sym (ap (λ c. mark_slots q d i c ms) e)

pub slots_end : (q d : List ℕ) (i n : ℕ) (ms : List ℕ) → n ≤ i → mark_slots q d i (n - i) ms ≡ ms
unfolding mark_slots
slots_end q d i n ms h = let e : n - i ≡ 0 = omega arith in ap (λ c. mark_slots q d i c ms) e

-- ---- choosing

abbrev pub Choosing : (need : ℕ) → (ms : List ℕ) → (count : ℕ) → (blocks : List ℕ) → (b : ℕ) → Type 0
Choosing need ms count blocks b =
    (count ≤ need) × (length blocks ≡ 18) × (drop count blocks ≡ replicate (18 - count) 0)
    × (take count blocks ++ take (need - count) (zeros_from (drop b ms) b) ≡ take need (zeros_from ms 0))

cons_at : (xs : List ℕ) (i : ℕ) → i < length xs → drop i xs ≡ get_or xs i 0 ∷ drop (i + 1) xs
cons_at xs i h = drop-cons xs i 0 h ∙ ap (λ j. get_or xs i 0 ∷ drop j xs) (sym (add-one i))

tail_drop : (xs : List ℕ) (i n : ℕ) → i < length xs → drop i xs ≡ replicate (suc n) 0 → drop (i + 1) xs ≡ replicate n 0
tail_drop xs i n h e = let c = cons_at xs i h in cc

zeros_here : (ms : List ℕ) (b : ℕ) → b < length ms → get_or ms b 0 ≡ 0 → zeros_from (drop b ms) b ≡ b ∷ zeros_from (drop (b + 1) ms) (b + 1)
unfolding zeros_from
zeros_here ms b h z = ap (λ xs. zeros_from xs b) (cons_at ms b h) ∙ ap (λ t. cond t (b ∷ zeros_from (drop (b + 1) ms) (b + 1)) (zeros_from (drop (b + 1) ms) (b + 1))) (eq-eqb _ _ z)

zeros_not : (ms : List ℕ) (b : ℕ) → b < length ms → (get_or ms b 0 ≡ 0 → ⊥) → zeros_from (drop b ms) b ≡ zeros_from (drop (b + 1) ms) (b + 1)
unfolding zeros_from
zeros_not ms b h z = ap (λ xs. zeros_from xs b) (cons_at ms b h) ∙ ap (λ t. cond t (b ∷ zeros_from (drop (b + 1) ms) (b + 1)) (zeros_from (drop (b + 1) ms) (b + 1))) (ne_eqb _ _ z)

pub choose_take : (need : ℕ) (ms : List ℕ) (count : ℕ) (blocks : List ℕ) (b : ℕ) → need ≤ 18 → b < length ms → count < need → get_or ms b 0 ≡ 0 → Choosing need ms count blocks b → Choosing need ms (count + 1) (set blocks count b) (b + 1)
choose_take need ms count blocks b few h lt z (le, long, rest, all) =
    let inside : count < length blocks = omega arith in
    let s : 18 - count ≡ suc (18 - (count + 1)) = omega arith in
    let n : need - count ≡ suc (need - (count + 1)) = omega arith in
    let front : take (count + 1) (set blocks count b) ≡ take count blocks ++ (b ∷ []) = ap (λ k. take k (set blocks count b)) (add-one count) ∙ take-suc-set blocks count b inside in (
      omega arith,
      length-set blocks count b ∙ long,
      ap (λ k. drop k (set blocks count b)) (add-one count) ∙ drop-set-lt (suc count) blocks count b (omega arith) ∙ ap (λ k. drop k blocks) (sym (add-one count)) ∙ tail_drop blocks count (18 - (count + 1)) inside (rest ∙ ap (λ k. replicate k 0) s),
      ap (λ xs. xs ++ take (need - (count + 1)) (zeros_from (drop (b + 1) ms) (b + 1))) front
          ∙ append_snoc (take count blocks) b (take (need - (count + 1)) (zeros_from (drop (b + 1) ms) (b + 1)))
          ∙ ap (λ xs. take count blocks ++ xs) (sym (ap (λ k. take k (zeros_from (drop b ms) b)) n ∙ ap (take (suc (need - (count + 1)))) (zeros_here ms b h z)))
          ∙ all,
    )

pub choose_skip : (need : ℕ) (ms : List ℕ) (count : ℕ) (blocks : List ℕ) (b : ℕ) → b < length ms → (get_or ms b 0 ≡ 0 → ⊥) → Choosing need ms count blocks b → Choosing need ms count blocks (b + 1)
choose_skip need ms count blocks b h z (le, long, rest, all) =
    (le, long, rest, ap (λ xs. take count blocks ++ take (need - count) xs) (sym (zeros_not ms b h z)) ∙ all)

pub choose_full : (need : ℕ) (ms : List ℕ) (count : ℕ) (blocks : List ℕ) (b : ℕ) → need ≤ count → Choosing need ms count blocks b → Choosing need ms count blocks (b + 1)
choose_full need ms count blocks b h (le, long, rest, all) =
    let n : need - count ≡ 0 = omega arith in (
      le,
      long,
      rest,
      ap (λ k. take count blocks ++ take k (zeros_from (drop (b + 1) ms) (b + 1))) n ∙ sym (ap (λ k. take count blocks ++ take k (zeros_from (drop b ms) b)) n) ∙ all,
    )

all_taken : (need : ℕ) (ms : List ℕ) (count : ℕ) (blocks : List ℕ) (b : ℕ) → length ms ≤ b → Choosing need ms count blocks b → take count blocks ≡ take need (zeros_from ms 0)
unfolding zeros_from
all_taken need ms count blocks b h (le, long, rest, all) =
    sym (append-nil (take count blocks)) ∙ ap (λ xs. take count blocks ++ xs) (sym (ap (λ xs. take (need - count) (zeros_from xs b)) (drop_all b ms h) ∙ take-nil (need - count))) ∙ all

counted : (need : ℕ) (ms : List ℕ) (count : ℕ) (blocks : List ℕ) (b : ℕ) → need ≤ 18 → length ms ≤ b → Choosing need ms count blocks b → count ≡ min need (length (zeros_from ms 0))
counted need ms count blocks b few h k =
    let n : count ≤ length blocks = omega (arith, k.0, k.1) in
    sym (length-take-le count blocks n) ∙ ap length (all_taken need ms count blocks b h k) ∙ length-take need (zeros_from ms 0)

pub choose_some : (need : ℕ) (ms : List ℕ) (count : ℕ) (blocks : List ℕ) (b : ℕ) → need ≤ 18 → length ms ≤ b → count ≡ need → Choosing need ms count blocks b → Some blocks ≡ chosen need ms
unfolding chosen
choose_some need ms count blocks b few h e k =
    let m = counted need ms count blocks b few h k in
    let l : need ≤ length (zeros_from ms 0) = omega arith in
    ap Some (sym (take-append-drop count blocks) ∙ ap (λ xs. xs ++ drop count blocks) (all_taken need ms count blocks b h k) ∙ ap (λ xs. take need (zeros_from ms 0) ++ xs) (k.2 ∙ ap (λ c. replicate (18 - c) 0) e))
    ∙ sym (ap (λ t. cond t (Some (take need (zeros_from ms 0) ++ replicate (18 - need) 0)) None) (le-leb _ _ l))

pub choose_none : (need : ℕ) (ms : List ℕ) (count : ℕ) (blocks : List ℕ) (b : ℕ) → need ≤ 18 → length ms ≤ b → (count ≡ need → ⊥) → Choosing need ms count blocks b → None ≡ chosen need ms
unfolding chosen
choose_none need ms count blocks b few h e k =
    let m = counted need ms count blocks b few h k in
    let l : length (zeros_from ms 0) < need = omega (arith, e) in
    sym (ap (λ t. cond t (Some (take need (zeros_from ms 0) ++ replicate (18 - need) 0)) None) (lt-leb _ _ l))

pub choosing_at : (need : ℕ) (ms : List ℕ) (b : ℕ) {count count' : ℕ} {blocks blocks' : List ℕ} → count' ≡ count → blocks' ≡ blocks → Choosing need ms count blocks b → Choosing need ms count' blocks' b
choosing_at need ms b {count} {count'} {blocks} ec eb k = subst (λ xs. Choosing need ms count' xs b) (sym eb) (subst (λ n. Choosing need ms n blocks b) (sym ec) k)
