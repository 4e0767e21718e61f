-- Start. Assumes nothing.
use Rattle.std.proofs.Common.{◌≡◌, ℕ, zero, suc, ◌+◌, ◌*◌, ◌<◌, ◌≤◌, Bool, true, false, cond, not, ◌&&◌, ◌||◌, eqb, ltb, leb, List, [], ◌∷◌, length, get_or, Some, None, Option, sym, refl, ap, ◌∙◌, subst, inl, inr, arith, ltb-false, ltb-true, eq-eqb, eqb-true, leb-false, leb-true}
use Rattle.pages.specs.Holds.{TasksOk}
use Rattle.device.specs.Lines.{Lines, Work}
use Rattle.store.specs.Layout.{slots, dir_words, used_of, id_at, Mind}
use Rattle.store.specs.Shows.{Used}
use Rattle.store.specs.Finds.{first_slot, by_key}
use Rattle.engine.proofs.Stands.{Stands, Carries, carries_said}
use Rattle.engine.proofs.Search.{slot_list, search_same, search_found, key_same, free_same, slot_flow, weight_same, used_or}
use Rattle.engine.proofs.Rules.{Rules}
use Rattle.plans.specs.Plan.{Name, Block, Flow as Meant, top, size_of, every}
use Rattle.plans.specs.Flat.{laid}
use Rattle.flows.specs.House.{No, Flow', Full'}
use Rattle.flows.specs.Summed.{new_flow}
use Rattle.flows.specs.Seats.{Seats, Seated, answer, refuse, bad_start, key_seat, free_seat, holds_key, is_free as freeOne, tight, new_one, born_at, starts_free, starts_flow, starts_seat}
use Rattle.words.specs.Runs.{Small}
use Rattle.store.specs.Layout.{blocks_for}
use Rattle.store.specs.Finds.{is_free, weight_over}
use Rattle.store.specs.Room.{marked, chosen, looked_at}
use Rattle.store.proofs.Marks.{room_stands}
use Rattle.engine.specs.Works.{Answer, said, lost, by_slot, by_blocks, key_slot, start_blocks, start_free, start_work}
use Rattle.engine.proofs.Born.{Fair, born}

pub or_left : (a b : Bool) → (a || b) ≡ false → a ≡ false
or_left false b e = refl
or_left true b e = e

pub or_right : (a b : Bool) → (a || b) ≡ false → b ≡ false
or_right false b e = e
or_right true b e = let z : ◌≡◌ {A = ℕ} 0 1 = cc in absurd (omega arith)

not_false : (a : Bool) → not a ≡ false → a ≡ true
not_false true e = refl
not_false false e = let z : ◌≡◌ {A = ℕ} 0 1 = cc in absurd (omega arith)

pub and_left : (a b : Bool) → (a && b) ≡ true → a ≡ true
and_left true b e = refl
and_left false b e = e

pub and_right : (a b : Bool) → (a && b) ≡ true → b ≡ true
and_right true b e = e
and_right false b e = let z : ◌≡◌ {A = ℕ} 0 1 = cc in absurd (omega arith)

words_small : (xs : List ℕ) → every (λ (x : ℕ). ltb x top) xs ≡ true → Small xs
unfolding every
words_small [] e = tt
words_small (x ∷ xs) e = (ltb-true _ _ (and_left _ _ e), words_small xs (and_right _ _ e))

bytes_small : (n : List ℕ) → every (λ (b : ℕ). ltb b 256) n ≡ true → (k : ℕ) → get_or n k 0 < 18446744073709551616
unfolding every
bytes_small [] e k = omega arith
bytes_small (b ∷ n) e zero = let l = ltb-true b 256 (and_left _ _ e) in omega arith
bytes_small (b ∷ n) e (suc k) = bytes_small n (and_right _ _ e) k

pub fair_start : (n : Name) (b : Block) (xs : List ℕ) → bad_start n b xs ≡ false → Fair n b xs
fair_start n b xs e =
    let e5 = not_false _ (or_right _ _ e) in
    let l1 = or_left _ _ e in
    let e4 = or_right _ _ l1 in
    let l2 = or_left _ _ l1 in
    let e3 = or_right _ _ l2 in
    let l3 = or_left _ _ l2 in
    let e2 = not_false _ (or_right _ _ l3) in
    let e1 = not_false _ (or_left _ _ l3) in
    record {
      short = leb-true _ _ (and_right _ _ (and_left _ _ e1));
      bytes = bytes_small n (and_right _ _ e1);
      plan = e2;
      size = ltb-false _ _ e3;
      few = ltb-false _ _ e4;
      small = words_small xs e5;
    }

module _ {N : ℕ} {x : Mind} {k : Seats} {m : Lines} (big : 32768 ≤ N) (most : N ≤ 1099511627776) (st : Stands N x k m) (rules : Rules)
    (n : Name) (b : Block) (xs : List ℕ) (fair : Fair n b xs) where
  long : length x.dir ≡ dir_words
  long = st.agrees.long

  free_carries : (i : ℕ) → i < slots → used_of x.page i ≡ 0 → ((j : ℕ) → j < slots → TasksOk ((starts_free N n b xs (i ∷ []) k).seats.at j).task)
      → Carries N k (starts_free N n b xs (i ∷ []) k) (start_free n (size_of b) (laid b) xs x i) m
  unfolding starts_free start_free by_blocks
  free_carries i hi z ok =
      subst (λ v. Carries N k (starts_free N n b xs (i ∷ []) k) (cond (leb 4611686018427387904 v) (said (No 8) x) rest) m) st.agrees.next
      (subst (λ v. Carries N k (starts_free N n b xs (i ∷ []) k) (cond (leb 4611686018427387904 k.next) (said (No 8) x) (cond v (said Full' x) more)) m) (sym same)
      (go (leb 4611686018427387904 k.next) refl (tight N (size_of b) k) refl ok))
    where
      more : Work Answer
      more = by_blocks (chosen (blocks_for (size_of b)) (marked x.page x.dir (looked_at x.lines))) (lost x) (start_blocks n (size_of b) (laid b) xs x i)

      rest : Work Answer
      rest = cond (ltb (64 * x.lines) (1048576 + 2 * (weight_over x.page x.dir 0 1024 + (16384 + 16 * size_of b)))) (said Full' x) more

      same : ltb (64 * x.lines) (1048576 + 2 * (weight_over x.page x.dir 0 1024 + (16384 + 16 * size_of b))) ≡ tight N (size_of b) k
      same =
          ap (λ l. ltb (64 * l) (1048576 + 2 * (weight_over x.page x.dir 0 1024 + (16384 + 16 * size_of b)))) st.shows.lines
          ∙ ap (λ w. ltb (64 * N) (1048576 + 2 * (w + (16384 + 16 * size_of b)))) (weight_same st.agrees)

      target : Bool → Bool → Seated
      target p t = cond p (refuse 8 k) (cond t (answer Full' k) (answer (Flow' k.next) (born_at i (new_flow k.next n b xs) k)))

      enough : tight N (size_of b) k ≡ false → leb 4611686018427387904 k.next ≡ false → TasksOk (new_one k.now (new_flow k.next n b xs)).task
          → Carries N k (answer (Flow' k.next) (born_at i (new_flow k.next n b xs) k)) more m
      enough t p good =
          let w = weight_same st.agrees in
          let f = ltb-false _ _ t in
          let c = room_stands.suffices N x.page x.dir (size_of b) i big fair.size hi z (omega arith) in
          subst (λ l. Carries N k (answer (Flow' k.next) (born_at i (new_flow k.next n b xs) k)) (by_blocks (chosen (blocks_for (size_of b)) (marked x.page x.dir (looked_at l))) (lost x) (start_blocks n (size_of b) (laid b) xs x i)) m) (sym st.shows.lines)
          (subst (λ o. Carries N k (answer (Flow' k.next) (born_at i (new_flow k.next n b xs) k)) (by_blocks o (lost x) (start_blocks n (size_of b) (laid b) xs x i)) m) (sym c.1)
          (born big most st rules n b xs fair i hi z c.0 (room_stands.chooses N x.page x.dir (size_of b) c.0 fair.size c.1) (let l = leb-false _ _ p in let e = st.agrees.next in omega arith) good))

      go : (p : Bool) → leb 4611686018427387904 k.next ≡ p → (t : Bool) → tight N (size_of b) k ≡ t → ((j : ℕ) → j < slots → TasksOk ((target p t).seats.at j).task)
          → Carries N k (target p t) (cond p (said (No 8) x) (cond t (said Full' x) more)) m
      go true ep t et good = carries_said N x k m (No 8) (refuse 8 k) st long refl refl
      go false ep true et good = carries_said N x k m Full' (answer Full' k) st long refl refl
      go false ep false et good = enough et ep (subst (λ v. TasksOk (cond v (new_one k.now (new_flow k.next n b xs)) (k.at i)).task) (eq-eqb i i refl) (good i hi))

  none : Carries N k (starts_free N n b xs [] k) (said (No 8) x) m
  unfolding starts_free
  none = carries_said N x k m (No 8) (refuse 8 k) st long refl refl

  flow_said : (i : ℕ) (y : Meant) → y.id ≡ id_at x.dir i → Carries N k (starts_flow (y ∷ []) k) (said (Flow' (id_at x.dir i)) x) m
  unfolding starts_flow
  flow_said i y id = carries_said N x k m (Flow' (id_at x.dir i)) (answer (Flow' y.id) k) st long (ap Flow' (sym id)) refl

  pub start_carries : ((j : ℕ) → j < slots → TasksOk ((starts_seat N n b xs (key_seat n k) k).seats.at j).task) → Carries N k (starts_seat N n b xs (key_seat n k) k) (start_work n (size_of b) (laid b) xs x) m
  unfolding starts_seat start_work by_slot slot_list
  start_carries ok =
      subst (λ l. Carries N k (starts_seat N n b xs l k) (start_work n (size_of b) (laid b) xs x) m) keys
      (go (key_slot x n) refl (λ j h. subst (λ l. TasksOk ((starts_seat N n b xs l k).seats.at j).task) (sym keys) (ok j h)))
    where
      keys : slot_list (key_slot x n) ≡ key_seat n k
      keys = search_same (by_key x.page x.dir n) (holds_key n) k.at 0 1024 (λ j lo hi. key_same st.agrees n j (omega arith))

      frees : slot_list (first_slot (is_free x.page) 0 1024) ≡ free_seat k
      frees = search_same (is_free x.page) freeOne k.at 0 1024 (λ j lo hi. free_same st.agrees j (omega arith))

      other : Option ℕ → Work Answer
      other s = by_slot s (said (No 8) x) (start_free n (size_of b) (laid b) xs x)

      new : (s : Option ℕ) → first_slot (is_free x.page) 0 1024 ≡ s → ((j : ℕ) → j < slots → TasksOk ((starts_free N n b xs (slot_list s) k).seats.at j).task) → Carries N k (starts_free N n b xs (slot_list s) k) (other s) m
      new None t good = none
      new (Some i) t good =
          let f = search_found (is_free x.page) 0 1024 i t in
          let hi : i < slots = omega (arith, f.0) in
          free_carries i hi (elim (used_or x.page i hi) [ inl u ↦ absurd (clash f.1 u.1) | inr z ↦ z ]) good
        where
          clash : not (eqb (used_of x.page i) 1) ≡ true → used_of x.page i ≡ 1 → ⊥
          clash a e = let c = eq-eqb (used_of x.page i) 1 e in let w : not true ≡ true = ap not (sym c) ∙ a in let z : ◌≡◌ {A = ℕ} 0 1 = cc in omega arith

      go : (s : Option ℕ) → key_slot x n ≡ s → ((j : ℕ) → j < slots → TasksOk ((starts_seat N n b xs (slot_list s) k).seats.at j).task)
          → Carries N k (starts_seat N n b xs (slot_list s) k) (by_slot s (other (first_slot (is_free x.page) 0 1024)) (λ i. said (Flow' (id_at x.dir i)) x)) m
      go None t good =
          subst (λ l. Carries N k (starts_free N n b xs l k) (other (first_slot (is_free x.page) 0 1024)) m) frees
          (new (first_slot (is_free x.page) 0 1024) refl (λ j h. subst (λ l. TasksOk ((starts_free N n b xs l k).seats.at j).task) (sym frees) (good j h)))
      go (Some i) t good =
          let f = search_found (by_key x.page x.dir n) 0 1024 i t in
          let u : Used x.page i = (omega (arith, f.0), eqb-true _ _ (and_left _ _ f.1)) in
          let s = slot_flow st.agrees i u in
          there i s.0 s.1 s.2
        where
          there : (i : ℕ) (y : Meant) → (k.at i).flow ≡ y ∷ [] → y.id ≡ id_at x.dir i → Carries N k (starts_flow (k.at i).flow k) (said (Flow' (id_at x.dir i)) x) m
          there i y e id = subst (λ l. Carries N k (starts_flow l k) (said (Flow' (id_at x.dir i)) x) m) (sym e) (flow_said i y id)
