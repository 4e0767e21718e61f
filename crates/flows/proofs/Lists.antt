use Rattle.std.proofs.Common.{◌≡◌, ℕ, ◌≤◌, Bool, true, false, cond, eqb, ◌⊎◌, List, [], ◌∷◌, ◌++◌, map, length, sym, refl, ap, ◌∙◌, subst, inl, inr, arith}
use mathlib.Core.List.Memᴰ
use mathlib.Core.List.{Memᴰ}
use Rattle.std.proofs.lemmas.Bool.Decides.{nat_tests}
use Rattle.flows.specs.House.{some, keep, find, change}
use Rattle.plans.specs.Plan.{every}

pub bool : (b : Bool) → (b ≡ true) ⊎ (b ≡ false)
bool true = inl refl
bool false = inr refl

pub same_head : {A : Type 0} (x y : A) → ◌≡◌ {A = List A} (x ∷ []) (y ∷ []) → x ≡ y
same_head x y e = cc

pub not_nil : {A : Type 0} (B : Type 0) (x : A) → ◌≡◌ {A = List A} [] (x ∷ []) → B
not_nil B x e = let z : ◌≡◌ {A = ℕ} 0 1 = cc in absurd (omega arith)

pub nil_cons : {A : Type 0} (B : Type 0) (x : A) (xs : List A) → ◌≡◌ {A = List A} [] (x ∷ xs) → B
nil_cons B x xs e = let z : ◌≡◌ {A = ℕ} 0 1 = cc in absurd (omega arith)

pub no_bool : (B : Type 0) → true ≡ false → B
no_bool B e = let z : ◌≡◌ {A = ℕ} 0 1 = cc in absurd (omega arith)

pub eqb_same : (j i : ℕ) → eqb j i ≡ true → j ≡ i
eqb_same j i e = grind (arith, nat_tests)

pub eqb_self : (i : ℕ) → eqb i i ≡ true
eqb_self i = grind (arith, nat_tests)

pub cond_same : {A : Type 0} (b : Bool) (o : A) → cond b o o ≡ o
cond_same true o = refl
cond_same false o = refl

pub find_change_same : {A : Type 0} (p : A → Bool) (g : A → A) (xs : List A) → ((x : A) → p x ≡ true → p (g x) ≡ true) → find p (change p g xs) ≡ map g (find p xs)
unfolding find change
find_change_same p g [] k = refl
find_change_same p g (x ∷ xs) k = let ih : find p (change p g xs) ≡ map g (find p xs) = find_change_same p g xs k in let kx : p x ≡ true → p (g x) ≡ true = k x in grind arith

pub find_change_other : {A : Type 0} (q p : A → Bool) (g : A → A) (xs : List A) → ((x : A) → p x ≡ true → q x ≡ false) → ((x : A) → p x ≡ true → q (g x) ≡ false) → find q (change p g xs) ≡ find q xs
unfolding find change
find_change_other q p g [] k l = refl
find_change_other {A} q p g (x ∷ xs) k l = go (bool (p x)) (find_change_other q p g xs k l)
  where
    go : (p x ≡ true) ⊎ (p x ≡ false) → find q (change p g xs) ≡ find q xs → find q (change p g (x ∷ xs)) ≡ find q (x ∷ xs)
    go (inl e) ih = rw (e, k x e, l x e) refl
    go (inr e) ih = rw (e, ih) refl

pub find_append : {A : Type 0} (p : A → Bool) (xs ys : List A) → find p xs ≡ [] → find p (xs ++ ys) ≡ find p ys
unfolding find
find_append p [] ys k = refl
find_append p (x ∷ xs) ys k = go (bool (p x)) (find_append p xs ys)
  where
    go : (p x ≡ true) ⊎ (p x ≡ false) → (find p xs ≡ [] → find p (xs ++ ys) ≡ find p ys) → find p ((x ∷ xs) ++ ys) ≡ find p ys
    go (inl e) ih = let k' : ◌≡◌ {A = List _} (x ∷ []) [] = rw e at k in cc
    go (inr e) ih = let k' : find p xs ≡ [] = rw e at k in rw e (ih k')

pub find_append_first : {A : Type 0} (p : A → Bool) (xs ys : List A) (z : A) (zs : List A) → find p xs ≡ z ∷ zs → find p (xs ++ ys) ≡ z ∷ zs
unfolding find
find_append_first p [] ys z zs k = let n : ◌≡◌ {A = List _} [] (z ∷ zs) = k in cc
find_append_first p (x ∷ xs) ys z zs k = let ih : find p xs ≡ z ∷ zs → find p (xs ++ ys) ≡ z ∷ zs = find_append_first p xs ys z zs in grind arith

pub find_keep_other : {A : Type 0} (q p : A → Bool) (xs : List A) → ((x : A) → q x ≡ true → p x ≡ true) → find q (keep p xs) ≡ find q xs
unfolding find keep
find_keep_other q p [] k = refl
find_keep_other q p (x ∷ xs) k = let ih : find q (keep p xs) ≡ find q xs = find_keep_other q p xs k in let kx : q x ≡ true → p x ≡ true = k x in grind arith

pub find_keep_gone : {A : Type 0} (q p : A → Bool) (xs : List A) → ((x : A) → q x ≡ true → p x ≡ false) → find q (keep p xs) ≡ []
unfolding find keep
find_keep_gone q p [] k = refl
find_keep_gone q p (x ∷ xs) k = let ih : find q (keep p xs) ≡ [] = find_keep_gone q p xs k in let kx : q x ≡ true → p x ≡ false = k x in grind arith

pub keep_change_other : {A : Type 0} (q p : A → Bool) (g : A → A) (xs : List A) → ((x : A) → p x ≡ true → q x ≡ false) → ((x : A) → p x ≡ true → q (g x) ≡ false) → keep q (change p g xs) ≡ keep q xs
unfolding keep change
keep_change_other q p g [] k l = refl
keep_change_other q p g (x ∷ xs) k l = let ih : keep q (change p g xs) ≡ keep q xs = keep_change_other q p g xs k l in let kx : p x ≡ true → q x ≡ false = k x in let lx : p x ≡ true → q (g x) ≡ false = l x in grind arith

pub keep_change_same : {A : Type 0} (q p : A → Bool) (g : A → A) (xs : List A) → ((x : A) → p x ≡ true → q x ≡ true) → ((x : A) → p x ≡ true → q (g x) ≡ true) → keep q (change p g xs) ≡ change p g (keep q xs)
unfolding keep change
keep_change_same q p g [] k l = refl
keep_change_same q p g (x ∷ xs) k l = let ih : keep q (change p g xs) ≡ change p g (keep q xs) = keep_change_same q p g xs k l in let kx : p x ≡ true → q x ≡ true = k x in let lx : p x ≡ true → q (g x) ≡ true = l x in grind arith

pub keep_keep : {A : Type 0} (q p : A → Bool) (xs : List A) → keep q (keep p xs) ≡ keep p (keep q xs)
unfolding keep
keep_keep q p [] = refl
keep_keep q p (x ∷ xs) = let ih : keep q (keep p xs) ≡ keep p (keep q xs) = keep_keep q p xs in grind arith

pub keep_keep_other : {A : Type 0} (q p : A → Bool) (xs : List A) → ((x : A) → q x ≡ true → p x ≡ true) → keep q (keep p xs) ≡ keep q xs
unfolding keep
keep_keep_other q p [] k = refl
keep_keep_other q p (x ∷ xs) k = let ih : keep q (keep p xs) ≡ keep q xs = keep_keep_other q p xs k in let kx : q x ≡ true → p x ≡ true = k x in grind arith

pub keep_gone : {A : Type 0} (q p : A → Bool) (xs : List A) → ((x : A) → q x ≡ true → p x ≡ false) → keep q (keep p xs) ≡ []
unfolding keep
keep_gone q p [] k = refl
keep_gone q p (x ∷ xs) k = let ih : keep q (keep p xs) ≡ [] = keep_gone q p xs k in let kx : q x ≡ true → p x ≡ false = k x in grind arith

pub keep_append : {A : Type 0} (p : A → Bool) (xs ys : List A) → keep p (xs ++ ys) ≡ keep p xs ++ keep p ys
unfolding keep
keep_append p [] ys = refl
keep_append p (x ∷ xs) ys = let ih : keep p (xs ++ ys) ≡ keep p xs ++ keep p ys = keep_append p xs ys in grind arith

-- what is found is a member, and passes
pub find_mem : {A : Type 0} (p : A → Bool) (xs : List A) (z : A) (zs : List A) → find p xs ≡ z ∷ zs → Memᴰ z xs × (p z ≡ true) × (zs ≡ [])
unfolding find
find_mem p [] z zs k = let n : ◌≡◌ {A = ℕ} 0 1 = cc in absurd (omega arith)
find_mem {A} p (x ∷ xs) z zs k = go (bool (p x)) (find_mem p xs z zs)
  where
    go : (p x ≡ true) ⊎ (p x ≡ false) → (find p xs ≡ z ∷ zs → Memᴰ z xs × (p z ≡ true) × (zs ≡ [])) → Memᴰ z (x ∷ xs) × (p z ≡ true) × (zs ≡ [])
    go (inl e) ih = let k' : ◌≡◌ {A = List A} (x ∷ []) (z ∷ zs) = rw e at k in (Memᴰ.head (cc), (let q : x ≡ z = cc in rw (← q) e), cc)
    go (inr e) ih = let r = ih (rw e at k) in (Memᴰ.tail r.0, r.1, r.2)

pub keep_mem : {A : Type 0} (p : A → Bool) (xs : List A) (z : A) → Memᴰ z (keep p xs) → Memᴰ z xs × (p z ≡ true)
unfolding keep
keep_mem p [] z m = elim m [ ]
keep_mem {A} p (x ∷ xs) z m = go (bool (p x)) (keep_mem p xs z)
  where
    R : Type 0
    R = Memᴰ z (x ∷ xs) × (p z ≡ true)

    at : p x ≡ true → (Memᴰ z (keep p xs) → Memᴰ z xs × (p z ≡ true)) → (z ≡ x) ⊎ Memᴰ z (keep p xs) → R
    at e ih (inl q) = (Memᴰ.head q, rw q e)
    at e ih (inr n) = let r = ih n in (Memᴰ.tail r.0, r.1)

    go : (p x ≡ true) ⊎ (p x ≡ false) → (Memᴰ z (keep p xs) → Memᴰ z xs × (p z ≡ true)) → R
    go (inl e) ih = at e ih (Memᴰ.cases_cons (rw e at m))
    go (inr e) ih = let r = ih (rw e at m) in (Memᴰ.tail r.0, r.1)

pub mem_keep : {A : Type 0} (p : A → Bool) (xs : List A) (z : A) → Memᴰ z xs → p z ≡ true → Memᴰ z (keep p xs)
unfolding keep
mem_keep p [] z m e = elim m [ ]
mem_keep {A} p (x ∷ xs) z m e = at (Memᴰ.cases_cons m) (bool (p x)) (λ n. mem_keep p xs z n e)
  where
    at : (z ≡ x) ⊎ Memᴰ z xs → (p x ≡ true) ⊎ (p x ≡ false) → (Memᴰ z xs → Memᴰ z (keep p xs)) → Memᴰ z (keep p (x ∷ xs))
    at (inl q) b ih = let f : p x ≡ true = rw (← q) e in rw f (Memᴰ.head q)
    at (inr n) (inl f) ih = rw f (Memᴰ.tail (ih n))
    at (inr n) (inr f) ih = rw f (ih n)

-- all apart
abbrev pub Uniq : {B : Type 0} → List B → Type 0
Uniq [] = Unit {0}
Uniq {B} (b ∷ bs) = (Memᴰ b bs → ⊥) × Uniq bs

pub mem_map : {A B : Type 0} (f : A → B) (xs : List A) (x : A) → Memᴰ x xs → Memᴰ (f x) (map f xs)
mem_map f [] x m = elim m [ ]
mem_map f (y ∷ xs) x (Memᴰ.head e) = Memᴰ.head (ap f e)
mem_map f (y ∷ xs) x (Memᴰ.tail m) = Memᴰ.tail (mem_map f xs x m)

pub map_change : {A B : Type 0} (f : A → B) (p : A → Bool) (g : A → A) (xs : List A) → ((x : A) → p x ≡ true → f (g x) ≡ f x) → map f (change p g xs) ≡ map f xs
unfolding change
map_change f p g [] k = refl
map_change {A} {B} f p g (x ∷ xs) k = go (bool (p x)) (map_change f p g xs k)
  where
    go : (p x ≡ true) ⊎ (p x ≡ false) → map f (change p g xs) ≡ map f xs → map f (change p g (x ∷ xs)) ≡ map f (x ∷ xs)
    go (inl e) ih = rw (e, k x e) refl
    go (inr e) ih = rw (e, ih) refl

-- none passes
pub keep_none : {A : Type 0} (p : A → Bool) (xs : List A) → ((x : A) → Memᴰ x xs → p x ≡ false) → keep p xs ≡ []
unfolding keep
keep_none p [] k = refl
keep_none p (x ∷ xs) k = rw (k x (Memᴰ.head refl)) (keep_none p xs (λ y m. k y (Memᴰ.tail m)))

-- where at most one passes, all that pass are the first
pub keep_find : {A B : Type 0} (f : A → B) (p : A → Bool) (xs : List A) → ((x y : A) → p x ≡ true → p y ≡ true → f x ≡ f y) → Uniq (map f xs) → keep p xs ≡ find p xs
unfolding keep find
keep_find f p [] k u = refl
keep_find {A} f p (x ∷ xs) k u = go (bool (p x)) (keep_find f p xs k u.1)
  where
    none : p x ≡ true → (y : A) → Memᴰ y xs → (p y ≡ true) ⊎ (p y ≡ false) → p y ≡ false
    none e y m (inl e') = absurd (u.0 (rw (k x y e e') (mem_map f xs y m)))
    none e y m (inr e') = e'

    go : (p x ≡ true) ⊎ (p x ≡ false) → keep p xs ≡ find p xs → keep p (x ∷ xs) ≡ find p (x ∷ xs)
    go (inl e) ih = rw (e, keep_none p xs (λ y m. none e y m (bool (p y)))) refl
    go (inr e) ih = rw (e, ih) refl

pub find_append_none : {A : Type 0} (p : A → Bool) (xs ys : List A) → find p ys ≡ [] → find p (xs ++ ys) ≡ find p xs
unfolding find
find_append_none p [] ys k = k
find_append_none p (x ∷ xs) ys k = let ih : find p (xs ++ ys) ≡ find p xs = find_append_none p xs ys k in grind arith

pub find_none : {A : Type 0} (p : A → Bool) (xs : List A) → ((x : A) → Memᴰ x xs → p x ≡ false) → find p xs ≡ []
unfolding find
find_none p [] k = refl
find_none p (x ∷ xs) k = rw (k x (Memᴰ.head refl)) (find_none p xs (λ y m. k y (Memᴰ.tail m)))

pub none_find : {A : Type 0} (p : A → Bool) (xs : List A) (x : A) → find p xs ≡ [] → Memᴰ x xs → p x ≡ false
unfolding find
none_find p [] x k m = elim m [ ]
none_find {A} p (y ∷ xs) x k m = go (bool (p y)) (Memᴰ.cases_cons m) (none_find p xs x)
  where
    go : (p y ≡ true) ⊎ (p y ≡ false) → (x ≡ y) ⊎ Memᴰ x xs → (find p xs ≡ [] → Memᴰ x xs → p x ≡ false) → p x ≡ false
    go (inl e) c ih = let k' : ◌≡◌ {A = List A} (y ∷ []) [] = rw e at k in let z : ◌≡◌ {A = ℕ} 0 1 = cc in absurd (omega arith)
    go (inr e) (inl q) ih = rw q e
    go (inr e) (inr n) ih = ih (rw e at k) n

pub find_uniq : {A B : Type 0} (f : A → B) (p : A → Bool) (xs : List A) (x : A) → Uniq (map f xs) → Memᴰ x xs → p x ≡ true → ((y : A) → p y ≡ true → f y ≡ f x) → find p xs ≡ x ∷ []
unfolding find
find_uniq f p [] x u m e k = elim m [ ]
find_uniq {A} f p (y ∷ xs) x u m e k = go (bool (p y)) (Memᴰ.cases_cons m) (λ n. find_uniq f p xs x u.1 n e k)
  where
    go : (p y ≡ true) ⊎ (p y ≡ false) → (x ≡ y) ⊎ Memᴰ x xs → (Memᴰ x xs → find p xs ≡ x ∷ []) → find p (y ∷ xs) ≡ x ∷ []
    go (inl g) (inl q) ih = rw (g, q) refl
    go (inl g) (inr n) ih = absurd (u.0 (rw (k y g) (mem_map f xs x n)))
    go (inr g) (inl q) ih = let z : true ≡ false = sym e ∙ ap p q ∙ g in let w : ◌≡◌ {A = ℕ} 0 1 = cc in absurd (omega arith)
    go (inr g) (inr n) ih = rw g (ih n)

-- a member of a list of one
pub mem_one : {A : Type 0} (x y : A) → Memᴰ x (y ∷ []) → x ≡ y
mem_one x y (Memᴰ.head e) = e
mem_one x y (Memᴰ.tail m) = elim m [ ]

pub mem_change_other : {A : Type 0} (p : A → Bool) (g : A → A) (xs : List A) (z : A) → Memᴰ z xs → p z ≡ false → Memᴰ z (change p g xs)
unfolding change
mem_change_other p g [] z m e = elim m [ ]
mem_change_other {A} p g (x ∷ xs) z m e = go (bool (p x)) (Memᴰ.cases_cons m) (λ n. mem_change_other p g xs z n e)
  where
    go : (p x ≡ true) ⊎ (p x ≡ false) → (z ≡ x) ⊎ Memᴰ z xs → (Memᴰ z xs → Memᴰ z (change p g xs)) → Memᴰ z (change p g (x ∷ xs))
    go (inl f) (inl q) ih = let c : true ≡ false = sym f ∙ ap p (sym q) ∙ e in let w : ◌≡◌ {A = ℕ} 0 1 = cc in absurd (omega arith)
    go (inl f) (inr n) ih = rw f (Memᴰ.tail n)
    go (inr f) (inl q) ih = rw f (Memᴰ.head q)
    go (inr f) (inr n) ih = rw f (Memᴰ.tail (ih n))

pub map_mem : {A B : Type 0} (f : A → B) (xs : List A) (b : B) → Memᴰ b (map f xs) → (x : A) × Memᴰ x xs × (b ≡ f x)
map_mem f [] b m = elim m [ ]
map_mem {A} f (x ∷ xs) b (Memᴰ.head e) = (x, Memᴰ.head refl, e)
map_mem f (x ∷ xs) b (Memᴰ.tail m) = let r = map_mem f xs b m in (r.0, Memᴰ.tail r.1, r.2)

-- LENGTHS
pub length_change : {A : Type 0} (p : A → Bool) (g : A → A) (xs : List A) → length (change p g xs) ≡ length xs
unfolding change
length_change p g [] = refl
length_change p g (x ∷ xs) = let ih : length (change p g xs) ≡ length xs = length_change p g xs in grind arith

pub length_keep : {A : Type 0} (p : A → Bool) (xs : List A) → length (keep p xs) ≤ length xs
unfolding keep
length_keep p [] = omega arith
length_keep p (x ∷ xs) = let ih : length (keep p xs) ≤ length xs = length_keep p xs in grind arith

pub length_find : {A : Type 0} (p : A → Bool) (xs : List A) → length (find p xs) ≤ 1
unfolding find
length_find p [] = omega arith
length_find p (x ∷ xs) = let ih : length (find p xs) ≤ 1 = length_find p xs in grind arith

-- SOME and EVERY
pub mem_some : {A : Type 0} (p : A → Bool) (xs : List A) (x : A) → Memᴰ x xs → p x ≡ true → some p xs ≡ true
unfolding some
mem_some p [] x m e = elim m [ ]
mem_some p (y ∷ xs) x (Memᴰ.head q) e = let f : p y ≡ true = ap p (sym q) ∙ e in grind arith
mem_some p (y ∷ xs) x (Memᴰ.tail m) e = let ih : some p xs ≡ true = mem_some p xs x m e in grind arith

pub some_mem : {A : Type 0} (p : A → Bool) (xs : List A) → some p xs ≡ true → (x : A) × Memᴰ x xs × (p x ≡ true)
unfolding some
some_mem p [] e = let z : ◌≡◌ {A = ℕ} 0 1 = cc in absurd (omega arith)
some_mem {A} p (y ∷ xs) e = go (bool (p y)) (some_mem p xs)
  where
    go : (p y ≡ true) ⊎ (p y ≡ false) → (some p xs ≡ true → (x : A) × Memᴰ x xs × (p x ≡ true)) → (x : A) × Memᴰ x (y ∷ xs) × (p x ≡ true)
    go (inl f) ih = (y, Memᴰ.head refl, f)
    go (inr f) ih = let r = ih (rw f at e) in (r.0, Memᴰ.tail r.1, r.2)

pub every_mem : {A : Type 0} (p : A → Bool) (xs : List A) (x : A) → every p xs ≡ true → Memᴰ x xs → p x ≡ true
unfolding every
every_mem p [] x e m = elim m [ ]
every_mem p (y ∷ xs) x e (Memᴰ.head q) = let f : p y ≡ true = grind arith in ap p q ∙ f
every_mem p (y ∷ xs) x e (Memᴰ.tail m) = every_mem p xs x (grind arith) m

pub mem_every : {A : Type 0} (p : A → Bool) (xs : List A) → ((x : A) → Memᴰ x xs → p x ≡ true) → every p xs ≡ true
unfolding every
mem_every p [] k = refl
mem_every p (y ∷ xs) k = let f : p y ≡ true = k y (Memᴰ.head refl) in let ih : every p xs ≡ true = mem_every p xs (λ x m. k x (Memᴰ.tail m)) in grind arith

-- what is apart stays so
pub uniq_keep : {A B : Type 0} (f : A → B) (p : A → Bool) (xs : List A) → Uniq (map f xs) → Uniq (map f (keep p xs))
unfolding keep
uniq_keep f p [] u = tt
uniq_keep {A} {B} f p (x ∷ xs) u = go (bool (p x)) (uniq_keep f p xs u.1)
  where
    away : Memᴰ (f x) (map f (keep p xs)) → ⊥
    away m = let r = map_mem f (keep p xs) (f x) m in u.0 (subst (λ (b : B). Memᴰ b (map f xs)) (sym r.2) (mem_map f xs r.0 (keep_mem p xs r.0 r.1).0))

    go : (p x ≡ true) ⊎ (p x ≡ false) → Uniq (map f (keep p xs)) → Uniq (map f (keep p (x ∷ xs)))
    go (inl e) ih = rw e (away, ih)
    go (inr e) ih = rw e ih
