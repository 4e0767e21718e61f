-- Many moves.
use Rattle.std.specs.Option.{is_some}
use Rattle.std.proofs.Common.{◌≡◌, ℕ, zero, suc, ◌+◌, ◌-◌, ◌<◌, ◌≤◌, Bool, true, false, cond, ◌&&◌, ◌⊎◌, List, [], ◌∷◌, length, Some, None, Ok, Err, Option, Result, sym, refl, ap, ◌∙◌, subst, inl, inr, arith}
use Rattle.std.proofs.lemmas.Bool.{both_ways}
use Rattle.runs.specs.declared.step.Phase.{Phase}
use Rattle.runs.specs.declared.step.Phase.TheVariants.{Busy, Tasked, Asleep, Listens, Ended, Failed}
use Rattle.plans.specs.Plan.{Word, Wish, Flow, Moved, take_word, is_busy, none, Phase as MeantPhase, Busy as busy_p, Tasked as tasked_p, Asleep as asleep_p, Listens as listens_p, Ended as ended_p, Failed as failed_p, still, further, moves}
use Rattle.runs.specs.declared.step.Place.{Place}
use Rattle.runs.specs.Machine.{Act, SetOp, DoOp, SleepOp, HearOp, IfOp, WhileOp, EnterOp, GoOp, ReturnOp, FailOp, EndOp, Wrong, Code, FlatFlow, FlatMoved, fends, fstill, flistens, fdoes, spent, ffurther, fmoves, Is, Follows}
use Rattle.runs.specs.Decode.{code_in}
use Rattle.runs.specs.declared.step.Wish.{Wish as Want}
use Rattle.runs.specs.declared.flow.Ran.{Ran}
use Rattle.runs.specs.declared.step.Moved.{Moved as Gone}
use Rattle.plans.specs.declared.eval.Damaged.{Damaged}
use Rattle.runs.specs.Runs.{as_out, RanTo, MovedTo, ends_listening, CameTo}
use Rattle.runs.specs.Steps.{Out, Lost, Went, busy, step_w, onward, moves_w, wishes, Stepped}
use Rattle.runs.specs.Carried.{phase_in, flow_in, deaf, dfurther, Quiet, Tells, Meets, listening, hears, MovesOn}
use Rattle.runs.proofs.Moves.{further_follows, moves_follows}
use Rattle.runs.proofs.Told.{never_wrong}
use Rattle.runs.proofs.Arms.{step_calm}
use Rattle.runs.proofs.Ties.{steps_alike, quiet_alike}

on_twice : (o : Out) (f g h : Place → List ℕ → Out) → ((p : Place) (vs : List ℕ) → f p vs ≡ onward (g p vs) h) → onward o f ≡ onward (onward o g) h
unfolding onward
on_twice Lost f g h k = refl
on_twice (Went p vs []) f g h k = k p vs
on_twice (Went p vs (w ∷ ws)) f g h k = refl

on_once : (o : Out) → onward o (λ p vs. Went p vs []) ≡ o
unfolding onward
on_once Lost = refl
on_once (Went p vs []) = refl
on_once (Went p vs (w ∷ ws)) = refl

module _ (room : ℕ) (ws : List ℕ) (t : ℕ) where
  cut : (n m : ℕ) (p : Place) (vs : List ℕ) → moves_w room ws t (n + m) p vs ≡ onward (moves_w room ws t n p vs) (λ q us. moves_w room ws t m q us)
  unfolding moves_w onward
  cut zero m p vs = let e : 0 + m ≡ m = omega arith in ap (λ (k : ℕ). moves_w room ws t k p vs) e
  cut (suc n) m p vs = let e : suc n + m ≡ suc (n + m) = omega arith in ap (λ (k : ℕ). moves_w room ws t k p vs) e ∙ on_twice (step_w room ws t p vs) (moves_w room ws t (n + m)) (moves_w room ws t n) (λ q us. moves_w room ws t m q us) (λ q us. cut n m q us)

  one_move : (p : Place) (vs : List ℕ) → moves_w room ws t 1 p vs ≡ step_w room ws t p vs
  unfolding moves_w
  one_move p vs = on_once (step_w room ws t p vs)

  pub more : (n : ℕ) (p0 p : Place) (vs0 vs : List ℕ) (o : Out) → moves_w room ws t n p0 vs0 ≡ Went p vs [] → step_w room ws t p vs ≡ o → moves_w room ws t (n + 1) p0 vs0 ≡ o
  unfolding onward
  more n p0 p vs0 vs o h e = cut n 1 p0 vs0 ∙ (ap (λ (q : Out). onward q (λ r us. moves_w room ws t 1 r us)) h ∙ (one_move p vs ∙ e))

  rest_of_run : (n m : ℕ) (p0 : Place) (vs0 : List ℕ) (o : Out) → n ≤ m → moves_w room ws t n p0 vs0 ≡ o → moves_w room ws t m p0 vs0 ≡ onward o (λ q us. moves_w room ws t (m - n) q us)
  rest_of_run n m p0 vs0 o l h = let e : n + (m - n) ≡ m = omega arith in ap (λ (k : ℕ). moves_w room ws t k p0 vs0) (sym e) ∙ (cut n (m - n) p0 vs0 ∙ ap (λ (q : Out). onward q (λ r us. moves_w room ws t (m - n) r us)) h)

  pub stays_calm : (n : ℕ) (p : Place) (vs : List ℕ) → busy p.phase ≡ false → moves_w room ws t n p vs ≡ Went p vs []
  unfolding moves_w onward
  stays_calm zero p vs h = refl
  stays_calm (suc n) p vs h = ap (λ (o : Out). onward o (moves_w room ws t n)) (step_calm room ws p vs t h) ∙ stays_calm n p vs h

  pub run_wished : (n m : ℕ) (p0 p : Place) (vs0 vs : List ℕ) (w : Wish) → n ≤ m → moves_w room ws t n p0 vs0 ≡ Went p vs (w ∷ []) → moves_w room ws t m p0 vs0 ≡ Went p vs (w ∷ [])
  unfolding onward
  run_wished n m p0 p vs0 vs w l h = rest_of_run n m p0 vs0 (Went p vs (w ∷ [])) l h

  pub run_lost : (n m : ℕ) (p0 : Place) (vs0 : List ℕ) → n ≤ m → moves_w room ws t n p0 vs0 ≡ Lost → moves_w room ws t m p0 vs0 ≡ Lost
  unfolding onward
  run_lost n m p0 vs0 l h = rest_of_run n m p0 vs0 Lost l h

  pub run_calm : (n m : ℕ) (p0 p : Place) (vs0 vs : List ℕ) → n ≤ m → moves_w room ws t n p0 vs0 ≡ Went p vs [] → busy p.phase ≡ false → moves_w room ws t m p0 vs0 ≡ Went p vs []
  unfolding onward
  run_calm n m p0 p vs0 vs l h b = rest_of_run n m p0 vs0 (Went p vs []) l h ∙ stays_calm (m - n) p vs b

  pub run_full : (n m : ℕ) (p0 p : Place) (vs0 vs : List ℕ) → n ≡ m → moves_w room ws t n p0 vs0 ≡ Went p vs [] → moves_w room ws t m p0 vs0 ≡ Went p vs []
  run_full n m p0 p vs0 vs e h = subst (λ (k : ℕ). moves_w room ws t k p0 vs0 ≡ Went p vs []) e h

-- the meaning ----------------------------------------------------------------

quiet_none : (a : Act) → Quiet a []
unfolding Quiet take_word
quiet_none (SetOp v e next) = tt
quiet_none (DoOp v k es tries pause next way) = tt
quiet_none (SleepOp e next) = tt
quiet_none (HearOp v w n e next) = refl
quiet_none (IfOp e y0 n0) = tt
quiet_none (WhileOp e body next) = tt
quiet_none (EnterOp first) = tt
quiet_none (GoOp next) = tt
quiet_none (ReturnOp e) = tt
quiet_none (FailOp way) = tt
quiet_none EndOp = tt
quiet_none Wrong = tt

deaf_further : (code : Code) (now : ℕ) (x : FlatFlow) → Quiet (code x.here).act x.box → dfurther code now (fstill x) ≡ ffurther code now (fstill x)
unfolding none
deaf_further code now x q = ap (λ (m : FlatMoved). cond (is_busy x.phase && true) (cond (spent (code x.here).deep x.steps) (fstill (fends failed_p x)) m) (fstill x)) (quiet_alike now (code x.here).act x q)

-- a flow that wishes for something makes no move
wished_stays : (code : Code) (n now : ℕ) (f : FlatFlow) (w : Wish) (ws : List Wish) → fmoves code n now (record { flow = f; wish = w ∷ ws }) ≡ record { flow = f; wish = w ∷ ws }
unfolding fmoves none
wished_stays code zero now f w ws = refl
wished_stays code (suc n) now f w ws = ap (λ (m : FlatMoved). fmoves code n now m) (go (is_busy f.phase)) ∙ wished_stays code n now f w ws
  where
    go : (b : Bool) → cond (b && false) (cond (spent (code f.here).deep f.steps) (fstill (fends failed_p f)) (fdoes now (code f.here).act f)) (record { flow = f; wish = w ∷ ws }) ≡ record { flow = f; wish = w ∷ ws }
    go true = refl
    go false = refl

-- a move is the machine's, or it has come to wait for a word
heeds : MeantPhase → Bool
heeds busy_p = false
heeds (tasked_p s) = false
heeds (asleep_p u) = false
heeds (listens_p v w n u) = true
heeds (ended_p x) = false
heeds failed_p = false

deaf_or : (now : ℕ) (a : Act) (x : FlatFlow) → (deaf now a x ≡ fdoes now a x) ⊎ (heeds (deaf now a x).flow.phase ≡ true)
unfolding deaf flistens heeds
deaf_or now (SetOp v e next) x = inl refl
deaf_or now (DoOp v k es tries pause next way) x = inl refl
deaf_or now (SleepOp e next) x = inl refl
deaf_or now (HearOp v w n e next) x = inr refl
deaf_or now (IfOp e y0 n0) x = inl refl
deaf_or now (WhileOp e body next) x = inl refl
deaf_or now (EnterOp first) x = inl refl
deaf_or now (GoOp next) x = inl refl
deaf_or now (ReturnOp e) x = inl refl
deaf_or now (FailOp way) x = inl refl
deaf_or now EndOp x = inl refl
deaf_or now Wrong x = inl refl

further_or : (code : Code) (now : ℕ) (x : FlatFlow) → (dfurther code now (fstill x) ≡ ffurther code now (fstill x)) ⊎ (heeds (dfurther code now (fstill x)).flow.phase ≡ true)
unfolding none
further_or code now x = go (is_busy x.phase && true) (spent (code x.here).deep x.steps)
  where
    a : Act
    a = (code x.here).act

    go : (b s : Bool) → (cond b (cond s (fstill (fends failed_p x)) (deaf now a x)) (fstill x) ≡ cond b (cond s (fstill (fends failed_p x)) (fdoes now a x)) (fstill x)) ⊎ (heeds (cond b (cond s (fstill (fends failed_p x)) (deaf now a x)) (fstill x)).flow.phase ≡ true)
    go true true = inl refl
    go true false = deaf_or now a x
    go false s = inl refl

heeds_is : (ws : List ℕ) (q : Phase) → heeds (phase_in ws q) ≡ listening q
unfolding heeds phase_in
heeds_is ws Busy = refl
heeds_is ws (Tasked s) = refl
heeds_is ws (Asleep u) = refl
heeds_is ws (Listens v w n u) = refl
heeds_is ws (Ended x) = refl
heeds_is ws Failed = refl

listens_calm : (q : Phase) → listening q ≡ true → busy q ≡ false
listens_calm Busy h = sym h
listens_calm (Tasked s) h = refl
listens_calm (Asleep u) h = refl
listens_calm (Listens v w n u) h = refl
listens_calm (Ended x) h = refl
listens_calm Failed h = refl

heard_or : (room : ℕ) (ws : List ℕ) (now n : ℕ) (p : Place) (vs : List ℕ) (y : FlatFlow) (x : Flow) → length vs ≡ 64 → Is (code_in room ws) (flow_in ws p vs y) x → (o : Out) → step_w room ws now p vs ≡ o → (y.box ≡ []) ⊎ (hears (onward o (moves_w room ws now n)) ≡ false) → dfurther (code_in room ws) now (fstill (flow_in ws p vs y)) ≡ ffurther (code_in room ws) now (fstill (flow_in ws p vs y))
unfolding onward hears
heard_or room ws now n p vs y x all k o e (inl empty) = deaf_further (code_in room ws) now (flow_in ws p vs y) (subst (λ (b : List Word). Quiet (code_in room ws p.here).act b) (sym empty) (quiet_none (code_in room ws p.here).act))
heard_or room ws now n p vs y x all k o e (inr h) = go (further_or (code_in room ws) now (flow_in ws p vs y))
  where
    f : FlatMoved
    f = dfurther (code_in room ws) now (fstill (flow_in ws p vs y))

    tells : ((code_in room ws p.here).act ≡ Wrong) ⊎ Tells ws y (step_w room ws now p vs) f → Tells ws y o f
    tells (inl w) = absurd (never_wrong (code_in room ws) (flow_in ws p vs y) x k w)
    tells (inr t) = subst (λ (s : Out). Tells ws y s f) e t

    never : (s : Out) → Tells ws y s f → heeds f.flow.phase ≡ true → hears (onward s (moves_w room ws now n)) ≡ false → ⊥
    never Lost t l b = t
    never (Went r us []) t l b =
        let q : listening r.phase ≡ true = sym (heeds_is ws r.phase) ∙ (sym (ap (λ (m : FlatMoved). heeds m.flow.phase) t.0) ∙ l) in
        both_ways (listening r.phase) (sym (ap hears (stays_calm room ws now n r us (listens_calm r.phase q))) ∙ b) q
    never (Went r us (w ∷ more0)) t l b =
        let q : listening r.phase ≡ true = sym (heeds_is ws r.phase) ∙ (sym (ap (λ (m : FlatMoved). heeds m.flow.phase) t.0) ∙ l) in
        both_ways (listening r.phase) b q

    go : (f ≡ ffurther (code_in room ws) now (fstill (flow_in ws p vs y))) ⊎ (heeds f.flow.phase ≡ true) → f ≡ ffurther (code_in room ws) now (fstill (flow_in ws p vs y))
    go (inl d) = d
    go (inr l) = absurd (never o (tells (steps_alike room ws now p vs y all)) l h)

pub step_meets : (room : ℕ) (ws : List ℕ) (now : ℕ) (p : Place) (vs : List ℕ) (y : FlatFlow) (x : Flow) → length vs ≡ 64 → dfurther (code_in room ws) now (fstill (flow_in ws p vs y)) ≡ ffurther (code_in room ws) now (fstill (flow_in ws p vs y)) → Is (code_in room ws) (flow_in ws p vs y) x → (o : Out) → step_w room ws now p vs ≡ o → (Tells ws y o (ffurther (code_in room ws) now (fstill (flow_in ws p vs y)))) × Meets room ws y o (further now (still x))
step_meets room ws now p vs y x all q k o e = go o (subst (λ (s : Out). Tells ws y s (ffurther (code_in room ws) now (fstill (flow_in ws p vs y)))) e tells)
  where
    tells : Tells ws y (step_w room ws now p vs) (ffurther (code_in room ws) now (fstill (flow_in ws p vs y)))
    tells = pick (steps_alike room ws now p vs y all)
      where
        pick : ((code_in room ws p.here).act ≡ Wrong) ⊎ Tells ws y (step_w room ws now p vs) (dfurther (code_in room ws) now (fstill (flow_in ws p vs y))) → Tells ws y (step_w room ws now p vs) (ffurther (code_in room ws) now (fstill (flow_in ws p vs y)))
        pick (inl w) = absurd (never_wrong (code_in room ws) (flow_in ws p vs y) x k w)
        pick (inr h) = subst (λ (m : FlatMoved). Tells ws y (step_w room ws now p vs) m) q h

    went : Follows (code_in room ws) (ffurther (code_in room ws) now (fstill (flow_in ws p vs y))) (further now (still x))
    went = further_follows (code_in room ws) now (fstill (flow_in ws p vs y)) (still x) (record { flow = k; wish = refl })

    go : (s : Out) → Tells ws y s (ffurther (code_in room ws) now (fstill (flow_in ws p vs y))) → (Tells ws y s (ffurther (code_in room ws) now (fstill (flow_in ws p vs y)))) × Meets room ws y s (further now (still x))
    go Lost h = absurd h
    go (Went q us w) h = (h, subst (λ (m : FlatMoved). Follows (code_in room ws) m (further now (still x))) h.0 went)

pub moves_on : MovesOn
unfolding moves_w moves onward hears
moves_on room ws now zero p vs y x all quiet k = record { flow = k; wish = refl }
moves_on room ws now (suc n) p vs y x all quiet k = go (λ r us z a b e. moves_on room ws now n r us y z a b e) (step_w room ws now p vs) refl quiet
  where
    m : Moved
    m = further now (still x)

    go : ((r : Place) (us : List ℕ) (z : Flow) → length us ≡ 64 → (y.box ≡ []) ⊎ (hears (moves_w room ws now n r us) ≡ false) → Is (code_in room ws) (flow_in ws r us y) z → Meets room ws y (moves_w room ws now n r us) (moves n now (still z))) → (o : Out) → step_w room ws now p vs ≡ o → (y.box ≡ []) ⊎ (hears (onward o (moves_w room ws now n)) ≡ false) → Meets room ws y (onward o (moves_w room ws now n)) (moves n now m)
    go ih Lost e qu = absurd (step_meets room ws now p vs y x all (heard_or room ws now n p vs y x all k Lost e qu) k Lost e).1
    go ih (Went r us []) e qu =
        let h = step_meets room ws now p vs y x all (heard_or room ws now n p vs y x all k (Went r us []) e qu) k (Went r us []) e in
        let s : m ≡ still m.flow = λ i. record { flow = m.flow; wish = h.1.wish i } in
        subst (λ (z : Moved). Meets room ws y (moves_w room ws now n r us) (moves n now z)) (sym s) (ih r us m.flow h.0.1 qu h.1.flow)
    go ih (Went r us (w ∷ more0)) e qu =
        let h = step_meets room ws now p vs y x all (heard_or room ws now n p vs y x all k (Went r us (w ∷ more0)) e qu) k (Went r us (w ∷ more0)) e in
        subst (λ (g : FlatMoved). Follows (code_in room ws) g (moves n now m)) (wished_stays (code_in room ws) n now (flow_in ws r us y) w more0) (moves_follows (code_in room ws) n now (record { flow = flow_in ws r us y; wish = w ∷ more0 }) m h.1)

pub comes_to : (room : ℕ) (ws : List ℕ) (now : ℕ) (p : Place) (vs us : List ℕ) (r : Result Ran Damaged) (x : Flow) (y : FlatFlow) → length vs ≡ 64 → RanTo room ws now p vs r us → (y.box ≡ []) ⊎ (ends_listening r ≡ false) → Is (code_in room ws) (flow_in ws p vs y) x → CameTo room ws y r us (moves 1000 now (still x))
unfolding ends_listening hears
comes_to room ws now p vs us (Ok r) x y all h quiet k = subst (λ (o : Out). Meets room ws y o (moves 1000 now (still x))) h.2 (moves_on room ws now 1000 p vs y x all (go quiet) k)
  where
    go : (y.box ≡ []) ⊎ (listening r.moved.place.phase ≡ false) → (y.box ≡ []) ⊎ (hears (moves_w room ws now 1000 p vs) ≡ false)
    go (inl e) = inl e
    go (inr e) = inr (ap hears h.2 ∙ e)
comes_to room ws now p vs us (Err e) x y all h quiet k = subst (λ (o : Out). Meets room ws y o (moves 1000 now (still x))) h (moves_on room ws now 1000 p vs y x all (inr (ap hears h)) k)

pub moved_to : (room : ℕ) (ws : List ℕ) (now : ℕ) (p : Place) (vs us : List ℕ) (r : Result Gone Damaged) (x : Flow) (y : FlatFlow) → length vs ≡ 64 → Stepped r us (step_w room ws now p vs) → Quiet (code_in room ws p.here).act y.box → Is (code_in room ws) (flow_in ws p vs y) x → MovedTo room ws y r us (further now (still x))
moved_to room ws now p vs us (Ok m) x y all h q k = (step_meets room ws now p vs y x all (deaf_further (code_in room ws) now (flow_in ws p vs y) q) k (as_out m us) h).1
moved_to room ws now p vs us (Err e) x y all h q k = (step_meets room ws now p vs y x all (deaf_further (code_in room ws) now (flow_in ws p vs y) q) k Lost h).1

-- the turns of the loop, where the stack is as long as it was
pub turn_lost : (room long : ℕ) (ws : List ℕ) (t n : ℕ) (p0 p : Place) (vs0 vs : List ℕ) → long ≡ room → n < 1000 → moves_w room ws t n p0 vs0 ≡ Went p vs [] → step_w long ws t p vs ≡ Lost → moves_w room ws t 1000 p0 vs0 ≡ Lost
turn_lost room long ws t n p0 p vs0 vs e l h k = run_lost room ws t (n + 1) 1000 p0 vs0 (omega arith) (more room ws t n p0 p vs0 vs Lost h (subst (λ (r : ℕ). step_w r ws t p vs ≡ Lost) e k))

pub turn_on : (room long : ℕ) (ws : List ℕ) (t n : ℕ) (p0 p : Place) (vs0 vs us : List ℕ) (m : Gone) → long ≡ room → moves_w room ws t n p0 vs0 ≡ Went p vs [] → step_w long ws t p vs ≡ as_out m us → moves_w room ws t (n + 1) p0 vs0 ≡ as_out m us
turn_on room long ws t n p0 p vs0 vs us m e h k = more room ws t n p0 p vs0 vs (as_out m us) h (subst (λ (r : ℕ). step_w r ws t p vs ≡ as_out m us) e k)

pub turn_wished : (room : ℕ) (ws : List ℕ) (t n : ℕ) (p0 : Place) (vs0 us : List ℕ) (m : Gone) → n ≤ 1000 → moves_w room ws t n p0 vs0 ≡ as_out m us → is_some m.wish ≡ true → (n ≤ 1000) × (moves_w room ws t n p0 vs0 ≡ as_out m us) × (moves_w room ws t 1000 p0 vs0 ≡ as_out m us)
turn_wished room ws t n p0 vs0 us m l h e = go m.wish refl e
  where
    go : (o : Option Want) → m.wish ≡ o → is_some o ≡ true → (n ≤ 1000) × (moves_w room ws t n p0 vs0 ≡ as_out m us) × (moves_w room ws t 1000 p0 vs0 ≡ as_out m us)
    go None q k = let z : ◌≡◌ {A = ℕ} 0 1 = cc in absurd (omega arith)
    go (Some w) q k =
        let r : as_out m us ≡ Went m.place us (wishes (Some w)) = ap (λ (o : Option Want). Went m.place us (wishes o)) q in
        (l, h, run_wished room ws t n 1000 p0 m.place vs0 us _ l (h ∙ r) ∙ sym r)

pub turn_none : (room : ℕ) (ws : List ℕ) (t n : ℕ) (p0 : Place) (vs0 us : List ℕ) (m : Gone) → moves_w room ws t n p0 vs0 ≡ as_out m us → is_some m.wish ≡ false → moves_w room ws t n p0 vs0 ≡ Went m.place us []
turn_none room ws t n p0 vs0 us m h e = go m.wish refl e
  where
    go : (o : Option Want) → m.wish ≡ o → is_some o ≡ false → moves_w room ws t n p0 vs0 ≡ Went m.place us []
    go None q k = h ∙ ap (λ (o : Option Want). Went m.place us (wishes o)) q
    go (Some w) q k = let z : ◌≡◌ {A = ℕ} 0 1 = cc in absurd (omega arith)
