-- Whatever is read is a flow that a page may say. Assumes nothing.
use Rattle.std.proofs.Common.{◌≡◌, ℕ, ◌≤◌, Bool, true, false, cond, ◌&&◌, eqb, ltb, leb, List, length, get_or, take, drop, Some, None, Ok, Err, Option, Result, sym, refl, ap, ◌∙◌, subst, arith, length-drop, length-take-le}
use Rattle.std.proofs.lemmas.Bool.{and_parts, leb-true, ltb-true}
use Rattle.plans.specs.declared.eval.Damaged.{Damaged}
use Rattle.runs.specs.declared.step.Phase.{Phase}
use Rattle.runs.specs.declared.step.Phase.TheVariants.{Busy, Tasked, Asleep, Listens, Ended, Failed}
use Rattle.pages.specs.declared.flow.Standing.{Standing}
use Rattle.pages.specs.declared.flow.Standing.TheVariants.{Due, Out}
use Rattle.pages.specs.declared.flow.Task.{Task}
use Rattle.pages.specs.declared.flow.Flow.{Flow}
use Rattle.runs.specs.Steps.{fill}
use Rattle.pages.specs.Page.{damaged, fair, agree, phase_of, phase_in, as_task, task_as, task_in, flow_of, with_task, with_phase, decode_of}
use Rattle.pages.specs.Sound.{TaskOk, PhaseOk, Agree, Sound, DecodesSound}
use Rattle.runs.proofs.Filled.{fill_long, fill_take}

phase_same : (p q : Phase) → PhaseOk p → ◌≡◌ {A = Result Phase Damaged} (Ok p) (Ok q) → PhaseOk q
phase_same p q k e = let n : p ≡ q = cc in subst (λ (r : Phase). PhaseOk r) n k

phase_none : (p : Phase) → ◌≡◌ {A = Result Phase Damaged} damaged (Ok p) → PhaseOk p
phase_none p e = let z : ◌≡◌ {A = ℕ} 0 1 = cc in absurd (omega arith)

phase_read : (tag a b c d : ℕ) (p : Phase) → phase_of tag a b c d ≡ Ok p → PhaseOk p
phase_read tag a b c d p = go (eqb tag 0) (eqb tag 1) (eqb tag 2) (eqb tag 3) (eqb tag 4) (eqb tag 5)
  where
    heard : (h : Bool) → (ltb a 64 && ltb b 64) ≡ h → cond h (Ok (Listens a b c d)) damaged ≡ Ok p → PhaseOk p
    heard true q e = let k = and_parts (ltb a 64) (ltb b 64) q in phase_same (Listens a b c d) p (ltb-true a 64 k.0, ltb-true b 64 k.1) e
    heard false q e = phase_none p e

    go : (b0 b1 b2 b3 b4 b5 : Bool) → cond b0 (Ok Busy) (cond b1 (Ok (Tasked a)) (cond b2 (Ok (Asleep a)) (cond b3 (cond (ltb a 64 && ltb b 64) (Ok (Listens a b c d)) damaged) (cond b4 (Ok (Ended a)) (cond b5 (Ok Failed) damaged))))) ≡ Ok p → PhaseOk p
    go true b1 b2 b3 b4 b5 e = phase_same Busy p tt e
    go false true b2 b3 b4 b5 e = phase_same (Tasked a) p tt e
    go false false true b3 b4 b5 e = phase_same (Asleep a) p tt e
    go false false false true b4 b5 e = heard (ltb a 64 && ltb b 64) refl e
    go false false false false true b5 e = phase_same (Ended a) p tt e
    go false false false false false true e = phase_same Failed p tt e
    go false false false false false false e = phase_none p e

-- a task that was read
abbrev Read : Option Task → Type 0
Read None = Unit {0}
Read (Some u) = TaskOk u

fair_task : (ws : List ℕ) (s : Standing) → length ws ≡ 128 → fair (as_task ws s) ≡ true → TaskOk (as_task ws s)
fair_task ws s long e =
    let n : ℕ = get_or ws 11 0 in
    let a = and_parts (leb n 16) _ e in
    let b = and_parts (leb 1 (get_or ws 12 0)) _ a.1 in
    let c = and_parts (leb (get_or ws 12 0) (get_or ws 13 0)) _ b.1 in
    let d = and_parts (leb (get_or ws 13 0) 32) _ c.1 in
    let f = and_parts (leb (get_or ws 14 0) 86400000) (ltb (get_or ws 10 0) 4294967296) d.1 in
    let low : n ≤ 16 = leb-true n 16 a.0 in
    let part : length (take 16 (drop 16 ws)) ≡ 16 = length-take-le 16 (drop 16 ws) (omega (arith, length-drop 16 ws)) in
    let xs : List ℕ = take n (take 16 (drop 16 ws)) in
    let l : length xs ≡ n = length-take-le n (take 16 (drop 16 ws)) (omega arith) in
    let same : take n (fill xs) ≡ xs = ap (λ (k : ℕ). take k (fill xs)) (sym l) ∙ fill_take xs (omega arith) in
    record {
      args = ap fill (sym same);
      full = fill_long xs;
      count = low;
      first = leb-true 1 (get_or ws 12 0) b.0;
      attempt = leb-true (get_or ws 12 0) (get_or ws 13 0) c.0;
      tries = leb-true (get_or ws 13 0) 32 d.0;
      pause = leb-true (get_or ws 14 0) 86400000 f.0;
      kind = ltb-true (get_or ws 10 0) 4294967296 f.1;
    }

read_same : (m n : Option Task) → Read m → ◌≡◌ {A = Result (Option Task) Damaged} (Ok m) (Ok n) → Read n
read_same m n k e = let q : m ≡ n = cc in subst (λ (r : Option Task). Read r) q k

read_none : (m : Option Task) → ◌≡◌ {A = Result (Option Task) Damaged} damaged (Ok m) → Read m
read_none m e = let z : ◌≡◌ {A = ℕ} 0 1 = cc in absurd (omega arith)

as_read : (ws : List ℕ) (s : Standing) (m : Option Task) → length ws ≡ 128 → task_as ws s ≡ Ok m → Read m
unfolding task_as
as_read ws s m long = go (fair (as_task ws s)) refl
  where
    go : (b : Bool) → fair (as_task ws s) ≡ b → cond b (Ok (Some (as_task ws s))) damaged ≡ Ok m → Read m
    go true q e = read_same (Some (as_task ws s)) m (fair_task ws s long q) e
    go false q e = read_none m e

task_read : (ws : List ℕ) (m : Option Task) → length ws ≡ 128 → task_in ws ≡ Ok m → Read m
task_read ws m long = go (eqb (get_or ws 8 0) 0) (eqb (get_or ws 8 0) 1) (eqb (get_or ws 8 0) 2)
  where
    go : (a b c : Bool) → cond a (Ok None) (cond b (task_as ws (Due (get_or ws 9 0))) (cond c (task_as ws (Out (get_or ws 9 0))) damaged)) ≡ Ok m → Read m
    go true b c e = read_same None m tt e
    go false true c e = as_read ws (Due (get_or ws 9 0)) m long e
    go false false true e = as_read ws (Out (get_or ws 9 0)) m long e
    go false false false e = read_none m e

never : {A : Type 0} → false ≡ true → A
never e = let z : ◌≡◌ {A = ℕ} 0 1 = cc in absurd (omega arith)

agreed : (p : Phase) (m : Option Task) → agree p m ≡ true → Read m → Agree p m
agreed Busy None e r = tt
agreed Busy (Some u) e r = never e
agreed (Tasked s) None e r = never e
agreed (Tasked s) (Some u) e r = r
agreed (Asleep t) None e r = tt
agreed (Asleep t) (Some u) e r = never e
agreed (Listens v w n t) None e r = tt
agreed (Listens v w n t) (Some u) e r = never e
agreed (Ended v) None e r = tt
agreed (Ended v) (Some u) e r = never e
agreed Failed None e r = tt
agreed Failed (Some u) e r = never e

lost : (f : Flow) → ◌≡◌ {A = Result Flow Damaged} damaged (Ok f) → Sound f
lost f e = let z : ◌≡◌ {A = ℕ} 0 1 = cc in absurd (omega arith)

pub decodes_sound : DecodesSound
unfolding decode_of with_phase with_task
decodes_sound ws f long = at_phase (phase_in ws) refl
  where
    at_end : (p : Phase) (m : Option Task) (b : Bool) → PhaseOk p → Read m → (ltb (get_or ws 7 0) 64 && agree p m) ≡ b → cond b (Ok (flow_of ws p m)) damaged ≡ Ok f → Sound f
    at_end p m false k r q e = lost f e
    at_end p m true k r q e =
        let n : flow_of ws p m ≡ f = cc in
        let h = and_parts (ltb (get_or ws 7 0) 64) (agree p m) q in
        subst Sound n (record { vars = length-take-le 64 (drop 32 ws) (omega (arith, length-drop 32 ws)); into = ltb-true (get_or ws 7 0) 64 h.0; phase = k; task = agreed p m h.1 r })

    at_task : (p : Phase) (r : Result (Option Task) Damaged) → PhaseOk p → task_in ws ≡ r → with_task ws p r ≡ Ok f → Sound f
    at_task p (Ok m) k q e = at_end p m (ltb (get_or ws 7 0) 64 && agree p m) k (task_read ws m long q) refl e
    at_task p (Err d) k q e = lost f e

    at_phase : (r : Result Phase Damaged) → phase_in ws ≡ r → with_phase ws r ≡ Ok f → Sound f
    at_phase (Ok p) q e = at_task p (task_in ws) (phase_read (get_or ws 0 0) (get_or ws 1 0) (get_or ws 2 0) (get_or ws 3 0) (get_or ws 4 0) p q) refl e
    at_phase (Err d) q e = lost f e
