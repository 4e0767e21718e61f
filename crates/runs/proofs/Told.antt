-- What is told to a flow keeps it alike.
use Rattle.std.proofs.Common.{◌≡◌, ℕ, zero, suc, ◌+◌, true, List, sym, refl, ap, ◌∙◌, subst, arith}
use Rattle.plans.specs.Plan.{Frame, Phase, Busy, Tasked, Asleep, Listens, Ended, Failed, Flow, at, goes_on, ends, still, broken, heard}
use Rattle.plans.specs.Flat.{Way}
use Rattle.runs.specs.Machine.{Code, FlatFlow, fgoes, fends, fstill, fbroken, fheard, fmoves, ffurther, after_do, way_of, is_do, Stack, Control, as_tree, Is}
use Rattle.runs.specs.Alike.{MovesAlike, BrokenAlike, ResultAlike, is_calm, WakesAlike, HeardAlike, EndsAlike, fboxed, boxed, BoxedAlike, CutsAlike, NeverWrong}
use Rattle.runs.proofs.Moves.{broken_follows, moves_follows, stack_place, stack_right}

pub moves_alike : MovesAlike
moves_alike code n now f x k = moves_follows code n now (fstill f) (still x) (record { flow = k; wish = refl })

-- it is enough to show it for a flow of the meaning made from the flat one
from_tree : (code : Code) (f : FlatFlow) (x : Flow) (g : FlatFlow) (T : Flow → Flow) → Is code f x → Is code g (T (as_tree x.frames f)) → Is code g (T x)
from_tree code f x g T k r = subst (λ (y : Flow). Is code g (T y)) (sym k.same) r

pub tasked_both : (code : Code) (f : FlatFlow) (x : Flow) (k : ℕ) → f.phase ≡ Tasked k → Is code f x → (is_do (code f.here).act ≡ true) × Stack code (after_do (code f.here).act) x.frames (way_of (code f.here).act)
unfolding Control
tasked_both code f x k p e = subst (λ (q : Phase). Control code q f.here x.frames) p e.control

tasked : (code : Code) (f : FlatFlow) (x : Flow) (k : ℕ) → f.phase ≡ Tasked k → Is code f x → Stack code (after_do (code f.here).act) x.frames (way_of (code f.here).act)
unfolding Control
tasked code f x k p e = (tasked_both code f x k p e).1

pub broken_alike : BrokenAlike
broken_alike code f x k p e = from_tree code f x (fbroken (way_of (code f.here).act) f) (λ (y : Flow). broken y.frames y) e (broken_follows code (after_do (code f.here).act) x.frames f x.frames (way_of (code f.here).act) (tasked code f x k p e) e.place).flow

pub result_alike : ResultAlike
unfolding Control
result_alike code f x k v p e =
    let st : Stack code (after_do (code f.here).act) x.frames (way_of (code f.here).act) = tasked code f x k p e in
    from_tree code f x (fgoes (after_do (code f.here).act) (at f.into v f.vars) f) (λ (y : Flow). goes_on y.frames (at y.into v y.vars) y) e (record { same = refl; control = (way_of (code f.here).act, st); place = stack_place code (after_do (code f.here).act) x.frames (way_of (code f.here).act) st })

calm : (code : Code) (p : Phase) (a : ℕ) (fs : List Frame) → is_calm p ≡ true → Control code p a fs → (way : Way) × Stack code a fs way
unfolding Control
calm code Busy a fs e k = k
calm code (Tasked s) a fs e k = let z : ◌≡◌ {A = ℕ} 0 1 = cc in absurd (omega arith)
calm code (Asleep u) a fs e k = k
calm code (Listens v w n u) a fs e k = k
calm code (Ended v) a fs e k = let z : ◌≡◌ {A = ℕ} 0 1 = cc in absurd (omega arith)
calm code Failed a fs e k = let z : ◌≡◌ {A = ℕ} 0 1 = cc in absurd (omega arith)

pub wakes_alike : WakesAlike
unfolding Control
wakes_alike code f x o e = from_tree code f x (fgoes f.here f.vars f) (λ (y : Flow). goes_on y.frames y.vars y) e (record { same = refl; control = calm code f.phase f.here x.frames o e.control; place = e.place })

pub heard_alike : HeardAlike
unfolding Control
heard_alike code f x v w n came o e = from_tree code f x (fheard v w n came f.box f.here f) (λ (y : Flow). heard v w n came y.box y.frames y) e (record { same = refl; control = calm code f.phase f.here x.frames o e.control; place = e.place })

pub ends_alike : EndsAlike
unfolding Control
ends_alike code f x e = from_tree code f x (fends Failed f) (λ (y : Flow). ends Failed y) e (record { same = refl; control = refl; place = e.place })

pub boxed_alike : BoxedAlike
boxed_alike code f x w k = from_tree code f x (fboxed w f) (λ (y : Flow). boxed w y) k (record { same = refl; control = k.control; place = k.place })

pub cuts_alike : CutsAlike
unfolding fmoves
cuts_alike code zero m now g = let e : 0 + m ≡ m = omega arith in ap (λ (k : ℕ). fmoves code k now g) e
cuts_alike code (suc n) m now g = let e : suc n + m ≡ suc (n + m) = omega arith in ap (λ (k : ℕ). fmoves code k now g) e ∙ cuts_alike code n m now (ffurther code now g)

pub never_wrong : NeverWrong
never_wrong code f x k = stack_right code f.here k.place.frames k.place.way k.place.stands
