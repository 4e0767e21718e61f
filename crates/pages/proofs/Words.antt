-- What was written is read. Assumes nothing.
use Rattle.std.proofs.Common.{◌≡◌, ℕ, cond, ◌&&◌, ltb, List, [], ◌∷◌, ◌++◌, length, get_or, drop, Ok, Err, Option, sym, ap, ◌∙◌, ap₂, append_assoc, append-nil, arith, length-append, take_at, drop_at}
use borrow.Rule.Slice.PartMut.{put_mid, post_of}
use Rattle.plans.specs.declared.eval.Damaged.{Damaged}
use Rattle.runs.specs.declared.step.Phase.{Phase}
use Rattle.pages.specs.declared.flow.Task.{Task}
use Rattle.pages.specs.Page.{damaged, agree, phase_in, task_in, flow_of, with_task, with_phase, decode_of, zeros}

-- reading, once phase and task are read
pub decoded : (ws : List ℕ) (p : Phase) (t : Option Task) → Ok p ≡ phase_in ws → Ok t ≡ task_in ws
    → cond (ltb (get_or ws 7 0) 64 && agree p t) (Ok (flow_of ws p t)) damaged ≡ decode_of ws
unfolding decode_of with_phase with_task
decoded ws p t e k = ap (with_task ws p) k ∙ ap (with_phase ws) e

pub no_phase : (ws : List ℕ) (d : Damaged) → Err d ≡ phase_in ws → damaged ≡ decode_of ws
unfolding decode_of with_phase
no_phase ws d e = ap (with_phase ws) e

pub no_task_lem : (ws : List ℕ) (p : Phase) (d : Damaged) → Ok p ≡ phase_in ws → Err d ≡ task_in ws → damaged ≡ decode_of ws
unfolding decode_of with_phase with_task
no_task_lem ws p d e k = ap (with_task ws p) k ∙ ap (with_phase ws) e

-- writing, part after part
put_at_lem : (pre mid rest : List ℕ) (n k : ℕ) → length pre ≡ n → put_mid n k (pre ++ rest) mid ≡ pre ++ (mid ++ drop k rest)
put_at_lem pre mid rest n k e = ap₂ (λ (a b : List ℕ). a ++ (mid ++ drop k b)) (take_at pre rest n e) (drop_at pre rest n e)

pub laid : (a b c out : List ℕ) → length a ≡ 8 → length b ≡ 24 → length c ≡ 64
    → put_mid 32 64 (put_mid 8 24 (a ++ post_of 0 8 out) b) c ≡ a ++ (b ++ (c ++ drop 64 (drop 24 (drop 8 out))))
laid a b c out la lb lc =
    ap (λ (l : List ℕ). put_mid 32 64 l c) (put_at_lem a b (drop 8 out) 8 24 la ∙ sym (append_assoc a b (drop 24 (drop 8 out))))
    ∙ put_at_lem (a ++ b) c (drop 24 (drop 8 out)) 32 64 long
    ∙ append_assoc a b (c ++ drop 64 (drop 24 (drop 8 out)))
  where
    long : length (a ++ b) ≡ 32
    long = omega (arith, length-append a b)

pub task_laid : (a b c d e f g h : ℕ) (args : List ℕ) → put_mid 8 16 ((a ∷ b ∷ c ∷ d ∷ e ∷ f ∷ g ∷ h ∷ []) ++ post_of 0 8 (zeros 24)) args ≡ a ∷ b ∷ c ∷ d ∷ e ∷ f ∷ g ∷ h ∷ args
task_laid a b c d e f g h args = ap (λ (l : List ℕ). a ∷ b ∷ c ∷ d ∷ e ∷ f ∷ g ∷ h ∷ l) (append-nil args)
