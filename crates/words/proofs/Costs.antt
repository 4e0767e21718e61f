-- What runs of words cost.
-- Assumes nothing.
use mathlib.Core.Path.{◌≡◌, refl, ap}
use mathlib.Core.List.{List, [], ◌∷◌}
use Prim.Native.Nat.{ℕ, zero, suc, ◌+◌}
use native.Mathlib.Omega.{arith}
use lib.ListN.{length}
use Rattle.device.specs.Lines.{yields}
use Rattle.device.specs.Costs.{Costs, Any, c_end, c_load, c_store, c_push}
use Rattle.device.proofs.Costs.{costs_more, costs_bind, costs_loop}
use Rattle.words.specs.Works.{load_via, store_via, push_turn, push_via, save_via, from_line}
use Rattle.words.specs.Runs.{CostsVia, RunsCost}

pub costs_load_via : (at : ℕ → ℕ) (i n : ℕ) → Costs (λ ws. length ws ≡ n) n 0 0 0 (load_via at i n)
unfolding load_via
costs_load_via at i zero = c_end refl
costs_load_via at i (suc n) =
    c_load {l' = n + 0} (omega arith) (λ v. costs_bind (λ vs. yields (v ∷ vs)) (λ vs e. c_end {l = 0} {s = 0} {p = 0} {f = 0} (ap suc e)) (costs_load_via at (i + 1) n))

pub costs_store_via : (at : ℕ → ℕ) (i : ℕ) (ws : List ℕ) → Costs Any 0 (length ws) 0 0 (store_via at i ws)
unfolding store_via
costs_store_via at i [] = c_end tt
costs_store_via at i (w ∷ ws) = c_store {s' = length ws} (omega arith) (costs_store_via at (i + 1) ws)

pub costs_push_via : (at : ℕ → ℕ) (n : ℕ) → Costs Any 0 0 n 0 (push_via at n)
unfolding push_via
costs_push_via at n =
    costs_more (λ a q. q)
    (costs_loop (push_turn at) n (λ i x. Unit {0}) 0 0 1 0 (λ i x h z. c_push {p' = 0} (omega arith) (c_end tt)) 0 n tt (omega arith) tt)
    (omega arith) (omega arith) (omega arith) (omega arith)

pub costs_save_via : (at : ℕ → ℕ) (n : ℕ) (ws : List ℕ) → Costs Any 0 (length ws) n 0 (save_via at n ws)
unfolding save_via
costs_save_via at n ws =
    costs_more (λ a q. q) (costs_bind (λ x. push_via at n) (λ a q. costs_push_via at n) (costs_store_via at 0 ws))
    (omega arith) (omega arith) (omega arith) (omega arith)

pub costs_via : CostsVia
costs_via = record {
  loading = λ at n. costs_load_via at 0 n;
  storing = λ at ws. costs_store_via at 0 ws;
  pushing = λ at n. costs_push_via at n;
  saving = λ at n ws. costs_save_via at n ws;
}

pub runs_cost : RunsCost
runs_cost = record {
  loading = λ line n. costs_via.loading (from_line line) n;
  storing = λ line ws. costs_via.storing (from_line line) ws;
  pushing = λ line n. costs_via.pushing (from_line line) n;
  saving = λ line n ws. costs_via.saving (from_line line) n ws;
}
