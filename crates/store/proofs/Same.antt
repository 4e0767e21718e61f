-- The same work by other names. Assumes nothing.
use Rattle.std.proofs.Common.{◌≡◌, ℕ, List, subst}
use Rattle.device.specs.Does.{Op, Did}
use Rattle.words.specs.Works.{load_via, save_via}
use Rattle.blocks.specs.Works.{line_in}

module _ {S : Type 0} (step : S → Op → S → Type 0) {s t : S} {T T' : ℕ} {B B' : List ℕ} {n n' : ℕ} (eT : T ≡ T') (eB : B ≡ B') (en : n ≡ n') where
  pub load_same : {out : List ℕ} → Did step (load_via (line_in T B) 0 n) s out t → Did step (load_via (line_in T' B') 0 n') s out t
  load_same {out} d =
      subst (λ k. Did step (load_via (line_in T' B') 0 k) s out t) en
      (subst (λ b. Did step (load_via (line_in T' b) 0 n) s out t) eB
      (subst (λ a. Did step (load_via (line_in a B) 0 n) s out t) eT d))

  pub save_same : (ws : List ℕ) → Did step (save_via (line_in T B) n ws) s tt t → Did step (save_via (line_in T' B') n' ws) s tt t
  save_same ws d =
      subst (λ k. Did step (save_via (line_in T' B') k ws) s tt t) en
      (subst (λ b. Did step (save_via (line_in T' b) n ws) s tt t) eB
      (subst (λ a. Did step (save_via (line_in a B) n ws) s tt t) eT d))
