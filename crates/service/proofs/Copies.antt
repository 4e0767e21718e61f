-- Numbers copied one by one. Assumes nothing.
use Rattle.std.proofs.Common.{◌≡◌, ℕ, ◌+◌, ◌<◌, List, [], ◌∷◌, ◌++◌, length, take, slice_index, slice_set, false, true, sym, ap, ◌∙◌}
use Rattle.std.proofs.lemmas.Bool.{false≢true}
use Rattle.std.proofs.lemmas.List.{take_more_set, take_more}

pub one_more : (held out : List ℕ) (i v : ℕ) → i < length held → i < length out → v ≡ slice_index held i → take i out ≡ take i held → take (i + 1) (slice_set out i v) ≡ take (i + 1) held
one_more held out i v h o e s = take_more_set out i v o ∙ (ap (λ ts. ts ++ v ∷ []) s ∙ (ap (λ x. take i held ++ x ∷ []) e ∙ sym (take_more held i _ h)))

pub clash : false ≡ true → ⊥
clash = false≢true
