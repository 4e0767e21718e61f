-- What was read of a text, from what the reader wrote. Assumes nothing.
use Rattle.std.proofs.Common.{◌≡◌, ℕ, ◌-◌, ◌*◌, List, ◌++◌, take, Ok, Err, sym, refl, ap, ◌∙◌, arith}
use Rattle.plans.specs.Plan.{Block}
use Rattle.plans.specs.Flat.{laid}
use Rattle.plans.specs.Noted.{Noted}
use Rattle.plans.proofs.Parts.{laid_length}
use Rattle.plans.proofs.Written.{noted_all}
use Rattle.text.specs.Text.{Reading, IsText, nothing, plan, read_text}
use Rattle.text.proofs.Texts.{read_sound, read_complete}
use Rattle.reading.specs.declared.error.ReadError.{ReadError}
use Rattle.reading.specs.declared.error.ReadError.TheVariants.{NotPlan, NoRoom, ShortDraft}
use Rattle.reading.specs.Plans.{Reads}
use Rattle.service.specs.Planned.{PlanAt}
use Rattle.service.specs.declared.paper.Paper.{Paper}

abbrev wrote : Paper → ℕ → Paper → Type 0
wrote s w t = Noted s.words s.len w t.words t.len

abbrev room : Paper → ℕ
room s = 16384 - s.len

pub read_ok : (size : ℕ) (text : List ℕ) (s t : Paper) → s.len ≡ 0 → Reads wrote room (Ok size) text 0 s t → PlanAt text size t.words
read_ok size text s t z h =
    let b = h.0 in
    let k = noted_all wrote room (λ (p : Paper). p.words) (λ (p : Paper). p.len) (λ s w t x. x) h.3 in
    let count : t.len ≡ 4 * size = k.0 ∙ (let l = laid_length b in let e = h.2 in omega arith) in
    record {
      block = b;
      read = read_complete 65536 text b h.1;
      sized = h.2;
      small = let l = h.1.size in let e = h.2 in omega arith;
      holds = ap (λ n. take n t.words) (sym count) ∙ k.1 ∙ ap (λ n. take n s.words ++ laid b) z;
    }

none_of : (text : List ℕ) → ((b : Block) → IsText 65536 text b → ⊥) → (r : Reading) → read_text 65536 text ≡ r → r ≡ nothing
none_of text never nothing e = refl
none_of text never (plan b) e = absurd (never b (read_sound 65536 text b e))

pub read_err : (e : ReadError) (text : List ℕ) (draft : ℕ) (s t : Paper) → s.len ≡ 0 → draft ≡ 16384 → Reads wrote room (Err e) text draft s t → read_text 65536 text ≡ nothing
read_err (NotPlan e) text draft s t z d h = none_of text h.0 (read_text 65536 text) refl
read_err NoRoom text draft s t z d h = absurd (let l = h.1.size in let k = h.2 in omega arith)
read_err ShortDraft text draft s t z d h = absurd (omega arith)
