use Rattle.std.proofs.Common.{◌≡◌, ℕ, List, [], ◌∷◌, ◌++◌, sym, ap, ◌∙◌, ap₂}
use borrow.Rule.Slice.PartMut.{put_mid}
use Rattle.pages.specs.Page.{task_words, zeros, tag_of, since_of}
use Rattle.pages.proofs.Words.{task_laid}
use Rattle.pages.proofs.page.task_words.Goals as goal

pub returns-in-Some : goal.returns-in-Some
unfolding task_words
returns-in-Some c =
    let t = c.in-Some.task in
    let e : c.copy_from_slice.new.self ≡ tag_of t.standing ∷ since_of t.standing ∷ t.kind ∷ t.count ∷ t.attempt ∷ t.tries ∷ t.pause ∷ 0 ∷ [] =
    c.copy_from_slice.ensures.after ∙ ap₂ (λ (a b : ℕ). a ∷ b ∷ t.kind ∷ t.count ∷ t.attempt ∷ t.tries ∷ t.pause ∷ 0 ∷ []) c.tag_of.ensures c.since_of.ensures in
    ap₂ (λ (h args : List ℕ). put_mid 8 16 (h ++ zeros 16) args) e c.copy_from_slice-in-Some.ensures.after
    ∙ task_laid (tag_of t.standing) (since_of t.standing) t.kind t.count t.attempt t.tries t.pause 0 t.args
    ∙ ap task_words (sym c.in-Some.is)

pub returns-in_default : goal.returns-in_default
unfolding task_words
returns-in_default c = ap task_words (sym c.in_default.is)
