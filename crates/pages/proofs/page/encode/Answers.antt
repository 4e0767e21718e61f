use Rattle.std.proofs.Common.{◌≡◌, ℕ, List, ◌++◌, length, ◌∙◌, ap, ap₂, arith}
use Rattle.pages.specs.Page.{encode_of, place_words, task_words, zeros}
use Rattle.pages.proofs.Words.{laid}
use Rattle.pages.proofs.page.encode.Goals as goal

pub returns : goal.returns
unfolding encode_of
returns c =
    let f = c.args.flow.now in
    let a : List ℕ = place_words f.place.phase f.place.here f.place.steps f.place.into in
    let e1 : c.copy_from_slice.new.self ≡ a = c.copy_from_slice.ensures.after ∙ c.place_words.ensures in
    let e2 : c.copy_from_slice-2.new.self ≡ task_words f.task = c.copy_from_slice-2.ensures.after ∙ c.task_words.ensures in
    let e3 : c.copy_from_slice-3.new.self ≡ f.vars = c.copy_from_slice-3.ensures.after in
    let l1 : length c.copy_from_slice.new.self ≡ 8 = omega arith in
    let l2 : length c.copy_from_slice-2.new.self ≡ 24 = omega arith in
    let l3 : length c.copy_from_slice-3.new.self ≡ 64 = omega arith in
    laid c.copy_from_slice.new.self c.copy_from_slice-2.new.self c.copy_from_slice-3.new.self (zeros 128) l1 l2 l3
    ∙ ap₂ (λ (x y : List ℕ). x ++ (y ++ (c.copy_from_slice-3.new.self ++ zeros 32))) e1 e2
    ∙ ap (λ (x : List ℕ). a ++ (task_words f.task ++ (x ++ zeros 32))) e3
