-- From a part that is the whole text to the plan.
use Rattle.std.proofs.Common.{◌≡◌, ℕ, suc, ◌-◌, ◌*◌, ◌/◌, ◌<◌, ◌≤◌, true, false, leb, List, [], ◌∷◌, length, take, Err, refl, ap, ◌∙◌, le_refl, arith}
use Rattle.std.proofs.lemmas.Bool.Decides.{nat_tests}
use Rattle.plans.specs.Plan.{Block, size_of}
use Rattle.plans.specs.Flat.{draft_of, Nowhere, laid}
use Rattle.plans.proofs.Drafts.{draft_length, lay_length}
use Rattle.text.proofs.Texts.{read_sound, read_complete}
use Rattle.text.specs.Token.{number, variable, name, op, key, Got, fails, got}
use Rattle.text.specs.Token as token
use Rattle.text.specs.Lexer.{Lexed, wrong, tokens, both, tokens_in}
use Rattle.text.specs.Parser.{block_s, plan_s}
use Rattle.text.specs.Text.{IsText, nothing, plan, sized, whole, parsed, read_text}
use Rattle.text.specs.Ahead.{ahead, key_meant, operator_meant, means, stops}
use Rattle.text.specs.declared.Token.{Token}
use Rattle.text.specs.declared.Token.TheVariants as is
use Rattle.reading.specs.Took.{Family, Took, found, Only, Bars, bars}
use Rattle.reading.specs.Took as took
use Rattle.reading.specs.Statements.{part_at, Large}
use Rattle.plans.specs.declared.link.LinkError.{LinkError}
use Rattle.plans.specs.declared.link.LinkError.TheVariants as link
use Rattle.plans.specs.Sheet.{Written}
use Rattle.reading.specs.Errors.{unlinked}
use Rattle.reading.specs.Plans.{IsRead, Reads}
use Rattle.reading.proofs.Fours.{long_as}
use Rattle.reading.proofs.Leveled.{head_is}

too_long : (text : List ℕ) → 65536 < length text → leb (length text) 65536 ≡ false
too_long text h = grind (arith, nat_tests)

short_enough : (text : List ℕ) → length text ≤ 65536 → leb (length text) 65536 ≡ true
short_enough text h = grind (arith, nat_tests)

pub not_short : (text : List ℕ) → 65536 < length text → read_text 65536 text ≡ nothing
unfolding read_text
not_short text h = rw (too_long text h) refl

read_is : (text : List ℕ) → length text ≤ 65536 → read_text 65536 text ≡ parsed (tokens_in text)
unfolding read_text
read_is text h = rw (short_enough text h) refl

too_large : (b : Block) → 4096 < size_of b → sized b ≡ nothing
unfolding sized
too_large b h = let e : leb (size_of b) 4096 ≡ false = grind (arith, nat_tests) in rw e refl

not_large : (b : Block) → size_of b ≤ 4096 → sized b ≡ plan b
unfolding sized
not_large b h = let e : leb (size_of b) 4096 ≡ true = grind (arith, nat_tests) in rw e refl

only_large : (g : Got Block) → Only (Large size_of 16384 0) g → whole g ≡ nothing
unfolding whole
only_large fails h = refl
only_large (got b []) h = too_large b (omega arith)
only_large (got b (t ∷ ts)) h = refl

pub no_part : (text : List ℕ) → length text ≤ 65536 → Bars part_at (Large size_of 16384 0) (ahead text 0) → read_text 65536 text ≡ nothing
unfolding parsed plan_s
no_part text h x = read_is text h ∙ go (tokens_in text) x
  where
    go : (l : Lexed) → Bars part_at (Large size_of 16384 0) l → parsed l ≡ nothing
    go wrong took.Bars.lost = refl
    go (tokens ts) (bars f) = only_large (block_s (suc (length ts)) ts) (f (length ts) (length ts) (le_refl _) (le_refl _))

-- something is behind the last statement
whole_more : (b : Block) (t : token.Token) (ts : List token.Token) → whole (got b (t ∷ ts)) ≡ nothing
unfolding whole
whole_more b t ts = refl

parsed_wrong : parsed wrong ≡ nothing
unfolding parsed
parsed_wrong = refl

parsed_tokens : (ts : List token.Token) → parsed (tokens ts) ≡ whole (block_s (suc (length ts)) ts)
unfolding parsed plan_s
parsed_tokens ts = refl

more_behind : (b : Block) (l m : Lexed) → Took part_at b l m → ((us : List token.Token) → m ≡ tokens us → whole (got b us) ≡ nothing) → parsed l ≡ nothing
more_behind b l m took.Took.lost f = parsed_wrong
more_behind b l m (found {ts} {us} le g) f = parsed_tokens ts ∙ (ap whole (g (length ts) (length ts) (le_refl _) (le_refl _)) ∙ f us refl)

wrong_behind : {X : Type 0} (m k : Lexed) (us : List token.Token) → m ≡ both wrong k → m ≡ tokens us → X
unfolding both
wrong_behind m k us h e = let z : ◌≡◌ {A = ℕ} 0 1 = cc in absurd (omega arith)

pub token_behind : (b : Block) (text : List ℕ) (pos : ℕ) (t : Token) (w : List ℕ) (k : Lexed) → length text ≤ 65536 → Took part_at b (ahead text 0) (ahead text pos) → ahead text pos ≡ both (means t w) k → stops t ≡ false → read_text 65536 text ≡ nothing
token_behind b text pos t w k h x a s = read_is text h ∙ more_behind b (ahead text 0) (ahead text pos) x (λ us e. go t a s us e)
  where
    go : (t : Token) → ahead text pos ≡ both (means t w) k → stops t ≡ false → (us : List token.Token) → ahead text pos ≡ tokens us → whole (got b us) ≡ nothing
    go (is.Number n) a s us e = head_is (λ us. whole (got b us) ≡ nothing) (number n) _ k us a e (λ vs. whole_more b (number n) vs)
    go (is.Variable n) a s us e = head_is (λ us. whole (got b us) ≡ nothing) (variable n) _ k us a e (λ vs. whole_more b (variable n) vs)
    go is.Name a s us e = head_is (λ us. whole (got b us) ≡ nothing) (name w) _ k us a e (λ vs. whole_more b (name w) vs)
    go (is.Operator o) a s us e = head_is (λ us. whole (got b us) ≡ nothing) (op (operator_meant o)) _ k us a e (λ vs. whole_more b (op (operator_meant o)) vs)
    go (is.Key q) a s us e = head_is (λ us. whole (got b us) ≡ nothing) (key (key_meant q)) _ k us a e (λ vs. whole_more b (key (key_meant q)) vs)
    go is.Stop a s us e = let z : true ≡ false = s in absurd (let y : ◌≡◌ {A = ℕ} 0 1 = cc in omega arith)
    go is.Bad a s us e = wrong_behind (ahead text pos) k us a e

whole_plan : (b : Block) → size_of b ≤ 4096 → whole (got b []) ≡ plan b
unfolding whole
whole_plan b h = not_large b h

took_plan : (b : Block) (l m : Lexed) → Took part_at b l m → m ≡ tokens [] → size_of b ≤ 4096 → parsed l ≡ plan b
took_plan b l m took.Took.lost e s = let z : ◌≡◌ {A = ℕ} 0 1 = cc in absurd (omega arith)
took_plan b l m (found {ts} {us} le g) e s = let n : us ≡ [] = cc in parsed_tokens ts ∙ (ap whole (g (length ts) (length ts) (le_refl _) (le_refl _)) ∙ (ap (λ (x : List token.Token). whole (got b x)) n ∙ whole_plan b s))

stop_behind : (text : List ℕ) (pos : ℕ) (t : Token) (w : List ℕ) (k : Lexed) → ahead text pos ≡ both (means t w) k → stops t ≡ true → (stops t ≡ true → k ≡ tokens []) → ahead text pos ≡ tokens []
unfolding both
stop_behind text pos (is.Number n) w k a s f = absurd (let y : ◌≡◌ {A = ℕ} 0 1 = cc in omega arith)
stop_behind text pos (is.Variable n) w k a s f = absurd (let y : ◌≡◌ {A = ℕ} 0 1 = cc in omega arith)
stop_behind text pos is.Name w k a s f = absurd (let y : ◌≡◌ {A = ℕ} 0 1 = cc in omega arith)
stop_behind text pos (is.Operator o) w k a s f = absurd (let y : ◌≡◌ {A = ℕ} 0 1 = cc in omega arith)
stop_behind text pos (is.Key q) w k a s f = absurd (let y : ◌≡◌ {A = ℕ} 0 1 = cc in omega arith)
stop_behind text pos is.Stop w k a s f = a ∙ ap (both (tokens [])) (f refl)
stop_behind text pos is.Bad w k a s f = absurd (let y : ◌≡◌ {A = ℕ} 0 1 = cc in omega arith)

pub is_read : (text ys : List ℕ) (b : Block) (pos n : ℕ) (t : Token) (w : List ℕ) (k : Lexed) → length text ≤ 65536 → length ys ≡ 16384 → n ≤ length ys → Took part_at b (ahead text 0) (ahead text pos) → take n ys ≡ draft_of b → ahead text pos ≡ both (means t w) k → stops t ≡ true → (stops t ≡ true → k ≡ tokens []) → IsRead text (n / 4) ys
is_read text ys b pos n t w k h long lim x words a s f =
    let l = long_as ys [] (draft_of b) n words lim in
    let d = draft_length b in
    let e : n / 4 ≡ size_of b = omega arith in
    let r : 4 * (n / 4) ≡ n = omega arith in
    record {
      block = b;
      read = read_is text h ∙ took_plan b (ahead text 0) (ahead text pos) x (stop_behind text pos t w k a s f) (omega arith);
      sized = e;
      small = omega arith;
      words = ap (λ (q : ℕ). take q ys) r ∙ words;
    }

-- nothing is read of what is no text of a plan
pub not_text : (text : List ℕ) → read_text 65536 text ≡ nothing → (b : Block) → IsText 65536 text b → ⊥
not_text text h b x = let e = read_complete 65536 text b x in let z : ◌≡◌ {A = ℕ} 0 1 = cc in omega arith

pub reads_refused : {S : Type 0} (wrote : S → ℕ → S → Type 0) (room : S → ℕ) (e : LinkError) (text draft : List ℕ) (size n : ℕ) (s t : S) → (i : IsRead text size draft) → Written wrote room (Err e) s (laid i.block) t → Reads wrote room (Err (unlinked e)) text n s t
unfolding laid
reads_refused wrote room link.NoRoom text draft size n s t i h = (i.block, read_sound 65536 text i.block i.read, (let l = lay_length i.block 0 (4 * size_of i.block - 3) Nowhere 0 in omega arith))
reads_refused wrote room link.Damaged text draft size n s t i h = absurd h
