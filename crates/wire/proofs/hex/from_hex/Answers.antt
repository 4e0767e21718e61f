use Rattle.std.proofs.Common.{◌≡◌, ℕ, List, Some, get_or, take, sym, ap, ◌∙◌, arith}
use Rattle.wire.specs.Hex.{digit_of, bytes_of}
use Rattle.wire.proofs.Digits.{before_nil, odd_none, hex_more, none_high, none_low, hex_end}
use Rattle.wire.proofs.hex.from_hex.Goals as goal
use Rattle.wire.proofs.hex.from_hex.Goals.{in_default-2-via-in-Some+in_default, in_default-2-via-in_default}

pub returns-then-text-ne0 : goal.returns-then-text-ne0
returns-then-text-ne0 c = odd_none c.args.text.now c.if-text-ne0.true

pub loop-high-init : goal.loop-high-init
loop-high-init c = (rw c.new-bytes.ensures.items (before_nil (bytes_of c.args.text.now)), c.if-text-ne0.false)

pub returns-in_default-2 : goal.returns-in_default-2
returns-in_default-2 c =
    let chunk = c.in-Some.ensures.cases in
    let first : digit_of (get_or (take 2 c.loop-high.rest.now) 0 0) ≡ c.digit.result = ap (λ (l : List ℕ). digit_of (get_or l 0 0)) (sym chunk.0) ∙ sym c.digit.ensures.is in
    let second : digit_of (get_or (take 2 c.loop-high.rest.now) 1 0) ≡ c.digit-in-Some.result = ap (λ (l : List ℕ). digit_of (get_or l 1 0)) (sym chunk.0) ∙ sym c.digit-in-Some.ensures.is in
    elim c.in_default-2.branch [
      | in_default-2-via-in-Some+in_default w ↦ none_low _ c.loop-high.rest.now w.in_default-2.field-0-0 _ (omega (arith, chunk.2)) (first ∙ w.in_default-2.is-0) (second ∙ w.in_default-2.is-1) c.loop-high.invariant.0
      | in_default-2-via-in_default w ↦ none_high _ c.loop-high.rest.now _ (omega (arith, chunk.2)) (first ∙ w.in_default-2.is-0) c.loop-high.invariant.0
    ]

pub loop-high-smaller : goal.loop-high-smaller
loop-high-smaller c = omega (arith, c.in-Some.ensures.cases.2)

pub loop-high-preserved : goal.loop-high-preserved
loop-high-preserved c =
    let chunk = c.in-Some.ensures.cases in
    let first : digit_of (get_or (take 2 c.loop-high.rest.now) 0 0) ≡ Some c.in-Some-Some.high = ap (λ (l : List ℕ). digit_of (get_or l 0 0)) (sym chunk.0) ∙ sym c.digit.ensures.is ∙ c.in-Some-Some.is-0 in
    let second : digit_of (get_or (take 2 c.loop-high.rest.now) 1 0) ≡ Some c.in-Some-Some.low = ap (λ (l : List ℕ). digit_of (get_or l 1 0)) (sym chunk.0) ∙ sym c.digit-in-Some.ensures.is ∙ c.in-Some-Some.is-1 in
    (rw (c.in_ok-push.ensures.items, chunk.1) (hex_more _ c.loop-high.rest.now c.in-Some-Some.high c.in-Some-Some.low _ (omega (arith, chunk.2)) first second c.loop-high.invariant.0), omega (arith, chunk.2, c.loop-high.invariant.1))

pub returns : goal.returns
returns c = hex_end _ c.loop-high.rest.now _ (omega (arith, c.in_default.ensures.cases, c.loop-high.invariant.1)) c.loop-high.invariant.0
