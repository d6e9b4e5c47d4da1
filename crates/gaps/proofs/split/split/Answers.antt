use Rattle.std.proofs.Common.{◌≡◌, ◌≢◌, ℕ, suc, ◌+◌, ◌-◌, List, ◌∷◌, length, drop, length-drop, sym, ap, ◌∙◌, arith}
use Rattle.stored.specs.Records.{kind_of, size_of}
use Rattle.gaps.specs.Split.{end_from, first_end}
use Rattle.gaps.proofs.Splitting.{ends-behind, ends-unknown, ends-inside, goes-behind, left-behind}
use Rattle.gaps.proofs.split.split.Goals as goal

-- the walk over what is left, which has so many bytes, ends where the whole walk ends
whole : (t left behind : List ℕ) (byte : ℕ) → left ≡ byte ∷ behind → end_from (length left) t (length t - length left) ≡ first_end t
    → end_from (suc (length behind)) t (length t - length left) ≡ first_end t
whole t left behind byte e same = ap (λ (n : ℕ). end_from n t (length t - length left)) (sym (ap length e)) ∙ same

pub loop-byte-init : goal.loop-byte-init
unfolding first_end
loop-byte-init c =
    let t = c.args.input.now in
    let none : length t - length t ≡ 0 = omega arith in
    (omega arith, ap (λ (k : ℕ). drop k t) none, ap (end_from (length t) t) none)

pub returns-in-End-clause-value : goal.returns-in-End-clause-value
returns-in-End-clause-value c =
    let t = c.args.input.now in
    let l = c.loop-byte in
    let first = c.in-Some.ensures.cases.0 in
    let behind = c.in-Some.behind.now in
    let place : length t - length behind ≡ length t - length l.left.now + 1 = omega (arith, ap length first, l.invariant.0) in
    place
    ∙ sym (ends-behind t (length t - length l.left.now) c.in-Some.byte.now behind (l.invariant.1 ∙ first) (sym c.kind_of-kind.ensures ∙ c.in-End.is))
    ∙ whole t l.left.now behind c.in-Some.byte.now first l.invariant.2

pub returns-in-Unknown-clause-value : goal.returns-in-Unknown-clause-value
returns-in-Unknown-clause-value c =
    let t = c.args.input.now in
    let l = c.loop-byte in
    let first = c.in-Some.ensures.cases.0 in
    let behind = c.in-Some.behind.now in
    sym (ends-unknown t (length t - length l.left.now) c.in-Some.byte.now behind (l.invariant.1 ∙ first) (sym c.kind_of-kind.ensures ∙ c.in-Unknown.is))
    ∙ whole t l.left.now behind c.in-Some.byte.now first l.invariant.2

pub returns-in-None : goal.returns-in-None
returns-in-None c =
    let t = c.args.input.now in
    let l = c.loop-byte in
    let first = c.in-Some.ensures.cases.0 in
    let behind = c.in-Some.behind.now in
    let size : c.size_of.result ≡ size_of (kind_of c.in-Some.byte.now) = c.size_of.ensures ∙ ap size_of c.kind_of-kind.ensures in
    record {
      value =
          sym (ends-inside t (length t - length l.left.now) c.in-Some.byte.now behind (l.invariant.1 ∙ first)
          (λ e. c.in_default-kind.not-End (c.kind_of-kind.ensures ∙ e)) (λ e. c.in_default-kind.not-Unknown (c.kind_of-kind.ensures ∙ e))
          (omega (arith, size, c.in-None.ensures.cases)))
          ∙ whole t l.left.now behind c.in-Some.byte.now first l.invariant.2;
      upper_bound = omega arith;
    }

pub loop-byte-preserved : goal.loop-byte-preserved
loop-byte-preserved c =
    let t = c.args.input.now in
    let l = c.loop-byte in
    let byte = c.in-Some.byte.now in
    let first = c.in-Some.ensures.cases.0 in
    let behind = c.in-Some.behind.now in
    let at = length t - length l.left.now in
    let others = c.in-Some-split_at_checked.others.now in
    let size : c.size_of.result ≡ size_of (kind_of byte) = c.size_of.ensures ∙ ap size_of c.kind_of-kind.ensures in
    let fits = c.in-Some-split_at_checked.ensures.cases.0 in
    let rest : others ≡ drop (size_of (kind_of byte)) behind = c.in-Some-split_at_checked.ensures.cases.2 ∙ ap (λ (k : ℕ). drop k behind) size in
    let long = ap length rest ∙ length-drop (size_of (kind_of byte)) behind in
    let place : length t - length others ≡ at + 1 + size_of (kind_of byte) = omega (arith, ap length first, l.invariant.0, long, fits, size) in
    let not-end : kind_of byte ≢ _ = λ e. c.in_default-kind.not-End (c.kind_of-kind.ensures ∙ e) in
    let not-unknown : kind_of byte ≢ _ = λ e. c.in_default-kind.not-Unknown (c.kind_of-kind.ensures ∙ e) in (
      omega (arith, ap length first, l.invariant.0, long),
      ap (λ (k : ℕ). drop k t) place ∙ left-behind t at byte behind (l.invariant.1 ∙ first) not-end not-unknown others rest,
      ap (end_from (length others) t) place
          ∙ sym (goes-behind t at byte behind (l.invariant.1 ∙ first) not-end not-unknown others rest (omega (arith, fits, size)))
          ∙ whole t l.left.now behind byte first l.invariant.2,
    )
