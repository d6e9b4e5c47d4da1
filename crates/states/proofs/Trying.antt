-- A byte that is not tried leads from a row where a smaller one leads, so that nothing is left to try: it follows that one, or no position
-- that stands ahead names either of the two.
use Rattle.std.proofs.Common.{ℕ, zero, suc, ◌+◌, ◌-◌, ◌*◌, ◌/◌, ◌≤◌, ◌<◌, ◌≡◌, refl, sym, ◌∙◌, ap, subst, Bool, true, false, List, ◌⊎◌, inl, inr, arith, get_or}
use mathlib.Core.Bool.{false≢true}
use lib.ListN.{get_or-eq_default}
use Rattle.matching.specs.Machinery.Codes.{takes_byte}
use Rattle.matching.specs.Machinery.Rows.{row_bit, step_row}
use Rattle.matching.specs.Machinery.Words.{taken_row, ahead_row}
use Rattle.matching.proofs.ByWords.{same_taken}
use Rattle.matching.proofs.AlikeBytes.{same_ahead}
use Rattle.states.specs.Machinery.Rows.{row_at, codes_laid, IsByte, followers_laid}
use Rattle.states.specs.Machinery.Bytes.{ToTry, Names}
use Rattle.states.specs.Machinery.Search.{Enough, Searchable, Partial}
use Rattle.states.proofs.Below.{below-or-from}
use Rattle.states.proofs.Stepping.{step-known}
use Rattle.states.proofs.CodeBytes.{names-none}
use Rattle.states.proofs.Followers.{follower-before}
use Rattle.states.proofs.TakenRows.{codes-few, code_read}

module _ (positions : ℕ) (words row named bytes : List ℕ) (s : Searchable positions words)
    (names : Names words (ahead_row row) (64 * ((positions + 63) / 64)) named) (try : ToTry named (followers_laid words) bytes) where
  abbrev codes : List ℕ
  codes = codes_laid positions words

  -- no position that stands ahead takes a byte that is not named
  unnamed : (p x : ℕ) → row_bit (ahead_row row) p ≡ true → x < 128 → row_bit named x ≡ false → takes_byte (get_or codes p 0) x ≡ false
  unnamed p x here few none = by (below-or-from p positions)
    where
      told : (t : Bool) → takes_byte (get_or codes p 0) x ≡ t → p < positions → takes_byte (get_or codes p 0) x ≡ false
      told true e low =
          absurd
          (false≢true
          (sym none
          ∙ names p x (omega arith) here few (ap (λ (code : ℕ). takes_byte code x) (code_read positions words words p s.most low refl) ∙ e)))
      told false e low = e

      by : (p < positions) ⊎ (positions ≤ p) → takes_byte (get_or codes p 0) x ≡ false
      by (inl low) = told (takes_byte (get_or codes p 0) x) refl low
      by (inr past) =
          ap (λ (code : ℕ). takes_byte code x) (get_or-eq_default codes 0 (omega (arith, codes-few positions words))) ∙ names-none 0 x (omega arith)

  pub enough : Enough codes row bytes
  enough x byte none = by (try x byte none)
    where
      by : (row_bit (followers_laid words) x ≡ true) ⊎ ((row_bit named x ≡ false) × ((a : ℕ) × IsByte a × (a < x) × (row_bit named a ≡ false)))
          → (a : ℕ) × IsByte a × (a < x) × (step_row codes a row ≡ step_row codes x row)
      by (inl follows) =
          let f = follower-before (taken_row codes) (followers_laid words) s.takes.followers x byte follows in
          (f.0, f.1, f.2, same_taken codes row f.0 x (omega (arith, s.most, codes-few positions words)) f.3)
      by (inr (lacks, (a, byte-a, less, lacks-a))) =
          let high = byte.1 in (
            a,
            byte-a,
            less,
            same_ahead codes row a x (λ p low here. unnamed p a here (omega arith) lacks-a ∙ sym (unnamed p x here (omega arith) lacks)),
          )

module _ (codes words bytes : List ℕ) (n i : ℕ) (low : i < n) (every : Enough codes (row_at words i) bytes) where
  -- the row that such a byte leads to is there
  skip-byte : (b : ℕ) → IsByte b → row_bit bytes b ≡ false → Partial codes words n (i * 128 + b) → Partial codes words n (i * 128 + b + 1)
  skip-byte b byte none p =
      let f = every b byte none in
      let less = f.2 in
      let t = p.tried i f.0 low f.1 (omega arith) in
      step-known codes words n i b p low byte t.0 t.1 (t.2 ∙ f.3)

  skip-bytes : (d b : ℕ) → 0x21 ≤ b → b + d ≤ 127 → ((x : ℕ) → b ≤ x → x < b + d → row_bit bytes x ≡ false)
      → Partial codes words n (i * 128 + b) → Partial codes words n (i * 128 + (b + d))
  skip-bytes zero b from high none p = subst (Partial codes words n) {x = i * 128 + b} {y = i * 128 + (b + 0)} (omega arith) p
  skip-bytes (suc d) b from high none p =
      subst (Partial codes words n) {x = i * 128 + (b + d) + 1} {y = i * 128 + (b + suc d)} (omega arith)
      (skip-byte (b + d) (omega arith, omega arith) (none (b + d) (omega arith) (omega arith))
      (skip-bytes d b from (omega arith) (λ x h k. none x h (omega arith)) p))

  -- nor is there anything to try before the next byte to be tried, or before the end where there is none
  pub skip-to : (b r : ℕ) → 0x21 ≤ b → b ≤ r → r ≤ 127 → ((x : ℕ) → b ≤ x → x < r → row_bit bytes x ≡ false)
      → Partial codes words n (i * 128 + b) → Partial codes words n (i * 128 + r)
  skip-to b r from up high none p =
      subst (λ (k : ℕ). Partial codes words n (i * 128 + k)) {x = b + (r - b)} {y = r} (omega arith)
      (skip-bytes (r - b) b from (omega arith) (λ x h k. none x h (omega arith)) p)
