-- The symbols that are left, against a string: which symbol comes next decides what is asked of the string's next byte.
use Rattle.std.proofs.Common.{◌≡◌, ℕ, ◌<◌, Bool, true, false, ◌&&◌, ◌||◌, eqb, List, [], ◌∷◌, map, length, sym, refl, ap, ◌∙◌, subst, ap₂, arith, ne_eqb}
use Rattle.std.proofs.Math.Path.{fun_ext}
use mathlib.Core.List.{map-map}
use Rattle.std.proofs.Math.ListN.{length-map}
use Rattle.matching.specs.declared.reading.Reading.{Reading}
use Rattle.matching.specs.declared.symbols.Symbols.{Symbols}
use Rattle.matching.specs.Symbols.{Symbol, star, one, byte, pick, symbol_of, symbols, ignores_case, same_byte}
use Rattle.matching.specs.Matches.{is_empty, some_end, first_and_rest, any_byte, matches, value_matches}
use Rattle.matching.specs.Machinery.Codes.{star_code, byte_code, symbol_code, symbol_codes, takes_byte, takes_symbol}
use Rattle.matching.specs.Machinery.SymbolsLeft.{symbols_left, symbols_ahead, left_matches}
use Rattle.matching.specs.Machinery.Rows.{positions, row_bit, row_of}
use Rattle.matching.proofs.Prefixes.{some-end-empty}
use Rattle.matching.proofs.States.{takes, large, symbols-decide}

-- the codes that are left are those of the symbols that are left
codes-of-symbols : (s : Symbols) → symbols_left s ≡ map (symbol_code s.fold) (symbols_ahead s)
unfolding symbols_left symbols_ahead
codes-of-symbols s = sym (map-map (symbol_code s.fold) (symbol_of s.wild) s.bytes.now)

-- what matching asks of a string, said of the codes of the symbols
abbrev pub codes_match : List ℕ → List ℕ → Bool
codes_match [] = is_empty
codes_match (code ∷ codes) = pick (eqb code star_code) (some_end (codes_match codes)) (first_and_rest (takes_symbol code) (codes_match codes))

codes-match : (fold : Bool) (p : List Symbol) → ◌≡◌ {A = List ℕ → Bool} (matches (same_byte fold) p) (codes_match (map (symbol_code fold) p))
codes-match fold [] = refl
codes-match fold (star ∷ p) = ap some_end (codes-match fold p)
codes-match fold (one ∷ p) = ap (first_and_rest any_byte) (codes-match fold p)
codes-match fold (byte c ∷ p) =
    ap₂ first_and_rest (fun_ext (λ (b : ℕ). takes-byte b)) (codes-match fold p)
    ∙ sym (ap (λ (t : Bool). pick t (some_end (codes_match (map (symbol_code fold) p))) (first_and_rest (takes_symbol (byte_code fold c)) (codes_match (map (symbol_code fold) p)))) (ne_eqb (byte_code fold c) 2 (λ w. omega (arith, large fold c))))
  where
    takes-byte : (b : ℕ) → same_byte fold c b ≡ takes_symbol (byte_code fold c) b
    takes-byte b = sym (takes fold c b) ∙ ap (λ (t : Bool). t || takes_byte (byte_code fold c) b) (sym (ne_eqb (byte_code fold c) 3 (λ w. omega (arith, large fold c))))

-- so the codes that are left decide
left-codes : (s : Symbols) (string : List ℕ) → left_matches s string ≡ codes_match (symbols_left s) string
unfolding left_matches
left-codes s string = ap (λ (test : List ℕ → Bool). test string) (codes-match s.fold (symbols_ahead s) ∙ ap codes_match (sym (codes-of-symbols s)))

left-is : (s : Symbols) (codes string : List ℕ) → symbols_left s ≡ codes → left_matches s string ≡ codes_match codes string
left-is s codes string e = left-codes s string ∙ ap (λ (l : List ℕ). codes_match l string) e

-- the last position over the codes that are left is reached by exactly the strings that the symbols match
pub rows-decide : (s : Symbols) → length (symbols_left s) < positions
    → (string : List ℕ) → row_bit (row_of (1 ∷ symbols_left s) string) (length (symbols_left s)) ≡ left_matches s string
unfolding left_matches
rows-decide s few string =
    ap (λ (codes : List ℕ). row_bit (row_of (1 ∷ codes) string) (length codes)) (codes-of-symbols s)
    ∙ symbols-decide s.fold (symbols_ahead s)
    (subst (λ (n : ℕ). n < positions) (ap length (codes-of-symbols s) ∙ length-map (symbols_ahead s) (symbol_code s.fold)) few) string

-- a symbol that is no star takes one byte
module _ (s more : Symbols) (code : ℕ) (e : symbols_left s ≡ code ∷ symbols_left more) (other : code ≡ 2 → ⊥) where
  one-byte : (string : List ℕ) → left_matches s string ≡ first_and_rest (takes_symbol code) (codes_match (symbols_left more)) string
  one-byte string =
      left-is s (code ∷ symbols_left more) string e
      ∙ ap (λ (t : Bool). pick t (some_end (codes_match (symbols_left more))) (first_and_rest (takes_symbol code) (codes_match (symbols_left more))) string) (ne_eqb code 2 other)

  pub left-short : left_matches s [] ≡ false
  left-short = one-byte []

  pub left-takes : (b : ℕ) (string : List ℕ) → left_matches s (b ∷ string) ≡ (takes_symbol code b && left_matches more string)
  left-takes b string = one-byte (b ∷ string) ∙ ap (λ (t : Bool). takes_symbol code b && t) (sym (left-codes more string))

-- no symbols match the empty string and no other
pub left-done : (s : Symbols) → symbols_left s ≡ [] → (string : List ℕ) → left_matches s string ≡ is_empty string
left-done s e string = left-is s [] string e

-- a star that is the last symbol takes any string
pub last-star : (s : Symbols) → symbols_left s ≡ 2 ∷ [] → (string : List ℕ) → left_matches s string ≡ true
last-star s e string = left-is s (2 ∷ []) string e ∙ some-end-empty string

-- all symbols of a value match the strings that the value matches
pub value-left : (s : Symbols) (reading : Reading) (value : List ℕ) → symbols_left s ≡ symbol_codes reading value
    → (string : List ℕ) → left_matches s string ≡ value_matches reading value string
unfolding value_matches
value-left s reading value e string =
    left-is s (symbol_codes reading value) string e
    ∙ ap (λ (test : List ℕ → Bool). test string) (sym (codes-match (ignores_case reading) (symbols reading value)))
