-- Which byte strings are JSON texts: those of RFC 8259 that are UTF-8 (RFC 3629), with no more than eight brackets open, and of the escapes
-- only those of a quote, a backslash, a slash, and of a code below 80 hex. Each relation has two byte strings: `R s r` says that s is what is
-- meant, and then r.
use Rattle.std.specs.Prelude.{ℕ, suc, ◌<◌, ◌≤◌, ◌≡◌, true, List, [], ◌∷◌, ◌++◌, length, take}
use Rattle.json_text.specs.Bytes.{within, is_blank, is_digit, is_hex, is_exponent, is_sign, is_simple, is_plain, is_tail}

-- a string behind its opening quote: characters, then the closing quote (RFC 8259, section 7). `code` is \u00 and two hex digits, the first
-- of them 0 to 7. Characters of several bytes, from `two` on, are the rows of RFC 3629, section 4: no overlong form, no surrogate, nothing
-- above 10FFFF.
pub data Characters : List ℕ → List ℕ → Type 0 where
  close : {r : List ℕ} → Characters (0x22 ∷ r) r
  plain : {a : ℕ} {s r : List ℕ} → is_plain a ≡ true → Characters s r → Characters (a ∷ s) r
  escape : {a : ℕ} {s r : List ℕ} → is_simple a ≡ true → Characters s r → Characters (0x5C ∷ a ∷ s) r
  code : {a b : ℕ} {s r : List ℕ} → within 0x30 0x37 a ≡ true → is_hex b ≡ true → Characters s r
      → Characters (0x5C ∷ 0x75 ∷ 0x30 ∷ 0x30 ∷ a ∷ b ∷ s) r
  two : {a b : ℕ} {s r : List ℕ} → within 0xC2 0xDF a ≡ true → is_tail b ≡ true → Characters s r → Characters (a ∷ b ∷ s) r
  e0 : {b c : ℕ} {s r : List ℕ} → within 0xA0 0xBF b ≡ true → is_tail c ≡ true → Characters s r → Characters (0xE0 ∷ b ∷ c ∷ s) r
  low_three : {a b c : ℕ} {s r : List ℕ} → within 0xE1 0xEC a ≡ true → is_tail b ≡ true → is_tail c ≡ true → Characters s r
      → Characters (a ∷ b ∷ c ∷ s) r
  ed : {b c : ℕ} {s r : List ℕ} → within 0x80 0x9F b ≡ true → is_tail c ≡ true → Characters s r → Characters (0xED ∷ b ∷ c ∷ s) r
  high_three : {a b c : ℕ} {s r : List ℕ} → within 0xEE 0xEF a ≡ true → is_tail b ≡ true → is_tail c ≡ true → Characters s r
      → Characters (a ∷ b ∷ c ∷ s) r
  f0 : {b c d : ℕ} {s r : List ℕ} → within 0x90 0xBF b ≡ true → is_tail c ≡ true → is_tail d ≡ true → Characters s r
      → Characters (0xF0 ∷ b ∷ c ∷ d ∷ s) r
  four : {a b c d : ℕ} {s r : List ℕ} → within 0xF1 0xF3 a ≡ true → is_tail b ≡ true → is_tail c ≡ true → is_tail d ≡ true
      → Characters s r → Characters (a ∷ b ∷ c ∷ d ∷ s) r
  f4 : {b c d : ℕ} {s r : List ℕ} → within 0x80 0x8F b ≡ true → is_tail c ≡ true → is_tail d ≡ true → Characters s r
      → Characters (0xF4 ∷ b ∷ c ∷ d ∷ s) r

-- any number of digits; at least one digit
pub data Digits : List ℕ → List ℕ → Type 0 where
  none : {r : List ℕ} → Digits r r
  more : {a : ℕ} {s r : List ℕ} → is_digit a ≡ true → Digits s r → Digits (a ∷ s) r

pub data SomeDigits : List ℕ → List ℕ → Type 0 where
  digits : {a : ℕ} {s r : List ℕ} → is_digit a ≡ true → Digits s r → SomeDigits (a ∷ s) r

-- numbers (RFC 8259, section 6). int = zero / ( digit1-9 *DIGIT )
pub data Whole : List ℕ → List ℕ → Type 0 where
  zero : {r : List ℕ} → Whole (0x30 ∷ r) r
  positive : {a : ℕ} {s r : List ℕ} → within 0x31 0x39 a ≡ true → Digits s r → Whole (a ∷ s) r

-- [ frac ], frac = decimal-point 1*DIGIT
pub data Fraction : List ℕ → List ℕ → Type 0 where
  none : {r : List ℕ} → Fraction r r
  point : {s r : List ℕ} → SomeDigits s r → Fraction (0x2E ∷ s) r

-- [ exp ], exp = e [ minus / plus ] 1*DIGIT
pub data Power : List ℕ → List ℕ → Type 0 where
  none : {r : List ℕ} → Power r r
  unsigned : {a : ℕ} {s r : List ℕ} → is_exponent a ≡ true → SomeDigits s r → Power (a ∷ s) r
  signed : {a b : ℕ} {s r : List ℕ} → is_exponent a ≡ true → is_sign b ≡ true → SomeDigits s r → Power (a ∷ b ∷ s) r

-- number = [ minus ] int [ frac ] [ exp ], behind its minus
pub data Unsigned : List ℕ → List ℕ → Type 0 where
  unsigned : {s t u r : List ℕ} → Whole s t → Fraction t u → Power u r → Unsigned s r

-- the parts of a text. `elements` is a list behind its opening bracket, `more_elements` a list behind an element; so with an object's members;
-- `member` is an object from a member's name on, `colon` an object behind a name.
pub data Part : Type 0 where
  value elements more_elements members more_members member colon : Part

-- a part where so many brackets are open (RFC 8259, sections 2 to 5). Blanks may stand in front of every part, that is before and behind
-- each of [ ] { } : and comma. `list` and `object` open a bracket where fewer than eight are open.
pub data Reads : Part → ℕ → List ℕ → List ℕ → Type 0 where
  blank : {p : Part} {n a : ℕ} {s r : List ℕ} → is_blank a ≡ true → Reads p n s r → Reads p n (a ∷ s) r
  string : {n : ℕ} {s r : List ℕ} → Characters s r → Reads value n (0x22 ∷ s) r
  true_word : {n : ℕ} {r : List ℕ} → Reads value n (0x74 ∷ 0x72 ∷ 0x75 ∷ 0x65 ∷ r) r
  false_word : {n : ℕ} {r : List ℕ} → Reads value n (0x66 ∷ 0x61 ∷ 0x6C ∷ 0x73 ∷ 0x65 ∷ r) r
  null_word : {n : ℕ} {r : List ℕ} → Reads value n (0x6E ∷ 0x75 ∷ 0x6C ∷ 0x6C ∷ r) r
  number : {n : ℕ} {s r : List ℕ} → Unsigned s r → Reads value n s r
  negative : {n : ℕ} {s r : List ℕ} → Unsigned s r → Reads value n (0x2D ∷ s) r
  list : {n : ℕ} {s r : List ℕ} → n < 8 → Reads elements (suc n) s r → Reads value n (0x5B ∷ s) r
  no_element : {n : ℕ} {r : List ℕ} → Reads elements n (0x5D ∷ r) r
  first_element : {n : ℕ} {s t r : List ℕ} → Reads value n s t → Reads more_elements n t r → Reads elements n s r
  end_elements : {n : ℕ} {r : List ℕ} → Reads more_elements n (0x5D ∷ r) r
  next_element : {n : ℕ} {s t r : List ℕ} → Reads value n s t → Reads more_elements n t r → Reads more_elements n (0x2C ∷ s) r
  object : {n : ℕ} {s r : List ℕ} → n < 8 → Reads members (suc n) s r → Reads value n (0x7B ∷ s) r
  no_member : {n : ℕ} {r : List ℕ} → Reads members n (0x7D ∷ r) r
  first_member : {n : ℕ} {s r : List ℕ} → Reads member n s r → Reads members n s r
  end_members : {n : ℕ} {r : List ℕ} → Reads more_members n (0x7D ∷ r) r
  next_member : {n : ℕ} {s r : List ℕ} → Reads member n s r → Reads more_members n (0x2C ∷ s) r
  named : {n : ℕ} {s t r : List ℕ} → Characters s t → Reads colon n t r → Reads member n (0x22 ∷ s) r
  content : {n : ℕ} {s t r : List ℕ} → Reads value n s t → Reads more_members n t r → Reads colon n (0x3A ∷ s) r

-- nothing but blanks
pub data Blanks : List ℕ → Type 0 where
  none : Blanks []
  more : {a : ℕ} {s : List ℕ} → is_blank a ≡ true → Blanks s → Blanks (a ∷ s)

-- a JSON text: one value, blanks around it (RFC 8259, section 2). A byte order mark is no blank (section 8.1).
pub record Text (t : List ℕ) : Type 0 where
  pub behind : List ℕ
  pub value_first : Reads value 0 t behind
  pub blanks_then : Blanks behind

-- some text begins with these bytes
abbrev pub Begins : List ℕ → Type 0
Begins s = (u : List ℕ) × Text (s ++ u)

-- t is no text, and p is the length of the longest beginning of t that some text has too: the place of the first byte that no text could have
-- there, or the length of t where it only ends too early
pub record FirstFault (t : List ℕ) (p : ℕ) : Type 0 where
  pub inside : p ≤ length t
  pub begins : Begins (take p t)
  pub longest : (m : ℕ) → p < m → m ≤ length t → Begins (take m t) → ⊥
  pub no_text : Text t → ⊥
