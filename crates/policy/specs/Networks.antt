-- Which texts say a network: four decimal numbers of at most 255 with dots between them, then nothing, or a slash and a decimal number of at
-- most 32. A relation with two byte strings, `R s r`, says that s is what is meant, and then r.
use Rattle.std.specs.Prelude.{ℕ, zero, suc, ◌+◌, ◌*◌, ◌≤◌, ◌<◌, List, [], ◌∷◌}

-- a decimal number: a digit; or a number, and not 0, with one digit more
pub data Decimal : ℕ → List ℕ → List ℕ → Type 0 where
  digit : {d : ℕ} {r : List ℕ} → d ≤ 9 → Decimal d ((0x30 + d) ∷ r) r
  longer : {n d : ℕ} {s r : List ℕ} → 0 < n → d ≤ 9 → Decimal n s ((0x30 + d) ∷ r) → Decimal (n * 10 + d) s r

-- the length of a network: 32 where nothing says it
pub data Length : ℕ → List ℕ → Type 0 where
  whole : Length 32 []
  given : {n : ℕ} {s : List ℕ} → n ≤ 32 → Decimal n s [] → Length n (0x2F ∷ s)

-- so many numbers with a dot behind each, one number more, and the length: behind an address so far they make the address b and the length n
pub data Dotted : ℕ → ℕ → List ℕ → ℕ → ℕ → Type 0 where
  last : {a v n : ℕ} {s r : List ℕ} → v ≤ 255 → Decimal v s r → Length n r → Dotted zero a s (a * 256 + v) n
  next : {k a v b n : ℕ} {s r : List ℕ} → v ≤ 255 → Decimal v s (0x2E ∷ r) → Dotted k (a * 256 + v) r b n → Dotted (suc k) a s b n

-- a text says the network with an address and a length
abbrev pub IsNetwork : List ℕ → ℕ → ℕ → Type 0
IsNetwork t a n = Dotted 3 0 t a n
