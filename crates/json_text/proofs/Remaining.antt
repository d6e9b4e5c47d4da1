-- What is still to come from a place of the machine on, in words of the grammar.
use Rattle.std.proofs.Common.{ℕ, zero, suc, ◌≡◌, true, List, [], ◌∷◌, ◌++◌, length}
use Rattle.json_text.specs.Bytes.{within, is_exponent, is_tail}
use Rattle.json_text.specs.Grammar.{Characters, Digits, SomeDigits, Fraction, Power, Unsigned, Part, Reads, Blanks}
use Rattle.json_text.specs.declared.strings.Inside.{Inside}
use Rattle.json_text.specs.declared.strings.Inside.TheVariants as I
use Rattle.json_text.specs.declared.numbers.Numeral.{Numeral}
use Rattle.json_text.specs.declared.numbers.Numeral.TheVariants as N
use Rattle.json_text.specs.declared.words.Due.{Due}
use Rattle.json_text.specs.declared.words.Due.TheVariants as D
use Rattle.json_text.specs.declared.machine.Role.{Role}
use Rattle.json_text.specs.declared.machine.Role.TheVariants as R
use Rattle.json_text.specs.declared.machine.Phase.{Phase}
use Rattle.json_text.specs.declared.machine.Phase.TheVariants as P
use Rattle.json_text.proofs.Stacks.{Bracket, below}
use Rattle.json_text.proofs.Stacks.Bracket.{list, object}

-- so many bytes 80 to BF, then the rest of a string
abbrev pub Tails : ℕ → List ℕ → List ℕ → Type 0
Tails zero t r = Characters t r
Tails (suc n) [] r = ⊥
Tails (suc n) (b ∷ t) r = (is_tail b ≡ true) × Tails n t r

abbrev pub InString : Inside → List ℕ → List ℕ → Type 0
InString I.Plain t r = Characters t r
InString I.Escape t r = Characters (0x5C ∷ t) r
InString I.Code t r = Characters (0x5C ∷ 0x75 ∷ t) r
InString I.Zero t r = Characters (0x5C ∷ 0x75 ∷ 0x30 ∷ t) r
InString I.High t r = Characters (0x5C ∷ 0x75 ∷ 0x30 ∷ 0x30 ∷ t) r
InString I.Low t r = (a : ℕ) → within 0x30 0x37 a ≡ true → Characters (0x5C ∷ 0x75 ∷ 0x30 ∷ 0x30 ∷ a ∷ t) r
InString I.One t r = Tails 1 t r
InString I.Two t r = Tails 2 t r
InString I.Three t r = Tails 3 t r
InString I.AfterE0 t r = Characters (0xE0 ∷ t) r
InString I.AfterED t r = Characters (0xED ∷ t) r
InString I.AfterF0 t r = Characters (0xF0 ∷ t) r
InString I.AfterF4 t r = Characters (0xF4 ∷ t) r

abbrev pub Tail : List ℕ → List ℕ → Type 0
Tail t r = (u : List ℕ) × Fraction t u × Power u r

abbrev pub InNumber : Numeral → List ℕ → List ℕ → Type 0
InNumber N.Minus t r = Unsigned t r
InNumber N.Zero t r = Tail t r
InNumber N.Whole t r = (u : List ℕ) × Digits t u × Tail u r
InNumber N.Point t r = (u : List ℕ) × SomeDigits t u × Power u r
InNumber N.Part t r = (u : List ℕ) × Digits t u × Power u r
InNumber N.Exponent t r = (a : ℕ) → is_exponent a ≡ true → Power (a ∷ t) r
InNumber N.Sign t r = SomeDigits t r
InNumber N.Power t r = Digits t r

abbrev pub letters : Due → List ℕ
letters D.Rue = 0x72 ∷ 0x75 ∷ 0x65 ∷ []
letters D.Ue = 0x75 ∷ 0x65 ∷ []
letters D.E = 0x65 ∷ []
letters D.Alse = 0x61 ∷ 0x6C ∷ 0x73 ∷ 0x65 ∷ []
letters D.Lse = 0x6C ∷ 0x73 ∷ 0x65 ∷ []
letters D.Se = 0x73 ∷ 0x65 ∷ []
letters D.Ull = 0x75 ∷ 0x6C ∷ 0x6C ∷ []
letters D.Ll = 0x6C ∷ 0x6C ∷ []
letters D.L = 0x6C ∷ []

abbrev pub more : Bracket → Part
more list = Part.more_elements
more object = Part.more_members

-- behind a value: what is open is gone on with and closed, one after the other, then blanks
abbrev pub Closes : List Bracket → List ℕ → Type 0
Closes [] t = Blanks t
Closes (k ∷ ks) t = (r : List ℕ) × Reads (more k) (suc (length ks)) t r × Closes ks r

abbrev pub Then : Part → ℕ → List Bracket → List ℕ → Type 0
Then p n ks t = (r : List ℕ) × Reads p n t r × Closes ks r

abbrev pub Behind : Role → List Bracket → List ℕ → Type 0
Behind R.Name ks t = Then Part.colon (length ks) (below ks) t
Behind R.Content ks t = Closes ks t

abbrev pub Rest : Phase → List Bracket → List ℕ → Type 0
Rest P.Value ks t = Then Part.value (length ks) ks t
Rest P.FirstElement ks t = Then Part.elements (length ks) (below ks) t
Rest P.FirstMember ks t = Then Part.members (length ks) (below ks) t
Rest P.Member ks t = Then Part.member (length ks) (below ks) t
Rest P.Colon ks t = Then Part.colon (length ks) (below ks) t
Rest P.After ks t = Closes ks t
Rest (P.Text role i) ks t = (r : List ℕ) × InString i t r × Behind role ks r
Rest (P.Number n) ks t = (r : List ℕ) × InNumber n t r × Closes ks r
Rest (P.Word d) ks t = (r : List ℕ) × (t ≡ letters d ++ r) × Closes ks r

-- the phases that stand inside a list or an object
abbrev pub InList : List Bracket → Type 0
InList [] = ⊥
InList (list ∷ ks) = Unit {0}
InList (object ∷ ks) = ⊥

abbrev pub InObject : List Bracket → Type 0
InObject [] = ⊥
InObject (list ∷ ks) = ⊥
InObject (object ∷ ks) = Unit {0}

abbrev pub FitsRole : Role → List Bracket → Type 0
FitsRole R.Name ks = InObject ks
FitsRole R.Content ks = Unit {0}

abbrev pub Fits : Phase → List Bracket → Type 0
Fits P.Value ks = Unit {0}
Fits P.FirstElement ks = InList ks
Fits P.FirstMember ks = InObject ks
Fits P.Member ks = InObject ks
Fits P.Colon ks = InObject ks
Fits P.After ks = Unit {0}
Fits (P.Text role i) ks = FitsRole role ks
Fits (P.Number n) ks = Unit {0}
Fits (P.Word d) ks = Unit {0}
