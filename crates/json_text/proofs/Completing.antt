-- From every place of the machine some bytes lead to the end.
use Rattle.std.proofs.Common.{ℕ, ◌≡◌, refl, true, List, [], ◌∷◌, ◌++◌}
use Rattle.json_text.specs.Machinery.Numbers.{can_end}
use Rattle.json_text.specs.Machinery.Machine.{behind_role}
use Rattle.json_text.specs.declared.strings.Inside.{Inside}
use Rattle.json_text.specs.declared.strings.Inside.TheVariants as I
use Rattle.json_text.specs.declared.numbers.Numeral.{Numeral}
use Rattle.json_text.specs.declared.numbers.Numeral.TheVariants as N
use Rattle.json_text.specs.declared.words.Due.{Due}
use Rattle.json_text.specs.declared.words.Due.TheVariants as D
use Rattle.json_text.specs.declared.machine.Role.{Role}
use Rattle.json_text.specs.declared.machine.Role.TheVariants as R
use Rattle.json_text.specs.declared.machine.Phase.{Phase}
use Rattle.json_text.specs.declared.machine.Phase.TheVariants as P
use Rattle.json_text.proofs.Stacks.{Bracket, code, half}
use Rattle.json_text.proofs.Stacks.Bracket.{list, object}
use Rattle.json_text.proofs.Accepting.{accepts}
use Rattle.json_text.proofs.Complete.{ends, after_list, after-object}
use Rattle.json_text.proofs.Remaining.{letters, InList, InObject, Fits}

-- the brackets that close what is open
abbrev closing : List Bracket → List ℕ
closing [] = []
closing (list ∷ ks) = 0x5D ∷ closing ks
closing (object ∷ ks) = 0x7D ∷ closing ks

abbrev string-end : Inside → List ℕ → List ℕ
string-end I.Plain r = 0x22 ∷ r
string-end I.Escape r = 0x2F ∷ 0x22 ∷ r
string-end I.Code r = 0x30 ∷ 0x30 ∷ 0x30 ∷ 0x30 ∷ 0x22 ∷ r
string-end I.Zero r = 0x30 ∷ 0x30 ∷ 0x30 ∷ 0x22 ∷ r
string-end I.High r = 0x30 ∷ 0x30 ∷ 0x22 ∷ r
string-end I.Low r = 0x30 ∷ 0x22 ∷ r
string-end I.One r = 0x80 ∷ 0x22 ∷ r
string-end I.Two r = 0x80 ∷ 0x80 ∷ 0x22 ∷ r
string-end I.Three r = 0x80 ∷ 0x80 ∷ 0x80 ∷ 0x22 ∷ r
string-end I.AfterE0 r = 0xA0 ∷ 0x80 ∷ 0x22 ∷ r
string-end I.AfterED r = 0x80 ∷ 0x80 ∷ 0x22 ∷ r
string-end I.AfterF0 r = 0x90 ∷ 0x80 ∷ 0x80 ∷ 0x22 ∷ r
string-end I.AfterF4 r = 0x80 ∷ 0x80 ∷ 0x80 ∷ 0x22 ∷ r

abbrev number-end : Numeral → List ℕ → List ℕ
number-end N.Minus r = 0x30 ∷ r
number-end N.Zero r = r
number-end N.Whole r = r
number-end N.Point r = 0x30 ∷ r
number-end N.Part r = r
number-end N.Exponent r = 0x30 ∷ r
number-end N.Sign r = 0x30 ∷ r
number-end N.Power r = r

abbrev behind : Role → List Bracket → List ℕ
behind R.Name ks = 0x3A ∷ 0x30 ∷ closing ks
behind R.Content ks = closing ks

abbrev pub completion : Phase → List Bracket → List ℕ
completion P.Value ks = 0x30 ∷ closing ks
completion P.FirstElement ks = closing ks
completion P.FirstMember ks = closing ks
completion P.Member ks = 0x22 ∷ 0x22 ∷ 0x3A ∷ 0x30 ∷ closing ks
completion P.Colon ks = 0x3A ∷ 0x30 ∷ closing ks
completion P.After ks = closing ks
completion (P.Text role i) ks = string-end i (behind role ks)
completion (P.Number n) ks = number-end n (closing ks)
completion (P.Word d) ks = letters d ++ closing ks

closes : (ks : List Bracket) → accepts (closing ks) P.After (code ks) ≡ true
closes [] = refl
closes (list ∷ ks) = rw (after_list ks 0x5D) (closes ks)
closes (object ∷ ks) = rw (after-object ks 0x7D) (closes ks)

ended : (n : Numeral) → can_end n ≡ true → (ks : List Bracket) → accepts (closing ks) (P.Number n) (code ks) ≡ true
ended n e ks = ends n e (closing ks) (code ks) (closes ks)

behind-ends : (role : Role) (ks : List Bracket) → accepts (behind role ks) (behind_role role) (code ks) ≡ true
behind-ends R.Name ks = ended N.Zero refl ks
behind-ends R.Content ks = closes ks

string-ends : (i : Inside) (role : Role) (ks : List Bracket) → accepts (string-end i (behind role ks)) (P.Text role i) (code ks) ≡ true
string-ends I.Plain role ks = behind-ends role ks
string-ends I.Escape role ks = behind-ends role ks
string-ends I.Code role ks = behind-ends role ks
string-ends I.Zero role ks = behind-ends role ks
string-ends I.High role ks = behind-ends role ks
string-ends I.Low role ks = behind-ends role ks
string-ends I.One role ks = behind-ends role ks
string-ends I.Two role ks = behind-ends role ks
string-ends I.Three role ks = behind-ends role ks
string-ends I.AfterE0 role ks = behind-ends role ks
string-ends I.AfterED role ks = behind-ends role ks
string-ends I.AfterF0 role ks = behind-ends role ks
string-ends I.AfterF4 role ks = behind-ends role ks

number-ends : (n : Numeral) (ks : List Bracket) → accepts (number-end n (closing ks)) (P.Number n) (code ks) ≡ true
number-ends N.Minus ks = ended N.Zero refl ks
number-ends N.Zero ks = ended N.Zero refl ks
number-ends N.Whole ks = ended N.Whole refl ks
number-ends N.Point ks = ended N.Part refl ks
number-ends N.Part ks = ended N.Part refl ks
number-ends N.Exponent ks = ended N.Power refl ks
number-ends N.Sign ks = ended N.Power refl ks
number-ends N.Power ks = ended N.Power refl ks

word-ends : (d : Due) (ks : List Bracket) → accepts (letters d ++ closing ks) (P.Word d) (code ks) ≡ true
word-ends D.Rue ks = closes ks
word-ends D.Ue ks = closes ks
word-ends D.E ks = closes ks
word-ends D.Alse ks = closes ks
word-ends D.Lse ks = closes ks
word-ends D.Se ks = closes ks
word-ends D.Ull ks = closes ks
word-ends D.Ll ks = closes ks
word-ends D.L ks = closes ks

list-ends : (ks : List Bracket) → InList ks → accepts (closing ks) P.FirstElement (code ks) ≡ true
list-ends [] f = absurd f
list-ends (list ∷ ks) f = rw (half list ks) (closes ks)
list-ends (object ∷ ks) f = absurd f

object-ends : (ks : List Bracket) → InObject ks → accepts (closing ks) P.FirstMember (code ks) ≡ true
object-ends [] f = absurd f
object-ends (list ∷ ks) f = absurd f
object-ends (object ∷ ks) f = rw (half object ks) (closes ks)

pub completes : (p : Phase) (ks : List Bracket) → Fits p ks → accepts (completion p ks) p (code ks) ≡ true
completes P.Value ks f = ended N.Zero refl ks
completes P.FirstElement ks f = list-ends ks f
completes P.FirstMember ks f = object-ends ks f
completes P.Member ks f = ended N.Zero refl ks
completes P.Colon ks f = ended N.Zero refl ks
completes P.After ks f = closes ks
completes (P.Text role i) ks f = string-ends i role ks
completes (P.Number n) ks f = number-ends n ks
completes (P.Word d) ks f = word-ends d ks
