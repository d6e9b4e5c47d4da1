-- Four numbers, each behind the one before it.
use Rattle.std.proofs.Common.{ℕ, ◌++◌, ◌/◌, ◌%◌, subst}
use Rattle.json_text.specs.Texts.{ascii}
use Rattle.printing.specs.Decimals.{decimal_of}
use Rattle.printing.specs.Laying.{Laid}
use Rattle.printing.proofs.Laying.{joined}
use Rattle.gaps.specs.Lines.{dotted}
use Rattle.gaps.proofs.lines.put_dotted.Goals as goal

pub returns : goal.returns
unfolding dotted
returns c =
    let a = c.args in
    let four = λ (w x y z : ℕ).
    Laid a.out.now a.at (decimal_of w ++ (ascii "." ++ decimal_of x) ++ (ascii "." ++ decimal_of y) ++ (ascii "." ++ decimal_of z)) 83 c.put_number.new.out c.put_number.result in
    subst (λ (w : ℕ). four w (a.address / 0x10000 % 0x100) (a.address / 0x100 % 0x100) (a.address % 0x100)) c.from.ensures
    (subst (λ (x : ℕ). four c.from.result x (a.address / 0x100 % 0x100) (a.address % 0x100)) c.from-2.ensures
    (subst (λ (y : ℕ). four c.from.result c.from-2.result y (a.address % 0x100)) c.from-3.ensures
    (subst (λ (z : ℕ). four c.from.result c.from-2.result c.from-3.result z) c.from-4.ensures
    (joined (joined (joined c.put_decimal-first.ensures c.put_number-second.ensures) c.put_number-third.ensures) c.put_number.ensures))))
