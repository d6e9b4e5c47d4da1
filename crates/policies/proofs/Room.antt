-- A table that is written lies in its buffer.
use Rattle.std.proofs.Common.{ℕ, ◌≤◌, ◌≡◌, List, arith, length}
use Rattle.json_text.proofs.Choosing.{never}
use Rattle.policy.specs.Answers.{table_for, JsonAnswered}
use Rattle.policy.specs.Answers.JsonAnswered.{no_text, wrong_member, wrong_record, too_long, no_room, written}
use Rattle.policy.specs.Answers.{JsonAnswer as A, JsonAnswer}

pub written-within : (t buffer left : List ℕ) (r : JsonAnswer) (n : ℕ) → JsonAnswered t buffer r left → r ≡ A.Written n → n ≤ length buffer
written-within t buffer left r n (no_text f) e = never (cc)
written-within t buffer left r n (wrong_member w l) e = never (cc)
written-within t buffer left r n (wrong_record w f g) e = never (cc)
written-within t buffer left r n (too_long w h a) e = never (cc)
written-within t buffer left r n (no_room w h a b) e = never (cc)
written-within t buffer left r n (written w h a b) e =
    let same : length (table_for w) ≡ n = cc in
    omega (arith, b, same)
