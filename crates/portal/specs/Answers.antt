-- What the entry points for comparing and for policies answer. Those for comparing bring their own workspace of 8,192 words.
use Rattle.std.specs.Prelude.{ℕ, ◌≡◌, List}
use Rattle.comparing.specs.Compared.{Compared, Shown}
use Rattle.comparing.specs.Answers.{Counting, Showing}
use Rattle.policy.specs.Answers.{JsonAnswered, JsonAnswer}
use Rattle.portal.specs.Codes.{counting_code, showing_code, json_code}

-- the comparison's answer, coded
abbrev pub Counts : List ℕ → List ℕ → ℕ → Type 0
Counts first second r = (answer : Counting) × Compared 8192 first second answer × (r ≡ counting_code answer)

-- the answer to the question for gap k, coded, and what the value buffer then holds
abbrev pub Shows : List ℕ → List ℕ → ℕ → List ℕ → ℕ → List ℕ → Type 0
Shows first second k before r after =
    (answer : Showing) × Shown 8192 first second k before (answer, after) × (r ≡ showing_code answer)

-- the answer for a text, coded, and what the buffer for the table then holds
abbrev pub ReadsJson : List ℕ → List ℕ → ℕ → List ℕ → Type 0
ReadsJson json before r after = (answer : JsonAnswer) × JsonAnswered json before answer after × (r ≡ json_code answer)
