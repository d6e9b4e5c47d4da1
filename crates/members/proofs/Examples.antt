-- Documents with their faults, worked out by hand; a place here is a number that falls along the text.
use Rattle.std.proofs.Common.{◌≡◌, refl, [], ◌++◌}
use Rattle.json_text.specs.Texts.{ascii}
use Rattle.json_text.specs.Trees.{Tree}
use Rattle.json_text.specs.Trees.Shape.{one, named}
use Rattle.json_text.specs.Trees.Tree.{text, other, list, object, end_list, element, end_object, member}
use Rattle.members.specs.Members.{top_kind, top_names, row_kind, row_names, aws_kind, operator_kind, operator_names, key_kind, key_names, version_text}
use Rattle.members.specs.Faults.{bad_name, bad_value, faults}

-- a document of the only Version with this under Statement
abbrev document : Tree one → Tree one
document v = object 99 (member 98 (ascii "Version") (text 97 (ascii "2012-10-17")) (member 96 (ascii "Statement") v (end_object 1)))

-- a statement with an effect, a principal, an action and a resource, and with these members behind them
abbrev statement : Tree named → Tree one
statement ms =
    object 95
    (member 94 (ascii "Effect") (text 93 (ascii "Allow"))
    (member 92 (ascii "NotPrincipal") (object 91 (member 90 (ascii "AWS") (text 89 (ascii "c")) (end_object 88)))
    (member 87 (ascii "Action") (list 86 (end_list 85)) (member 84 (ascii "Resource") (text 83 (ascii "r")) ms))))

-- `{}` lacks two members: one 22, at its closing brace
pub nothing-there : faults (object 2 (end_object 1)) ≡ bad_value 1
nothing-there = refl

-- no statements, and one
pub no-statement : faults (document (list 9 (end_list 8))) ≡ []
unfolding top_kind top_names version_text
no-statement = refl

pub one-statement : faults (document (statement (end_object 9))) ≡ []
unfolding top_kind top_names row_kind row_names aws_kind version_text
one-statement = refl

-- Id is unknown: 21 at its name, and nothing is asked of its value
pub unknown : faults (object 9 (member 8 (ascii "Version") (text 7 (ascii "2012-10-17"))
    (member 6 (ascii "Id") (other 5) (member 4 (ascii "Statement") (list 3 (end_list 2)) (end_object 1))))) ≡ bad_name 6
unfolding top_kind top_names version_text
unknown = refl

-- NotPrincipal, then Principal: twice
pub form-twice : faults (document (statement (member 9 (ascii "Principal") (text 8 (ascii "*")) (end_object 7)))) ≡ bad_name 9
unfolding top_kind top_names row_kind row_names aws_kind version_text
form-twice = refl

-- one key in two cases: twice
pub key_twice : faults (document (statement (member 9 (ascii "Condition") (object 8
    (member 7 (ascii "StringLike") (object 6
    (member 5 (ascii "s3:prefix") (text 4 (ascii "a")) (member 3 (ascii "S3:Prefix") (text 2 (ascii "b")) (end_object 2)))) (end_object 2))) (end_object 2))))
    ≡ bad_name 3
unfolding top_kind top_names row_kind row_names aws_kind operator_kind operator_names key_kind key_names version_text
key_twice = refl

-- a number among actions and a principal that is another string than `*`: both are faults, each at its place
pub two-faults : faults (document (object 9 (member 8 (ascii "Principal") (text 7 (ascii "c"))
    (member 6 (ascii "Action") (list 5 (element (other 4) (end_list 3))) (end_object 2)))))
    ≡ bad_value 7 ++ (bad_value 4 ++ bad_value 2)
unfolding top_kind top_names row_kind row_names version_text
two-faults = refl
