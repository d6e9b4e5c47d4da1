-- When a text makes a table.
use Rattle.std.specs.Prelude.{ℕ, ◌≤◌, ◌≡◌, List, length}
use Rattle.json_text.specs.Grammar.{Text}
use Rattle.json_text.specs.Trees.{tree_of}
use Rattle.members.specs.Machinery.Verdicts.{document}
use Rattle.members.specs.Members.Verdict.{fine}
use Rattle.records.specs.Documents.{statements_of}
use Rattle.records.specs.Records.{records_of}
use Rattle.stored.specs.Entries.{encode}
use Rattle.stored.specs.Form.{entries_for}

-- it is JSON, without a 20; its members are without a 21 or 22, and its records without a 3 to 8; the records of its statements are the
-- table, in at most 16,384 bytes
pub record Makes (t table : List ℕ) : Type 0 where
  pub text : Text t
  pub sound_members : document (tree_of text.value_first) ≡ fine
  pub sound_records : records_of (tree_of text.value_first) ≡ fine
  pub is_table : encode (entries_for (statements_of (tree_of text.value_first))) ≡ table
  pub short : length table ≤ 16384
