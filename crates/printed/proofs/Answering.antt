-- What the reader of policies answers for printed tables, and that what it writes has its conditions by their operators.
use Rattle.std.proofs.Common.{ℕ, ◌≤◌, ◌≡◌, refl, sym, ◌∙◌, subst, List, [], ◌∷◌, ◌++◌, length, take, drop, arith}
use Rattle.json_text.specs.Trees.{Tree}
use Rattle.json_text.specs.Trees.Shape.{one}
use Rattle.json_text.proofs.Choosing.{never}
use Rattle.members.specs.Members.Verdict.{fine}
use Rattle.members.specs.Faults.{MemberFault, faults}
use Rattle.members.specs.Machinery.Verdicts.{document}
use Rattle.members.proofs.FirstFault.{first, first-fault, no-fault}
use Rattle.stored.specs.Choice.{In}
use Rattle.stored.specs.Reading.{reading}
use Rattle.stored.specs.Entries.{Bytes}
use Rattle.stored.specs.Tables.{Statement, rows_of}
use Rattle.stored.specs.Reading.{ReadAnswer as R}
use Rattle.policy.specs.Answers.{document_of, JsonAnswered}
use Rattle.policy.specs.Answers.JsonAnswered.{no_text, wrong_member, wrong_record, too_long, no_room, written}
use Rattle.policy.specs.Answers.{JsonAnswer as A, JsonAnswer}
use Rattle.policy.proofs.Promises.{json-means}
use Rattle.printed.specs.Grouped.{Grouped}
use Rattle.printed.specs.Machinery.Makes.{Makes}
use Rattle.printed.specs.Machinery.Plans.{printed}
use Rattle.printed.proofs.EveryTable.{makes}
use Rattle.printed.proofs.DocumentsGrouped.{document-grouped}

-- a document that is judged fine has no fault
none_found : (v : Tree one) → document v ≡ fine → faults v ≡ []
none_found v e = go (faults v) (sym (first-fault v) ∙ e)
  where
    go : (fs : List MemberFault) → first fs ≡ fine → fs ≡ []
    go [] h = refl
    go (f ∷ fs) h = never (cc)

made : (t table buffer : List ℕ) → Makes t table → length table ≤ length buffer
    → JsonAnswered t buffer (A.Written (length table)) (table ++ drop (length table) buffer)
made t table buffer m room =
    subst (λ (s : List ℕ). length s ≤ 16384 → length s ≤ length buffer → JsonAnswered t buffer (A.Written (length s)) (s ++ drop (length s) buffer)) m.is_table
    (λ a b. written m.text (record { sound_members = none_found (document_of m.text) m.sound_members; sound_records = m.sound_records }) a b)
    m.short room

pub every-table : (table : List ℕ) (n : ℕ) → Bytes table → reading table ≡ R.Accepted n
    → ((s : Statement) → In s (rows_of table) → Grouped s)
    → (t : List ℕ)
    × ((buffer : List ℕ) → length table ≤ length buffer → JsonAnswered t buffer (A.Written (length table)) (table ++ drop (length table) buffer))
every-table table n b e g =
    (printed (rows_of table), λ buffer room. made (printed (rows_of table)) table buffer (makes table n b e g) room)

pub no_other : (t buffer left : List ℕ) (n : ℕ) → JsonAnswered t buffer (A.Written n) left
    → (s : Statement) → In s (rows_of (take n left)) → Grouped s
no_other t buffer left n y s i = by y refl
  where
    by : {r : JsonAnswer} {rest : List ℕ} → JsonAnswered t buffer r rest → r ≡ A.Written n → Grouped s
    by (no_text f) e = absurd (let z : ◌≡◌ {A = ℕ} 0 1 = cc in omega arith)
    by (wrong_member w l) e = absurd (let z : ◌≡◌ {A = ℕ} 0 1 = cc in omega arith)
    by (wrong_record w f g) e = absurd (let z : ◌≡◌ {A = ℕ} 0 1 = cc in omega arith)
    by (too_long w h a) e = absurd (let z : ◌≡◌ {A = ℕ} 0 1 = cc in omega arith)
    by (no_room w h a b) e = absurd (let z : ◌≡◌ {A = ℕ} 0 1 = cc in omega arith)
    by (written w h a b) e =
        document-grouped (document_of w) (no-fault (document_of w) h.sound_members) s
        (subst (λ (rows : List Statement). In s rows) (json-means t buffer left n y w).1 i)
