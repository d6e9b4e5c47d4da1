use Rattle.std.proofs.Common.{◌++◌}
use Rattle.judging.specs.Judging.{rows_of}
use Rattle.comparing.proofs.compare.NotWide.{not_wide}
use Rattle.comparing.proofs.compare.survey_both.Goals as goal

pub survey-requires : goal.survey-requires
survey-requires c =
    let a = c.args in
    not_wide (rows_of a.tables.first.now ++ rows_of a.tables.second.now) a.words.now c.in_default.ensures c.requires
