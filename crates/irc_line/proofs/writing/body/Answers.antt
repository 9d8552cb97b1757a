use Rattle.irc_line.proofs.WrittenLaws.{other_is_whole}
use Rattle.irc_line.proofs.writing.body.Goals as goal

pub returns-clause-other : goal.returns-clause-other
returns-clause-other c =
    other_is_whole _ c.as_slice-bytes.result c.unwrap_or.result c.strip_suffix.result
    c.strip_suffix.ensures.cases c.as_slice-bytes.ensures.value c.unwrap_or.ensures
