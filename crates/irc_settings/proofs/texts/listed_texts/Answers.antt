use Rattle.irc_settings.proofs.ValuesOfArrays.{same_values}
use Rattle.irc_settings.proofs.texts.listed_texts.Goals as goal

pub returns-in-Some : goal.returns-in-Some
returns-in-Some c = rw (
  ← c.in-Some.ensures,
  same_values c.in-Some.values.now.items,
  ← c.deref.ensures.value,
) c.all_texts.ensures
