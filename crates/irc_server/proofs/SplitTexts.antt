-- Texts that are not cut.
use Rattle.std.proofs.Common.{◌≡◌, ℕ, ◌≤◌, List, length}
use Rattle.std.proofs.lemmas.List.{take_all}
use Rattle.irc_names.specs.Limits.{max_words}
use Rattle.irc_channels.specs.Texts.{cut_words}

pub whole_words : (bytes : List ℕ) → length bytes ≤ max_words → cut_words bytes ≡ bytes
unfolding cut_words
whole_words bytes fits = take_all max_words bytes fits
