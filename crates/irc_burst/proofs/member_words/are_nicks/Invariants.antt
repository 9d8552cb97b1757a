use Rattle.std.proofs.Common.{◌≡◌, length}
use Rattle.std.specs.List.{list_all, slice_split}
use Rattle.irc_names.specs.Names.{is_nick}
use Rattle.irc_burst.specs.DeedsMeant.{is_comma, member_of}
use Rattle.irc_burst.proofs.member_words.are_nicks.Given as goal

-- the words that are left are nicknames just where all are
abbrev pub invariant-loop-rest : goal.invariant-loop-rest
invariant-loop-rest l =
    list_all (λ word. is_nick (member_of word).0) (slice_split is_comma l.text)
    ≡ list_all (λ word. is_nick (member_of word).0) (slice_split is_comma l.rest)

abbrev pub decreases-loop-rest : goal.decreases-loop-rest
decreases-loop-rest l = length l.rest
