-- What is raised of all that another side tells of a channel's modes, in whatever lines it tells
-- it, makes them both sides' modes joined. Of what a side has itself nothing is raised.
use Rattle.std.proofs.Common.{◌≡◌, List, [], ◌∷◌, ◌++◌, fold, sym, ap, ◌∙◌, refl}
use Rattle.std.proofs.lemmas.List.Sums.{fold-append}
use Rattle.std.specs.List.{flat_map}
use Rattle.irc_modes.specs.declared.modes.Modes.{Modes}
use Rattle.irc_modes.specs.declared.modes.ModeChange.{ModeChange}
use Rattle.irc_modes.specs.Bans.{IsBanList}
use Rattle.irc_modes.specs.Joined.{joined_modes}
use Rattle.irc_modes.specs.Lemmas.NothingRaised.{none_raised}
use Rattle.irc_modes.specs.Lemmas.RaisedJoined.{raised_in_turn, all_raised}
use Rattle.irc_modes.specs.Modes.{modes_after}
use Rattle.irc_modes.specs.ModesSet.{AreWithinLimits, set_changes, ban_changes}
use Rattle.irc_modes.specs.Raised.{raising, raise_step}

-- all that is set in a channel's modes, as a burst tells it
abbrev pub all_set : Modes → List ModeChange
all_set modes = set_changes modes ++ ban_changes modes.bans

-- the modes behind a line of changes, of which those are made that raise something
abbrev pub line_raised : Modes → List ModeChange → Modes
line_raised modes line = modes_after (raising line modes) modes

-- the changes of a line, judged one after another, are made one after another
abbrev pub RaisedInTurn : Type 0
RaisedInTurn = (line : List ModeChange) (modes : Modes)
    → line_raised modes line ≡ fold raise_step modes line

-- all of them, in any lines
abbrev pub RaisedIsJoined : Type 0
RaisedIsJoined = (lines : List (List ModeChange)) (modes other : Modes) → IsBanList modes.bans
    → AreWithinLimits other
    → flat_map (λ line. line) lines ≡ all_set other
    → fold line_raised modes lines ≡ joined_modes modes other

-- of a side's own modes nothing is raised
abbrev pub NothingRaised : Type 0
NothingRaised = (modes : Modes) → AreWithinLimits modes → raising (all_set modes) modes ≡ []

-- ---- their proofs

pub lines_in_turn : (lines : List (List ModeChange)) (modes : Modes)
    → fold line_raised modes lines ≡ fold raise_step modes (flat_map (λ line. line) lines)
lines_in_turn [] modes = refl
lines_in_turn (line ∷ lines) modes =
    lines_in_turn lines (line_raised modes line)
    ∙ ap (λ now. fold raise_step now (flat_map (λ line. line) lines)) (raised_in_turn line modes)
    ∙ sym (fold-append raise_step modes line (flat_map (λ line. line) lines))

pub raised_is_joined : RaisedIsJoined
raised_is_joined lines modes other rising within are =
    lines_in_turn lines modes ∙ ap (fold raise_step modes) are
    ∙ all_raised modes other rising within

pub nothing_raised : NothingRaised
nothing_raised = none_raised
