-- Where nothing has crossed.
use Rattle.std.proofs.Common.{◌≡◌, ℕ, suc, Bool, true, false, Option, Some, None, Result, Ok, Err}
use Rattle.std.proofs.Common.{List}
use Rattle.std.proofs.Common.{[], ◌∷◌, length, nat_eq, refl, sym, arith, true≢false, not, ap, ◌∙◌}
use Rattle.std.proofs.Common.{◌&&◌, ◌||◌, if◌then◌else◌}
use Rattle.std.proofs.lemmas.Bool.{eqb-true}
use Rattle.std.specs.Option.{option_and_then, option_map_or}
use Rattle.irc_line.specs.Messages.{Parsed}
use Rattle.irc_line.specs.Reading.{read_of}
use Rattle.irc_line.specs.declared.reading.LineFault.{LineFault}
use Rattle.irc_modes.specs.declared.modes.ModeChange.{ModeChange}
use Rattle.irc_crossing.specs.declared.modes.ChannelModes.{ChannelModes}
use Rattle.irc_crossing.specs.Hearing.{given, log_after, log_after_read, read_given}
use Rattle.irc_crossing.specs.declared.hearing.Given.TheVariants.{AsItCame}
use Rattle.irc_crossing.specs.declared.log.Entry.{Entry}
use Rattle.irc_names.specs.Names.{is_server}
use Rattle.irc_crossing.specs.Asking.{asked_by, asked_in, has_begun, may_have_ended}
use Rattle.irc_crossing.specs.declared.change.Change.{Change}
use Rattle.irc_crossing.specs.declared.change.Change.TheVariants.{Come, Rename, Go, Out, Join, Set}
use Rattle.irc_crossing.specs.declared.setting.Setting.TheVariants.{Mode, Spelling, Topic}
use Rattle.irc_crossing.specs.Laws.{LogsStayAsLong, NothingIsAsked, NothingIsChanged}
use Rattle.irc_crossing.specs.Laws.{NothingIsLogged, NothingIsRaised}
use Rattle.irc_crossing.specs.Letters.{letters_left, set_mode, with_letter, LettersLeft}
use Rattle.irc_crossing.specs.Lines.{change_of, channel_modes, is_mode_line, is_same_prefix}
use Rattle.irc_crossing.specs.Lines.{is_topic_line}
use Rattle.irc_crossing.specs.Logs.{crossed_if, log_behind, through}
use Rattle.irc_crossing.specs.Raising.{raises_from, raises_in}

pub nothing_is_changed : NothingIsChanged
nothing_is_changed peer is_held line = refl

-- the same of a log in which nothing is, and what is given where something is
pub given_of_none : (log : List Entry) (peer : List ℕ) (is_held : Bool) (line : List ℕ)
    → nat_eq (length log) 0 ≡ true → AsItCame ≡ given log peer is_held line
given_of_none [] peer is_held line none = refl
given_of_none (entry ∷ log) peer is_held line none =
    absurd (omega (arith, eqb-true (suc (length log)) 0 none))

pub given_of_some : (log : List Entry) (peer : List ℕ) (is_held : Bool) (line : List ℕ)
    → nat_eq (length log) 0 ≡ false
    → read_given log peer is_held (read_of line) ≡ given log peer is_held line
given_of_some [] peer is_held line some = absurd (true≢false some)
given_of_some (entry ∷ log) peer is_held line some = refl

letters_logged : (channel : List ℕ) (changes : List ModeChange)
    → (letters_left channel changes []).log ≡ []
letters_logged channel [] = refl
letters_logged channel (change ∷ changes) = letters_logged channel changes

modes_logged : (modes : Option ChannelModes)
    → option_map_or (λ (it : ChannelModes). (letters_left it.channel it.changes []).log) modes []
    ≡ []
modes_logged None = refl
modes_logged (Some modes) = letters_logged modes.channel modes.changes

read_logged : (read : Result Parsed LineFault) → log_after_read [] read ≡ []
read_logged (Ok message) = modes_logged (channel_modes message)
read_logged (Err fault) = refl

pub nothing_is_logged : NothingIsLogged
nothing_is_logged line = read_logged (read_of line)

-- ---- nothing is asked for, and nothing raised

never : (x : Bool) (channel : List ℕ) → (if x && false then Some channel else None) ≡ None
never true channel = refl
never false channel = refl

none_ended : (own : Bool) (channel : List ℕ) → may_have_ended [] own channel ≡ false
none_ended true channel = refl
none_ended false channel = refl

change_asked : (own is_held : Bool) (change : Option Change)
    → option_and_then (asked_by [] own is_held) change ≡ None
change_asked own is_held None = refl
change_asked own is_held (Some (Join channel begins)) =
    ap (λ b. if (not is_held || has_begun [] channel) && b then Some channel else None)
    (none_ended own channel) ∙ never (not is_held || has_begun [] channel) channel
change_asked own is_held (Some (Come nick)) = refl
change_asked own is_held (Some (Rename nick new)) = refl
change_asked own is_held (Some (Go nick other)) = refl
change_asked own is_held (Some (Out nick channel)) = refl
change_asked own is_held (Some (Set setting)) = refl

read_asked : (peer : List ℕ) (is_held : Bool) (read : Result Parsed LineFault)
    → asked_in [] peer is_held read ≡ None
read_asked peer is_held (Ok message) =
    change_asked (is_same_prefix (Some peer) message.prefix) is_held (change_of message)
read_asked peer is_held (Err fault) = refl

pub nothing_is_asked : NothingIsAsked
nothing_is_asked peer is_held line = read_asked peer is_held (read_of line)

neither : (x y : Bool) → (x && (y && false)) ≡ false
neither true true = refl
neither true false = refl
neither false y = refl

from_raised : (message : Parsed) (prefix : Option (List ℕ)) → raises_from [] message prefix ≡ false
from_raised message None = refl
from_raised message (Some server) =
    neither (is_server server) (is_mode_line message || is_topic_line message)

read_raised : (read : Result Parsed LineFault) → raises_in [] read ≡ false
read_raised (Ok message) = from_raised message message.prefix
read_raised (Err fault) = refl

pub nothing_is_raised : NothingIsRaised
nothing_is_raised line = read_raised (read_of line)

-- ---- how long a log is

change_length : (change : Option Change) (log : List Entry)
    → length (log_behind change log) ≡ length log
change_length change [] = refl
change_length change (entry ∷ log) = ap suc (change_length (crossed_if change entry.change) log)

letter_log : (change : ModeChange) (became : Option Change) (left : LettersLeft)
    → (with_letter change became left).log ≡ left.log
letter_log change None left = refl
letter_log change (Some (Set (Mode channel now))) left = refl
letter_log change (Some (Set (Topic channel text))) left = refl
letter_log change (Some (Set (Spelling channel))) left = refl
letter_log change (Some (Come nick)) left = refl
letter_log change (Some (Rename nick new)) left = refl
letter_log change (Some (Go nick other)) left = refl
letter_log change (Some (Out nick channel)) left = refl
letter_log change (Some (Join channel begins)) left = refl

letters_length : (channel : List ℕ) (changes : List ModeChange) (log : List Entry)
    → length (letters_left channel changes log).log ≡ length log
letters_length channel [] log = refl
letters_length channel (change ∷ changes) log =
    let behind = log_behind (set_mode channel change) log in
    ap length (letter_log change (through (set_mode channel change) log)
    (letters_left channel changes behind))
    ∙ letters_length channel changes behind ∙ change_length (set_mode channel change) log

modes_length : (modes : Option ChannelModes) (log behind : List Entry)
    → length behind ≡ length log
    → length (option_map_or (λ (it : ChannelModes). (letters_left it.channel it.changes log).log)
    modes behind) ≡ length log
modes_length None log behind same = same
modes_length (Some modes) log behind same = letters_length modes.channel modes.changes log

read_length : (log : List Entry) (read : Result Parsed LineFault)
    → length (log_after_read log read) ≡ length log
read_length log (Ok message) = modes_length (channel_modes message) log
    (log_behind (change_of message) log) (change_length (change_of message) log)
read_length log (Err fault) = refl

pub logs_stay_as_long : LogsStayAsLong
logs_stay_as_long log line = read_length log (read_of line)

pub log_of_none : (log : List Entry) (line : List ℕ) → nat_eq (length log) 0 ≡ true
    → log ≡ log_after log line
log_of_none [] line none = sym (nothing_is_logged line)
log_of_none (entry ∷ log) line none =
    absurd (omega (arith, eqb-true (suc (length log)) 0 none))
