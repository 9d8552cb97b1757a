-- What is read of a line as effects is what it means, or its fault.
use Rattle.std.proofs.Common.{◌≡◌, inl, inr, IsOk, ℕ, Bool, true, false, not, Option, Some, None}
use Rattle.std.proofs.Common.{unwrap_or, Result, Ok, Err, List, [], ◌∷◌, ◌++◌, codes, map, subst}
use Rattle.std.proofs.Common.{if◌then◌else◌, refl, sym, ◌∙◌, ap}
use Rattle.std.specs.Global.{Vec}
use Rattle.std.specs.List.{find, flat_map}
use Rattle.irc_batch.specs.declared.close_reason.CloseReason.{CloseReason}
use Rattle.irc_batch.specs.declared.close_reason.CloseReason.TheVariants as reason
use Rattle.irc_line.specs.Messages.{Parsed}
use Rattle.irc_room.specs.effect.By.TheVariants as by
use Rattle.irc_room.specs.effect.Effect.{Effect}
use Rattle.irc_room.specs.effect.Effect.TheVariants as effect
use Rattle.irc_link_words.specs.declared.commands.EffectCommand.{EffectCommand}
use Rattle.irc_link_words.specs.declared.commands.EffectCommand.TheVariants as command
use Rattle.irc_link_words.specs.declared.fault.WireFault.{WireFault}
use Rattle.irc_link_words.specs.declared.fault.WireFault.TheVariants as fault
use Rattle.irc_link_words.specs.Faults.{wire_fault}
use Rattle.irc_link_words.specs.Words.{is_command}
use Rattle.irc_link_reader.specs.declared.deed.Deed.{Deed as Code}
use Rattle.irc_link_reader.specs.Loops.Readings.{IsGiven, check_of, row, takes_memory}
use Rattle.irc_link_reader.specs.Loops.Tellings.{effect_of_told, effects_of, told_found, told_if}
use Rattle.irc_link_reader.specs.Means.{Checked, IsMeant, LinkCommandRow, first_fault, read_by}
use Rattle.irc_link_reader.specs.Means.{read_row}
use Rattle.irc_link_reader.specs.Means.{wire_row_of, wire_table}
use Rattle.irc_link_reader.specs.Reader.{Reader}
use Rattle.irc_link_reader.specs.Told.{Told, a_deed, first_reason, judged, kept_prefix, server_of}
use Rattle.irc_link_reader.specs.Told.{told_of}
use Rattle.irc_link_reader.specs.Lemmas.SaidSo.{effects_told_of, said_so}

-- ---- the effect of which a line told

effect_back : (server : Option (List ℕ)) (e : Effect)
    → effect_of_told (a_deed (kept_prefix server e)) ≡ e ∷ []
effect_back None e = refl
effect_back (Some server) (effect.ChangeModes by.Home channel changes) = refl
effect_back (Some server) (effect.SetTopic by.Home channel topic) = refl
effect_back (Some server) other = refl

effects_back : (prefix : Option (List ℕ)) (effects : List Effect)
    → flat_map effect_of_told (map (told_of prefix) effects) ≡ effects
effects_back prefix [] = refl
effects_back prefix (e ∷ effects) =
    λ i. effect_back (server_of prefix) e i ++ effects_back prefix effects i

abbrev told_or_nothing : Result (List Told) CloseReason → List Told
told_or_nothing (Ok told) = told
told_or_nothing (Err given) = []

effects_so : (prefix : Option (List ℕ)) (meant : Result (List Effect) WireFault) (told : List Told)
    → Ok told ≡ effects_told_of prefix meant → meant ≡ Ok (flat_map effect_of_told told)
effects_so prefix (Ok effects) told is =
    ap Ok (sym (effects_back prefix effects))
    ∙ ap (λ r. Ok (flat_map effect_of_told (told_or_nothing r))) (sym is)
effects_so prefix (Err given) told is = cc is

-- ---- its fault

-- the reason that is given, or this
abbrev reason_of : CloseReason → Result (List Told) CloseReason → CloseReason
reason_of given (Ok told) = given
reason_of given (Err other) = other

given_so : (message : Parsed) (given other : CloseReason) (meant : Result (List Effect) WireFault)
    → IsMeant message meant (Err (wire_fault other))
    → ◌≡◌ {A = Result (List Told) CloseReason} (Err given) (Err other)
    → IsMeant message meant (Err (wire_fault given))
given_so message given other meant so is =
    subst (λ r. IsMeant message meant (Err (wire_fault (reason_of given r)))) (sym is) so

fault_so : (message : Parsed) (prefix : Option (List ℕ)) (checked : Checked) (given : CloseReason)
    → Err given ≡ first_reason (judged prefix checked)
    → IsMeant message (first_fault checked) (Err (wire_fault given))
fault_so message prefix checked given is =
    tests checked.parameters checked.token checked.direction checked.names is
  where
    tests : (parameters token direction names : Bool)
        → Err given ≡ (if not parameters then Err reason.Parameters
        else (if not token then Err reason.BadToken
        else (if not direction then Err reason.WrongDirection
        else (if not names then Err reason.BadName
        else Ok (map (told_of prefix) checked.effects)))))
        → IsMeant message (if not parameters then Err fault.Parameters
        else (if not token then Err fault.BadToken
        else (if not direction then Err fault.WrongDirection
        else (if not names then Err fault.BadName else Ok checked.effects))))
        (Err (wire_fault given))
    tests false token direction names is =
        given_so message given reason.Parameters (Err fault.Parameters) refl is
    tests true false direction names is =
        given_so message given reason.BadToken (Err fault.BadToken) refl is
    tests true true false names is =
        given_so message given reason.WrongDirection (Err fault.WrongDirection) refl is
    tests true true true false is =
        given_so message given reason.BadName (Err fault.BadName) refl is
    tests true true true true is = cc is

-- ---- a whole line

-- a row that is found is of the command that was looked for
row_is_so : (word : List ℕ) (rows : List LinkCommandRow) (r : LinkCommandRow)
    → find (λ (r : LinkCommandRow). is_command r.command word) rows ≡ Some r
    → is_command r.command word ≡ true
row_is_so word [] r is = cc is
row_is_so word (first ∷ rows) r is =
    by (is_command first.command word) refl is (row_is_so word rows r)
  where
    by : (b : Bool) → is_command first.command word ≡ b
        → (if b then Some first else find (λ (r : LinkCommandRow). is_command r.command word) rows)
        ≡ Some r → (find (λ (r : LinkCommandRow). is_command r.command word) rows ≡ Some r
        → is_command r.command word ≡ true) → is_command r.command word ≡ true
    by true so is later = ap (λ o. is_command (unwrap_or o first).command word) (sym is) ∙ so
    by false so is later = later is

mode_is_so : (command : EffectCommand) (word : List ℕ) → wire_row_of word ≡ Some (row command)
    → takes_memory command ≡ true → is_command (codes "MODE") word ≡ true
mode_is_so command.Mode word is takes = row_is_so word wire_table (row command.Mode) is
mode_is_so other word is takes = cc takes

module _ (reader : Reader) (message : Parsed) (command : EffectCommand)
    (result : Result (Vec Effect) WireFault)
    (is : wire_row_of message.command ≡ Some (row command)) where
  by_row : IsMeant message
      (first_fault (check_of command reader message.prefix message.params)) result
      → IsMeant message (read_by reader message) result
  by_row = subst (λ o. IsMeant message (read_row reader message o) result) (sym is)

-- a line of a command is what it means
pub meant-so : (reader : Reader) (message : Parsed) (command : EffectCommand)
    (told : Result (Option Code) CloseReason) (result : Result (Vec Effect) WireFault)
    → wire_row_of message.command ≡ Some (row command)
    → told_found told
    ≡ first_reason (judged message.prefix (check_of command reader message.prefix message.params))
    → IsGiven told result → IsMeant message (read_by reader message) result
meant-so reader message command told result is tells given =
    by_row reader message command result is (by told result tells given)
  where
    checked : Checked
    checked = check_of command reader message.prefix message.params

    effects_are : (deed : Option Code) → Ok (told_if deed) ≡ first_reason
        (judged message.prefix checked) → first_fault checked ≡ Ok (effects_of deed)
    effects_are deed tells =
        effects_so message.prefix (first_fault checked) (told_if deed)
        (tells ∙ said_so message.prefix checked)

    by : (told : Result (Option Code) CloseReason) (result : Result (Vec Effect) WireFault)
        → told_found told ≡ first_reason (judged message.prefix checked)
        → IsGiven told result → IsMeant message (first_fault checked) result
    by (Ok deed) (Ok effects) tells given = effects_are deed tells ∙ ap Ok (sym given)
    by (Ok deed) (Err fault.Memory) tells given =
        inr (subst IsOk (sym (effects_are deed tells)) refl)
    by (Ok deed) (Err fault.UnknownCommand) tells given = absurd given
    by (Ok deed) (Err fault.Parameters) tells given = absurd given
    by (Ok deed) (Err fault.BadToken) tells given = absurd given
    by (Ok deed) (Err fault.WrongDirection) tells given = absurd given
    by (Ok deed) (Err fault.BadName) tells given = absurd given
    by (Err reason) result tells given =
        subst (IsMeant message (first_fault checked)) (sym given)
        (fault_so message message.prefix checked reason tells)

-- memory runs out where a MODE is read
pub memory-so : (reader : Reader) (message : Parsed) (command : EffectCommand)
    → wire_row_of message.command ≡ Some (row command) → takes_memory command ≡ true
    → IsMeant message (read_by reader message) (Err fault.Memory)
memory-so reader message command is takes = inl (mode_is_so command message.command is takes)
