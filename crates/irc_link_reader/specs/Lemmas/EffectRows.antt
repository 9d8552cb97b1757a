-- Which row the word of a command has in the table of lines that tell of effects.
use Rattle.std.proofs.Common.{◌≡◌, ℕ, true, false, Option, Some, None, List, [], ◌∷◌, map, refl, ap}
use Rattle.std.proofs.Common.{◌∙◌}
use Rattle.std.specs.Char.{to_ascii_lowercase}
use Rattle.std.specs.List.{find}
use Rattle.std.specs.Str.{bytes_eq}
use Rattle.irc_link_words.specs.declared.commands.LinkCommand.TheVariants.{OfEffects, OfServers}
use Rattle.irc_link_words.specs.declared.commands.EffectCommand.{EffectCommand}
use Rattle.irc_link_words.specs.declared.commands.EffectCommand.TheVariants as command
use Rattle.irc_link_words.specs.declared.commands.ServerCommand.{ServerCommand}
use Rattle.irc_link_words.specs.declared.commands.ServerCommand.TheVariants as server
use Rattle.irc_link_words.specs.Commands.{command_of, effect_name, server_name}
use Rattle.irc_link_words.specs.Lemmas.CommandsNamed.{letters_of_command, no_row_of}
use Rattle.irc_link_reader.specs.Loops.Readings.{row}
use Rattle.irc_link_reader.specs.Means.{LinkCommandRow, wire_row_of, wire_table}

-- the row of a word by its letters
abbrev row_of_letters : List ℕ → Option LinkCommandRow
row_of_letters letters =
    find (λ (r : LinkCommandRow). bytes_eq letters (map to_ascii_lowercase r.command)) wire_table

row_of_effect : (command : EffectCommand)
    → row_of_letters (map to_ascii_lowercase (effect_name command)) ≡ Some (row command)
row_of_effect (command.Say true) = refl
row_of_effect (command.Say false) = refl
row_of_effect other = refl

row_of_server : (command : ServerCommand)
    → row_of_letters (map to_ascii_lowercase (server_name command)) ≡ None
row_of_server server.Server = refl
row_of_server other = refl

pub effect_row : (word : List ℕ) (command : EffectCommand)
    → command_of word ≡ Some (OfEffects command) → wire_row_of word ≡ Some (row command)
effect_row word command is =
    ap row_of_letters (letters_of_command word (OfEffects command) is) ∙ row_of_effect command

pub no_effect_row : (word : List ℕ) (command : ServerCommand)
    → command_of word ≡ Some (OfServers command) → wire_row_of word ≡ None
no_effect_row word command is =
    ap row_of_letters (letters_of_command word (OfServers command) is) ∙ row_of_server command

pub no_command_row : (word : List ℕ) → command_of word ≡ None → wire_row_of word ≡ None
no_command_row word is =
    no_row_of (λ (r : LinkCommandRow). r.command) [] wire_table
    (server_name server.Server ∷ server_name server.Squit ∷ server_name server.Kill
    ∷ server_name server.Njoin ∷ server_name server.Pass ∷ []) word refl is

pub ruleset effect_rows = (effect_row, no_effect_row, no_command_row)
