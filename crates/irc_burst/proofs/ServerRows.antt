-- Which row the word of a command has in the table of lines of servers.
use Rattle.std.proofs.Common.{◌≡◌, ℕ, true, false, Option, Some, None, List, [], ◌∷◌, map, refl}
use Rattle.std.proofs.Common.{ap, ◌∙◌}
use Rattle.std.specs.Char.{to_ascii_lowercase}
use Rattle.std.specs.List.{find}
use Rattle.std.specs.Str.{bytes_eq}
use Rattle.irc_link_words.specs.declared.commands.LinkCommand.TheVariants.{OfEffects, OfServers}
use Rattle.irc_link_words.specs.declared.commands.EffectCommand.{EffectCommand}
use Rattle.irc_link_words.specs.declared.commands.EffectCommand.TheVariants as effect
use Rattle.irc_link_words.specs.declared.commands.ServerCommand.{ServerCommand}
use Rattle.irc_link_words.specs.declared.commands.ServerCommand.TheVariants as command
use Rattle.irc_link_words.specs.Commands.{command_of, effect_name, server_name}
use Rattle.irc_link_words.specs.Lemmas.CommandsNamed.{letters_of_command, no_row_of}
use Rattle.irc_burst.specs.DeedsMeant.{BurstRow, burst_row_of, burst_table}
use Rattle.irc_burst.specs.Loops.Commands.{burst_row}

-- the row of a word by its letters
abbrev row_of_letters : List ℕ → Option BurstRow
row_of_letters letters =
    find (λ (r : BurstRow). bytes_eq letters (map to_ascii_lowercase r.command)) burst_table

row_of_server : (command : ServerCommand)
    → row_of_letters (map to_ascii_lowercase (server_name command)) ≡ Some (burst_row command)
row_of_server command.Server = refl
row_of_server other = refl

row_of_effect : (command : EffectCommand)
    → row_of_letters (map to_ascii_lowercase (effect_name command)) ≡ None
row_of_effect (effect.Say true) = refl
row_of_effect (effect.Say false) = refl
row_of_effect other = refl

pub server_row : (word : List ℕ) (command : ServerCommand)
    → command_of word ≡ Some (OfServers command) → burst_row_of word ≡ Some (burst_row command)
server_row word command is =
    ap row_of_letters (letters_of_command word (OfServers command) is) ∙ row_of_server command

pub no_server_row : (word : List ℕ) (command : EffectCommand)
    → command_of word ≡ Some (OfEffects command) → burst_row_of word ≡ None
no_server_row word command is =
    ap row_of_letters (letters_of_command word (OfEffects command) is) ∙ row_of_effect command

pub no_burst_row : (word : List ℕ) → command_of word ≡ None → burst_row_of word ≡ None
no_burst_row word is =
    no_row_of (λ (r : BurstRow). r.command)
    (effect_name effect.Nick ∷ effect_name effect.Quit ∷ effect_name effect.Join
    ∷ effect_name effect.Part ∷ effect_name effect.Kick ∷ effect_name effect.Mode
    ∷ effect_name effect.Topic ∷ effect_name (effect.Say false) ∷ effect_name (effect.Say true)
    ∷ effect_name effect.Invite ∷ [])
    burst_table [] word refl is
