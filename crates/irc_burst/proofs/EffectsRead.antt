-- What is read of a line is what it means.
use Rattle.std.proofs.Common.{◌≡◌, inl, inr, ℕ, true, Option, Some, None, Result, Ok, Err}
use Rattle.std.proofs.Common.{IsOk, List, [], ◌∷◌, ◌++◌, codes, map, refl, subst, sym}
use Rattle.std.proofs.Common.{◌∙◌, ap, append-nil}
use Rattle.std.proofs.lemmas.List.{map-append}
use Rattle.std.specs.Char.{to_ascii_lowercase}
use Rattle.std.specs.declared.alloc.AllocError.{AllocError}
use Rattle.std.specs.Global.{Vec}
use Rattle.std.specs.List.{flat_map}
use Rattle.std.specs.Prelude.{IfOk, OnErr}
use Rattle.std.specs.Str.{bytes_eq}
use Rattle.irc_batch.specs.declared.close_reason.CloseReason.{CloseReason}
use Rattle.irc_batch.specs.declared.close_reason.CloseReason.TheVariants as reason
use Rattle.irc_line.specs.Messages.{Parsed}
use Rattle.irc_room.specs.effect.By.TheVariants as by
use Rattle.irc_room.specs.effect.Effect.{Effect}
use Rattle.irc_room.specs.effect.Effect.TheVariants as effect
use Rattle.irc_room.specs.Room.{Room}
use Rattle.irc_link_words.specs.declared.commands.LinkCommand.TheVariants.{OfEffects, OfServers}
use Rattle.irc_link_words.specs.declared.commands.EffectCommand.{EffectCommand}
use Rattle.irc_link_words.specs.declared.commands.EffectCommand.TheVariants as command
use Rattle.irc_link_words.specs.declared.commands.ServerCommand.{ServerCommand}
use Rattle.irc_link_words.specs.declared.fault.WireFault.{WireFault}
use Rattle.irc_link_words.specs.Commands.{command_of}
use Rattle.irc_link_words.specs.Lemmas.CommandsNamed.{letters_of_command}
use Rattle.irc_link_words.specs.Words.{is_command}
use Rattle.irc_link_reader.specs.declared.arrival.Arrival.{Arrival}
use Rattle.irc_link_reader.specs.declared.deed.Deed.{Deed as Code}
use Rattle.irc_link_reader.specs.Lemmas.EffectRows.{effect_row, no_command_row}
use Rattle.irc_link_reader.specs.Lemmas.SaidSo.{effects_told_of, said_so}
use Rattle.irc_link_reader.specs.Loops.Readings.{check_of, reader, takes_memory}
use Rattle.irc_link_reader.specs.Means.{read_row}
use Rattle.irc_link_reader.specs.Told.{judged, told_of}
use Rattle.irc_burst.specs.DeedsMeant.{Told, a_deed, collided, deeds_meant, effects_told}
use Rattle.irc_burst.specs.DeedsMeant.{first_reason, kept_prefix, read_burst_row, server_of}
use Rattle.irc_burst.specs.Loops.Deeds.{MayWant, MayWantOf, told_of_deeds, collide, collided_if}
use Rattle.irc_burst.specs.Loops.Deeds.{told_of_deed, deeds_read, effect_line_at, meant_at}
use Rattle.irc_burst.specs.Loops.Deeds.{members_found}
use Rattle.irc_burst.specs.Loops.Deeds.{njoin_line_at, told_found, told_if}
use Rattle.irc_burst.specs.declared.njoin_line.MemberWords.{MemberWords}
use Rattle.irc_burst.specs.Loops.Commands.{comes_to}
use Rattle.irc_burst.proofs.ServerRows.{no_burst_row, no_server_row, server_row}

-- ---- what an effect comes to, told in the name of whose line it is

module _ (own : List ℕ) (room : Room) where
  collided_so : (server : Option (List ℕ)) (e : Effect)
      → collide own room (a_deed (kept_prefix server e)) ≡ map a_deed (collided own room server e)
  collided_so None (effect.AddUser user) = refl
  collided_so None other = refl
  collided_so (Some server) (effect.ChangeModes by.Home channel changes) = refl
  collided_so (Some server) (effect.SetTopic by.Home channel topic) = refl
  collided_so (Some server) other = refl

  all_collided_so : (prefix : Option (List ℕ)) (effects : List Effect)
      → flat_map (collide own room) (map (told_of prefix) effects)
      ≡ map a_deed (flat_map (collided own room (server_of prefix)) effects)
  all_collided_so prefix [] = refl
  all_collided_so prefix (e ∷ effects) =
      (λ i. collided_so (server_of prefix) e i ++ all_collided_so prefix effects i)
      ∙ sym (map-append a_deed (collided own room (server_of prefix) e)
      (flat_map (collided own room (server_of prefix)) effects))

  -- what is told comes to this, or closes the link
  abbrev all_collide : Result (List Told) CloseReason → Result (List Told) CloseReason
  all_collide (Ok told) = Ok (flat_map (collide own room) told)
  all_collide (Err given) = Err given

  effects_collided : (prefix : Option (List ℕ)) (meant : Result (List Effect) WireFault)
      → all_collide (effects_told_of prefix meant) ≡ effects_told own room prefix meant
  effects_collided prefix (Ok effects) = ap Ok (all_collided_so prefix effects)
  effects_collided prefix (Err given) = refl

module _ (at : Arrival) (message : Parsed) (command : EffectCommand) where
  -- what is told of a line of effects is what it means
  line_so : (told : Result (Option Code) CloseReason)
      → told_found told
      ≡ first_reason (judged message.prefix
      (check_of command (reader at) message.prefix message.params))
      → all_collide at.routes.now.name at.room.now.room (told_found told)
      ≡ effect_line_at command at message
  line_so told tells =
      let own = at.routes.now.name in
      let room = at.room.now.room in
      let prefix = message.prefix in
      let checked = check_of command (reader at) prefix message.params in
      ap (all_collide own room) (tells ∙ said_so prefix checked)
      ∙ effects_collided own room prefix _

  alone : (deed : Option Code)
      → collided_if at deed
      ≡ flat_map (collide at.routes.now.name at.room.now.room) (told_if deed)
  alone None = refl
  alone (Some deed) =
      sym (append-nil (collide at.routes.now.name at.room.now.room (told_of_deed deed)))

  pub effect-ok : (deed : Option Code) (deeds : Vec Code)
      → told_found (Ok deed)
      ≡ first_reason (judged message.prefix
      (check_of command (reader at) message.prefix message.params))
      → told_of_deeds deeds.items ≡ collided_if at deed
      → deeds_read (Ok deeds) ≡ effect_line_at command at message
  effect-ok deed deeds tells come = ap Ok (come ∙ alone deed) ∙ line_so (Ok deed) tells

  pub effect-err : (given : CloseReason)
      → told_found (Err given)
      ≡ first_reason (judged message.prefix
      (check_of command (reader at) message.prefix message.params))
      → deeds_read (Err given) ≡ effect_line_at command at message
  effect-err given tells = line_so (Err given) tells

  pub effect-memory : (deed : Option Code)
      → told_found (Ok deed)
      ≡ first_reason (judged message.prefix
      (check_of command (reader at) message.prefix message.params))
      → MayWantOf command (effect_line_at command at message)
  effect-memory deed tells = inr (subst IsOk (line_so (Ok deed) tells) refl)

-- ---- a whole line

module _ (at : Arrival) (message : Parsed) where
  pub effects_meant : (command : EffectCommand)
      → command_of message.command ≡ Some (OfEffects command)
      → meant_at at message ≡ effect_line_at command at message
  unfolding deeds_meant
  effects_meant command is =
      ap (read_burst_row at.room.now.room at.routes.now at.link message)
      (no_server_row message.command command is)
      ∙ ap (λ o. effects_told at.routes.now.name at.room.now.room message.prefix
      (read_row (reader at) message o)) (effect_row message.command command is)

  pub servers_meant : (command : ServerCommand)
      → command_of message.command ≡ Some (OfServers command)
      → meant_at at message ≡ comes_to command at message.prefix message.params
  unfolding deeds_meant
  servers_meant command is =
      ap (read_burst_row at.room.now.room at.routes.now at.link message)
      (server_row message.command command is)

  pub unknown-meant : command_of message.command ≡ None
      → Err reason.UnknownCommand ≡ meant_at at message
  unfolding deeds_meant
  unknown-meant is =
      sym (ap (read_burst_row at.room.now.room at.routes.now at.link message)
      (no_burst_row message.command is)
      ∙ ap (λ o. effects_told at.routes.now.name at.room.now.room message.prefix
      (read_row (reader at) message o)) (no_command_row message.command is))

-- a command whose reading takes memory is MODE
mode_word : (word : List ℕ) (command : EffectCommand)
    → command_of word ≡ Some (OfEffects command) → takes_memory command ≡ true
    → is_command (codes "MODE") word ≡ true
mode_word word command.Mode is takes =
    ap (λ letters. bytes_eq letters (map to_ascii_lowercase (codes "MODE")))
    (letters_of_command word (OfEffects command.Mode) is)
mode_word word other is takes = cc takes

pub may_want : (message : Parsed) (command : EffectCommand) (meant : Result (List Told) CloseReason)
    → command_of message.command ≡ Some (OfEffects command) → MayWantOf command meant
    → MayWant message meant
may_want message command meant is (inl takes) = inl (mode_word message.command command is takes)
may_want message command meant is (inr some) = inr some

-- what is read of a line of a command, and where memory ran out, by what the line means
abbrev Read : Type 0
Read = Result (Result (Vec Code) CloseReason) AllocError

pub effects-read : (at : Arrival) (message : Parsed) (command : EffectCommand) (read : Read)
    → command_of message.command ≡ Some (OfEffects command)
    → IfOk read (λ given. deeds_read given ≡ effect_line_at command at message)
    → IfOk read (λ given. deeds_read given ≡ meant_at at message)
effects-read at message command (Ok given) is so = so ∙ sym (effects_meant at message command is)
effects-read at message command (Err want) is so = tt

pub effects-want : (at : Arrival) (message : Parsed) (command : EffectCommand) (read : Read)
    → command_of message.command ≡ Some (OfEffects command)
    → OnErr read (MayWantOf command (effect_line_at command at message))
    → OnErr read (MayWant message (meant_at at message))
effects-want at message command (Ok given) is so = tt
effects-want at message command (Err want) is so =
    subst (MayWant message) (sym (effects_meant at message command is))
    (may_want message command _ is so)

pub servers-read : (at : Arrival) (message : Parsed) (command : ServerCommand) (read : Read)
    → command_of message.command ≡ Some (OfServers command)
    → IfOk read (λ given. deeds_read given ≡ comes_to command at message.prefix message.params)
    → IfOk read (λ given. deeds_read given ≡ meant_at at message)
servers-read at message command (Ok given) is so = so ∙ sym (servers_meant at message command is)
servers-read at message command (Err want) is so = tt

pub servers-want : (at : Arrival) (message : Parsed) (command : ServerCommand) (read : Read)
    → command_of message.command ≡ Some (OfServers command)
    → OnErr read (IsOk (comes_to command at message.prefix message.params))
    → OnErr read (MayWant message (meant_at at message))
servers-want at message command (Ok given) is so = tt
servers-want at message command (Err want) is so =
    inr (subst IsOk (sym (servers_meant at message command is)) so)

-- where memory ran out
pub wants : {A : Type 0} {P : Type 0} (result : Result A AllocError) → P → OnErr result P
wants (Ok given) so = tt
wants (Err want) so = so

pub server-want : (at : Arrival) (command : ServerCommand) (prefix : Option (List ℕ))
    (words : List (List ℕ)) (deed : Option Code)
    → told_found (Ok deed) ≡ comes_to command at prefix words
    → IsOk (comes_to command at prefix words)
server-want at command prefix words deed tells = subst IsOk tells refl

pub njoin-want : (at : Arrival) (server : List ℕ) (params : List (List ℕ)) (words : MemberWords)
    → members_found (reader at) at.room.now.room (Ok words)
    ≡ first_reason (njoin_line_at at server params)
    → IsOk (first_reason (njoin_line_at at server params))
njoin-want at server params words found = subst IsOk found refl

pub ruleset whole_lines = (unknown-meant)
