-- A text that is said is so short that its line for clients is not cut.
use Rattle.std.proofs.Common.{◌≡◌, true, lit≤, ℕ, ◌+◌, ◌-◌, ◌≤◌, Option, Some, List, [], ◌∷◌, ◌++◌}
use Rattle.std.proofs.Common.{length, take, codes, sym, subst, arith}
use Rattle.std.proofs.lemmas.List.{length-append, length-take}
use Rattle.std.specs.Option.{IfSome}
use Rattle.irc_line.specs.Bytes.{colon, space, exclamation_mark, at_sign}
use Rattle.irc_line.specs.Carried.{IsCarried}
use Rattle.irc_line.specs.Limits.{max_line}
use Rattle.irc_line.specs.Messages.{Written, full, full_name, joined_text}
use Rattle.irc_names.specs.Fold.{key}
use Rattle.irc_names.specs.Limits.{max_nick}
use Rattle.irc_names.specs.Names.{is_nick, is_channel}
use Rattle.irc_names.specs.Tables.{row}
use Rattle.irc_names.specs.Lemmas.RuleFacts.{nick-fits, channel-fits, host-fits}
use Rattle.irc_users.specs.declared.user.User.{User}
use Rattle.irc_room.specs.effect.Target.{Target}
use Rattle.irc_room.specs.Limits.{IsUserWithin}
use Rattle.irc_room.specs.Room.{Room}
use Rattle.irc_room.specs.Sendable.{target_word, said_parts}
use Rattle.irc_acts.specs.CarriedWords.{front_carried}
use Rattle.irc_acts.specs.Sendable.{IsShortText}
use Rattle.irc_commands.specs.declared.say.Verb.{Verb}
use Rattle.irc_commands.specs.declared.say.Verb.TheVariants as verb
use Rattle.irc_commands.specs.Say.{is_notice, said_text}

abbrev parts_of : List ℕ → List ℕ → List ℕ → List ℕ → List ℕ → List ℕ → Written
parts_of nick user host command to text =
    record { sender = full nick user host; command = command; middle = to ∷ []; last = Some text }

line_length : (nick user host command to text : List ℕ)
    → length (joined_text (parts_of nick user host command to text))
    ≡ (length nick + length user + length host + length command + length to) + (7 + length text)
line_length nick user host command to text =
    let mark = exclamation_mark ∷ [] in
    let at = at_sign ∷ [] in
    let name = full_name nick user host in
    let prefix = (colon ∷ name) ++ (space ∷ []) in
    let middle = (space ∷ to) ++ [] in
    let a = length-append nick mark in
    let b = length-append (nick ++ mark) user in
    let c = length-append (nick ++ mark ++ user) at in
    let d = length-append (nick ++ mark ++ user ++ at) host in
    let e = length-append (colon ∷ name) (space ∷ []) in
    let f = length-append prefix command in
    let g = length-append (space ∷ to) [] in
    let h = length-append (prefix ++ command) middle in
    let i = length-append (prefix ++ command ++ middle) (space ∷ colon ∷ text) in
    omega (arith, a, b, c, d, e, f, g, h, i)

-- what is left of a text that is cut, behind so many bytes
left_fits : (front : ℕ) (words : List ℕ) → front ≤ max_line
    → front + length (take (max_line - front) words) ≤ max_line
left_fits front words fits =
    let taken = length-take (max_line - front) words in omega (arith, taken, fits)

cut_to_fit : (nick user host command to words : List ℕ) → length nick ≤ max_nick
    → length user ≤ 10 → length host ≤ 63 → length command ≤ 7 → length to ≤ 50
    → length (joined_text (parts_of nick user host command to
    (take (max_line - length (joined_text (parts_of nick user host command to []))) words)))
    ≤ max_line
cut_to_fit nick user host command to words nick_fits user_fits host_fits command_fits to_fits =
    let empty = length (joined_text (parts_of nick user host command to [])) in
    let text = take (max_line - empty) words in
    let without = line_length nick user host command to [] in
    let cut = line_length nick user host command to text in
    let short : empty ≤ max_line =
    omega (arith, without, nick_fits, user_fits, host_fits, command_fits, to_fits) in
    let left = left_fits empty words short in
    omega (arith, without, cut, left)

said_fits : (me : User) → IsUserWithin me → (which : Verb) (to : Target) (words : List ℕ)
    → length (target_word to) ≤ 50 → length (joined_text
    (said_parts me (is_notice which) to (said_text me which (target_word to) words))) ≤ max_line
said_fits me within verb.Privmsg to words fits =
    cut_to_fit me.nick me.user me.host (codes "PRIVMSG") (target_word to) words
    (nick-fits me.nick within.nick) within.name.fits (host-fits me.host within.host)
    (lit≤ tt) fits
said_fits me within verb.Notice to words fits =
    cut_to_fit me.nick me.user me.host (codes "NOTICE") (target_word to) words
    (nick-fits me.nick within.nick) within.name.fits (host-fits me.host within.host)
    (lit≤ tt) fits

pub nick_is_short : (bytes : List ℕ) → is_nick bytes ≡ true → length bytes ≤ 50
nick_is_short bytes is = let fits : length bytes ≤ max_nick = nick-fits bytes is in
    omega (arith, fits)

pub channel_is_short : (bytes : List ℕ) → is_channel bytes ≡ true → length bytes ≤ 50
channel_is_short = channel-fits

pub said_is_short : (room : Room) (me : User) → row room.users (key me.nick) ≡ Some me
    → IsUserWithin me → (which : Verb) (to : Target) (words : List ℕ)
    → length (target_word to) ≤ 50 → IsCarried words
    → IsShortText room me.nick (is_notice which) to (said_text me which (target_word to) words)
said_is_short room me mine within which to words fits carried = record {
  text_carried = front_carried _ words carried;
  line_fits =
      subst (λ (found : Option User). IfSome found (λ (user : User). length (joined_text
      (said_parts user (is_notice which) to (said_text me which (target_word to) words)))
      ≤ max_line))
      (sym mine) (said_fits me within which to words fits);
}
