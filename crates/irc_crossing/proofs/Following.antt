-- Nicknames, by the first change of a log; and two who take one.
use Rattle.std.proofs.Common.{◌≡◌, ℕ, Bool, true, false, ◌||◌, Option, Some, None, List, ◌∷◌, refl}
use Rattle.std.proofs.Common.{sym}
use Rattle.std.proofs.Common.{◌∙◌, ap, if◌then◌else◌, unwrap_or}
use Rattle.std.specs.Option.{option_and_then, option_map_or}
use Rattle.std.proofs.lemmas.Bool.{or_parts}
use Rattle.irc_line.specs.Messages.{Parsed}
use Rattle.irc_names.specs.Fold.{same}
use Rattle.irc_names.specs.FoldLaws.{same-tells}
use Rattle.irc_names.specs.Names.{is_nick}
use Rattle.irc_crossing.specs.declared.change.Change.{Change}
use Rattle.irc_crossing.specs.declared.change.Change.TheVariants.{Come, Rename, Go, Out, Join, Set}
use Rattle.irc_crossing.specs.declared.hearing.Given.TheVariants.{AsItCame, LeftOut}
use Rattle.irc_crossing.specs.declared.log.Entry.{Entry}
use Rattle.irc_crossing.specs.declared.modes.ChannelModes.{ChannelModes}
use Rattle.irc_crossing.specs.Changes.{are_met, behind, both_go, crossed}
use Rattle.irc_crossing.specs.Changes.{taken_by}
use Rattle.irc_crossing.specs.Hearing.{doer_now, given_by, given_from, modes_by, nick_given}
use Rattle.irc_crossing.specs.Hearing.{other_given, read_given, set_if, word_now, words_left}
use Rattle.irc_crossing.specs.Letters.{letters_left}
use Rattle.irc_crossing.specs.Laws.{ComersAreOthers, NamesAreFollowed, TakersAreOthers}
use Rattle.irc_crossing.specs.Laws.{TwoToOneNameGo, WhoIsGoneIsLeftOut, put_out_in, taker}
use Rattle.irc_crossing.specs.Lines.{change_of, is_kick_line, is_part_line, is_topic_line}
use Rattle.irc_crossing.specs.Lines.{modes_in, word_at}
use Rattle.irc_crossing.specs.Logs.{means, means_in, through}

same_self : (nick : List ℕ) → same nick nick ≡ true
same_self nick = (same-tells nick nick).1 refl

-- ---- whom a nickname means

pub names_are_followed : NamesAreFollowed
names_are_followed piece old new log other =
    ap (λ b. option_and_then (means log) (if b then Some old
    else (if same old old then Some new else (if same new old then None else Some old)))) other
    ∙ ap (λ b. option_and_then (means log)
    (if b then Some new else (if same new old then None else Some old))) (same_self old)

pub comers_are_others : ComersAreOthers
comers_are_others piece nick log =
    ap (λ b. option_and_then (means log) (if b then None else Some nick)) (same_self nick)

pub takers_are_others : TakersAreOthers
takers_are_others piece old new log other =
    ap (λ b. option_and_then (means log) (if b then Some new
    else (if b then Some new else (if same new new then None else Some new)))) other
    ∙ ap (λ b. option_and_then (means log) (if b then None else Some new)) (same_self new)

-- ---- who is gone

module _ (piece : ℕ) (nick : List ℕ) (log : List Entry) where
  abbrev gone_log : List Entry
  gone_log = put_out_in piece (Go nick None) ∷ log

  means_none : means gone_log nick ≡ None
  means_none = ap (λ b. option_and_then (means log) (if b || false then None else Some nick))
      (same_self nick)

  means_in_none : (channel : List ℕ) → means_in gone_log channel nick ≡ None
  means_in_none channel =
      ap (λ b. option_and_then (means_in log channel) (if b || false then None else Some nick))
      (same_self nick)

  module _ (is : is_nick nick ≡ true) where
    no_word : (now : List ℕ → Option (List ℕ)) → now nick ≡ None → word_now now nick ≡ None
    no_word now none = ap (λ b. if b then now nick else Some nick) is ∙ none

    no_doer : (message : Parsed) → doer_now gone_log message nick ≡ None
    no_doer message = by (is_part_line message)
      where
        by : (b : Bool)
            → (if b then word_now (means_in gone_log (word_at 0 message)) nick
            else word_now (means gone_log) nick) ≡ None
        by true =
            no_word (means_in gone_log (word_at 0 message)) (means_in_none (word_at 0 message))
        by false = no_word (means gone_log) means_none

pub who_is_gone_is_left_out : WhoIsGoneIsLeftOut
who_is_gone_is_left_out piece nick log line message read from is other plain peer is_held =
    let gone = gone_log piece nick log in
    let rest = (or_parts (is_kick_line message) _ plain).1 in
    ap (read_given gone peer is_held) read
    ∙ ap (λ b. option_map_or (λ (modes : ChannelModes). modes_by message peer modes.channel
    (letters_left modes.channel modes.changes gone) message.prefix)
    (if b then modes_in message.params else None) (other_given gone peer is_held message))
    (or_parts (is_topic_line message) _ rest).1
    ∙ ap (λ b. if b then option_map_or
    (λ (change : Change). nick_given is_held message (through (Some change) gone))
    (change_of message)
    AsItCame else given_by gone peer is_held message message.prefix) other
    ∙ ap (given_by gone peer is_held message) from
    ∙ ap (given_from gone peer is_held message) (no_doer piece nick log is message)
    ∙ ap (λ b. if b then set_if message peer (words_left gone message) else LeftOut)
    ((λ i. (or_parts (is_kick_line message) _ plain).0 i
    || (or_parts (is_topic_line message) _ rest).0 i))

-- ---- two who take one nickname

two_go : (theirs ours : Change) (their_new our_new : List ℕ) → taken_by theirs ≡ Some their_new
    → taken_by ours ≡ Some our_new → same their_new our_new ≡ true
    → crossed theirs ours ≡ Some (both_go theirs)
two_go theirs ours their_new our_new their_is our_is met =
    ap (λ b. if b then Some (both_go theirs) else behind theirs ours)
    ((λ i. are_met (their_is i) (our_is i)) ∙ met)

-- a change that gives a nickname takes both with it
goes : (theirs : Change) (new : List ℕ) → taken_by theirs ≡ Some new
    → both_go theirs ≡ Go new (taker theirs)
goes (Come nick) new is = ap (λ it. Go (unwrap_or it nick) None) is
goes (Rename nick other) new is = by (same nick other) refl
  where
    by : (b : Bool) → same nick other ≡ b → Go other (Some nick) ≡ Go new (Some nick)
    by true alike = cc
    by false apart = ap (λ it. Go (unwrap_or it other) (Some nick))
        (sym (ap (λ b. if b then None else Some other) apart) ∙ is)
goes (Go nick other) new is = cc
goes (Out nick channel) new is = cc
goes (Join channel begins) new is = cc
goes (Set setting) new is = cc

same_turned : (one other : List ℕ) → same one other ≡ true → same other one ≡ true
same_turned one other is = (same-tells other one).1 (sym ((same-tells one other).0 is))

pub two_to_one_name_go : TwoToOneNameGo
two_to_one_name_go theirs ours their_new our_new their_is our_is met = record {
  here = two_go theirs ours their_new our_new their_is our_is met
      ∙ ap Some (goes theirs their_new their_is);
  there = two_go ours theirs our_new their_new our_is their_is
      (same_turned their_new our_new met) ∙ ap Some (goes ours our_new our_is);
}
