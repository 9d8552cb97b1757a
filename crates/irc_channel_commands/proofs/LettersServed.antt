-- What the letters that are left come to, once one more is served.
use Rattle.std.proofs.Common.{◌≡◌, ℕ, ◌+◌, ◌<◌, Bool, true, false, ◌||◌, List, ◌∷◌, ◌++◌, length}
use Rattle.std.proofs.Common.{drop, get_or, refl, sym, ◌∙◌, ap, append_assoc}
use Rattle.std.proofs.lemmas.List.{drop_more}
use Rattle.irc_names.specs.Tables.{Table}
use Rattle.irc_users.specs.declared.user.User.{User}
use Rattle.irc_channels.specs.declared.channel.Channel.{Channel}
use Rattle.irc_modes.specs.declared.modes.ModeChange.{ModeChange}
use Rattle.irc_modes.specs.declared.mode_words.ModeItem.{ModeItem}
use Rattle.irc_channels.specs.Channels.{all_changed}
use Rattle.irc_modes.specs.ModeViews.{all_asked, asked}
use Rattle.irc_modes.specs.ModeWords.{Asked, change, list, no_word, unknown}
use Rattle.irc_acts.specs.declared.act.Act.{Act}
use Rattle.irc_channel_commands.specs.ChannelMode.{one_served, served}
use Rattle.irc_channel_commands.specs.Loops.Denied.{is_change, denied_one, denied_left}
use Rattle.irc_channel_commands.proofs.ChangesFollowed.{all_changed-append}

-- the letters from one on
pub next_asked : (items : List ModeItem) (i : ℕ) (d : ModeItem) → i < length items
    → all_asked (drop i items) ≡ asked (get_or items i d) ∷ all_asked (drop (i + 1) items)
next_asked items i d within = ap all_asked (drop_more items i d within)

-- the replies and the changes so far, and those of the letters that are left, are those of all
-- letters
pub record IsServed (users : Table User) (start : Channel) (left : List Asked)
    (replies : List Act) (changes : List ModeChange) (all_replies : List Act)
    (all_changes : List ModeChange) : Type 0 where
  pub replying : replies ++ (served users start (all_changed changes start) left).replies
      ≡ all_replies
  pub changing : changes ++ (served users start (all_changed changes start) left).changes
      ≡ all_changes

pub served_more : (users : Table User) (start : Channel) (items : List Asked) (item : Asked)
    (rest : List Asked) (replies more : List Act) (changes made : List ModeChange)
    (all_replies : List Act) (all_changes : List ModeChange)
    → items ≡ item ∷ rest
    → more ≡ replies ++ (one_served users start (all_changed changes start) item).replies
    → made ≡ changes ++ (one_served users start (all_changed changes start) item).changes
    → IsServed users start items replies changes all_replies all_changes
    → IsServed users start rest more made all_replies all_changes
served_more users start items item rest replies more changes made all_replies all_changes items_are
    more_is made_is so =
    let now = all_changed changes start in
    let first = one_served users start now item in
    let then = λ (c : Channel). served users start c rest in
    let behind =
    ap (λ cs. all_changed cs start) made_is ∙ all_changed-append changes first.changes start in
    record {
      replying =
          ap (λ rs. rs ++ (then (all_changed made start)).replies) more_is
          ∙ ap (λ (c : Channel). (replies ++ first.replies) ++ (then c).replies) behind
          ∙ append_assoc replies first.replies (then (all_changed first.changes now)).replies
          ∙ ap (λ left. replies ++ (served users start now left).replies) (sym items_are)
          ∙ so.replying;
      changing =
          ap (λ cs. cs ++ (then (all_changed made start)).changes) made_is
          ∙ ap (λ (c : Channel). (changes ++ first.changes) ++ (then c).changes) behind
          ∙ append_assoc changes first.changes (then (all_changed first.changes now)).changes
          ∙ ap (λ left. changes ++ (served users start now left).changes) (sym items_are)
          ∙ so.changing;
    }

-- a letter of one who is no operator
left_after : (refused : Bool) (start : Channel) (item : Asked) (rest : List Asked)
    → denied_left refused start (item ∷ rest) ≡ denied_one refused start item
    ++ denied_left (refused || is_change item) start rest
left_after true start (change plus which word) rest = refl
left_after true start list rest = refl
left_after true start no_word rest = refl
left_after true start (unknown byte) rest = refl
left_after false start (change plus which word) rest = refl
left_after false start list rest = refl
left_after false start no_word rest = refl
left_after false start (unknown byte) rest = refl

pub denied_more : (start : Channel) (items : List Asked) (item : Asked) (rest : List Asked)
    (refused next : Bool) (replies more all : List Act) → items ≡ item ∷ rest
    → next ≡ (refused || is_change item) → more ≡ replies ++ denied_one refused start item
    → replies ++ denied_left refused start items ≡ all → more ++ denied_left next start rest ≡ all
denied_more start items item rest refused next replies more all items_are next_is more_is so =
    ap (λ rs. rs ++ denied_left next start rest) more_is
    ∙ ap (λ b. (replies ++ denied_one refused start item) ++ denied_left b start rest) next_is
    ∙ append_assoc replies (denied_one refused start item)
    (denied_left (refused || is_change item) start rest)
    ∙ ap (λ left. replies ++ left) (sym (left_after refused start item rest))
    ∙ ap (λ left. replies ++ denied_left refused start left) (sym items_are)
    ∙ so
