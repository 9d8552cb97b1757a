-- Who is a member of one channel after each change of it.
use Rattle.std.proofs.Common.{◌≡◌, ℕ, Bool, true, false, cond, not, ◌&&◌, ◌||◌, if◌then◌else◌}
use Rattle.std.proofs.Common.{Option, Some, None, List, [], ◌∷◌, refl, sym, ◌∙◌, ap, is_some}
use Rattle.std.proofs.Common.{unwrap_or}
use Rattle.std.specs.Option.{option_and_then, option_map_or}
use Rattle.std.specs.FinMap.{keys, get-empty}
use Rattle.std.proofs.Math.Bool.{and-false}
use Rattle.irc_names.specs.Tables.{Table, fold_cmp, row, alter, moved}
use Rattle.irc_names.specs.TableLaws.{same_fold, one_fold, row-alter, row-moved, row-moved_none}
use Rattle.irc_channels.specs.declared.channel.Channel.{Channel}
use Rattle.irc_channels.specs.declared.flags.Flags.{Flags}
use Rattle.irc_channels.specs.Channels.{has_member, new_channel, joined, left, while_members}
use Rattle.irc_channels.specs.Channels.{changed, all_changed}
use Rattle.irc_modes.specs.declared.modes.ModeChange.{ModeChange}
use Rattle.irc_modes.specs.Modes.{is_nil}
use Rattle.irc_effects.specs.Lemmas.Rows.{some_key}
use Rattle.irc_effects.specs.Lemmas.ModesKept.{letter_folk}

-- whether a user is a member of a channel, if there is one
abbrev pub is_member_of : List ℕ → Option Channel → Bool
is_member_of nick o = option_map_or (has_member nick) o false

member_joined : (nick : List ℕ) (op : Bool) (channel : Channel) (n : List ℕ)
    → has_member n (joined nick op channel) ≡ (same_fold n nick || has_member n channel)
member_joined nick op channel n = by_test (has_member nick channel) refl
  where
    put_there : (b : Bool) (flags : Flags) (o : Option Flags)
        → is_some (cond b (Some flags) o) ≡ (b || is_some o)
    put_there true flags o = refl
    put_there false flags o = refl

    by_fold : (b : Bool) → same_fold n nick ≡ b → has_member nick channel ≡ true
        → has_member n channel ≡ (b || has_member n channel)
    by_fold true one there = ap (λ q. has_member q channel) (one_fold n nick one) ∙ there
    by_fold false two there = refl

    by_test : (b : Bool) → has_member nick channel ≡ b → has_member n (if b then channel
        else record channel {
          members = alter nick (λ _. Some (record { op = op; voice = false }))
              channel.members;
          invited = alter nick (λ _. None) channel.invited;
        })
        ≡ (same_fold n nick || has_member n channel)
    by_test true there = by_fold (same_fold n nick) refl there
    by_test false out =
        ap is_some
        (row-alter nick (λ _. Some (record { op = op; voice = false })) channel.members n)
        ∙ put_there (same_fold n nick) (record { op = op; voice = false }) (row channel.members n)

-- also where the channel is made
pub joined_said : (nick name : List ℕ) (op : Bool) (o : Option Channel) (n : List ℕ)
    → is_member_of n (Some (joined nick op (unwrap_or o (new_channel name))))
    ≡ (same_fold n nick || is_member_of n o)
joined_said nick name op (Some channel) n = member_joined nick op channel n
joined_said nick name op None n =
    member_joined nick op (new_channel name) n
    ∙ ap (λ b. same_fold n nick || is_some b) (get-empty {X = Flags} fold_cmp n)

-- a channel that ends has no member
pub member_while : (channel : Channel) (n : List ℕ)
    → is_member_of n (while_members channel) ≡ has_member n channel
member_while channel n = by_test (is_nil (keys channel.members)) refl
  where
    out : is_nil (keys channel.members) ≡ true → (b : Bool) → has_member n channel ≡ b → false ≡ b
    out nil true there = sym (some_key channel.members n there) ∙ nil
    out nil false there = refl

    by_test : (b : Bool) → is_nil (keys channel.members) ≡ b
        → is_member_of n (if b then None else Some channel) ≡ has_member n channel
    by_test true nil = out nil (has_member n channel) refl
    by_test false some = refl

pub taken_out : {X : Type 0} (nick : List ℕ) (table : Table X) (n : List ℕ) → is_some
    (row (alter nick (λ _. None) table) n) ≡ (not (same_fold n nick) && is_some (row table n))
taken_out {X} nick table n =
    ap is_some (row-alter nick (λ _. None) table n) ∙ by_test (same_fold n nick)
  where
    by_test : (b : Bool) → is_some (cond b None (row table n)) ≡ (not b && is_some (row table n))
    by_test true = refl
    by_test false = refl

member_left : (nick : List ℕ) (channel : Channel) (n : List ℕ)
    → is_member_of n (left nick channel) ≡ (not (same_fold n nick) && has_member n channel)
member_left nick channel n = by_test (has_member nick channel) refl
  where
    by_fold : (b : Bool) → same_fold n nick ≡ b → has_member nick channel ≡ false
        → has_member n channel ≡ (not b && has_member n channel)
    by_fold true one out = ap (λ q. has_member q channel) (one_fold n nick one) ∙ out
    by_fold false two out = refl

    by_test : (b : Bool) → has_member nick channel ≡ b → is_member_of n (if b
        then while_members (record channel { members = alter nick (λ _. None) channel.members })
        else Some channel) ≡ (not (same_fold n nick) && has_member n channel)
    by_test true there =
        member_while (record channel { members = alter nick (λ _. None) channel.members }) n
        ∙ taken_out nick channel.members n
    by_test false out = by_fold (same_fold n nick) refl out

pub left_said : (nick : List ℕ) (o : Option Channel) (n : List ℕ) → is_member_of n
    (option_and_then (left nick) o) ≡ (not (same_fold n nick) && is_member_of n o)
left_said nick (Some channel) n = member_left nick channel n
left_said nick None n = sym (and-false (not (same_fold n nick)))

pub member_changed_modes : (changes : List ModeChange) (n : List ℕ) (channel : Channel)
    → has_member n (all_changed changes channel) ≡ has_member n channel
member_changed_modes [] n channel = refl
member_changed_modes (c ∷ changes) n channel =
    member_changed_modes changes n (changed c channel)
    ∙ (letter_folk c.plus c.letter c.word channel).members n

-- a row that stands under another name, where there was none
pub moved_row : {X : Type 0} (nick new : List ℕ) (table : Table X) (n : List ℕ)
    → (is_some (row table new) ≡ true → new ≡ nick)
    → is_some (row (moved nick new (λ x. x) table) n) ≡ cond (same_fold n new)
    (is_some (row table nick)) (cond (same_fold n nick) false (is_some (row table n)))
moved_row {X} nick new table n free = by_row (row table nick) refl
  where
    by_folds : (x : X) (a b : Bool) → row table nick ≡ Some x
        → is_some (cond a (Some x) (cond b None (row table n))) ≡ cond a (is_some (row table nick))
        (cond b false (is_some (row table n)))
    by_folds x true b here = sym (ap is_some here)
    by_folds x false true here = refl
    by_folds x false false here = refl

    not_new : row table nick ≡ None → (b : Bool) → is_some (row table new) ≡ b → b ≡ false
    not_new none true there =
        sym there ∙ ap (λ q. is_some (row table q)) (free there) ∙ ap is_some none
    not_new none false there = refl

    by_none : row table nick ≡ None → (a b : Bool) → same_fold n new ≡ a
        → same_fold n nick ≡ b → is_some (row table n) ≡ cond a (is_some (row table nick))
        (cond b false (is_some (row table n)))
    by_none none true b one other = ap (λ q. is_some (row table q)) (one_fold n new one)
        ∙ not_new none (is_some (row table new)) refl ∙ sym (ap is_some none)
    by_none none false true one other = ap (λ q. is_some (row table q)) (one_fold n nick other)
        ∙ ap is_some none
    by_none none false false one other = refl

    by_row : (o : Option X) → row table nick ≡ o
        → is_some (row (moved nick new (λ x. x) table) n) ≡ cond (same_fold n new)
        (is_some (row table nick)) (cond (same_fold n nick) false (is_some (row table n)))
    by_row (Some x) here = ap is_some (row-moved nick new (λ x. x) table x here n)
        ∙ by_folds x (same_fold n new) (same_fold n nick) here
    by_row None none = ap is_some (row-moved_none nick new (λ x. x) table none n)
        ∙ by_none none (same_fold n new) (same_fold n nick) refl refl
