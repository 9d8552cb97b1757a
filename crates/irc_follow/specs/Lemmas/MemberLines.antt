-- The words of an NJOIN are read as the members that they were written of; and who becomes a member
-- in one room does so in another that is alike.
use Rattle.std.proofs.Common.{◌≡◌, ℕ, Bool, true, false, not, ◌&&◌, ◌||◌, List, [], ◌∷◌, ◌++◌, map}
use Rattle.std.proofs.Common.{nat_eq, refl, ◌∙◌, ap, subst, append-nil}
use Rattle.std.proofs.Common.{if◌then◌else◌}
use Rattle.std.proofs.lemmas.Bool.{and_from, or_from}
use Rattle.std.proofs.lemmas.List.Folds.{list_any-append}
use Rattle.std.proofs.lemmas.List.Splits.{slice_split-cons_no, slice_split-cons_yes}
use Rattle.std.specs.Char.{is_ascii_alphabetic}
use Rattle.std.specs.Cmp.{first_so, second_so}
use Rattle.std.specs.List.{flat_map, list_all, onto_first, slice_split, AllByRecursion}
use Rattle.irc_names.specs.Lemmas.PlainFacts.{nat_eq-unlike}
use Rattle.irc_line.specs.Bytes.{has_nul, is_nul}
use Rattle.irc_names.specs.Fold.{key}
use Rattle.irc_names.specs.Names.{IsNick, is_nick, is_nick_byte, is_special}
use Rattle.irc_names.specs.Tables.{Table}
use Rattle.irc_users.specs.declared.user.User.{User}
use Rattle.irc_channels.specs.declared.flags.Flags.{Flags}
use Rattle.irc_room.specs.effect.Effect.{Effect}
use Rattle.irc_room.specs.After.{after}
use Rattle.irc_room.specs.Effects.{is_member}
use Rattle.irc_room.specs.InTurn.{after_all, EachInTurn}
use Rattle.irc_room.specs.OtherInvitations.{AreAlike}
use Rattle.irc_room.specs.Room.{Room}
use Rattle.irc_room.specs.Lemmas.AlikeLaw.{alike_have_alike, alike_stay_alike}
use Rattle.irc_merge.specs.BurstRead.{is_new_member, new_members}
use Rattle.irc_merge.specs.Bursts.{home_passes}
use Rattle.irc_merge.specs.CanBeDone.{DoesSomething}
use Rattle.irc_merge.specs.Deeds.{member_comes}
use Rattle.irc_burst.specs.DeedsMeant.{at_mark, has_mark, is_comma, member_of, members_of}
use Rattle.irc_burst.specs.DeedsMeant.{plus_mark, without_mark}
use Rattle.irc_burst_lines.specs.DeedLines.{member_text, members_text, more_text}
use Rattle.irc_follow.specs.Lemmas.DeedEffects.{AllQuiet, members_quiet, users_stay}

-- ---- bytes of a nickname

abbrev NoComma : List ℕ → Type 0
NoComma bytes = AllByRecursion (λ byte. is_comma byte ≡ false) bytes

rest_no_comma : (bytes : List ℕ) → list_all is_nick_byte bytes ≡ true → NoComma bytes
rest_no_comma [] all = tt
rest_no_comma (byte ∷ bytes) all = (
  nat_eq-unlike is_nick_byte 0x2C byte refl (first_so (is_nick_byte byte) _ all),
  rest_no_comma bytes (second_so (is_nick_byte byte) _ all),
)

abbrev is_first : ℕ → Bool
is_first byte = is_ascii_alphabetic byte || is_special byte

-- what is known of a nickname: no comma is in it, and no mark in front of it
record IsBare (byte : ℕ) (rest : List ℕ) : Type 0 where
  no_comma : NoComma (byte ∷ rest)
  no_at : nat_eq byte at_mark ≡ false
  no_plus : nat_eq byte plus_mark ≡ false

bare : (byte : ℕ) (rest : List ℕ) → IsNick (byte ∷ rest) → IsBare byte rest
unfolding is_nick
bare byte rest is =
    let parts = first_so (is_first byte && list_all is_nick_byte rest) _ is in
    let starts = first_so (is_first byte) (list_all is_nick_byte rest) parts in
    record {
      no_comma = (
        nat_eq-unlike is_first 0x2C byte refl starts,
        rest_no_comma rest (second_so (is_first byte) (list_all is_nick_byte rest) parts),
      );
      no_at = nat_eq-unlike is_first at_mark byte refl starts;
      no_plus = nat_eq-unlike is_first plus_mark byte refl starts;
    }

some_byte : {A : Type 0} → IsNick [] → A
unfolding is_nick
some_byte is = cc is

-- ---- one member

abbrev flagged : List ℕ → Bool → Bool → List ℕ × Flags
flagged nick op voice = (nick, record { op = op; voice = voice })

word_read : (op voice : Bool) (nick : List ℕ) → IsNick nick
    → member_of (member_text (flagged nick op voice)) ≡ flagged nick op voice
word_read op voice [] is = some_byte is
word_read true true (byte ∷ rest) is = refl
word_read true false (byte ∷ rest) is =
    ap (λ b. flagged (if b then rest else byte ∷ rest) true b) (bare byte rest is).no_plus
word_read false true (byte ∷ rest) is = refl
word_read false false (byte ∷ rest) is =
    ap (λ b. flagged (without_mark plus_mark (if b then rest else byte ∷ rest)) b
    (has_mark plus_mark (if b then rest else byte ∷ rest))) (bare byte rest is).no_at
    ∙ ap (λ b. flagged (if b then rest else byte ∷ rest) false b) (bare byte rest is).no_plus

nick_no_comma : (nick : List ℕ) → IsNick nick → NoComma nick
nick_no_comma [] is = tt
nick_no_comma (byte ∷ rest) is = (bare byte rest is).no_comma

word_no_comma : (op voice : Bool) (nick : List ℕ) → NoComma nick
    → NoComma (member_text (flagged nick op voice))
word_no_comma true true nick none = (refl, (refl, none))
word_no_comma true false nick none = (refl, none)
word_no_comma false true nick none = (refl, none)
word_no_comma false false nick none = none

word_no_nul : (op voice : Bool) (nick : List ℕ) → has_nul nick ≡ false
    → has_nul (member_text (flagged nick op voice)) ≡ false
word_no_nul true true nick none = none
word_no_nul true false nick none = none
word_no_nul false true nick none = none
word_no_nul false false nick none = none

-- ---- all of them

split_end : (word : List ℕ) → NoComma word → slice_split is_comma word ≡ word ∷ []
split_end [] none = refl
split_end (byte ∷ word) none =
    slice_split-cons_no is_comma byte word none.0 ∙ ap (onto_first byte) (split_end word none.1)

split_front : (word more : List ℕ) → NoComma word
    → slice_split is_comma (word ++ 0x2C ∷ more) ≡ word ∷ slice_split is_comma more
split_front [] more none = slice_split-cons_yes is_comma 0x2C more refl
split_front (byte ∷ word) more none = slice_split-cons_no is_comma byte (word ++ 0x2C ∷ more) none.0
    ∙ ap (onto_first byte) (split_front word more none.1)

abbrev pub AreNicks : List (List ℕ × Flags) → Type 0
AreNicks members = AllByRecursion (λ (member : List ℕ × Flags). IsNick member.0) members

split_words : (member : List ℕ × Flags) (members : List (List ℕ × Flags)) → IsNick member.0
    → AreNicks members → slice_split is_comma (members_text (member ∷ members))
    ≡ member_text member ∷ map member_text members
split_words member [] is all =
    ap (slice_split is_comma) (append-nil (member_text member))
    ∙ split_end (member_text member)
    (word_no_comma member.1.op member.1.voice member.0 (nick_no_comma member.0 is))
split_words member (next ∷ members) is all =
    split_front (member_text member) (members_text (next ∷ members))
    (word_no_comma member.1.op member.1.voice member.0 (nick_no_comma member.0 is))
    ∙ ap (λ words. member_text member ∷ words) (split_words next members all.0 all.1)

read_words : (members : List (List ℕ × Flags)) → AreNicks members
    → map member_of (map member_text members) ≡ members
read_words [] all = refl
read_words (member ∷ members) all =
    λ i. word_read member.1.op member.1.voice member.0 all.0 i ∷ read_words members all.1 i

-- what is written of some members is read as them
pub members_back : (member : List ℕ × Flags) (members : List (List ℕ × Flags))
    → AreNicks (member ∷ members) → members_of (members_text (member ∷ members)) ≡ member ∷ members
members_back member members all = ap (map member_of) (split_words member members all.0 all.1)
    ∙ read_words (member ∷ members) all

abbrev HaveNoNul : List (List ℕ × Flags) → Type 0
HaveNoNul members = AllByRecursion (λ (member : List ℕ × Flags). has_nul member.0 ≡ false) members

more_no_nul : (members : List (List ℕ × Flags)) → HaveNoNul members
    → has_nul (more_text members) ≡ false
more_no_nul [] all = refl
more_no_nul (member ∷ members) all =
    list_any-append is_nul (0x2C ∷ member_text member) (more_text members)
    ∙ or_from (has_nul (member_text member)) (has_nul (more_text members))
    (word_no_nul member.1.op member.1.voice member.0 all.0) (more_no_nul members all.1)

pub members_no_nul : (members : List (List ℕ × Flags)) → HaveNoNul members
    → has_nul (members_text members) ≡ false
members_no_nul [] all = refl
members_no_nul (member ∷ members) all =
    list_any-append is_nul (member_text member) (more_text members)
    ∙ or_from (has_nul (member_text member)) (has_nul (more_text members))
    (word_no_nul member.1.op member.1.voice member.0 all.0) (more_no_nul members all.1)

pub all_nicks : (members : List (List ℕ × Flags)) → AreNicks members
    → list_all (λ (member : List ℕ × Flags). is_nick member.0) members ≡ true
all_nicks [] all = refl
all_nicks (member ∷ members) all = and_from (is_nick member.0) _ all.0 (all_nicks members all.1)

-- ---- who becomes a member

after_alike : (room other : Room) (effects : List Effect) → AreAlike room other
    → AreAlike (after_all room effects) (after_all other effects)
after_alike room other [] alike = alike
after_alike room other (effect ∷ effects) alike = after_alike (after room effect)
    (after other effect) effects (alike_stay_alike room other effect alike)

each_later : (Q : Room → Effect → Type 0) (room : Room) (a b : List Effect)
    → EachInTurn Q room (a ++ b) → EachInTurn Q (after_all room a) b
each_later Q room [] b each = each
each_later Q room (effect ∷ a) b each = each_later Q (after room effect) a b each.later

pub all_new : (far : List ℕ → Bool) (users : Table User) (channel : List ℕ)
    (members : List (List ℕ × Flags)) (room other : Room) → AreAlike room other → room.users ≡ users
    → EachInTurn DoesSomething other (flat_map (member_comes channel) members) → AllByRecursion
    (λ (member : List ℕ × Flags). home_passes far users (key member.0) ≡ true) members
    → new_members far room channel members ≡ members
all_new far users channel [] room other alike of_it each homes = refl
all_new far users channel (member ∷ members) room other alike of_it each homes =
    let comes = member_comes channel member in
    let new : is_new_member far room channel member ≡ true =
    and_from (home_passes far room.users (key member.0)) (not (is_member room member.0 channel))
    (ap (λ table. home_passes far table (key member.0)) of_it ∙ homes.0)
    (ap not ((alike_have_alike room other alike).member member.0 channel ∙ each.now.busy)) in
    ap (λ b. if b then member ∷ new_members far (after_all room comes) channel members
    else new_members far room channel members) new
    ∙ ap (λ l. member ∷ l)
    (all_new far users channel members (after_all room comes) (after_all other comes)
    (after_alike room other comes alike)
    (users_stay room comes (subst AllQuiet (append-nil comes) (members_quiet channel (member ∷ [])))
    ∙ of_it)
    (each_later DoesSomething other comes (flat_map (member_comes channel) members) each) homes.1)
