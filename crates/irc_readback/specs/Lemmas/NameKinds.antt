-- How the words of a line are told apart by their bytes: a nickname, the name of a channel, with
-- its mark or without, and the name of a server.
use Rattle.std.proofs.Common.{◌≡◌, ◌-◌, ℕ, zero, suc, Bool, true, false, ◌&&◌, ◌||◌, if◌then◌else◌}
use Rattle.std.proofs.Common.{List, [], ◌∷◌, ◌++◌, length, take, drop, nat_eq, bytes_eq, refl, sym}
use Rattle.std.proofs.Common.{◌∙◌, ap, arith, eqb-true, length-append}
use Rattle.std.specs.Cmp.{first_so, second_so}
use Rattle.std.specs.Char.{is_ascii_alphabetic}
use Rattle.std.specs.List.{list_any, list_all}
use Rattle.std.proofs.lemmas.Slice.Eq.{bytes_eq-Decides}
use Rattle.std.proofs.lemmas.Bool.{or_parts}
use Rattle.std.proofs.Math.Seq.{take-append_seam, drop-append_seam}
use Rattle.irc_names.specs.Lemmas.RuleFacts.{lacks}
use Rattle.irc_names.specs.Limits.{max_server}
use Rattle.irc_names.specs.Names.{IsNick, IsChannel, fits, is_special, is_nick, is_nick_byte}
use Rattle.irc_names.specs.Names.{is_channel, is_channel_byte, is_server, is_server_byte}
use Rattle.irc_link_words.specs.Words.{op_mark, marked, is_marked, unmarked, is_for_channel}

-- ---- bytes that a name has not

-- a byte that a rule takes is none that it refuses
other_byte : (rule : ℕ → Bool) (refused byte : ℕ) → rule refused ≡ false → rule byte ≡ true
    → nat_eq refused byte ≡ false
other_byte rule refused byte out is = by (nat_eq refused byte) refl
  where
    by : (b : Bool) → nat_eq refused byte ≡ b → b ≡ false
    by true same = sym is ∙ ap rule (sym (eqb-true refused byte same)) ∙ out
    by false other = refl

-- ---- nicknames

pub nick-no_server : (word : List ℕ) → IsNick word → is_server word ≡ false
unfolding is_nick is_server
nick-no_server [] is = refl
nick-no_server (byte ∷ bytes) is =
    let starts : Bool = is_ascii_alphabetic byte || is_special byte in
    let parts = first_so (starts && list_all is_nick_byte bytes) _ is in
    let no_dot = ap (λ b. b || list_any (nat_eq 0x2E) bytes)
    (other_byte (λ b. is_ascii_alphabetic b || is_special b) 0x2E byte refl
    (first_so starts (list_all is_nick_byte bytes) parts))
    ∙ lacks is_nick_byte 0x2E refl bytes (second_so starts (list_all is_nick_byte bytes) parts) in
    ap (λ b. b && list_all is_server_byte (byte ∷ bytes) && fits max_server (byte ∷ bytes)) no_dot

pub nick-for_user : (word : List ℕ) → IsNick word → is_for_channel word ≡ false
unfolding is_nick
nick-for_user [] is = refl
nick-for_user (byte ∷ bytes) is =
    let starts : Bool = is_ascii_alphabetic byte || is_special byte in
    let parts = first_so (starts && list_all is_nick_byte bytes) _ is in
    turned byte 0x23 (other_byte (λ b. is_ascii_alphabetic b || is_special b) 0x23 byte refl
    (first_so starts (list_all is_nick_byte bytes) parts))
  where
    turned : (a b : ℕ) → nat_eq b a ≡ false → nat_eq a b ≡ false
    turned a b apart = by (nat_eq a b) refl
      where
        by : (test : Bool) → nat_eq a b ≡ test → test ≡ false
        by true same = sym same ∙ ap (λ c. nat_eq c b) (eqb-true a b same)
            ∙ ap (λ c. nat_eq b c) (sym (eqb-true a b same)) ∙ apart
        by false other = refl

-- ---- channels

pub channel-for_channel : (word : List ℕ) → IsChannel word → is_for_channel word ≡ true
unfolding is_channel
channel-for_channel [] is = is
channel-for_channel (byte ∷ bytes) is =
    first_so (nat_eq byte 0x23) (list_all is_channel_byte bytes)
    (first_so (nat_eq byte 0x23 && list_all is_channel_byte bytes) _ is)

channel_no_bell : (word : List ℕ) → IsChannel word → list_any (nat_eq 7) word ≡ false
unfolding is_channel
channel_no_bell [] is = refl
channel_no_bell (byte ∷ bytes) is =
    let parts = first_so (nat_eq byte 0x23 && list_all is_channel_byte bytes) _ is in
    ap (λ b. b || list_any (nat_eq 7) bytes) (other_byte (λ b. nat_eq b 0x23) 7 byte refl
    (first_so (nat_eq byte 0x23) (list_all is_channel_byte bytes) parts))
    ∙ lacks is_channel_byte 7 refl bytes
    (second_so (nat_eq byte 0x23) (list_all is_channel_byte bytes) parts)

none_behind : (p : ℕ → Bool) (n : ℕ) (bytes : List ℕ) → list_any p bytes ≡ false
    → list_any p (drop n bytes) ≡ false
none_behind p zero bytes none = none
none_behind p (suc n) [] none = refl
none_behind p (suc n) (byte ∷ bytes) none =
    none_behind p n bytes (or_parts (p byte) (list_any p bytes) none).1

channel-unmarked : (word : List ℕ) → IsChannel word → is_marked word ≡ false
channel-unmarked word is = by (is_marked word) refl
  where
    by : (b : Bool) → is_marked word ≡ b → b ≡ false
    by true same =
        let end = drop (length word - 2) word in
        sym (ap (list_any (nat_eq 7)) ((bytes_eq-Decides end op_mark).0 same))
        ∙ none_behind (nat_eq 7) (length word - 2) word (channel_no_bell word is)
    by false other = refl

-- ---- the mark of an operator behind a channel

front_length : (front back : List ℕ) → length (front ++ back) - length back ≡ length front
front_length front back = let both = length-append front back in omega (arith, both)

mark_found : (channel : List ℕ) → is_marked (channel ++ op_mark) ≡ true
mark_found channel =
    ap (λ n. bytes_eq (drop n (channel ++ op_mark)) op_mark) (front_length channel op_mark)
    ∙ ap (λ end. bytes_eq end op_mark) (drop-append_seam channel op_mark)

pub marked-told : (channel : List ℕ) (op : Bool) → IsChannel channel
    → is_marked (marked channel op) ≡ op
marked-told channel true is = mark_found channel
marked-told channel false is = channel-unmarked channel is

pub marked-name : (channel : List ℕ) (op : Bool) → IsChannel channel
    → unmarked (marked channel op) ≡ channel
marked-name channel true is =
    let word = channel ++ op_mark in
    ap (λ b. if b then take (length word - 2) word else word) (mark_found channel)
    ∙ ap (λ n. take n word) (front_length channel op_mark)
    ∙ take-append_seam channel op_mark
marked-name channel false is =
    ap (λ b. if b then take (length channel - 2) channel else channel) (channel-unmarked channel is)
