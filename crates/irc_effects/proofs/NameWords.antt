-- Names that keep their rules are words of lines.
use Rattle.std.proofs.Common.{◌≡◌, ◌≢◌, ℕ, Bool, true, false, not, ◌||◌, ◌&&◌, List, [], ◌∷◌}
use Rattle.std.proofs.Common.{nat_eq, refl, ap, eqb}
use Rattle.std.specs.List.{list_all}
use Rattle.std.specs.Cmp.{first_so, second_so}
use Rattle.std.specs.Char.{is_ascii_alphabetic}
use Rattle.std.proofs.lemmas.Bool.{or_from, and_from}
use Rattle.std.proofs.Math.Bool.{false≢true}
use Rattle.irc_names.specs.Lemmas.PlainFacts.{nat_eq-unlike}
use Rattle.irc_line.specs.Bytes.{is_nul, is_line_end, is_space}
use Rattle.irc_line.specs.Carried.{is_carried_byte, is_carried, IsCarried}
use Rattle.irc_line.specs.Lemmas.CarriedBytes.{carried_byte, carried_no_nul}
use Rattle.irc_names.specs.Names.{IsNick, IsChannel, IsHost, IsServer, IsBanMask, is_special}
use Rattle.irc_names.specs.Names.{is_nick, is_nick_byte, is_channel, is_channel_byte, is_host}
use Rattle.irc_names.specs.Names.{is_host_byte, is_server, is_server_byte, is_key, is_key_byte}
use Rattle.irc_names.specs.Names.{is_ban_mask, is_ban_mask_byte, starts_without_colon, IsKey}
use Rattle.irc_names.specs.UserTexts.{IsUserName, is_user_byte}
use Rattle.irc_effects.specs.Laws.{IsLineWord, NamesAreLineWords}

-- a rule that refuses NUL, CR, LF and the space
record Refuses (allows : ℕ → Bool) : Type 0 where
  nul : allows 0 ≡ false
  return : allows 13 ≡ false
  feed : allows 10 ≡ false
  space : allows 32 ≡ false

byte_carried : (allows : ℕ → Bool) (byte : ℕ) → Refuses allows → allows byte ≡ true
    → is_carried_byte byte ≡ true
byte_carried allows byte refuses is =
    carried_byte (is_nul byte) (is_line_end byte) (nat_eq-unlike allows 0 byte refuses.nul is)
    (or_from (eqb byte 13) (eqb byte 10) (nat_eq-unlike allows 13 byte refuses.return is)
    (nat_eq-unlike allows 10 byte refuses.feed is))

all_carried : (allows : ℕ → Bool) (bytes : List ℕ) → Refuses allows → list_all allows bytes ≡ true
    → is_carried bytes ≡ true
all_carried allows [] refuses all = refl
all_carried allows (byte ∷ bytes) refuses all =
    and_from (is_carried_byte byte) (is_carried bytes)
    (byte_carried allows byte refuses (first_so (allows byte) (list_all allows bytes) all))
    (all_carried allows bytes refuses (second_so (allows byte) (list_all allows bytes) all))

no_space : (allows : ℕ → Bool) (byte : ℕ) → allows 32 ≡ false → allows byte ≡ true
    → not (is_space byte) ≡ true
no_space allows byte out is = ap not (nat_eq-unlike allows 32 byte out is)

no_spaces : (allows : ℕ → Bool) (bytes : List ℕ) → allows 32 ≡ false → list_all allows bytes ≡ true
    → list_all (λ b. not (is_space b)) bytes ≡ true
no_spaces allows [] out all = refl
no_spaces allows (byte ∷ bytes) out all =
    and_from (not (is_space byte)) (list_all (λ b. not (is_space b)) bytes)
    (no_space allows byte out (first_so (allows byte) (list_all allows bytes) all))
    (no_spaces allows bytes out (second_so (allows byte) (list_all allows bytes) all))

some_byte : (byte : ℕ) (bytes : List ℕ) → (byte ∷ bytes) ≢ []
some_byte byte bytes none = cc none

-- a word of which the first byte keeps one rule, and the others keep another
word_by : (first allows : ℕ → Bool) → Refuses first → Refuses allows → first 58 ≡ false → (byte : ℕ)
    (bytes : List ℕ) → first byte ≡ true → list_all allows bytes ≡ true → IsLineWord (byte ∷ bytes)
word_by first allows first_refuses refuses no_colon byte bytes is all =
    let carried : is_carried (byte ∷ bytes) ≡ true =
    and_from (is_carried_byte byte) (is_carried bytes) (byte_carried first byte first_refuses is)
    (all_carried allows bytes refuses all) in
    record {
      plain = record {
        is_some = some_byte byte bytes;
        no_space = and_from (not (is_space byte)) (list_all (λ b. not (is_space b)) bytes)
            (no_space first byte first_refuses.space is)
            (no_spaces allows bytes refuses.space all);
        no_colon = nat_eq-unlike first 58 byte no_colon is;
        no_nul = carried_no_nul (byte ∷ bytes) carried;
      };
      carried = carried;
    }

-- a word whose bytes all keep a rule that refuses the colon too
word_of_rule : (allows : ℕ → Bool) → Refuses allows → allows 58 ≡ false → (byte : ℕ)
    (bytes : List ℕ) → list_all allows (byte ∷ bytes) ≡ true → IsLineWord (byte ∷ bytes)
word_of_rule allows refuses no_colon byte bytes all =
    word_by allows allows refuses refuses no_colon byte bytes (first_so (allows byte)
    (list_all allows bytes) all) (second_so (allows byte) (list_all allows bytes) all)

-- a word whose bytes all keep a rule, and that begins without a colon
word_without_colon : (allows : ℕ → Bool) → Refuses allows → (byte : ℕ) (bytes : List ℕ)
    → not (nat_eq byte 58) ≡ true → list_all allows (byte ∷ bytes) ≡ true
    → IsLineWord (byte ∷ bytes)
word_without_colon allows refuses byte bytes no_colon all =
    word_by (λ b. not (nat_eq b 58) && allows b) allows
    (record {
      nul = refuses.nul;
      return = refuses.return;
      feed = refuses.feed;
      space = refuses.space;
    }) refuses refl byte bytes
    (and_from (not (nat_eq byte 58)) (allows byte) no_colon
    (first_so (allows byte) (list_all allows bytes) all))
    (second_so (allows byte) (list_all allows bytes) all)

nick_word : (word : List ℕ) → IsNick word → IsLineWord word
unfolding is_nick
nick_word [] is = absurd (false≢true is)
nick_word (byte ∷ bytes) is =
    let parts = first_so ((is_ascii_alphabetic byte || is_special byte)
    && list_all is_nick_byte bytes) _ is in
    word_by (λ b. is_ascii_alphabetic b || is_special b) is_nick_byte
    (record { nul = refl; return = refl; feed = refl; space = refl })
    (record { nul = refl; return = refl; feed = refl; space = refl }) refl byte bytes
    (first_so (is_ascii_alphabetic byte || is_special byte) (list_all is_nick_byte bytes) parts)
    (second_so (is_ascii_alphabetic byte || is_special byte) (list_all is_nick_byte bytes) parts)

channel_word : (word : List ℕ) → IsChannel word → IsLineWord word
unfolding is_channel
channel_word [] is = absurd (false≢true is)
channel_word (byte ∷ bytes) is =
    let parts = first_so (nat_eq byte 0x23 && list_all is_channel_byte bytes) _ is in
    word_by (λ b. nat_eq b 0x23) is_channel_byte
    (record { nul = refl; return = refl; feed = refl; space = refl })
    (record { nul = refl; return = refl; feed = refl; space = refl }) refl byte bytes
    (first_so (nat_eq byte 0x23) (list_all is_channel_byte bytes) parts)
    (second_so (nat_eq byte 0x23) (list_all is_channel_byte bytes) parts)

host_word : (word : List ℕ) → IsHost word → IsLineWord word
unfolding is_host
host_word [] is = absurd (false≢true is)
host_word (byte ∷ bytes) is =
    let parts = first_so (starts_without_colon (byte ∷ bytes)
    && list_all is_host_byte (byte ∷ bytes)) _ is in
    word_without_colon is_host_byte
    (record { nul = refl; return = refl; feed = refl; space = refl }) byte bytes
    (first_so (not (nat_eq byte 58)) (list_all is_host_byte (byte ∷ bytes)) parts)
    (second_so (not (nat_eq byte 58)) (list_all is_host_byte (byte ∷ bytes)) parts)

server_word : (word : List ℕ) → IsServer word → IsLineWord word
unfolding is_server
server_word [] is = absurd (false≢true is)
server_word (byte ∷ bytes) is =
    word_of_rule is_server_byte
    (record { nul = refl; return = refl; feed = refl; space = refl }) refl byte bytes
    (second_so _ (list_all is_server_byte (byte ∷ bytes)) (first_so _ _ is))

key_word : (word : List ℕ) → IsKey word → IsLineWord word
unfolding is_key
key_word [] is = absurd (false≢true is)
key_word (byte ∷ bytes) is =
    let parts = first_so (starts_without_colon (byte ∷ bytes)
    && list_all is_key_byte (byte ∷ bytes)) _ is in
    word_without_colon is_key_byte
    (record { nul = refl; return = refl; feed = refl; space = refl }) byte bytes
    (first_so (not (nat_eq byte 58)) (list_all is_key_byte (byte ∷ bytes)) parts)
    (second_so (not (nat_eq byte 58)) (list_all is_key_byte (byte ∷ bytes)) parts)

ban_word : (word : List ℕ) → IsBanMask word → IsCarried word → IsLineWord word
unfolding is_ban_mask
ban_word [] is carried = absurd (false≢true is)
ban_word (byte ∷ bytes) is carried =
    let parts = first_so (starts_without_colon (byte ∷ bytes)
    && list_all is_ban_mask_byte (byte ∷ bytes)) _ is in
    let begins = first_so (not (nat_eq byte 58)) (list_all is_ban_mask_byte (byte ∷ bytes)) parts in
    record {
      plain = record {
        is_some = some_byte byte bytes;
        no_space = no_spaces is_ban_mask_byte (byte ∷ bytes) refl
            (second_so (not (nat_eq byte 58)) (list_all is_ban_mask_byte (byte ∷ bytes)) parts);
        no_colon = nat_eq-unlike (λ b. not (nat_eq b 58)) 58 byte refl begins;
        no_nul = carried_no_nul (byte ∷ bytes) carried;
      };
      carried = carried;
    }

user_word : (word : List ℕ) → IsUserName word → word ≢ [] → IsLineWord word
user_word [] is some = absurd (some refl)
user_word (byte ∷ bytes) is some =
    word_of_rule is_user_byte
    (record { nul = refl; return = refl; feed = refl; space = refl }) refl byte bytes is.clean

pub names_are_line_words : NamesAreLineWords
names_are_line_words = record {
  nick = nick_word;
  channel = channel_word;
  host = host_word;
  server = server_word;
  key = key_word;
  ban = ban_word;
  user = user_word;
}
