-- What a line can carry of the words that clients give, and of names.
use Rattle.std.proofs.Common.{◌≡◌, ℕ, zero, suc, Bool, true, false, not, ◌||◌, ◌&&◌, List, []}
use Rattle.std.proofs.Common.{◌∷◌, take, nat_eq, refl, ◌∙◌, ap}
use Rattle.std.specs.List.{list_all, AllByRecursion}
use Rattle.std.specs.Char.{is_ascii_alphabetic, is_ascii_digit}
use Rattle.std.specs.Cmp.{first_so, second_so}
use Rattle.irc_names.specs.Lemmas.PlainFacts.{length-take_bound, nat_eq-unlike}
use Rattle.irc_line.specs.Bytes.{is_line_end}
use Rattle.irc_line.specs.Carried.{is_carried_byte, is_carried, IsCarried}
use Rattle.irc_names.specs.Limits.{max_words}
use Rattle.irc_names.specs.Names.{is_special, is_nick_byte, is_nick, is_key_byte, is_key}
use Rattle.irc_names.specs.Names.{starts_without_colon, fits}
use Rattle.irc_names.specs.Limits.{max_nick, max_key}
use Rattle.irc_channels.specs.Texts.{cut_words}
use Rattle.irc_room.specs.Limits.{IsCarriedText}
use Rattle.irc_acts.specs.Words.{reason_given}

-- ---- bytes of names

module _ (allows : ℕ → Bool) (no_nul : allows 0 ≡ false) (no_return : allows 13 ≡ false)
    (no_feed : allows 10 ≡ false) where
  one_carried : (b : ℕ) → allows b ≡ true → is_carried_byte b ≡ true
  one_carried b so =
      ap (λ t. not (t || is_line_end b)) (nat_eq-unlike allows 0 b no_nul so)
      ∙ ap (λ t. not (t || nat_eq b 10)) (nat_eq-unlike allows 13 b no_return so)
      ∙ ap not (nat_eq-unlike allows 10 b no_feed so)

  pub all_carried : (bytes : List ℕ) → list_all allows bytes ≡ true → IsCarried bytes
  all_carried [] all = refl
  all_carried (b ∷ bytes) all =
      ap (λ t. t && is_carried bytes)
      (one_carried b (first_so (allows b) (list_all allows bytes) all))
      ∙ all_carried bytes (second_so (allows b) (list_all allows bytes) all)

pub nick_carried : (bytes : List ℕ) → is_nick bytes ≡ true → IsCarried bytes
unfolding is_nick
nick_carried [] is = refl
nick_carried (first ∷ rest) is =
    let start = λ (b : ℕ). is_ascii_alphabetic b || is_special b in
    let front =
    first_so (start first && list_all is_nick_byte rest) (fits max_nick (first ∷ rest)) is in
    ap (λ t. t && is_carried rest)
    (one_carried start refl refl refl first
    (first_so (start first) (list_all is_nick_byte rest) front))
    ∙ all_carried is_nick_byte refl refl refl rest
    (second_so (start first) (list_all is_nick_byte rest) front)

pub key_carried : (bytes : List ℕ) → is_key bytes ≡ true → IsCarried bytes
unfolding is_key
key_carried bytes is =
    all_carried is_key_byte refl refl refl bytes
    (second_so (starts_without_colon bytes) (list_all is_key_byte bytes)
    (first_so (starts_without_colon bytes && list_all is_key_byte bytes) (fits max_key bytes)
    is))

pub digits_carried : (bytes : List ℕ) → list_all is_ascii_digit bytes ≡ true → IsCarried bytes
digits_carried = all_carried is_ascii_digit refl refl refl

-- ---- texts

pub front_carried : (n : ℕ) (bytes : List ℕ) → IsCarried bytes → IsCarried (take n bytes)
front_carried zero bytes all = refl
front_carried (suc n) [] all = refl
front_carried (suc n) (b ∷ bytes) all =
    ap (λ t. t && is_carried (take n bytes)) (first_so (is_carried_byte b) (is_carried bytes) all)
    ∙ front_carried n bytes (second_so (is_carried_byte b) (is_carried bytes) all)

pub cut_carried : (text : List ℕ) → IsCarried text → IsCarriedText (cut_words text)
unfolding cut_words
cut_carried text carried =
    record {
      fits = length-take_bound max_words text;
      carried = front_carried max_words text carried;
    }

pub reason_carried : (more : List (List ℕ)) (other : List ℕ) → AllByRecursion IsCarried more
    → IsCarried other → IsCarriedText (reason_given more other)
reason_carried [] other all carried = cut_carried other carried
reason_carried ([] ∷ more) other all carried = cut_carried other carried
reason_carried ((b ∷ bytes) ∷ more) other all carried = cut_carried (b ∷ bytes) all.0
